-- The view of a disk: what the rules see of it. Two disks with one view get one answer from every call that reads.
use Rattle.std.specs.Prelude.{ℕ, List, length}
use Rattle.std.proofs.Math.Option.{Option, none, some}
use Rattle.chains.specs.File.{File, file_of}
use Rattle.slots.specs.Tracks.{tracks_by}
use Rattle.directory.specs.Directory.{fold_option, Directory, label_of, directory}

-- the image's length, the bytes of slot 1 that are the disk's, and for each slot no file, or a file: its slot's bytes and the
-- sectors of its own map
pub record View : Type 0 where
  pub long : ℕ
  pub label : ℕ → ℕ
  pub files : ℕ → Option File

unfoldable pub view : List ℕ → View
view d = record { long = length d; label = label_of d; files = λ i. fold_option none (λ s. some (file_of d s)) (directory d i) }

-- the directory of a view
unfoldable pub view_slots : View → Directory
view_slots l i = fold_option none (λ f. some f.bytes) (l.files i)

-- "Byte 255 of slot 1": the number of its directory tracks beyond four
unfoldable pub view_tracks : View → ℕ
view_tracks l = tracks_by (l.label 255)
