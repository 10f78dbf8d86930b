-- Demand 3, in document 01's words: what an accepted change leaves, whichever number of its sectors is written.
use Rattle.std.specs.Prelude.{ℕ, ◌≤◌, ◌<◌, Bool, true, false, List, ◌≡◌, length}
use Rattle.std.proofs.Math.Option.{none, some}
use Rattle.maps.specs.Bits.{has}
use Rattle.slots.specs.Slot.{map_of}
use Rattle.chains.specs.File.{File, sector_at}
use Rattle.directory.specs.Places.{slot_bytes}
use Rattle.directory.specs.Directory.{label_of}
use Rattle.disk.specs.View.{view}
use Rattle.disk.specs.Check.{check_disk}
use Rattle.files.specs.Calls.{listing, reading, start_address}
use Rattle.steps.specs.Sectors.{sector, is_listed, Once, cut}

-- finds: the live files that the change finds by name; old: the image as handed in; new: as the change leaves it; ss: the sectors named
pub record Safe (finds : File → Bool) (old new ss : List ℕ) : Type 0 where
  -- "No number occurs twice; sectors not named are unchanged."
  pub once : Once ss
  -- "The sector number is .. 0 to 1,599."
  pub small : (s : ℕ) → is_listed s ss ≡ true → s < 1600
  pub unnamed : (s : ℕ) → is_listed s ss ≡ false → sector new s ≡ sector old s
  pub long : length new ≡ length old
  -- whichever number of them is written, the disk left is accepted
  pub accepts : (k : ℕ) → k ≤ length ss → check_disk (cut old new ss k) ≡ none
  -- "For k below the number named, the listing, reading and start address calls give on the cut disk what they give on the old one,
  -- for every name and equal output buffers"
  pub listings : (k : ℕ) → k < length ss → (buf : List ℕ) → listing (cut old new ss k) buf ≡ listing old buf
  pub readings : (k : ℕ) → k < length ss → (n buf : List ℕ) → reading (cut old new ss k) n buf ≡ reading old n buf
  pub starts : (k : ℕ) → k < length ss → (n : List ℕ) → start_address (cut old new ss k) n ≡ start_address old n
  -- "Byte 255 of slot 1 .. is the number n beyond four" and "bytes 210 to 219, 252, 253": no change alters them, cut or not
  pub label : (k : ℕ) → k ≤ length ss → label_of (cut old new ss k) ≡ label_of old
  -- "For k equal to that number the cut disk is the new one."
  pub whole : cut old new ss (length ss) ≡ new
  -- "For every k, the 256 slot bytes of each [other file] and the 512 bytes of every sector in its map are the same on the cut
  -- disk as on the old one."
  pub slots_kept : (k : ℕ) → k ≤ length ss → (i : ℕ) (f : File) → (view old).files i ≡ some f → finds f ≡ false
      → slot_bytes (cut old new ss k) i ≡ slot_bytes old i
  pub sectors_kept : (k : ℕ) → k ≤ length ss → (i : ℕ) (f : File) → (view old).files i ≡ some f → finds f ≡ false
      → (b : ℕ) → has (map_of (slot_bytes old i)) b ≡ true → sector_at (cut old new ss k) b ≡ sector_at old b
