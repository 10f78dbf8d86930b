-- What the release check asks beyond the first, without the table's rows and their order.
use Rattle.std.specs.Prelude.{ℕ, ◌+◌, ◌*◌, ◌≤◌, ◌<◌, List, ◌≡◌}
use Rattle.std.proofs.Math.Option.{some}
use Rattle.slots.specs.Slot.{kind_of, count_of, slot_fields, length_of}
use Rattle.chains.specs.File.{File}
use Rattle.directory.specs.Places.{slots}
use Rattle.disk.specs.View.{View}
use Rattle.disk.specs.Accepted.{Carried}

-- "no waste sectors behind a file": where k sectors hold the nine bytes and the body of a carried file, it has no more than k
abbrev pub NoWasteFile : List ℕ → Type 0
NoWasteFile s = Carried (kind_of s) → (k : ℕ) → 9 + length_of (slot_fields s) ≤ 510 * k → count_of s ≤ k

-- of every live file
abbrev pub NoWaste : View → Type 0
NoWaste l = (i : ℕ) (f : File) → i < slots → l.files i ≡ some f → NoWasteFile f.bytes
