-- Two disks that differ only where the directory is not read.
use Rattle.std.specs.Prelude.{ℕ, ◌+◌, ◌≤◌, ◌<◌, true, List, ◌⊎◌, ◌≡◌, length, get_or}
use Rattle.directory.specs.Places.{slot_at}
use Rattle.directory.specs.Directory.{label_of, slots_in, is_nameless_at}

-- place k lies in no slot of the disk from slot i on
abbrev pub Elsewhere : List ℕ → ℕ → ℕ → Type 0
Elsewhere d i k = (j : ℕ) → i ≤ j → j < slots_in d → (k < slot_at j) ⊎ (slot_at j + 256 ≤ k)

-- they differ only in slots from slot i on, whose first name byte is 0 in both, and not in the bytes of slot 1 that are the disk's
pub record AlikeTo (i : ℕ) (d e : List ℕ) : Type 0 where
  pub long : length d ≡ length e
  pub label : label_of d ≡ label_of e
  pub here : is_nameless_at d i ≡ true
  pub there : is_nameless_at e i ≡ true
  pub same : (k : ℕ) → Elsewhere d i k → get_or d k 0 ≡ get_or e k 0
