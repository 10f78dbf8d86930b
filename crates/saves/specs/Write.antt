-- What the steps of a save are entered with.
use Rattle.std.specs.Prelude.{ℕ, suc, ◌+◌, ◌≤◌, ◌<◌, ◌≡◌, Bool, true, List, length, get_or}
use Rattle.slots.specs.Slot.{sectors_for}
use Rattle.directory.specs.Places.{slots}
use Rattle.surveys.specs.declared.UsedMap.{UsedMap}
use Rattle.files.specs.Calls.{found_slot}
use Rattle.files.specs.Steps.{CheckedDisk}
use Rattle.plans.specs.Change.{SaveRequest}
use Rattle.plans.specs.Plan.{dir_sectors}
use Rattle.allocation.specs.declared.HeaderFields.{HeaderFields}
use Rattle.allocation.specs.Taken.{slot_for_save, lowest_clear_bits}
use Rattle.sector_writes.specs.Sector.{FieldsFit}

-- what is asked for, of a call's arguments
abbrev pub save_request : ℕ → List ℕ → ℕ → ℕ → List ℕ → List ℕ → List ℕ → SaveRequest
save_request k n p o e i b = record { kind = k; name = n; page = p; offset = o; exec = e; info = i; body = b }

abbrev pub save_request_for : HeaderFields → List ℕ → List ℕ → List ℕ → List ℕ → SaveRequest
save_request_for s n e i b = save_request s.kind n s.page s.offset e i b

-- a list of map bits
pub record Bits (bs : List ℕ) : Type 0 where
  pub few : length bs ≤ 1560
  pub small : (k : ℕ) → k < length bs → get_or bs k 0 < 1560

-- ---- the whole

-- a file with this chain can be written into slot i; old: an old name stands behind it
pub record Writable (i : ℕ) (old : Bool) (s : HeaderFields) (body bs : List ℕ) : Type 0 where
  pub slot : i < slots
  pub next : old ≡ true → suc i < slots
  pub plain : FieldsFit s (length body)
  pub bits : Bits bs

-- a save of a body in n sectors that nothing refuses, into slot i of a disk, by the clear bits of m
pub record SaveReady (m : List ℕ) (n i : ℕ) (old : Bool) (s : HeaderFields) (body list : List ℕ) : Type 0 where
  pub sectors : n ≡ sectors_for (length body)
  pub file : Writable i old s body (lowest_clear_bits m n)
  pub enough : length (lowest_clear_bits m n) ≡ n
  pub room : n + length (dir_sectors old i) ≤ length list

-- an accepted disk, and the slot that a save takes there
pub record SaveSlot (d : List ℕ) (u : UsedMap) (i : ℕ) (s : HeaderFields) (name : List ℕ) : Type 0 where
  pub disk : CheckedDisk d u
  pub place : found_slot i ≡ slot_for_save d s name
