-- What the steps of a recording's close are entered with, and the sectors of data that it names.
use Rattle.std.specs.Prelude.{ℕ, ◌+◌, ◌-◌, ◌≤◌, ◌≡◌, Bool, false, cond, List, [], ◌∷◌, ltb, length, get_or}
use Rattle.geometry.specs.Disk.{bit_number}
use Rattle.surveys.specs.declared.UsedMap.{UsedMap}
use Rattle.files.specs.Calls.{found_slot}
use Rattle.files.specs.Steps.{CheckedDisk}
use Rattle.plans.specs.Change.{SaveRequest}
use Rattle.plans.specs.Plan.{dir_sectors}
use Rattle.plans.specs.Allowed.{sectors_taken}
use Rattle.allocation.specs.Taken.{slot_for_save, unavailable_map, lowest_clear_bits}
use Rattle.sector_writes.specs.Sector.{header_fields_of, FieldsFit}
use Rattle.saves.specs.Write.{Bits, Writable}
use Rattle.recordings.specs.declared.Record.{Record}
use Rattle.recordings.specs.Recording.{chain_of, disk_moved}
use Rattle.recordings.specs.Record.{recording_of}

-- the save that a record stands for
abbrev pub request_of : Record → SaveRequest
request_of k = (recording_of k).request

-- "close writes the last, then the first if it is another,": how many, of a chain of n sectors
unfoldable pub end_sectors : ℕ → ℕ
end_sectors n = cond (ltb 1 n) 2 1

-- their numbers, in the order of writing
unfoldable pub end_numbers : List ℕ → List ℕ
end_numbers bs =
    cond (ltb 1 (length bs)) (bit_number (get_or bs (length bs - 1) 0) ∷ bit_number (get_or bs 0 0) ∷ []) (bit_number (get_or bs 0 0) ∷ [])

-- a chain that holds the recording, whose numbers each fit their bytes
pub record RecordingChain (k : Record) (bs : List ℕ) : Type 0 where
  pub bits : Bits bs
  pub enough : length bs ≡ sectors_taken (request_of k)
  pub plain : FieldsFit (header_fields_of (request_of k)) (length (request_of k).body)

-- the recording with this chain can be closed into slot i; old: an old name stands behind it
pub record Closable (i : ℕ) (old : Bool) (k : Record) (bs : List ℕ) : Type 0 where
  pub file : Writable i old (header_fields_of (request_of k)) (request_of k).body bs
  pub enough : length bs ≡ sectors_taken (request_of k)

-- a close of a recording in n sectors that nothing refuses, into slot i of a disk, by the clear bits of m
pub record CloseReady (m : List ℕ) (n i : ℕ) (old : Bool) (k : Record) (list : List ℕ) : Type 0 where
  pub sectors : n ≡ sectors_taken (request_of k)
  pub file : Closable i old k (lowest_clear_bits m n)
  pub room : end_sectors n + length (dir_sectors old i) ≤ length list

-- an accepted disk that the recording still fits
pub record StillFits (d : List ℕ) (u : UsedMap) (k : Record) : Type 0 where
  pub disk : CheckedDisk d u
  pub still : disk_moved d (recording_of k) ≡ false
  -- its chain is what a save would take there
  pub chain : chain_of (recording_of k) ≡ lowest_clear_bits (unavailable_map u) (sectors_taken (request_of k))

-- and the slot that the close takes there
pub record CloseSlotOf (d : List ℕ) (u : UsedMap) (i : ℕ) (k : Record) : Type 0 where
  pub stays : StillFits d u k
  pub place : found_slot i ≡ slot_for_save d (header_fields_of (request_of k)) (request_of k).name
