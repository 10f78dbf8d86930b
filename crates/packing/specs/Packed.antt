-- An outcome as one number, for the app's C layer.
use Rattle.std.specs.Prelude.{ℕ, ◌+◌, ◌-◌, ◌*◌, ◌/◌, ◌%◌, ◌^◌, ◌≤◌, ◌<◌, ◌≡◌}
use Rattle.refusals.specs.Order.{Reply}
use Rattle.refusals.specs.Answers.{last_number, Outcome, done, refused, unless}

-- answer = refusal + 256 × slot + 2^24 × value + 2^48 × free; refusal 0: accepted, and then slot is 0; refused: value and free are 0
abbrev pub packed : Outcome → ℕ
packed (done value free) = 2 ^ 24 * value + 2 ^ 48 * free
packed (refused r) = r.number + 256 * r.slot

-- the same with as much of each part as has room
unfoldable pub clipped : Outcome → ℕ
clipped (done value free) = 2 ^ 24 * (value % 2 ^ 24) + 2 ^ 48 * (free % 2 ^ 16)
clipped (refused r) = r.number + 256 * (r.slot % 2 ^ 16)

-- an accepted answer with a place in a chain: its sector in the slot's part, its offset in that of the free sectors
abbrev pub packed_at : ℕ → ℕ → ℕ → ℕ
packed_at sector value offset = 256 * sector + 2 ^ 24 * value + 2 ^ 48 * offset

unfoldable pub clipped_at : ℕ → ℕ → ℕ → ℕ
clipped_at sector value offset = packed_at (sector % 2 ^ 16) (value % 2 ^ 24) (offset % 2 ^ 16)

-- a check as an outcome
abbrev pub check_outcome : Reply → Outcome
check_outcome q = unless q (done 0 0)

-- ---- the four parts of an answer

abbrev pub outcome_refusal : Outcome → ℕ
outcome_refusal (done value free) = 0
outcome_refusal (refused r) = r.number

abbrev pub outcome_slot : Outcome → ℕ
outcome_slot (done value free) = 0
outcome_slot (refused r) = r.slot

abbrev pub outcome_value : Outcome → ℕ
outcome_value (done value free) = value
outcome_value (refused r) = 0

abbrev pub outcome_free : Outcome → ℕ
outcome_free (done value free) = free
outcome_free (refused r) = 0

-- refusals of the table at slots of the directory, values up to v, free sectors up to f
pub record Within (o : Outcome) (v f : ℕ) : Type 0 where
  pub refusal : outcome_refusal o ≤ last_number
  pub slot : outcome_slot o ≤ 778
  pub value : outcome_value o ≤ v
  pub free : outcome_free o ≤ f

-- every part has room in the answer
abbrev pub FitsAnswer : Outcome → Type 0
FitsAnswer o = Within o (2 ^ 24 - 1) (2 ^ 16 - 1)

-- the same of a place and a value
pub record PlaceFitsAnswer (sector value offset : ℕ) : Type 0 where
  pub sector-small : sector < 2 ^ 16
  pub value-small : value < 2 ^ 24
  pub offset-small : offset < 2 ^ 16

-- an answer read in its parts
pub record Unpacked (o : Outcome) (answer : ℕ) : Type 0 where
  pub refusal : answer % 256 ≡ outcome_refusal o
  pub slot : answer / 256 % 2 ^ 16 ≡ outcome_slot o
  pub value : answer / 2 ^ 24 % 2 ^ 24 ≡ outcome_value o
  pub free : answer / 2 ^ 48 ≡ outcome_free o

pub record UnpackedAt (sector value offset answer : ℕ) : Type 0 where
  pub refusal : answer % 256 ≡ 0
  pub sector-is : answer / 256 % 2 ^ 16 ≡ sector
  pub value-is : answer / 2 ^ 24 % 2 ^ 24 ≡ value
  pub offset-is : answer / 2 ^ 48 ≡ offset
