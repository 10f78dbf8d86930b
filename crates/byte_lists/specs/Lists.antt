-- A change with a list of bytes, two to a number.
use Rattle.std.specs.Prelude.{ℕ, ◌+◌, ◌*◌, ◌/◌, ◌%◌, List, [], ◌∷◌, ◌≡◌, length}
use Rattle.std.specs.Prelude as Prelude
use Rattle.buffers.specs.Bytes.{put}
use Rattle.refusals.specs.Answers.{done, refused, outcome_of}
use Rattle.refusals.specs.declared.Refused.{Refused}
use Rattle.plans.specs.Change.{Change}
use Rattle.plans.specs.Plan.{Result, refused_result, new_disk, run_change, Changed, changed}

-- "In the C layer the buffer is bytes, two to a number, low byte first."
unfoldable pub in_bytes : List ℕ → List ℕ
in_bytes [] = []
in_bytes (s ∷ ss) = s % 256 ∷ s / 256 ∷ in_bytes ss

-- the numbers that bytes hold; an odd last byte holds none
unfoldable pub numbers_in : List ℕ → List ℕ
numbers_in [] = []
numbers_in (lo ∷ []) = []
numbers_in (lo ∷ hi ∷ b) = (lo + 256 * hi) ∷ numbers_in b

-- "Each change fills a lent buffer .. with its sector numbers and answers how many .. Its rest stays."
abbrev pub change_bytes_by : Result → List ℕ → List ℕ → Changed
change_bytes_by (refused_result r) d b = changed (refused r) d b
change_bytes_by (new_disk new ss) d b = changed (done (length ss) 0) new (put b 0 (in_bytes ss))

-- a change with a list of bytes, two to a number
unfoldable pub change_bytes : Change → List ℕ → List ℕ → Changed
change_bytes c d b = change_bytes_by (run_change c d (length b / 2)) d b

-- answer, image and list at return are those of the change
abbrev pub ReturnsByteChange : Change → List ℕ → List ℕ → Prelude.Result ℕ Refused → List ℕ → List ℕ → Type 0
ReturnsByteChange c d b r d' b' = changed (outcome_of r) d' b' ≡ change_bytes c d b
