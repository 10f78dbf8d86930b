-- What the calls of the C layer answer: the outcome that is packed, and of a change the image and the list at return.
use Rattle.std.specs.Prelude.{ℕ, cond, List, ◌≡◌, eqb}
use Rattle.geometry.specs.Disk.{sector_place}
use Rattle.refusals.specs.Order.{refuse}
use Rattle.refusals.specs.Answers.{Outcome, done, refused}
use Rattle.packing.specs.Packed.{packed, check_outcome}
use Rattle.drives.specs.Raw.{raw_refusal}
use Rattle.disk.specs.Check.{check_disk, check_release}
use Rattle.plans.specs.Change.{Change}
use Rattle.byte_lists.specs.Lists.{change_bytes}
use Rattle.byte_lists.specs.EraseMany.{erase_many_bytes}
use Rattle.record_calls.specs.Calls.{add_piece_bytes, close_bytes}

-- the check as an outcome
abbrev pub check_call : List ℕ → Outcome
check_call d = check_outcome (check_disk d)

-- the release check likewise
abbrev pub check_release_call : List ℕ → Outcome
check_release_call d = check_outcome (check_release d)

-- the raw sector call as an outcome: its value is the sector's place in the chosen drive's image
unfoldable pub raw_sector_call : List ℕ → List ℕ → ℕ → ℕ → ℕ → Outcome
raw_sector_call one two d t s = cond (eqb (raw_refusal one two d t s) 0) (done (sector_place t s) 0) (refused (refuse (raw_refusal one two d t s) 0))

-- answer, image and list at return are those of the change
abbrev pub ReturnsCall : Change → List ℕ → List ℕ → ℕ → List ℕ → List ℕ → Type 0
ReturnsCall c d b r d' b' = (r ≡ packed (change_bytes c d b).outcome) × (d' ≡ (change_bytes c d b).image) × (b' ≡ (change_bytes c d b).list)

-- answer, image, answers and list at return are those of an erase-many
abbrev pub ReturnsMany : List ℕ → List ℕ → List ℕ → List ℕ → ℕ → List ℕ → List ℕ → List ℕ → Type 0
ReturnsMany d ns abuf b r d' a' b' =
    (r ≡ packed (erase_many_bytes d ns abuf b).outcome) × (d' ≡ (erase_many_bytes d ns abuf b).image) × (a' ≡ (erase_many_bytes d ns abuf b).answers) × (b' ≡ (erase_many_bytes d ns abuf b).list)

-- answer, image, record and list at return are those of a piece
abbrev pub ReturnsPiece : List ℕ → List ℕ → List ℕ → List ℕ → ℕ → List ℕ → List ℕ → List ℕ → Type 0
ReturnsPiece x d b l r d' b' l' =
    (r ≡ packed (add_piece_bytes x d b l).outcome) × (d' ≡ (add_piece_bytes x d b l).image) × (b' ≡ (add_piece_bytes x d b l).kept) × (l' ≡ (add_piece_bytes x d b l).list)

-- answer, image and list at return are those of a close
abbrev pub ReturnsClose : List ℕ → List ℕ → List ℕ → ℕ → List ℕ → List ℕ → Type 0
ReturnsClose d b l r d' l' = (r ≡ packed (close_bytes d b l).outcome) × (d' ≡ (close_bytes d b l).image) × (l' ≡ (close_bytes d b l).list)
