-- Erasing many files at once. The words of document 02 stand above what they define.
use Rattle.std.specs.Prelude.{ℕ, zero, suc, ◌+◌, ◌*◌, ◌/◌, ◌%◌, Bool, true, false, not, cond, ◌||◌, List, [], ◌∷◌, eqb, ltb, length}
use Rattle.buffers.specs.Bytes.{tab, part, put}
use Rattle.refusals.specs.Order.{Refusal, Reply, ◌else◌, row, SlotRow, row_at}
use Rattle.refusals.specs.Answers.{Outcome, done, refused}
use Rattle.directory.specs.Places.{dir_sector}
use Rattle.directory.specs.Directory.{fold_option}
use Rattle.disk.specs.View.{view}
use Rattle.disk.specs.Check.{check_disk}
use Rattle.files.specs.Refused.{row20, RefusesBy}
use Rattle.plans.specs.Change.{erase}
use Rattle.plans.specs.Plan.{Result, refused_result, new_disk, checked_result, run_change}

-- ---- the names

-- "Take names of ten bytes each, laid end to end": name k, from 0
unfoldable pub name_at : List ℕ → ℕ → List ℕ
name_at ns k = part (10 * k) 10 ns

abbrev pub how_many : List ℕ → ℕ
how_many ns = length ns / 10

-- ---- single erases, one after the other

-- one of them, its list with room for the one sector
abbrev pub single_erase : List ℕ → List ℕ → Result
single_erase d n = run_change (erase n) d 1

-- "one byte a name with 0 for done": the number that it is refused with, or 0
abbrev pub result_number : Result → ℕ
result_number (refused_result r) = r.number
result_number (new_disk new ss) = 0

-- the disk then: a refused one leaves it as it was
abbrev pub disk_or : List ℕ → Result → List ℕ
disk_or d (refused_result r) = d
disk_or d (new_disk new ss) = new

-- "and erase them in order.": the disk after the first k names
unfoldable pub disk_after_erases : List ℕ → List ℕ → ℕ → List ℕ
disk_after_erases d ns zero = d
disk_after_erases d ns (suc k) = disk_or (disk_after_erases d ns k) (single_erase (disk_after_erases d ns k) (name_at ns k))

-- "The answers .. are those of single erases": to name k, of the disk as the erases before it left it
unfoldable pub answer_at : List ℕ → List ℕ → ℕ → ℕ
answer_at d ns k = result_number (single_erase (disk_after_erases d ns k) (name_at ns k))

abbrev pub answers_to : List ℕ → List ℕ → List ℕ
answers_to d ns = tab (how_many ns) (answer_at d ns)

-- "and the disk"
abbrev pub erased_all : List ℕ → List ℕ → List ℕ
erased_all d ns = disk_after_erases d ns (how_many ns)

-- ---- the sectors

-- slot i holds a file on the one disk and none on the other
unfoldable pub is_erased : List ℕ → List ℕ → ℕ → Bool
is_erased old new i = fold_option false (λ f. fold_option true (λ g. false) ((view new).files i)) ((view old).files i)

-- slots 2j and 2j + 1 (from 0) lie in one sector, so that the 778 lie in 389
abbrev pub pairs : ℕ
pairs = 389

-- one of the two is among those meant
abbrev pub touches : (ℕ → Bool) → ℕ → Bool
touches e j = e (2 * j) || e (2 * j + 1)

-- of n sectors of the directory from the j-th on, those with such a slot
unfoldable pub sectors_from : ℕ → ℕ → (ℕ → Bool) → List ℕ
sectors_from zero j e = []
sectors_from (suc n) j e = cond (touches e j) (dir_sector (2 * j) ∷ sectors_from n (suc j) e) (sectors_from n (suc j) e)

-- "The sector list names each changed directory sector once, rising."
abbrev pub sectors_with : (ℕ → Bool) → List ℕ
sectors_with e = sectors_from pairs 0 e

abbrev pub sectors_of_all : List ℕ → List ℕ → List ℕ
sectors_of_all d ns = sectors_with (is_erased d (erased_all d ns))

-- ---- what is refused

-- "23, names not a whole number of tens"
abbrev pub not_tens : List ℕ → Bool
not_tens ns = not (eqb (length ns % 10) 0)

-- "Refusals: 23, names not a whole number of tens, before 12; the disk check's, 23 and 20 (answers or list too short) refuse the
-- whole call.": with room for so many answers, and so many numbers in the list
unfoldable pub many_reply : List ℕ → List ℕ → ℕ → ℕ → Reply
many_reply d ns answers room =
    check_disk d else row 23 0 (not_tens ns) else row 20 0 (ltb answers (how_many ns)) else row 20 0 (ltb room (length (sectors_of_all d ns)))

-- its rows after the disk check
unfoldable pub many_rows : List ℕ → List ℕ → ℕ → ℕ → List SlotRow
many_rows d ns answers room = row_at 23 0 (not_tens ns) ∷ row20 answers (how_many ns) ∷ row20 room (length (sectors_of_all d ns)) ∷ []

-- the check refuses the disk; or it does not, and of its rows this is the first that holds
abbrev pub RefusesMany : List ℕ → List ℕ → ℕ → ℕ → Refusal → Type 0
RefusesMany d ns answers room r = RefusesBy d (many_rows d ns answers room) r

-- ---- the call

-- a refusal, or the new disk and the sectors in the order of writing
unfoldable pub run_many : List ℕ → List ℕ → ℕ → ℕ → Result
run_many ns d answers room = checked_result (many_reply d ns answers room) (new_disk (erased_all d ns) (sectors_of_all d ns))

-- what a call gives: its outcome, and the image, the answers and the list at return
pub record Erased : Type 0 where
  pub outcome : Outcome
  pub image : List ℕ
  pub answers : List ℕ
  pub list : List ℕ

abbrev pub erased : Outcome → List ℕ → List ℕ → List ℕ → Erased
erased o d abuf buf = record { outcome = o; image = d; answers = abuf; list = buf }

-- nothing lent changes where it is refused; else the answers and the sector numbers are put to the front of their buffers, the
-- rest of which stays, and the value is how many sectors there are
abbrev pub erased_by_result : Result → List ℕ → List ℕ → List ℕ → List ℕ → Erased
erased_by_result (refused_result r) d ns abuf buf = erased (refused r) d abuf buf
erased_by_result (new_disk new ss) d ns abuf buf = erased (done (length ss) 0) new (put abuf 0 (answers_to d ns)) (put buf 0 ss)

unfoldable pub erase_many : List ℕ → List ℕ → List ℕ → List ℕ → Erased
erase_many d ns abuf buf = erased_by_result (run_many ns d (length abuf) (length buf)) d ns abuf buf
