-- When a change is refused: "A number is given when its row holds and nothing before it in the order does, and only then."
use Rattle.std.specs.Prelude.{ℕ, ◌+◌, Bool, true, false, cond, not, ◌&&◌, List, [], ◌∷◌, ◌⊎◌, ◌≡◌, ltb, length}
use Rattle.std.proofs.Math.Option.{none}
use Rattle.buffers.specs.Bytes.{any}
use Rattle.refusals.specs.Order.{Refusal, SlotRow, row_at, NoRow}
use Rattle.slots.specs.Slot.{protected, carried, is_directory, count_of, sectors_for}
use Rattle.names.specs.Name.{askable}
use Rattle.chains.specs.File.{File}
use Rattle.directory.specs.Places.{slot_count}
use Rattle.directory.specs.Directory.{fold_option}
use Rattle.directory.specs.Find.{find}
use Rattle.surveys.specs.Survey.{free}
use Rattle.disk.specs.View.{View, view, view_slots, view_tracks}
use Rattle.disk.specs.Check.{check_disk}
use Rattle.files.specs.Calls.{file_named}
use Rattle.files.specs.Refused.{some_named, slot_named, start_outside, row12, row15, row20, row_found, RefusesBy}
use Rattle.trees.specs.Tree.{occupied}
use Rattle.plans.specs.Change.{SaveRequest, Change, save, erase, rename, mark, gather, usable}
use Rattle.plans.specs.Saving.{taken_slot}
use Rattle.plans.specs.Gathering.{scattered, lowest_run}
use Rattle.plans.specs.Plan.{old_name, dir_sectors, respells, new_disk, run_change}

-- ---- the tests

-- a slot holds no file: it is erased, or it is the end of the directory or behind it
unfoldable pub some_free : View → Bool
some_free l = any (slot_count (view_tracks l)) (λ i. fold_option true (λ s. false) (view_slots l i))

-- ---- the rows of the table

-- the kind asked for is not carried
abbrev pub row13 : SaveRequest → SlotRow
row13 w = row_at 13 0 (not (carried w.kind))

-- start page above 31, or offset outside 32,768 to 49,151
abbrev pub row14 : SaveRequest → SlotRow
row14 w = row_at 14 0 (start_outside w.page w.offset)

-- a live slot has the new name
abbrev pub row16 : View → List ℕ → SlotRow
row16 l n = row_at 16 (slot_named l n) (some_named l n)

-- the same for a rename, but where it "alters only the case of its own name"
abbrev pub rename_row16 : View → List ℕ → List ℕ → SlotRow
rename_row16 l n new = row_at 16 (slot_named l new) (some_named l new && not (respells (slot_named l n) (slot_named l new) (file_named l n) new))

-- protected
abbrev pub row17 : View → List ℕ → SlotRow
row17 l n = row_at 17 (slot_named l n) (protected (file_named l n).bytes)

-- "a directory whose code, not 0, is another live slot's byte 254"
abbrev pub row29 : View → List ℕ → SlotRow
row29 l n = row_at 29 (slot_named l n) (fold_option false (λ i. occupied (view_slots l) i (file_named l n).bytes) (find (view_slots l) n))

-- "18 only if no slot before the end is erased and there is no end"
abbrev pub row18 : View → SlotRow
row18 l = row_at 18 0 (not (some_free l))

-- fewer free sectors than the save takes
abbrev pub row19 : View → SaveRequest → SlotRow
row19 l w = row_at 19 0 (ltb (free (view_tracks l) (view_slots l)) (sectors_for (length w.body)))

-- how many numbers a save names
unfoldable pub save_list_length : (ℕ → Bool) → View → SaveRequest → ℕ
save_list_length old l w = sectors_for (length w.body) + length (dir_sectors (old (taken_slot (view_tracks l) (view_slots l))) (taken_slot (view_tracks l) (view_slots l)))

-- "A kind 21 is refused 13", at the slot found
abbrev pub gather_row13 : View → List ℕ → SlotRow
gather_row13 l n = row_found 13 l n is_directory

-- "32 (slot 0), exactly when the file must move and no such run exists, after 19"
abbrev pub row32 : View → File → SlotRow
row32 l f = row_at 32 0 (scattered f && fold_option true (λ b. false) (lowest_run (view_tracks l) (view_slots l) (count_of f.bytes)))

-- how many numbers a gather names
unfoldable pub gather_list_length : File → ℕ
gather_list_length f = cond (scattered f) (count_of f.bytes + 1) 0

-- "then the lowest that applies of 12 to 20", and "29 .., after 17": the rows of each change, with a list of so many numbers; old:
-- whether an old name stands behind slot i
unfoldable pub change_rows : (ℕ → Bool) → Change → View → ℕ → List SlotRow
change_rows old (save w) l room =
    row12 (usable w.name) ∷ row13 w ∷ row14 w ∷ row16 l w.name ∷ row18 l ∷ row19 l w ∷ row20 room (save_list_length old l w) ∷ []
change_rows old (erase n) l room = row12 (askable n) ∷ row15 l n ∷ row17 l n ∷ row29 l n ∷ row20 room 1 ∷ []
change_rows old (rename n new) l room = row12 (askable n && usable new) ∷ row15 l n ∷ rename_row16 l n new ∷ row17 l n ∷ row20 room 1 ∷ []
change_rows old (mark m n) l room = row12 (askable n) ∷ row15 l n ∷ row20 room 1 ∷ []
change_rows old (gather n) l room = row12 (askable n) ∷ gather_row13 l n ∷ row15 l n ∷ row32 l (file_named l n) ∷ row20 room (gather_list_length (file_named l n)) ∷ []

-- the numbers above 20 that stand before it: "29 .., after 17" and "32 .., after 19"
abbrev pub Before20 : ℕ → Type 0
Before20 k = (k ≡ 29) ⊎ (k ≡ 32)

-- the same in the order of their numbers
unfoldable pub rows_by_number : (ℕ → Bool) → Change → View → ℕ → List SlotRow
rows_by_number old (save w) l room = change_rows old (save w) l room
rows_by_number old (erase n) l room = row12 (askable n) ∷ row15 l n ∷ row17 l n ∷ row20 room 1 ∷ row29 l n ∷ []
rows_by_number old (rename n new) l room = change_rows old (rename n new) l room
rows_by_number old (mark m n) l room = change_rows old (mark m n) l room
rows_by_number old (gather n) l room = row12 (askable n) ∷ gather_row13 l n ∷ row15 l n ∷ row20 room (gather_list_length (file_named l n)) ∷ row32 l (file_named l n) ∷ []

-- ---- refused, and accepted

-- the check refuses the disk; or it does not, and of its rows this is the first that holds
abbrev pub RefusesChange : Change → List ℕ → ℕ → Refusal → Type 0
RefusesChange c d room r = RefusesBy d (change_rows (old_name d) c (view d) room) r

-- neither the check nor a row refuses
pub record ChangePasses (c : Change) (d : List ℕ) (room : ℕ) : Type 0 where
  pub disk : check_disk d ≡ none
  pub rows : NoRow (change_rows (old_name d) c (view d) room)

-- "one is accepted when it gives no number": there are a new disk and its sectors
pub record ChangeAccepted (c : Change) (d : List ℕ) (room : ℕ) : Type 0 where
  pub new : List ℕ
  pub sectors : List ℕ
  pub gives : run_change c d room ≡ new_disk new sectors
