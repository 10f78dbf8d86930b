-- When a listing, a read or a start address is refused: "A number is given when its row holds and nothing before it in the order does, and only then."
use Rattle.std.specs.Prelude.{ℕ, suc, ◌*◌, Bool, false, not, ◌&&◌, ◌||◌, List, [], ◌∷◌, ◌≡◌, ltb}
use Rattle.std.proofs.Math.Option.{none, some}
use Rattle.buffers.specs.Bytes.{any}
use Rattle.refusals.specs.Order.{Refusal, SlotRow, row_at, FirstSlotRow}
use Rattle.slots.specs.Slot.{kind_of, spectrum, readable, name_of, page_of, offset_of}
use Rattle.names.specs.Name.{same_name, askable, padded}
use Rattle.headers.specs.Header.{file_length}
use Rattle.directory.specs.Places.{slots}
use Rattle.directory.specs.Directory.{fold_option, live_among}
use Rattle.directory.specs.Find.{find}
use Rattle.disk.specs.View.{View, view_slots}
use Rattle.disk.specs.Check.{check_disk}
use Rattle.files.specs.Calls.{file_named}

-- ---- the tests

-- a live slot has the name
unfoldable pub some_named : View → List ℕ → Bool
some_named l n = any slots (λ i. fold_option false (λ s. same_name (name_of s) (padded n)) (view_slots l i))

-- its number, from 1; 0 where none has the name
unfoldable pub slot_named : View → List ℕ → ℕ
slot_named l n = fold_option 0 suc (find (view_slots l) n)

-- start page above 31, or offset outside 32,768 to 49,151
abbrev pub start_outside : ℕ → ℕ → Bool
start_outside page offset = ltb 31 page || (ltb offset 32768 || ltb 49151 offset)

-- ---- rows of the table

-- the name is not usable
abbrev pub row12 : Bool → SlotRow
row12 good = row_at 12 0 (not good)

-- no live slot has the name
abbrev pub row15 : View → List ℕ → SlotRow
row15 l n = row_at 15 0 (not (some_named l n))

-- a lent output buffer is too short: there is room for so many, and more are to be put
abbrev pub row20 : ℕ → ℕ → SlotRow
row20 room many = row_at 20 0 (ltb room many)

-- ---- rows at the slot found

-- "and the slot .. for 13 and 14 of a slot found": a row that holds where a live slot has the name and its bytes pass a test
abbrev pub row_found : ℕ → View → List ℕ → (List ℕ → Bool) → SlotRow
row_found number l n test = row_at number (slot_named l n) (some_named l n && test (file_named l n).bytes)

-- "the kind .. found (read, start address) is not carried", nor one of kinds 1 to 4
abbrev pub found_row13 : View → List ℕ → SlotRow
found_row13 l n = row_found 13 l n (λ s. not (readable (kind_of s)))

-- "start page above 31, or offset outside 32,768 to 49,151 (save, start address)", "both taken from the slot", where
-- "13 and 14 are not given for kinds 1 to 4"
abbrev pub found_row14 : View → List ℕ → SlotRow
found_row14 l n = row_found 14 l n (λ s. not (spectrum (kind_of s)) && start_outside (page_of s) (offset_of s))

-- ---- "then the lowest that applies of 12 to 20"

-- "a lent output buffer is too short": "258 bytes for each live slot"
unfoldable pub list_rows : View → ℕ → List SlotRow
list_rows l room = row20 room (258 * live_among (view_slots l) slots) ∷ []

-- "the name is not usable", the kind found, "no live slot has the name", and a buffer shorter than the body
unfoldable pub read_rows : View → List ℕ → ℕ → List SlotRow
read_rows l n room = row12 (askable n) ∷ found_row13 l n ∷ row15 l n ∷ row20 room (file_length (file_named l n)) ∷ []

-- "the name is not usable", the kind and the start found, "no live slot has the name"
unfoldable pub start_rows : View → List ℕ → List SlotRow
start_rows l n = row12 (askable n) ∷ found_row13 l n ∷ found_row14 l n ∷ row15 l n ∷ []

-- ---- refused

-- "Order: 1; then all slots for 2 to 9, ..; then all slots for 10, 11 likewise; then the lowest that applies of 12 to 20.":
-- the check refuses the disk; or it does not, and of these rows this is the first that holds
pub data RefusesBy (d : List ℕ) (rs : List SlotRow) (r : Refusal) : Type 0 where
  by_check : check_disk d ≡ some r → RefusesBy d rs r
  by_row : check_disk d ≡ none → FirstSlotRow r rs → RefusesBy d rs r
