-- A listing, a read and a start address are refused exactly when the check refuses the disk or a row holds that has none before it;
-- the row that is given is the lowest that applies, and a refused call leaves its buffer as it was.
use Prim.Native.Nat.{ℕ, suc, ◌*◌, ◌<◌}
use mathlib.Core.Path.{◌≡◌, refl, sym, ap, ◌∙◌, subst}
use mathlib.Core.Bool.{Bool, true, false, not, ◌&&◌, ◌||◌, cond}
use mathlib.Core.List.{List, [], ◌∷◌}
use mathlib.Core.Logic.{◌⊎◌, inl, inr, ◌≢◌, ⊎_elim, ◌↔◌}
use mathlib.Core.Option.{Option, none, some}
use native.Mathlib.Omega.{arith}
use borrow.Author.Tests.{ltb-true, ltb-false, le-leb, lt-leb}
use lib.Dec.{leb, ltb}
use lib.ListN.{length}
use Rattle.buffers.proofs.Counts.{any_some, none_any}
use Rattle.refusals.specs.Order.{Refusal, refuse, Reply, ◌else◌, row, SlotRow, without_slots, rises, LowestRow}
use Rattle.refusals.specs.Answers.{Outcome, done, refused, unless, filled}
use Rattle.refusals.proofs.First.{else_some, first_row, row_else, row_first, first-row}
use Rattle.refusals.proofs.Lowest.{slot-lowest, slot_positive}
use Rattle.slots.specs.Slot.{kind_of, spectrum, readable, name_of, page_of, offset_of}
use Rattle.names.specs.Name.{same_name, askable, padded}
use Rattle.names.proofs.Names.{not_same}
use Rattle.chains.specs.File.{File}
use Rattle.headers.specs.Header.{file_length}
use Rattle.directory.specs.Places.{slots}
use Rattle.directory.specs.Directory.{fold_option, Directory, live_among}
use Rattle.directory.specs.Find.{find}
use Rattle.directory.proofs.Search.{find-some, find_none}
use Rattle.disk.specs.View.{View, view, view_slots}
use Rattle.disk.specs.Check.{check_view, check_disk}
use Rattle.disk.proofs.View.{view-slots}
use Rattle.disk.proofs.Examined.{accepted-size}
use Rattle.disk.proofs.Order.{check_positive}
use Rattle.files.specs.Calls.{no_file, file_at, file_named, entries, not_readable, start_out_of_range, list_view, read_reply, read_view, start_reply, start_view, listing, reading, start_address}
use Rattle.files.specs.Refused.{some_named, slot_named, start_outside, row12, row15, row20, found_row13, found_row14, list_rows, read_rows, start_rows, RefusesBy, by_check, by_row}
use Rattle.files.proofs.Listing.{entries-long}

-- ---- the tests

module _ (l : View) (n : List ℕ) where
  abbrev has-name : ℕ → Bool
  has-name i = fold_option false (λ s. same_name (name_of s) (padded n)) (view_slots l i)

  pub some_named_lem : (i : ℕ) → find (view_slots l) n ≡ some i → some_named l n ≡ true
  unfolding some_named
  some_named_lem i e =
      let w = find-some (view_slots l) n i e in
      any_some slots has-name i w.below
      (ap (fold_option false (λ s. same_name (name_of s) (padded n))) w.here ∙ w.name)

  pub none_named : find (view_slots l) n ≡ none → some_named l n ≡ false
  unfolding some_named
  none_named e = none_any slots has-name (λ k h. by k h (view_slots l k) refl)
    where
      by : (k : ℕ) → k < slots → (o : Option (List ℕ)) → view_slots l k ≡ o → fold_option false (λ s. same_name (name_of s) (padded n)) o ≡ false
      by k h none q = refl
      by k h (some s) q = not_same (name_of s) (padded n) (find_none (view_slots l) n e k h s q)

-- a start is in range exactly where it is not outside
pub outside_is : (page offset : ℕ) → not (leb page 31 && (leb 32768 offset && leb offset 49151)) ≡ start_outside page offset
outside_is page offset = rw (flip page 31, flip 32768 offset, flip offset 49151) (by (ltb 31 page) (ltb offset 32768) (ltb 49151 offset))
  where
    at : (a b : ℕ) (t : Bool) → ltb b a ≡ t → leb a b ≡ not t
    at a b true e = lt-leb a b (ltb-true b a e)
    at a b false e = le-leb a b (ltb-false b a e)

    flip : (a b : ℕ) → leb a b ≡ not (ltb b a)
    flip a b = at a b (ltb b a) refl

    by : (x y z : Bool) → not (not x && (not y && not z)) ≡ (x || (y || z))
    by true y z = refl
    by false true z = refl
    by false false true = refl
    by false false false = refl

-- ---- the check, and then rows

filled-outcome : (q : Reply) (o : Outcome) (x buf : List ℕ) → unless q o ≡ (filled q o x buf).outcome
filled-outcome none o x buf = refl
filled-outcome (some r) o x buf = refl

-- the check, and then the rows: refused exactly by these
module _ (d : List ℕ) (q : Reply) (rs : List SlotRow) (e : check_disk d ≡ none → q ≡ first_row rs) (r : Refusal) where
  reply_by : (check_disk d else q ≡ some r) ↔ RefusesBy d rs r
  reply_by = (
    λ w. ⊎_elim (λ a. by_check a) (λ a. by_row a.0 (row_first rs r (sym (e a.0) ∙ a.1))) (else_some (check_disk d) q r w),
    back,
  )
    where
      back : RefusesBy d rs r → check_disk d else q ≡ some r
      back (by_check a) = rw a
      back (by_row a f) = rw a (e a ∙ first-row rs r f)

  -- the same of an outcome
  unless_by : (v f : ℕ) → (unless (check_disk d else q) (done v f) ≡ refused r) ↔ RefusesBy d rs r
  unless_by v f = (λ w. reply_by.0 (by (check_disk d else q) w), λ w. ap (λ (a : Reply). unless a (done v f)) (reply_by.1 w))
    where
      by : (a : Reply) → unless a (done v f) ≡ refused r → a ≡ some r
      by none w = cc
      by (some s) w = let z : s ≡ r = cc in ap some z

  -- and of one with a buffer
  filled_by : (v f : ℕ) (x buf : List ℕ) → ((filled (check_disk d else q) (done v f) x buf).outcome ≡ refused r) ↔ RefusesBy d rs r
  filled_by v f x buf =
      subst (λ (o : Outcome). (o ≡ refused r) ↔ RefusesBy d rs r) (filled-outcome (check_disk d else q) (done v f) x buf) (unless_by v f)

-- ---- listing

-- an accepted disk's entries are 258 bytes each
entries_258 : (d : List ℕ) → check_disk d ≡ none → length (entries (view_slots (view d)) slots) ≡ 258 * live_among (view_slots (view d)) slots
entries_258 d e =
    subst (λ (v : Directory). length (entries v slots) ≡ 258 * live_among v slots) (sym (view-slots d))
    (entries-long d (omega (arith, accepted-size d e)) slots (omega arith))

-- demand 1, of a listing
pub listing_refused_by : (d buf : List ℕ) (r : Refusal) → ((listing d buf).outcome ≡ refused r) ↔ RefusesBy d (list_rows (view d) (length buf)) r
unfolding list_view check_disk list_rows
listing_refused_by d buf r =
    filled_by d (row 20 0 (ltb (length buf) (length (entries (view_slots (view d)) slots)))) (list_rows (view d) (length buf))
    (λ e. ap (λ (k : ℕ). row 20 0 (ltb (length buf) k)) (entries_258 d e)) r _ _ _ buf

-- ---- by name

-- a start page of five bits is not above 31
start_is : (s : List ℕ) → not (leb 32768 (offset_of s) && leb (offset_of s) 49151) ≡ start_outside (page_of s) (offset_of s)
start_is s =
    ap (λ (t : Bool). not (t && (leb 32768 (offset_of s) && leb (offset_of s) 49151))) (sym (le-leb (page_of s) 31 (omega arith)))
    ∙ outside_is (page_of s) (offset_of s)

module _ (l : View) (n : List ℕ) where
  slot-found : (i : ℕ) → find (view_slots l) n ≡ some i → slot_named l n ≡ suc i
  unfolding slot_named
  slot-found i e = ap (fold_option 0 suc) e

  file-found : (i : ℕ) → find (view_slots l) n ≡ some i → file_named l n ≡ file_at l i
  unfolding file_named
  file-found i e = ap (fold_option no_file (file_at l)) e

  -- what is refused of the slot found; 15 where none is
  abbrev named_reply_lem : (ℕ → File → Reply) → Option ℕ → Reply
  named_reply_lem rest o = fold_option (some (refuse 15 0)) (λ i. rest (suc i) (file_at l i)) o

  -- after 12, rows that give 15 where no live slot has the name, and at the slot found what is refused of it
  by_name : (rest : ℕ → File → Reply) (rs : List SlotRow) → (some_named l n ≡ false → some (refuse 15 0) ≡ first_row rs)
      → ((i : ℕ) → some_named l n ≡ true → slot_named l n ≡ suc i → file_named l n ≡ file_at l i → rest (suc i) (file_at l i) ≡ first_row rs)
      → row 12 0 (not (askable n)) else named_reply_lem rest (find (view_slots l) n) ≡ first_row (row12 (askable n) ∷ rs)
  by_name rest rs none_has one_Has =
      row_else 12 0 (not (askable n)) (named_reply_lem rest (find (view_slots l) n))
      ∙ ap (cond (not (askable n)) (some (refuse 12 0))) (by (find (view_slots l) n) refl)
    where
      by : (o : Option ℕ) → find (view_slots l) n ≡ o → named_reply_lem rest o ≡ first_row rs
      by none e = none_has (none_named l n e)
      by (some i) e = one_Has i (some_named_lem l n i e) (slot-found i e) (file-found i e)

  read-rows : (room : ℕ)
      → row 12 0 (not (askable n)) else named_reply_lem (λ slot f. not_readable slot f else row 20 0 (ltb room (file_length f))) (find (view_slots l) n)
      ≡ first_row (read_rows l n room)
  unfolding read_rows
  read-rows room =
      by_name (λ slot f. not_readable slot f else row 20 0 (ltb room (file_length f)))
      (found_row13 l n ∷ row15 l n ∷ row20 room (file_length (file_named l n)) ∷ []) (λ e. rw e)
      (λ i e p q. rw (e, p, q) (row_else 13 (suc i) (not (readable (kind_of (file_at l i).bytes))) _))

  start_rows_lem :
      row 12 0 (not (askable n)) else named_reply_lem (λ slot f. not_readable slot f else start_out_of_range slot f) (find (view_slots l) n) ≡ first_row (start_rows l n)
  unfolding start_rows
  start_rows_lem =
      by_name (λ slot f. not_readable slot f else start_out_of_range slot f) (found_row13 l n ∷ found_row14 l n ∷ row15 l n ∷ []) (λ e. rw e)
      (λ i e p q. rw (e, p, q)
      (row_else 13 (suc i) (not (readable (kind_of (file_at l i).bytes))) _
      ∙ ap (λ (t : Bool). cond {A = Reply} (not (readable (kind_of (file_at l i).bytes))) (some (refuse 13 (suc i))) (row 14 (suc i) (not (spectrum (kind_of (file_at l i).bytes)) && t)))
      (start_is (file_at l i).bytes)))

-- demand 1, of a read
pub reading-refused : (d n buf : List ℕ) (r : Refusal) → ((reading d n buf).outcome ≡ refused r) ↔ RefusesBy d (read_rows (view d) n (length buf)) r
unfolding read_view read_reply check_disk
reading-refused d n buf r = filled_by d _ (read_rows (view d) n (length buf)) (λ e. read-rows (view d) n (length buf)) r _ _ _ buf

-- demand 1, of a start address
pub starting-refused : (d n : List ℕ) (r : Refusal) → (start_address d n ≡ refused r) ↔ RefusesBy d (start_rows (view d) n) r
unfolding start_view start_reply check_disk
starting-refused d n r = unless_by d _ (start_rows (view d) n) (λ e. start_rows_lem (view d) n) r _ _

-- ---- the lowest, and none is 0

pub list-rises : (l : View) (room : ℕ) → rises (without_slots (list_rows l room)) ≡ true
unfolding list_rows
list-rises l room = refl

pub read-rises : (l : View) (n : List ℕ) (room : ℕ) → rises (without_slots (read_rows l n room)) ≡ true
unfolding read_rows
read-rises l n room = refl

pub start_rises : (l : View) (n : List ℕ) → rises (without_slots (start_rows l n)) ≡ true
unfolding start_rows
start_rises l n = refl

-- a row that is given is the lowest that applies of them
pub by_lowest : (d : List ℕ) (rs : List SlotRow) (r : Refusal) → rises (without_slots rs) ≡ true → RefusesBy d rs r → (check_disk d ≡ some r) ⊎ LowestRow r.number (without_slots rs)
by_lowest d rs r e (by_check a) = inl a
by_lowest d rs r e (by_row a f) = inr (slot-lowest rs r e f)

pub by_positive : (d : List ℕ) (rs : List SlotRow) (r : Refusal) → rises (without_slots rs) ≡ true → RefusesBy d rs r → r.number ≢ 0
by_positive d rs r e (by_check a) = check_positive d r a
by_positive d rs r e (by_row a f) = slot_positive rs r e f

pub listing_positive : (d buf : List ℕ) (r : Refusal) → (listing d buf).outcome ≡ refused r → r.number ≢ 0
listing_positive d buf r e = by_positive d (list_rows (view d) (length buf)) r (list-rises (view d) (length buf)) ((listing_refused_by d buf r).0 e)

pub reading_positive : (d n buf : List ℕ) (r : Refusal) → (reading d n buf).outcome ≡ refused r → r.number ≢ 0
reading_positive d n buf r e = by_positive d (read_rows (view d) n (length buf)) r (read-rises (view d) n (length buf)) ((reading-refused d n buf r).0 e)

pub starting_positive : (d n : List ℕ) (r : Refusal) → start_address d n ≡ refused r → r.number ≢ 0
starting_positive d n r e = by_positive d (start_rows (view d) n) r (start_rises (view d) n) ((starting-refused d n r).0 e)

-- ---- "Nothing lent changes."

filled_unchanged : (q : Reply) (v f : ℕ) (x buf : List ℕ) (r : Refusal) → (filled q (done v f) x buf).outcome ≡ refused r
    → (filled q (done v f) x buf).buffer ≡ buf
filled_unchanged (some s) v f x buf r e = refl
filled_unchanged none v f x buf r e = cc

-- a refused listing or read leaves its buffer as it was
pub listing_unchanged : (d buf : List ℕ) (r : Refusal) → (listing d buf).outcome ≡ refused r → (listing d buf).buffer ≡ buf
unfolding list_view
listing_unchanged d buf r e =
    filled_unchanged (check_view (view d) else row 20 0 (ltb (length buf) (length (entries (view_slots (view d)) slots)))) _ _ _ buf r e

pub reading_unchanged : (d n buf : List ℕ) (r : Refusal) → (reading d n buf).outcome ≡ refused r → (reading d n buf).buffer ≡ buf
unfolding read_view
reading_unchanged d n buf r e = filled_unchanged (read_reply (view d) n (length buf)) _ _ _ buf r e
