-- Opening is refused exactly when the check refuses the disk or the first of its rows holds; no refusal has the number 0.
use Prim.Native.Nat.{ℕ}
use mathlib.Core.Path.{◌≡◌, refl, sym, ap, ◌∙◌}
use mathlib.Core.Bool.{true, false, true≢false}
use mathlib.Core.List.{List, [], ◌∷◌, ◌++◌}
use mathlib.Core.Logic.{inl, inr, ◌≢◌, ⊎_elim, ◌↔◌}
use native.Mathlib.Omega.{arith}
use borrow.Author.Tests.{le-ltb}
use lib.ListN.{length}
use Rattle.buffers.specs.Bytes.{tab}
use Rattle.buffers.proofs.Lists.{length-tab}
use Rattle.refusals.specs.Order.{Refusal, SlotRow, FirstSlotRow, without_slots, rises}
use Rattle.refusals.specs.Answers.{Out}
use Rattle.headers.specs.Header.{file_length}
use Rattle.disk.specs.View.{View, view}
use Rattle.files.specs.Calls.{file_named}
use Rattle.files.specs.Refused.{row20, read_rows, RefusesBy, by_check, by_row}
use Rattle.files.proofs.Refused.{reading-refused, reading_positive}
use Rattle.readers.specs.Opening.{refused_opening, open_file_rows, open_file}
use Rattle.readers.proofs.OneRead.{open_refused, refused_roomy}

-- "those of reading but 20"
pub read-rows : (l : View) (n : List ℕ) (room : ℕ) → read_rows l n room ≡ open_file_rows l n ++ (row20 room (file_length (file_named l n)) ∷ [])
unfolding read_rows open_file_rows
read-rows l n room = refl

-- a row that does not hold, after the others
first_but : (rs : List SlotRow) (x : SlotRow) → x.holds ≡ false → (r : Refusal) → FirstSlotRow r (rs ++ (x ∷ [])) ↔ FirstSlotRow r rs
first_but [] x h r = (λ f. ⊎_elim (λ a. absurd (true≢false (sym a.0 ∙ h))) (λ a. a.1) f, λ f. absurd f)
first_but (s ∷ rs) x h r = (
  λ f. ⊎_elim (λ a. inl a) (λ a. inr (a.0, (first_but rs x h r).0 a.1)) f,
  λ f. ⊎_elim (λ a. inl a) (λ a. inr (a.0, (first_but rs x h r).1 a.1)) f,
)

module _ (d n : List ℕ) where
  abbrev len : ℕ
  len = file_length (file_named (view d) n)

  -- a buffer that the body just fills
  abbrev buf : List ℕ
  buf = tab len (λ k. 0)

  rows_alike : (r : Refusal) → FirstSlotRow r (read_rows (view d) n (length buf)) ↔ FirstSlotRow r (open_file_rows (view d) n)
  rows_alike r =
      rw (read-rows (view d) n (length buf))
      (first_but (open_file_rows (view d) n) (row20 (length buf) len) (le-ltb (length buf) len (omega (arith, length-tab len (λ k. 0)))) r)

  -- opening is refused exactly by the check, or by the first that holds of its rows
  pub opening_refused : (r : Refusal) → (open_file d n ≡ refused_opening r) ↔ RefusesBy d (open_file_rows (view d) n) r
  opening_refused r =
      let roomy = refused_roomy d n buf (omega (arith, length-tab len (λ k. 0))) r in
      (λ e. to ((reading-refused d n buf r).0 (roomy.0 e)), λ w. roomy.1 ((reading-refused d n buf r).1 (back w)))
    where
      to : RefusesBy d (read_rows (view d) n (length buf)) r → RefusesBy d (open_file_rows (view d) n) r
      to (by_check a) = by_check a
      to (by_row a f) = by_row a ((rows_alike r).0 f)

      back : RefusesBy d (open_file_rows (view d) n) r → RefusesBy d (read_rows (view d) n (length buf)) r
      back (by_check a) = by_check a
      back (by_row a f) = by_row a ((rows_alike r).1 f)

  pub opening_positive : (r : Refusal) → open_file d n ≡ refused_opening r → r.number ≢ 0
  opening_positive r e = reading_positive d n [] r (ap (λ (o : Out). o.outcome) (open_refused d n [] r e))

-- the numbers rise, so the first that holds is "the lowest that applies"
pub open_rises : (l : View) (n : List ℕ) → rises (without_slots (open_file_rows l n)) ≡ true
unfolding open_file_rows
open_rises l n = refl
