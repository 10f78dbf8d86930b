-- A change is refused exactly when the check refuses the disk or a row holds that has none before it, and a refused call changes nothing lent.
use Prim.Native.Nat.{ℕ}
use mathlib.Core.Path.{◌≡◌, refl, sym, ap, ◌∙◌, subst}
use mathlib.Core.Bool.{Bool, true}
use mathlib.Core.List.{List, [], ◌∷◌}
use mathlib.Core.Logic.{◌⊎◌, inl, inr, ⊎_elim, ◌≢◌, ◌↔◌}
use mathlib.Core.Option.{none, some}
use native.Mathlib.Omega.{arith}
use lib.ListN.{length}
use Rattle.refusals.specs.Order.{Refusal, Reply, SlotRow, FirstSlotRow, without_slots, rises, LowestRow}
use Rattle.refusals.proofs.Lowest.{slot-lowest, slot_positive}
use Rattle.refusals.specs.Answers.{refused}
use Rattle.refusals.proofs.First.{first-same, first-none}
use Rattle.names.specs.Name.{askable}
use Rattle.disk.specs.View.{View, view}
use Rattle.disk.specs.Check.{check_disk}
use Rattle.disk.proofs.Order.{check_positive}
use Rattle.files.specs.Calls.{file_named}
use Rattle.files.specs.Refused.{row12, row15, row20, by_check, by_row}
use Rattle.plans.specs.Change.{Change, save, erase, rename, mark, gather}
use Rattle.plans.specs.Plan.{old_name, plan_of, Result, refused_result, new_disk, plan_result, checked_result, run_change, changed_by, change}
use Rattle.plans.specs.Refused.{row17, row29, gather_row13, row32, gather_list_length, change_rows, Before20, rows_by_number, RefusesChange, ChangePasses, ChangeAccepted}
use Rattle.plans.proofs.Frame.{disk-accepted}
use Rattle.plans.proofs.Rows.{ResultByRows, stops, goes, result_by_rows}

-- ---- nothing lent changes

-- demand 1: a refused change leaves the image and the list as they were
pub refused_unchanged : (c : Change) (d buf : List ℕ) (r : Refusal) → (change c d buf).outcome ≡ refused r
    → ((change c d buf).image ≡ d) × ((change c d buf).list ≡ buf)
unfolding change
refused_unchanged c d buf r e = by (run_change c d (length buf)) e
  where
    by : (x : Result) → (changed_by x d buf).outcome ≡ refused r → ((changed_by x d buf).image ≡ d) × ((changed_by x d buf).list ≡ buf)
    by (refused_result s) w = (refl, refl)
    by (new_disk new ss) w = (cc, cc)

-- ---- refused exactly when, accepted exactly when

module _ (c : Change) (d : List ℕ) (room : ℕ) where
  passed : check_disk d ≡ none → ResultByRows (change_rows (old_name d) c (view d) room) (run_change c d room)
  unfolding run_change
  passed e = subst (λ (r : Reply). ResultByRows (change_rows (old_name d) c (view d) room) (checked_result r (plan_result d room (plan_of (old_name d) c (view d))))) (sym e) (result_by_rows d room (old_name d) (view d) (disk-accepted d e) c)

  refused_by_check : (r : Refusal) → check_disk d ≡ some r → run_change c d room ≡ refused_result r
  unfolding run_change
  refused_by_check r e = ap (λ (q : Reply). checked_result q (plan_result d room (plan_of (old_name d) c (view d)))) e

  run_refuses : (r : Refusal) → run_change c d room ≡ refused_result r → RefusesChange c d room r
  run_refuses r e = by (check_disk d) refl
    where
      at : check_disk d ≡ none → ResultByRows (change_rows (old_name d) c (view d) room) (run_change c d room) → RefusesChange c d room r
      at q (stops s f w) = let z : s ≡ r = cc in by_row q (subst (λ (x : Refusal). FirstSlotRow x (change_rows (old_name d) c (view d) room)) z f)
      at q (goes a new ss w) = let z : ◌≡◌ {A = ℕ} 0 1 = cc in absurd (omega arith)

      by : (o : Reply) → check_disk d ≡ o → RefusesChange c d room r
      by none q = at q (passed q)
      by (some s) q = let w : run_change c d room ≡ refused_result s = refused_by_check s q in let z : s ≡ r = cc in by_check (q ∙ ap some z)

  refuses_run : (r : Refusal) → RefusesChange c d room r → run_change c d room ≡ refused_result r
  refuses_run r (by_check e) = refused_by_check r e
  refuses_run r (by_row e f) = at (passed e)
    where
      at : ResultByRows (change_rows (old_name d) c (view d) room) (run_change c d room) → run_change c d room ≡ refused_result r
      at (stops s g w) = w ∙ ap refused_result (first-same (change_rows (old_name d) c (view d) room) s r g f)
      at (goes a new ss w) = absurd (first-none (change_rows (old_name d) c (view d) room) r f a)

  run_passes : ChangeAccepted c d room → ChangePasses c d room
  run_passes a = by (check_disk d) refl
    where
      at : check_disk d ≡ none → ResultByRows (change_rows (old_name d) c (view d) room) (run_change c d room) → ChangePasses c d room
      at q (stops s f w) = let g = a.gives in let z : ◌≡◌ {A = ℕ} 0 1 = cc in absurd (omega arith)
      at q (goes b new ss w) = record { disk = q; rows = b }

      by : (o : Reply) → check_disk d ≡ o → ChangePasses c d room
      by none q = at q (passed q)
      by (some s) q = let w : run_change c d room ≡ refused_result s = refused_by_check s q in let g = a.gives in let z : ◌≡◌ {A = ℕ} 0 1 = cc in absurd (omega arith)

  passes_run : ChangePasses c d room → ChangeAccepted c d room
  passes_run p = at (passed p.disk)
    where
      at : ResultByRows (change_rows (old_name d) c (view d) room) (run_change c d room) → ChangeAccepted c d room
      at (stops s f w) = absurd (first-none (change_rows (old_name d) c (view d) room) s f p.rows)
      at (goes b new ss w) = record { new = new; sectors = ss; gives = w }

  pub refused_exactly : (r : Refusal) → (run_change c d room ≡ refused_result r) ↔ RefusesChange c d room r
  refused_exactly r = (run_refuses r, refuses_run r)

  pub accepted_exactly : ChangeAccepted c d room ↔ ChangePasses c d room
  accepted_exactly = (run_passes, passes_run)

-- "the lowest that applies of 12 to 20": in the order of their numbers the rows of each change rise
pub rows_rise : (old : ℕ → Bool) (c : Change) (l : View) (room : ℕ) → rises (without_slots (rows_by_number old c l room)) ≡ true
unfolding rows_by_number change_rows
rows_rise old (save w) l room = refl
rows_rise old (erase n) l room = refl
rows_rise old (rename n new) l room = refl
rows_rise old (mark m n) l room = refl
rows_rise old (gather n) l room = refl

-- five rows of which the fourth is one of those ahead of 20, and the same with the last two exchanged
last_two : (a b c x y : SlotRow) (r : Refusal) → Before20 x.number → FirstSlotRow r (a ∷ b ∷ c ∷ x ∷ y ∷ [])
    → Before20 r.number ⊎ FirstSlotRow r (a ∷ b ∷ c ∷ y ∷ x ∷ [])
last_two a b c x y r h f =
    ⊎_elim (λ p. inr (inl p))
    (λ p. ⊎_elim (λ q. inr (inr (p.0, inl q)))
    (λ q. ⊎_elim (λ s. inr (inr (p.0, inr (q.0, inl s))))
    (λ s. ⊎_elim (λ t. inl (subst (λ (z : Refusal). Before20 z.number) t.1 h))
    (λ t. ⊎_elim (λ u. inr (inr (p.0, inr (q.0, inr (s.0, inl u))))) (λ u. absurd u.1) t.1) s.1) q.1) p.1) f

-- the first row that holds is one of those ahead of 20, or the first in that order too
first_by_number : (old : ℕ → Bool) (c : Change) (l : View) (room : ℕ) (r : Refusal) → FirstSlotRow r (change_rows old c l room)
    → Before20 r.number ⊎ FirstSlotRow r (rows_by_number old c l room)
unfolding rows_by_number change_rows
first_by_number old (save w) l room r f = inr f
first_by_number old (rename n new) l room r f = inr f
first_by_number old (mark m n) l room r f = inr f
first_by_number old (erase n) l room r f = last_two (row12 (askable n)) (row15 l n) (row17 l n) (row29 l n) (row20 room 1) r (inl refl) f
first_by_number old (gather n) l room r f =
    last_two (row12 (askable n)) (gather_row13 l n) (row15 l n) (row32 l (file_named l n)) (row20 room (gather_list_length (file_named l n))) r (inr refl) f

-- what is refused by a row is 29, which stands "after 17", or 32, which stands "after 19", or the lowest that applies
pub refused-lowest : (c : Change) (d : List ℕ) (room : ℕ) (r : Refusal) → run_change c d room ≡ refused_result r
    → (check_disk d ≡ some r) ⊎ (Before20 r.number ⊎ LowestRow r.number (without_slots (rows_by_number (old_name d) c (view d) room)))
refused-lowest c d room r e = by ((refused_exactly c d room r).0 e)
  where
    by : RefusesChange c d room r → (check_disk d ≡ some r) ⊎ (Before20 r.number ⊎ LowestRow r.number (without_slots (rows_by_number (old_name d) c (view d) room)))
    by (by_check a) = inl a
    by (by_row a f) =
        inr (⊎_elim inl (λ g. inr (slot-lowest (rows_by_number (old_name d) c (view d) room) r (rows_rise (old_name d) c (view d) room) g))
        (first_by_number (old_name d) c (view d) room r f))

-- no refusal has the number 0
pub refused_positive : (c : Change) (d : List ℕ) (room : ℕ) (r : Refusal) → run_change c d room ≡ refused_result r → r.number ≢ 0
refused_positive c d room r e = by ((refused_exactly c d room r).0 e)
  where
    by : RefusesChange c d room r → r.number ≢ 0
    by (by_check a) = check_positive d r a
    by (by_row a f) =
        ⊎_elim (λ g z. ⊎_elim (λ (q : r.number ≡ 29). omega arith) (λ (q : r.number ≡ 32). omega arith) g) (slot_positive (rows_by_number (old_name d) c (view d) room) r (rows_rise (old_name d) c (view d) room))
        (first_by_number (old_name d) c (view d) room r f)

-- the same of the call: its outcome is a refusal exactly then
pub change-refused : (c : Change) (d buf : List ℕ) (r : Refusal) → ((change c d buf).outcome ≡ refused r) ↔ RefusesChange c d (length buf) r
unfolding change
change-refused c d buf r = (
  λ e. (refused_exactly c d (length buf) r).0 (by (run_change c d (length buf)) e),
  λ w. ap (λ (x : Result). (changed_by x d buf).outcome) ((refused_exactly c d (length buf) r).1 w),
)
  where
    by : (x : Result) → (changed_by x d buf).outcome ≡ refused r → x ≡ refused_result r
    by (refused_result s) w = let z : s ≡ r = cc in ap refused_result z
    by (new_disk new ss) w = cc
