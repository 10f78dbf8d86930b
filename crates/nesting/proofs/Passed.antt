-- Going up stops at a code that is passed: what leads to the root, or to a directory that does not come back to itself, does not
-- come back either.
use Prim.Native.Nat.{ℕ, zero, suc, ◌+◌, ◌-◌, ◌≤◌, ◌<◌}
use mathlib.Core.Path.{◌≡◌, refl, sym, ap, ◌∙◌}
use mathlib.Core.Bool.{Bool, true, false, ◌&&◌, true≢false}
use mathlib.Core.List.{List}
use mathlib.Core.Logic.{⊎_elim}
use mathlib.Core.Option.{none}
use native.Mathlib.Nat.{add-zero, add-suc, add_comm}
use native.Mathlib.Omega.{arith}
use borrow.Author.Tests.{eqb-true, eqb-false, eq-eqb}
use lib.Dec.{eqb}
use lib.ListN.{length, get_or, set, replicate, length-set, length-replicate}
use lib.Seq.{get_or-set_other}
use Rattle.buffers.specs.Bytes.{any}
use Rattle.buffers.proofs.Lists.{below_or_not}
use Rattle.buffers.proofs.Counts.{any_none, any_some, some-any}
use Rattle.refusals.specs.Order.{rows}
use Rattle.refusals.proofs.First.{rows_clear}
use Rattle.slots.specs.Slot.{is_directory, code_of}
use Rattle.directory.specs.Directory.{Directory}
use Rattle.nesting.specs.Steps.{Tabled, climb, back_by, Passed, nesting_rows_by}
use Rattle.nesting.proofs.Table.{zeros-at}

module _ (above : List ℕ) where
  climb-add : (a b c : ℕ) → climb above a (climb above b c) ≡ climb above (b + a) c
  unfolding climb
  climb-add zero b c = ap (λ (n : ℕ). climb above n c) (sym (add-zero b))
  climb-add (suc a) b c = ap (λ (x : ℕ). get_or above x 0 - 1) (climb-add a b c) ∙ ap (λ (n : ℕ). climb above n c) (sym (add-suc b a))

  climb_swap : (a b c : ℕ) → climb above a (climb above b c) ≡ climb above b (climb above a c)
  climb_swap a b c = climb-add a b c ∙ ap (λ (n : ℕ). climb above n c) (add_comm b a) ∙ sym (climb-add b a c)

  -- none is above the root
  climb-root : get_or above 0 0 ≡ 0 → (n : ℕ) → climb above n 0 ≡ 0
  unfolding climb
  climb-root e zero = refl
  climb-root e (suc n) = ap (λ (x : ℕ). get_or above x 0 - 1) (climb-root e n) ∙ ap (λ (x : ℕ). x - 1) e

  module _ (passed : List ℕ) (m : ℕ) (p : Passed above passed m) where
    -- n steps have not come back, and lead to r, which is passed
    pub back_passed : (c n r : ℕ) → any n (λ k. eqb (climb above (suc k) c) c) ≡ false → r ≡ climb above n c → (r ≡ c → ⊥) → (get_or passed r 0 ≡ 0 → ⊥)
        → back_by above m c ≡ false
    unfolding back_by
    back_passed c n r e q h w = by (any m (λ k. eqb (climb above (suc k) c) c)) refl
      where
        to_root : (k : ℕ) → k < m → climb above (suc k) c ≡ c → r ≡ 0 → ⊥
        to_root k l z o = ⊎_elim
            (λ (y : k < n). true≢false (sym (eq-eqb _ _ z) ∙ any_none n (λ k. eqb (climb above (suc k) c) c) e k y))
            (λ (y : n ≤ k).
            let x : n + (suc k - n) ≡ suc k = omega arith in
            h (o ∙ sym (climb-root p.root (suc k - n)) ∙ ap (climb above (suc k - n)) (sym o ∙ q) ∙ climb-add (suc k - n) n c ∙ ap (λ (j : ℕ). climb above j c) x ∙ z))
            (below_or_not k n)

        round : (k : ℕ) → climb above (suc k) c ≡ c → climb above (suc k) r ≡ r
        round k z = ap (climb above (suc k)) q ∙ climb_swap (suc k) n c ∙ ap (climb above n) z ∙ sym q

        at : (k : ℕ) → k < m → climb above (suc k) c ≡ c → (b : Bool) → eqb r 0 ≡ b → ⊥
        at k l z true y = to_root k l z (eqb-true r 0 y)
        at k l z false y =
            true≢false (sym (any_some m (λ j. eqb (climb above (suc j) r) r) k l (eq-eqb _ _ (round k z))) ∙ p.never r (eqb-false r 0 y) w)

        by : (b : Bool) → any m (λ k. eqb (climb above (suc k) c) c) ≡ b → b ≡ false
        by false y = refl
        by true y = let x = some-any m (λ k. eqb (climb above (suc k) c) c) y in absurd (at x.0 x.1 (eqb-true _ _ x.2) (eqb r 0) refl)

    -- one more
    pub passed_more : (x : ℕ) → back_by above m x ≡ false → Passed above (set passed x 1) m
    passed_more x e = record { long = length-set passed x 1 ∙ p.long; root = p.root; never = λ c h w. by c h w (eqb c x) refl }
      where
        by : (c : ℕ) → (c ≡ 0 → ⊥) → (get_or (set passed x 1) c 0 ≡ 0 → ⊥) → (b : Bool) → eqb c x ≡ b → back_by above m c ≡ false
        by c h w true y = ap (back_by above m) (eqb-true c x y) ∙ e
        by c h w false y = p.never c h (λ z. w (get_or-set_other passed x c 1 0 (eqb-false c x y) ∙ z))

  -- at first the root's alone
  pub passed_root : {v : Directory} {m : ℕ} → Tabled v above m → (passed : List ℕ) → passed ≡ set (replicate 256 0) 0 1 → Passed above passed m
  passed_root t passed e = record {
    long = ap length e ∙ length-set {A = ℕ} (replicate 256 0) 0 1 ∙ length-replicate {A = ℕ} 256 0;
    root = t.root;
    never = λ c h w. absurd (w (ap (λ (l : List ℕ). get_or l c 0) e ∙ get_or-set_other (replicate 256 0) 0 c 1 0 h ∙ zeros-at 256 c));
  }

  -- a directory of which 28 does not hold
  pub rows_passed : (slot m : ℕ) (s : List ℕ) → rows slot (nesting_rows_by above m s) ≡ none → is_directory s ≡ true → (c : ℕ) → c ≡ code_of s → back_by above m c ≡ false
  rows_passed slot m s e d c q = ap (back_by above m) q ∙ by (rows_clear slot (nesting_rows_by above m s) e).1.0
    where
      by : (is_directory s && back_by above m (code_of s)) ≡ false → back_by above m (code_of s) ≡ false
      by y = rw d at y
