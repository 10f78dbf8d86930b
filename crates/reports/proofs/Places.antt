-- Where a report's numbers stand: by the range that a place is in.
use Prim.Native.Nat.{ℕ, ◌+◌, ◌-◌, ◌≤◌, ◌<◌}
use mathlib.Core.Path.{◌≡◌, refl}
use mathlib.Core.Bool.{Bool, true, false, cond}
use mathlib.Core.Logic.{⊎_elim}
use native.Mathlib.Omega.{arith}
use borrow.Author.Tests.{lt-ltb, le-ltb, eq-eqb, ne_eqb}
use lib.Dec.{eqb, ltb}
use Rattle.buffers.proofs.Lists.{below_or_not}
use Rattle.reports.specs.Numbers.{Numbers, number_at, plus}

pub data NumberPlace (k : ℕ) : Type 0 where
  at-accepted : k ≡ 0 → NumberPlace k
  at-refused : 1 ≤ k → k < 33 → NumberPlace k
  at-kind : 33 ≤ k → k < 97 → NumberPlace k
  at-sectors : k ≡ 97 → NumberPlace k
  at-free : k ≡ 98 → NumberPlace k
  at_class : 99 ≤ k → NumberPlace k

pub place_of_number : (k : ℕ) → NumberPlace k
place_of_number k =
    ⊎_elim (λ (h : k < 1). at-accepted (omega arith))
    (λ (a : 1 ≤ k).
    ⊎_elim (λ (h : k < 33). at-refused a h)
    (λ (b : 33 ≤ k).
    ⊎_elim (λ (h : k < 97). at-kind b h)
    (λ (c : 97 ≤ k).
    ⊎_elim (λ (h : k < 98). at-sectors (omega arith))
    (λ (d : 98 ≤ k). ⊎_elim (λ (h : k < 99). at-free (omega arith)) (λ (e : 99 ≤ k). at_class e) (below_or_not k 99)) (below_or_not k 98)) (below_or_not k 97)) (below_or_not k 33))
    (below_or_not k 1)

module _ (r : Numbers) (k : ℕ) where
  pub number-accepted : k ≡ 0 → number_at r k ≡ r.accepted
  unfolding number_at
  number-accepted h = rw (lt-ltb k 1 (omega arith))

  pub number-refused : 1 ≤ k → k < 33 → number_at r k ≡ r.refused k
  unfolding number_at
  number-refused h l = rw (le-ltb k 1 h, lt-ltb k 33 l)

  pub number-kind : 33 ≤ k → k < 97 → number_at r k ≡ r.kinds (k - 33)
  unfolding number_at
  number-kind h l = rw (le-ltb k 1 (omega arith), le-ltb k 33 h, lt-ltb k 97 l)

  pub number-sectors : k ≡ 97 → number_at r k ≡ r.sectors
  unfolding number_at
  number-sectors h = rw (le-ltb k 1 (omega arith), le-ltb k 33 (omega arith), le-ltb k 97 (omega arith), lt-ltb k 98 (omega arith))

  pub number-free : k ≡ 98 → number_at r k ≡ r.free
  unfolding number_at
  number-free h = rw (le-ltb k 1 (omega arith), le-ltb k 33 (omega arith), le-ltb k 97 (omega arith), le-ltb k 98 (omega arith), lt-ltb k 99 (omega arith))

  pub number_class : 99 ≤ k → number_at r k ≡ r.classes (k - 99)
  unfolding number_at
  number_class h = rw (le-ltb k 1 (omega arith), le-ltb k 33 (omega arith), le-ltb k 97 (omega arith), le-ltb k 98 (omega arith), le-ltb k 99 h)

-- the numbers of two reports in one
pub number-plus : (a b : Numbers) (k : ℕ) → number_at (plus a b) k ≡ number_at a k + number_at b k
unfolding number_at plus
number-plus a b k = by (ltb k 1) (ltb k 33) (ltb k 97) (ltb k 98) (ltb k 99)
  where
    pick : Numbers → Bool → Bool → Bool → Bool → Bool → ℕ
    pick r p q s t u = cond p r.accepted (cond q (r.refused k) (cond s (r.kinds (k - 33)) (cond t r.sectors (cond u r.free (r.classes (k - 99))))))

    by : (p q s t u : Bool) → pick (plus a b) p q s t u ≡ pick a p q s t u + pick b p q s t u
    by true q s t u = refl
    by false true s t u = refl
    by false false true t u = refl
    by false false false true u = refl
    by false false false false true = refl
    by false false false false false = refl

-- ---- one number more at one place

abbrev pub only : ℕ → ℕ → ℕ → ℕ
only j x k = cond (eqb k j) x 0

pub only-there : (j x k : ℕ) → k ≡ j → only j x k ≡ x
only-there j x k e = rw (eq-eqb k j e)

pub only-elsewhere : (j x k : ℕ) → (k ≡ j → ⊥) → only j x k ≡ 0
only-elsewhere j x k e = rw (ne_eqb k j e)

-- a number of a range is counted from the range's first place
pub only_from : (a x k : ℕ) → a ≤ k → {t : Bool} → t ≡ eqb (k - a) x → cond t 1 0 ≡ only (a + x) 1 k
only_from a x k h e =
    ⊎_elim (λ (y : k < a + x). rw (e, ne_eqb (k - a) x (λ q. omega arith), only-elsewhere (a + x) 1 k (λ q. omega arith)))
    (λ (y : a + x ≤ k).
    ⊎_elim (λ (z : a + x < k). rw (e, ne_eqb (k - a) x (λ q. omega arith), only-elsewhere (a + x) 1 k (λ q. omega arith)))
    (λ (z : k ≤ a + x). rw (e, eq-eqb (k - a) x (omega arith), only-there (a + x) 1 k (omega arith))) (below_or_not (a + x) k)) (below_or_not k (a + x))
