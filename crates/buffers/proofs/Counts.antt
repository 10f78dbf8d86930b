-- Laws of counting and of asking for any, over the numbers below a bound.
use Prim.Native.Nat.{ℕ, zero, suc, ◌+◌, ◌≤◌, ◌<◌}
use mathlib.Core.Path.{◌≡◌, refl, sym, ap, ap₂, ◌∙◌, subst}
use mathlib.Core.Bool.{Bool, true, false, cond, not, ◌&&◌, ◌||◌, false≢true}
use mathlib.Core.Logic.{⊎_elim}
use native.Mathlib.Nat.{eq-or-lt_of_le, le_of_suc-le-suc, not-suc-le-zero, add-zero, add-suc, add_assoc}
use native.Mathlib.Numerals.{add-one}
use native.Mathlib.Omega.{arith}
use Rattle.buffers.specs.Bytes.{count, any}
use Rattle.buffers.proofs.Lists.{below_or_not}
use Rattle.buffers.proofs.Tests.{or_left, or_right, or_neither}

pub count-more : (n : ℕ) (p : ℕ → Bool) → count (n + 1) p ≡ count n p + cond (p n) 1 0
unfolding count
count-more n p = rw add-one

pub count_cong : (n : ℕ) (p q : ℕ → Bool) → ((k : ℕ) → k < n → p k ≡ q k) → count n p ≡ count n q
unfolding count
count_cong zero p q h = refl
count_cong (suc n) p q h = ap₂ ◌+◌ (count_cong n p q (λ k l. h k (omega arith))) (ap (λ (t : Bool). cond t 1 0) (h n (omega arith)))

one_le : (t : Bool) → cond {A = ℕ} t 1 0 ≤ 1
one_le true = omega arith
one_le false = omega arith

pub count_le : (n : ℕ) (p : ℕ → Bool) → count n p ≤ n
unfolding count
count_le zero p = omega arith
count_le (suc n) p = omega (arith, count_le n p, one_le (p n))

-- the numbers below a + n: those below a, and n more
pub count_add : (a n : ℕ) (p : ℕ → Bool) → count (a + n) p ≡ count a p + count n (λ j. p (a + j))
unfolding count
count_add a zero p = rw add-zero (sym (add-zero (count a p)))
count_add a (suc n) p =
    rw add-suc (ap (λ (x : ℕ). x + cond (p (a + n)) 1 0) (count_add a n p) ∙ add_assoc (count a p) (count n (λ j. p (a + j))) (cond (p (a + n)) 1 0))

pub count_none : (n : ℕ) (p : ℕ → Bool) → ((k : ℕ) → k < n → p k ≡ false) → count n p ≡ 0
unfolding count
count_none zero p h = refl
count_none (suc n) p h = rw (h n (omega arith), count_none n p (λ k l. h k (omega arith)))

pub count_all : (n : ℕ) (p : ℕ → Bool) → ((k : ℕ) → k < n → p k ≡ true) → count n p ≡ n
unfolding count
count_all zero p h = refl
count_all (suc n) p h = rw (h n (omega arith), count_all n p (λ k l. h k (omega arith))) (omega arith)

-- those that hold, less some of them
pub count_less : (n : ℕ) (p q : ℕ → Bool) → ((k : ℕ) → k < n → q k ≡ true → p k ≡ true) → count n (λ k. p k && not (q k)) + count n q ≡ count n p
unfolding count
count_less zero p q h = refl
count_less (suc n) p q h = by (p n) (q n) (h n (omega arith)) (count_less n p q (λ k l. h k (omega arith)))
  where
    by : (a b : Bool) → (b ≡ true → a ≡ true) → count n (λ k. p k && not (q k)) + count n q ≡ count n p
        → count n (λ k. p k && not (q k)) + cond (a && not b) 1 0 + (count n q + cond b 1 0) ≡ count n p + cond a 1 0
    by true true w e = omega arith
    by true false w e = omega arith
    by false true w e = absurd (false≢true (w refl))
    by false false w e = omega arith

pub none-count : (n : ℕ) (p : ℕ → Bool) → count n p ≡ 0 → (k : ℕ) → k < n → p k ≡ false
unfolding count
none-count zero p e k h = absurd (not-suc-le-zero h)
none-count (suc n) p e k h =
    ⊎_elim (λ l. none-count n p (omega arith) k l) (λ (l : n ≤ k). let z : k ≡ n = omega arith in ap p z ∙ by (p n) (omega arith)) (below_or_not k n)
  where
    by : (t : Bool) → ◌≡◌ {A = ℕ} (cond t 1 0) 0 → t ≡ false
    by true e = absurd (omega arith)
    by false e = refl

-- ---- any

pub any-more : (n : ℕ) (p : ℕ → Bool) → any (n + 1) p ≡ (any n p || p n)
unfolding any
any-more n p = rw add-one

pub any_cong : (n : ℕ) (p q : ℕ → Bool) → ((k : ℕ) → k < n → p k ≡ q k) → any n p ≡ any n q
unfolding any
any_cong zero p q h = refl
any_cong (suc n) p q h = ap₂ ◌||◌ (any_cong n p q (λ k l. h k (omega arith))) (h n (omega arith))

pub any_none : (n : ℕ) (p : ℕ → Bool) → any n p ≡ false → (j : ℕ) → j < n → p j ≡ false
unfolding any
any_none zero p e j h = absurd (not-suc-le-zero h)
any_none (suc n) p e j h =
    let c = or_neither (any n p) (p n) e in
    ⊎_elim (λ q. subst (λ (m : ℕ). p m ≡ false) (sym q) c.1) (λ q. any_none n p c.0 j q) (eq-or-lt_of_le (le_of_suc-le-suc h))

pub none_any : (n : ℕ) (p : ℕ → Bool) → ((j : ℕ) → j < n → p j ≡ false) → any n p ≡ false
unfolding any
none_any zero p h = refl
none_any (suc n) p h = rw (h n (omega arith), none_any n p (λ j k. h j (omega arith)))

pub any_some : (n : ℕ) (p : ℕ → Bool) (j : ℕ) → j < n → p j ≡ true → any n p ≡ true
unfolding any
any_some zero p j h e = absurd (not-suc-le-zero h)
any_some (suc n) p j h e =
    ⊎_elim (λ q. or_right (any n p) (p n) (subst (λ (m : ℕ). p m ≡ true) q e)) (λ q. or_left (any n p) (p n) (any_some n p j q e))
    (eq-or-lt_of_le (le_of_suc-le-suc h))

pub some-any : (n : ℕ) (p : ℕ → Bool) → any n p ≡ true → (j : ℕ) × (j < n) × (p j ≡ true)
unfolding any
some-any zero p e = absurd (false≢true e)
some-any (suc n) p e = by (any n p) (some-any n p) e
  where
    by : (t : Bool) → (t ≡ true → (j : ℕ) × (j < n) × (p j ≡ true)) → (t || p n) ≡ true → (j : ℕ) × (j < suc n) × (p j ≡ true)
    by true q w = let r = q refl in (r.0, omega (arith, r.1), r.2)
    by false q w = (n, omega arith, w)
