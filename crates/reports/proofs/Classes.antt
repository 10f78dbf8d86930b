-- Every sector count is in one class, and in no other.
use Prim.Native.Nat.{ℕ, zero, suc, ◌+◌, ◌-◌, ◌*◌, ◌^◌, ◌≤◌, ◌<◌}
use mathlib.Core.Path.{◌≡◌, refl, sym, ap, ◌∙◌}
use mathlib.Core.Bool.{Bool, true, false, ◌||◌}
use mathlib.Core.Logic.{⊎_elim}
use native.Mathlib.Nat.{add-zero, add-suc}
use native.Mathlib.Omega.{arith}
use native.Mathlib.Numerals.{add-one}
use borrow.Author.Tests.{leb-true, ltb-true, eqb-true, le-leb, lt-ltb, eq-eqb}
use lib.Dec.{eqb, leb, ltb}
use Rattle.buffers.proofs.Tests.{and_both, or_either, or_left, or_right, both_and}
use Rattle.buffers.proofs.Lists.{below_or_not}
use Rattle.reports.specs.Numbers.{least_of, in_class}

-- powers of two rise
pow_more : (n : ℕ) → 2 ^ (n + 1) ≡ 2 * 2 ^ n
pow_more n = rw (add-one n) (omega arith)

pow_rises : (a n : ℕ) → 2 ^ a ≤ 2 ^ (a + n)
pow_rises a zero = rw (add-zero a) (omega arith)
pow_rises a (suc n) =
    let e : 2 ^ (a + suc n) ≡ 2 * 2 ^ (a + n) = rw (add-suc a n) (omega arith) in
    omega (arith, pow_rises a n)

-- ---- what a class says of a count

pub class_least : (c n : ℕ) → in_class c n ≡ true → least_of c ≤ n
unfolding in_class
class_least c n e = leb-true (least_of c) n (and_both (leb (least_of c) n) (eqb c 11 || ltb n (least_of (suc c))) e).0

pub class_below : (c n : ℕ) → c < 11 → in_class c n ≡ true → n < least_of (suc c)
unfolding in_class
class_below c n h e =
    ⊎_elim (λ q. let z : c ≡ 11 = eqb-true c 11 q in absurd (omega arith)) (λ q. ltb-true n (least_of (suc c)) q)
    (or_either (eqb c 11) (ltb n (least_of (suc c))) (and_both (leb (least_of c) n) (eqb c 11 || ltb n (least_of (suc c))) e).1)

-- a class ends where a later one begins
least-rises : (a b : ℕ) → a < b → least_of (suc a) ≤ least_of b
unfolding least_of
least-rises a zero h = absurd (omega arith)
least-rises a (suc b) h =
    let e : a + (b - a) ≡ b = omega arith in
    omega (arith, pow_rises a (b - a), ap (λ (x : ℕ). 2 ^ x) e)

-- no count is in two classes
apart : (a b n : ℕ) → a < b → b < 12 → in_class a n ≡ true → in_class b n ≡ true → ⊥
apart a b n h l p q = omega (arith, class_below a n (omega arith) p, least-rises a b h, class_least b n q)

pub class_only : (a b n : ℕ) → a < 12 → b < 12 → in_class a n ≡ true → in_class b n ≡ eqb b a
class_only a b n h l p = by (in_class b n) (eqb b a) refl refl
  where
    by : (s t : Bool) → in_class b n ≡ s → eqb b a ≡ t → s ≡ t
    by true true e f = refl
    by false false e f = refl
    by true false e f =
        ⊎_elim (λ (k : a < b). absurd (apart a b n k l p e))
        (λ (k : b ≤ a).
        ⊎_elim (λ (m : b < a). absurd (apart b a n m h e p)) (λ (m : a ≤ b). let z : b ≡ a = omega arith in sym (eq-eqb b a z) ∙ f) (below_or_not b a)) (below_or_not a b)
    by false true e f = sym e ∙ ap (λ (x : ℕ). in_class x n) (eqb-true b a f) ∙ p

-- ---- as the code looks for it: `next` is the least of the class after c

pub record ClassLoop (n c next : ℕ) : Type 0 where
  pub few : c ≤ 11
  pub next-is : next ≡ 2 ^ c
  pub least : least_of c ≤ n

pub lookup_start : (n : ℕ) → ClassLoop n 0 1
unfolding least_of
lookup_start n = record { few = omega arith; next-is = refl; least = omega arith }

pub lookup-small : (n c next : ℕ) → ClassLoop n c next → next ≤ 2048
lookup-small n c next w =
    let e : c + (11 - c) ≡ 11 = omega (arith, w.few) in
    omega (arith, w.next-is, pow_rises c (11 - c), ap (λ (x : ℕ). 2 ^ x) e)

pub lookup-more : (n c next : ℕ) → ClassLoop n c next → c < 11 → next ≤ n → ClassLoop n (c + 1) (2 * next)
unfolding least_of
lookup-more n c next w h l = record {
  few = omega arith;
  next-is = ap (λ (x : ℕ). 2 * x) w.next-is ∙ sym (pow_more c);
  least = rw (add-one c) (omega (arith, w.next-is));
}

pub lookup-here : (n c next : ℕ) → ClassLoop n c next → n < next → in_class c n ≡ true
unfolding in_class least_of
lookup-here n c next w h =
    both_and (leb (least_of c) n) (eqb c 11 || ltb n (2 ^ c)) (le-leb (least_of c) n w.least)
    (or_right (eqb c 11) (ltb n (2 ^ c)) (lt-ltb n (2 ^ c) (omega (arith, w.next-is))))

pub lookup-last : (n c next : ℕ) → ClassLoop n c next → 11 ≤ c → in_class c n ≡ true
unfolding in_class
lookup-last n c next w h =
    let e : c ≡ 11 = omega (arith, w.few) in
    both_and (leb (least_of c) n) (eqb c 11 || ltb n (least_of (suc c))) (le-leb (least_of c) n w.least)
    (or_left (eqb c 11) (ltb n (least_of (suc c))) (eq-eqb c 11 e))

pub lookup-few : (n c next : ℕ) → ClassLoop n c next → c < 12
lookup-few n c next w = omega (arith, w.few)

-- every count is in one
pub class_some : (n : ℕ) → (c : ℕ) × (c < 12) × (in_class c n ≡ true)
class_some n = from 11 0 1 refl (lookup_start n)
  where
    from : (m c next : ℕ) → c + m ≡ 11 → ClassLoop n c next → (c : ℕ) × (c < 12) × (in_class c n ≡ true)
    from zero c next e w = (c, omega arith, lookup-last n c next w (omega arith))
    from (suc m) c next e w =
        ⊎_elim (λ (l : n < next). (c, omega arith, lookup-here n c next w l))
        (λ (l : next ≤ n). from m (c + 1) (2 * next) (omega arith) (lookup-more n c next w (omega arith) l)) (below_or_not n next)
