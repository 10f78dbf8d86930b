-- Laws of letters: which bytes are one letter, and names in small letters.
use Prim.Native.Nat.{ℕ, zero, suc, ◌+◌, ◌-◌, ◌*◌, ◌^◌, ◌≤◌, ◌<◌}
use mathlib.Core.Path.{◌≡◌, refl, sym, ap, ◌∙◌}
use mathlib.Core.Bool.{Bool, true, false, cond, ◌&&◌}
use mathlib.Core.List.{List, [], ◌∷◌}
use mathlib.Core.Logic.{inl, inr, ⊎_elim}
use native.Mathlib.Omega.{arith}
use borrow.Author.Tests.{le-leb, lt-leb, leb-true, ne_eqb}
use lib.Bits.{bit_or, or_block}
use lib.Dec.{eqb, leb}
use lib.ListN.{length, get_or}
use Rattle.names.specs.Name.{lower, lowered, Cases, OneLetter}

-- what holds of a byte that is a capital, and of one that is none
by_letter : (P : ℕ → Type 0) (x : ℕ) → (65 ≤ x → x ≤ 90 → P (x + 32)) → P x → P (lower x)
unfolding lower
by_letter P x capital other = by (leb 65 x) (leb x 90) refl refl
  where
    by : (a b : Bool) → leb 65 x ≡ a → leb x 90 ≡ b → P (cond (a && b) (x + 32) x)
    by true true p q = capital (leb-true 65 x p) (leb-true x 90 q)
    by true false p q = other
    by false b p q = other

-- ---- two bytes are one letter exactly where their small ones are equal

pub lower-is : (x y : ℕ) → lower x ≡ lower y → OneLetter x y
unfolding lower
lower-is x y = by (leb 65 x) (leb x 90) (leb 65 y) (leb y 90) refl refl refl refl
  where
    by : (a b c d : Bool) → leb 65 x ≡ a → leb x 90 ≡ b → leb 65 y ≡ c → leb y 90 ≡ d
        → cond (a && b) (x + 32) x ≡ cond (c && d) (y + 32) y → OneLetter x y
    by true true true true p q r s e = inl (omega arith)
    by true true true false p q r s e = inr (inl (leb-true 65 x p, leb-true x 90 q, sym e))
    by true true false d p q r s e = inr (inl (leb-true 65 x p, leb-true x 90 q, sym e))
    by true false true true p q r s e = inr (inr (leb-true 65 y r, leb-true y 90 s, e))
    by true false true false p q r s e = inl e
    by true false false d p q r s e = inl e
    by false b true true p q r s e = inr (inr (leb-true 65 y r, leb-true y 90 s, e))
    by false b true false p q r s e = inl e
    by false b false d p q r s e = inl e

cases_lower : (x y : ℕ) → Cases x y → lower x ≡ lower y
unfolding lower
cases_lower x y c =
    let a = c.0 in
    let b = c.1 in
    let e = c.2 in
    rw (le-leb 65 x a, le-leb x 90 b, lt-leb y 90 (omega arith), le-leb 65 y (omega arith)) (sym e)

pub is-lower : (x y : ℕ) → OneLetter x y → lower x ≡ lower y
is-lower x y h = ⊎_elim (λ e. ap lower e) (λ k. ⊎_elim (cases_lower x y) (λ c. sym (cases_lower y x c)) k) h

-- ---- the small letter of a byte

pub lower-small : (x : ℕ) → x < 256 → lower x < 256
lower-small x h = by_letter (λ y. y < 256) x (λ a (b : x ≤ 90). omega arith) h

-- a capital has bit 6 and not bit 5
capital_bit : (x : ℕ) → 65 ≤ x → x ≤ 90 → bit_or (x + 32) 32 ≡ bit_or x 32
capital_bit x h k =
    let r : x ≡ 2 * 2 ^ 5 + (x - 64) = omega arith in
    let q : x + 32 ≡ 3 * 2 ^ 5 + (x - 64) = omega arith in
    rw q (or_block 5 3 1 (x - 64) 0 (omega arith) (omega arith))
    ∙ sym (ap (λ (y : ℕ). bit_or y 32) r ∙ or_block 5 2 1 (x - 64) 0 (omega arith) (omega arith))

pub lower-bit : (x : ℕ) → bit_or (lower x) 32 ≡ bit_or x 32
lower-bit x = by_letter (λ y. bit_or y 32 ≡ bit_or x 32) x (capital_bit x) refl

pub lower-zero : (x : ℕ) → eqb (lower x) 0 ≡ eqb x 0
lower-zero x = by_letter (λ y. eqb y 0 ≡ eqb x 0) x (λ (a : 65 ≤ x) b. ne_eqb (x + 32) 0 (omega arith) ∙ sym (ne_eqb x 0 (omega arith))) refl

-- ---- names in small letters

pub length-lowered : (xs : List ℕ) → length (lowered xs) ≡ length xs
unfolding lowered
length-lowered [] = refl
length-lowered (x ∷ xs) = ap suc (length-lowered xs)

pub lowered-at : (xs : List ℕ) (i : ℕ) → get_or (lowered xs) i 0 ≡ lower (get_or xs i 0)
unfolding lowered lower
lowered-at [] i = refl
lowered-at (x ∷ xs) zero = refl
lowered-at (x ∷ xs) (suc i) = lowered-at xs i
