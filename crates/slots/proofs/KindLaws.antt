-- Laws of the kinds: none is both carried and a Spectrum's, what can be read is one of the two, and a directory is neither.
use Prim.Native.Nat.{ℕ, ◌≤◌}
use mathlib.Core.Path.{◌≡◌, refl, sym, ap, ◌∙◌}
use mathlib.Core.Bool.{Bool, true, false, ◌||◌, ◌&&◌, and-false, or-true, false≢true}
use mathlib.Core.Logic.{◌⊎◌, inl, inr}
use native.Mathlib.Omega.{arith}
use borrow.Author.Tests.{lt-leb, leb-true, eqb-true, eqb-false, eq-eqb, ne_eqb}
use lib.Dec.{leb}
use Rattle.slots.specs.Slot.{carried, spectrum, readable, directory_kind}

pub carried-read : (k : ℕ) → carried k ≡ true → readable k ≡ true
unfolding readable
carried-read k e = ap (λ (t : Bool). t || spectrum k) e

pub spectrum-read : (k : ℕ) → spectrum k ≡ true → readable k ≡ true
unfolding readable
spectrum-read k e = ap (λ (t : Bool). carried k || t) e ∙ or-true (carried k)

-- of what is not carried the Spectrum's kinds can be read
pub uncarried_read : (k : ℕ) → carried k ≡ false → readable k ≡ spectrum k
unfolding readable
uncarried_read k e = ap (λ (t : Bool). t || spectrum k) e

pub read_either : (k : ℕ) → readable k ≡ true → (carried k ≡ true) ⊎ (spectrum k ≡ true)
unfolding readable
read_either k e = by (carried k) refl e
  where
    by : (t : Bool) → carried k ≡ t → (t || spectrum k) ≡ true → (carried k ≡ true) ⊎ (spectrum k ≡ true)
    by true p q = inl p
    by false p q = inr q

pub carried_not : (k : ℕ) → carried k ≡ true → spectrum k ≡ false
unfolding carried spectrum
carried_not k e = by (leb 16 k) refl e
  where
    by : (t : Bool) → leb 16 k ≡ t → (t && leb k 20) ≡ true → (leb 1 k && leb k 4) ≡ false
    by true p q = let h : 16 ≤ k = leb-true 16 k p in ap (λ (t : Bool). leb 1 k && t) (lt-leb k 4 (omega arith)) ∙ and-false (leb 1 k)
    by false p q = absurd (false≢true q)

pub spectrum_not : (k : ℕ) → spectrum k ≡ true → carried k ≡ false
spectrum_not k e = by (carried k) refl
  where
    by : (t : Bool) → carried k ≡ t → t ≡ false
    by true q = absurd (false≢true (sym (carried_not k q) ∙ e))
    by false q = refl

-- a directory is none of those that can be read
pub read-other : (k : ℕ) → readable k ≡ true → k ≡ 21 → ⊥
unfolding readable carried spectrum
read-other k r e = false≢true (sym (ap readable e) ∙ r)

pub directory-is : (k : ℕ) → directory_kind k ≡ true → k ≡ 21
unfolding directory_kind
directory-is k e = eqb-true k 21 e

pub is-directory : (k : ℕ) → k ≡ 21 → directory_kind k ≡ true
unfolding directory_kind
is-directory k e = eq-eqb k 21 e

pub directory_not : (k : ℕ) → directory_kind k ≡ false → k ≡ 21 → ⊥
unfolding directory_kind
directory_not k e = eqb-false k 21 e

pub not_directory : (k : ℕ) → (k ≡ 21 → ⊥) → directory_kind k ≡ false
unfolding directory_kind
not_directory k h = ne_eqb k 21 h
