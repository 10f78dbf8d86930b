-- The lowest clear bit of a map from a bit on, as a pass finds it, and the clear bits one after the other.
use Prim.Native.Nat.{ℕ, zero, suc, ◌+◌, ◌-◌, ◌≤◌, ◌<◌}
use mathlib.Core.Path.{◌≡◌, refl, sym, ap, ◌∙◌}
use mathlib.Core.Bool.{Bool, true, false, not}
use mathlib.Core.List.{List, [], ◌∷◌}
use native.Mathlib.Omega.{arith}
use lib.ListN.{get_or}
use Rattle.maps.specs.Bits.{has}
use Rattle.plans.specs.Saving.{satisfying}
use Rattle.allocation.specs.Taken.{unset, full_byte, next_clear}
use Rattle.allocation.proofs.Picked.{pass_no, pass_yes, full_is, full_set}

-- no bit from `from` on and below b is clear
pub record NoneClear (m : List ℕ) (from b : ℕ) : Type 0 where
  pub same : satisfying (1560 - b) b (unset m) ≡ satisfying (1560 - from) from (unset m)

pub passed_none : (m : List ℕ) (from : ℕ) → NoneClear m from from
passed_none m from = record { same = refl }

module _ (m : List ℕ) (from b : ℕ) (w : NoneClear m from b) where
  pub passed_full : b < 1560 → full_byte m b ≡ true → NoneClear m from (b + 8)
  passed_full h e = let f = full_is m b e in record { same = sym (pass_no b 8 (unset m) (omega (arith, f.first)) (full_set m b f)) ∙ w.same }

  pub passed_set : b < 1560 → has m b ≡ true → NoneClear m from (b + 1)
  passed_set h e =
      record { same = sym (pass_no b 1 (unset m) (omega arith) (λ i l. let z : b + i ≡ b = omega arith in rw (z, e))) ∙ w.same }

  pub passed_clear : b < 1560 → has m b ≡ false → b ≡ next_clear m from
  unfolding next_clear
  passed_clear h e =
      let z : unset m b ≡ true = ap not e in
      ap (λ (l : List ℕ). get_or l 0 1560) (sym (pass_yes b (unset m) h z) ∙ w.same)

  pub passed_all : 1560 ≤ b → 1560 ≡ next_clear m from
  unfolding next_clear satisfying
  passed_all h =
      let z : 1560 - b ≡ 0 = omega arith in
      let e : satisfying (1560 - b) b (unset m) ≡ [] = rw z in
      ap (λ (l : List ℕ). get_or l 0 1560) (sym e ∙ w.same)

-- ---- the clear bits one after the other

-- of the numbers that pass from i on: none, or one and then those behind it
data NextPassing (n i : ℕ) (p : ℕ → Bool) : Type 0 where
  ends : satisfying n i p ≡ [] → NextPassing n i p
  goes : (c : ℕ) → i ≤ c → c < i + n → satisfying n i p ≡ c ∷ satisfying (i + n - suc c) (suc c) p → NextPassing n i p

next_of : (n i : ℕ) (p : ℕ → Bool) → NextPassing n i p
unfolding satisfying
next_of zero i p = ends refl
next_of (suc n) i p = by (p i) refl (next_of n (suc i) p)
  where
    by : (t : Bool) → p i ≡ t → NextPassing n (suc i) p → NextPassing (suc n) i p
    by true e w =
        let z : i + suc n - suc i ≡ n = omega arith in
        goes i (omega arith) (omega arith) (rw (e, z) refl)
    by false e (ends q) = ends (rw e q)
    by false e (goes c h l q) =
        let z : suc i + n - suc c ≡ i + suc n - suc c = omega arith in
        goes c (omega arith) (omega arith) (rw e (q ∙ ap (λ (k : ℕ). c ∷ satisfying k (suc c) p) z))

-- all clear bits of a map
abbrev pub clear_bits : List ℕ → List ℕ
clear_bits m = satisfying 1560 0 (unset m)

-- those from b on
abbrev pub clear_bits_from : List ℕ → ℕ → List ℕ
clear_bits_from m b = satisfying (1560 - b) b (unset m)

pub data NextClearBit (m : List ℕ) (b : ℕ) : Type 0 where
  ends_in : clear_bits_from m b ≡ [] → NextClearBit m b
  goes_in : (c : ℕ) → c < 1560 → clear_bits_from m b ≡ c ∷ clear_bits_from m (suc c) → NextClearBit m b

pub next_in_lem : (m : List ℕ) (b : ℕ) → b ≤ 1560 → NextClearBit m b
next_in_lem m b h = by (next_of (1560 - b) b (unset m))
  where
    by : NextPassing (1560 - b) b (unset m) → NextClearBit m b
    by (ends q) = ends_in q
    by (goes c d e q) =
        let z : b + (1560 - b) - suc c ≡ 1560 - suc c = omega arith in
        goes_in c (omega arith) (q ∙ ap (λ (n : ℕ). c ∷ satisfying n (suc c) (unset m)) z)

Behind : List ℕ → ℕ → ℕ → Type 0
Behind m b k = get_or (clear_bits_from m b) k 1560 < 1560 → get_or (clear_bits_from m b) (suc k) 1560 ≡ next_clear m (suc (get_or (clear_bits_from m b) k 1560))

behind : (m : List ℕ) (b k : ℕ) → b ≤ 1560 → Behind m b k
unfolding next_clear Behind
behind m b zero h = by (next_in_lem m b h)
  where
    by : NextClearBit m b → Behind m b zero
    by (ends_in q) l = let z : get_or (clear_bits_from m b) 0 1560 ≡ 1560 = rw q in absurd (omega arith)
    by (goes_in c e q) l = rw q refl
behind m b (suc k) h = by (next_in_lem m b h) (λ c. behind m (suc c) k)
  where
    by : NextClearBit m b → ((c : ℕ) → suc c ≤ 1560 → Behind m (suc c) k) → Behind m b (suc k)
    by (ends_in q) ih l = let z : get_or (clear_bits_from m b) (suc k) 1560 ≡ 1560 = rw q in absurd (omega arith)
    by (goes_in c e q) ih l = rw q (ih c e (rw q at l))

-- the first, and the one behind the k-th
pub clear_first : (m : List ℕ) → next_clear m 0 ≡ get_or (clear_bits m) 0 1560
unfolding next_clear
clear_first m = refl

pub clear_next : (m : List ℕ) (k : ℕ) → get_or (clear_bits m) k 1560 < 1560 → next_clear m (suc (get_or (clear_bits m) k 1560)) ≡ get_or (clear_bits m) (suc k) 1560
unfolding Behind
clear_next m k h = sym (behind m 0 k (omega arith) h)
