-- The bits that a save cannot take: all but those that are data and clear in the used map.
use Prim.Native.Nat.{ℕ, zero, suc, ◌+◌, ◌≤◌, ◌<◌}
use mathlib.Core.Path.{◌≡◌, refl, ap, ap₂, ◌∙◌}
use mathlib.Core.Bool.{Bool, true, false, cond, not, ◌&&◌, ◌||◌}
use mathlib.Core.List.{List, ◌∷◌}
use native.Mathlib.Omega.{arith}
use Rattle.maps.specs.Bits.{has}
use Rattle.maps.proofs.Laws.{has_join}
use Rattle.slots.specs.Tracks.{data_bit, inner_map}
use Rattle.slots.proofs.Tracks.{data_few, length_inner, has_inner}
use Rattle.surveys.specs.Survey.{free_of}
use Rattle.surveys.specs.declared.UsedMap.{UsedMap}
use Rattle.plans.specs.Saving.{satisfying}
use Rattle.allocation.specs.Taken.{unset, unavailable_map}

pub shut_is : (u : UsedMap) (b : ℕ) → b < 1560 → unset (unavailable_map u) b ≡ (data_bit u.tracks b && not (has u.bytes b))
unfolding unavailable_map
shut_is u b h =
    ap not
    (has_join (inner_map u.tracks) u.bytes b (omega (arith, length_inner u.tracks 1560))
    ∙ ap (λ (t : Bool). t || has u.bytes b) (has_inner u.tracks b h))
    ∙ by (data_bit u.tracks b) (has u.bytes b)
  where
    by : (s t : Bool) → not (not s || t) ≡ (s && not t)
    by true t = refl
    by false t = refl

passing_cong : (n i : ℕ) (p q : ℕ → Bool) → ((b : ℕ) → b < i + n → p b ≡ q b) → satisfying n i p ≡ satisfying n i q
unfolding satisfying
passing_cong zero i p q h = refl
passing_cong (suc n) i p q h =
    ap₂ (λ (t : Bool) (x : List ℕ). cond t (i ∷ x) x) (h i (omega arith)) (passing_cong n (suc i) p q (λ b l. h b (omega arith)))

-- the bits that are left
pub available_bits_are : (u : UsedMap) → satisfying 1560 0 (unset (unavailable_map u)) ≡ satisfying 1560 0 (λ b. data_bit u.tracks b && not (has u.bytes b))
available_bits_are u = passing_cong 1560 0 (unset (unavailable_map u)) (λ b. data_bit u.tracks b && not (has u.bytes b)) (λ b h. shut_is u b (omega arith))

-- how many are left
pub free_le : (u : UsedMap) → free_of u ≤ 1560
unfolding free_of
free_le u = omega (arith, data_few u.tracks)
