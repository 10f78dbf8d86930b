-- The clear bits of a map from one of them on.
use Prim.Native.Nat.{ℕ, zero, suc, ◌-◌, ◌≤◌, ◌<◌}
use mathlib.Core.Path.{◌≡◌, sym, ap, ◌∙◌, subst}
use mathlib.Core.List.{List, [], ◌∷◌}
use mathlib.Core.Logic.{⊎_elim}
use native.Mathlib.Nat.{add-zero}
use native.Mathlib.Numerals.{add-one}
use native.Mathlib.Omega.{arith}
use lib.ListN.{length, get_or, drop}
use lib.Seq.{get_or-drop}
use Rattle.buffers.proofs.Lists.{below_or_not}
use Rattle.plans.specs.Saving.{satisfying}
use Rattle.plans.proofs.Free.{Run, passing_run}
use Rattle.allocation.specs.Taken.{unset, next_clear}
use Rattle.allocation.proofs.Picked.{pass_yes}
use Rattle.allocation.proofs.Next.{clear_bits, clear_bits_from, NextClearBit, ends_in, goes_in, next_in_lem}

module _ (m : List ℕ) where
  none_from : (b : ℕ) → 1560 ≤ b → clear_bits_from m b ≡ []
  unfolding satisfying
  none_from b h = let z : 1560 - b ≡ 0 = omega arith in rw z

  -- one that is found is the first of those from it on
  found_first : (b c : ℕ) (bs : List ℕ) → b ≤ 1560 → clear_bits_from m b ≡ c ∷ bs → clear_bits_from m c ≡ c ∷ clear_bits_from m (suc c)
  found_first b c bs h q =
      let r = subst (Run (unset m) b) q (passing_run (unset m) (1560 - b) b (omega arith)) in
      rw add-one at (pass_yes c (unset m) r.0.small r.0.passes)

  -- what lies before the next clear bit is none
  pub from_next : (b : ℕ) → b ≤ 1560 → clear_bits_from m (next_clear m b) ≡ clear_bits_from m b
  unfolding next_clear
  from_next b h = by (next_in_lem m b h)
    where
      by : NextClearBit m b → clear_bits_from m (next_clear m b) ≡ clear_bits_from m b
      by (ends_in q) =
          let z : next_clear m b ≡ 1560 = rw q in
          ap (clear_bits_from m) z ∙ none_from 1560 (omega arith) ∙ sym q
      by (goes_in c l q) =
          let z : next_clear m b ≡ c = rw q in
          ap (clear_bits_from m) z ∙ found_first b c (clear_bits_from m (suc c)) h q ∙ sym q

  pub next-same : (b : ℕ) → b ≤ 1560 → next_clear m (next_clear m b) ≡ next_clear m b
  unfolding next_clear
  next-same b h = ap (λ (l : List ℕ). get_or l 0 1560) (from_next b h)

  -- a clear bit, and those behind it
  pub from_clear : (b : ℕ) → next_clear m b ≡ b → 0 < length (clear_bits_from m b) → (b < 1560) × (clear_bits_from m b ≡ b ∷ clear_bits_from m (suc b))
  unfolding next_clear
  from_clear b e h =
      ⊎_elim (λ (l : b < 1560). by l (next_in_lem m b (omega arith))) (λ (l : 1560 ≤ b). absurd (omega (arith, ap length (none_from b l)))) (below_or_not b 1560)
    where
      by : b < 1560 → NextClearBit m b → (b < 1560) × (clear_bits_from m b ≡ b ∷ clear_bits_from m (suc b))
      by l (ends_in q) = absurd (omega (arith, ap length q))
      by l (goes_in c k q) =
          let z : c ≡ b = sym (rw q) ∙ e in
          (l, subst (λ (x : ℕ). clear_bits_from m b ≡ x ∷ clear_bits_from m (suc x)) z q)

  -- those from the k-th on
  pub from_place : (k b : ℕ) → b ≤ 1560 → drop k (clear_bits_from m b) ≡ clear_bits_from m (get_or (clear_bits_from m b) k 1560)
  unfolding next_clear
  from_place zero b h = sym (from_next b h)
  from_place (suc k) b h = by (next_in_lem m b h) (λ c l. from_place k (suc c) l)
    where
      by : NextClearBit m b → ((c : ℕ) → suc c ≤ 1560 → drop k (clear_bits_from m (suc c)) ≡ clear_bits_from m (get_or (clear_bits_from m (suc c)) k 1560))
          → drop (suc k) (clear_bits_from m b) ≡ clear_bits_from m (get_or (clear_bits_from m b) (suc k) 1560)
      by (ends_in q) ih = rw q (sym (none_from 1560 (omega arith)))
      by (goes_in c l q) ih = rw q (ih c l)

  pub place_clear : (k : ℕ) → next_clear m (get_or (clear_bits m) k 1560) ≡ get_or (clear_bits m) k 1560
  unfolding next_clear
  place_clear k =
      ap (λ (l : List ℕ). get_or l 0 1560) (sym (from_place k 0 (omega arith))) ∙ get_or-drop k (clear_bits m) 0 1560
      ∙ ap (λ (n : ℕ). get_or (clear_bits m) n 1560) (add-zero k)
