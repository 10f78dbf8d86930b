-- A whole chain by its links: where k of them lead, and that past its end they lead nowhere.
use Prim.Native.Nat.{ℕ, zero, suc, ◌≤◌, ◌<◌}
use mathlib.Core.Path.{◌≡◌, refl, sym, ap, ap₂, ◌∙◌}
use mathlib.Core.Bool.{Bool, true, false}
use mathlib.Core.List.{List, []}
use mathlib.Core.Logic.{⊎_elim}
use native.Mathlib.Omega.{arith}
use lib.ListN.{length, get_or}
use Rattle.buffers.proofs.Lists.{below_or_not}
use Rattle.geometry.specs.Disk.{bit_of, is_data}
use Rattle.geometry.proofs.Laws.{address-bit}
use Rattle.maps.specs.Bits.{has}
use Rattle.slots.specs.Slot.{SlotFields, map_of}
use Rattle.chains.specs.Chain.{linked_bit, chain_bit}
use Rattle.chains.specs.Whole.{WholeChain}
use Rattle.chains.proofs.Laws.{has-small, map-small}

-- no slot's map has bit 1,560
pub unmapped : (s : List ℕ) → has (map_of s) 1560 ≡ false
unmapped s = by (has (map_of s) 1560) refl
  where
    by : (t : Bool) → has (map_of s) 1560 ≡ t → t ≡ false
    by true e = absurd (omega (arith, map-small s 1560 e))
    by false e = refl

-- where 0, 0 leads
nowhere : bit_of 0 0 ≡ 1560
unfolding bit_of is_data
nowhere = refl

module _ (x : SlotFields) (sec : ℕ → List ℕ) (some : 1 ≤ x.count) (tight : length x.map ≤ 195) (w : WholeChain x sec) (end : sec 1560 ≡ []) where
  whole-at : (k : ℕ) → k < x.count → chain_bit sec x.first k ≡ get_or w.chain k 0
  unfolding chain_bit linked_bit
  whole-at zero h = sym w.starts
  whole-at (suc k) h =
      let n = w.links k (omega (arith, w.long)) in
      ap (λ (b : ℕ). linked_bit (sec b)) (whole-at k (omega arith)) ∙ ap₂ bit_of n.track n.sector
      ∙ address-bit (get_or w.chain (suc k) 0) (has-small x.map (get_or w.chain (suc k) 0) tight (w.own (suc k) (omega (arith, w.long))))

  pub whole_past : (k : ℕ) → x.count ≤ k → chain_bit sec x.first k ≡ 1560
  unfolding chain_bit linked_bit
  whole_past zero h = absurd (omega arith)
  whole_past (suc k) h = ⊎_elim last (λ m. more (whole_past k m)) (below_or_not k x.count)
    where
      last : k < x.count → linked_bit (sec (chain_bit sec x.first k)) ≡ 1560
      last m = let n = w.last k (omega (arith, w.long)) in ap (λ (b : ℕ). linked_bit (sec b)) (whole-at k m) ∙ ap₂ bit_of n.track n.sector ∙ nowhere

      more : chain_bit sec x.first k ≡ 1560 → linked_bit (sec (chain_bit sec x.first k)) ≡ 1560
      more m = ap (λ (b : ℕ). linked_bit (sec b)) m ∙ ap linked_bit end ∙ nowhere
