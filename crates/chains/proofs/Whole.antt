-- A chain is not broken exactly where it is whole.
use Prim.Native.Nat.{ℕ, zero, suc, ◌-◌, ◌≤◌, ◌<◌}
use mathlib.Core.Path.{◌≡◌, refl, sym, ap, ap₂, ◌∙◌}
use mathlib.Core.Bool.{true, false, and-eq-true_iff}
use mathlib.Core.List.{List}
use native.Mathlib.Omega.{arith}
use borrow.Author.Tests.{eqb-true}
use lib.Dec.{eqb}
use lib.ListN.{length, get_or}
use Rattle.buffers.specs.Bytes.{tab}
use Rattle.buffers.proofs.Lists.{length-tab, get_or-tab}
use Rattle.geometry.specs.Disk.{bit_of}
use Rattle.geometry.proofs.Laws.{bit_data, data_bit_lem, address-bit}
use Rattle.slots.specs.Slot.{SlotFields}
use Rattle.chains.specs.Chain.{linked_bit, is_last, broken, chain_bit}
use Rattle.chains.specs.Whole.{LinksTo, LastLink, WholeChain}
use Rattle.chains.proofs.Laws.{has-small, Steps, chain_steps, steps_chain}

-- ---- a sector's last two bytes

next-links : (h : List ℕ) → linked_bit h < 1560 → LinksTo h (linked_bit h)
unfolding linked_bit
next-links h l =
    let b = data_bit_lem (get_or h 510 0) (get_or h 511 0) (bit_data (get_or h 510 0) (get_or h 511 0) l) in
    record { track = sym b.track; sector = sym b.sector }

links-next : (h : List ℕ) (b : ℕ) → b < 1560 → LinksTo h b → linked_bit h ≡ b
unfolding linked_bit
links-next h b l w = ap₂ bit_of w.track w.sector ∙ address-bit b l

is-last : (h : List ℕ) → is_last h ≡ true → LastLink h
unfolding is_last
is-last h e =
    let p = (and-eq-true_iff (eqb (get_or h 510 0) 0) (eqb (get_or h 511 0) 0)).0 e in
    record { track = eqb-true (get_or h 510 0) 0 p.0; sector = eqb-true (get_or h 511 0) 0 p.1 }

last-is : (h : List ℕ) → LastLink h → is_last h ≡ true
unfolding is_last
last-is h w = rw (w.track, w.sector)

-- ---- the chain

module _ (x : SlotFields) (sec : ℕ → List ℕ) (small : length x.map ≤ 195) (some : 1 ≤ x.count) where
  pub whole : broken x sec ≡ false → WholeChain x sec
  unfolding chain_bit
  whole e =
      record {
        chain = tab x.count (chain_bit sec x.first);
        long = long;
        own = λ k l. rw (at k (omega (arith, long))) (steps.own k (omega (arith, long)));
        distinct = λ j k l m q.
            steps.apart j k l (omega (arith, long)) (sym (at j (omega (arith, long))) ∙ q ∙ at k (omega (arith, long)));
        starts = at 0 some;
        links = λ k l. rw (at k (omega (arith, long)), at (suc k) (omega (arith, long))) (link k (omega (arith, long)));
        last = λ k l. rw (at k (omega (arith, long))) (final k (omega (arith, long)));
      }
    where
      steps : Steps x.map sec (x.count - 1) x.first (λ c. false)
      steps = chain_steps x sec e

      long : length (tab x.count (chain_bit sec x.first)) ≡ x.count
      long = length-tab x.count (chain_bit sec x.first)

      at : (k : ℕ) → k < x.count → get_or (tab x.count (chain_bit sec x.first)) k 0 ≡ chain_bit sec x.first k
      at k l = get_or-tab x.count (chain_bit sec x.first) k l

      link : (k : ℕ) → suc k < x.count → LinksTo (sec (chain_bit sec x.first k)) (chain_bit sec x.first (suc k))
      link k l = next-links (sec (chain_bit sec x.first k)) (has-small x.map (chain_bit sec x.first (suc k)) small (steps.own (suc k) (omega arith)))

      final : (k : ℕ) → suc k ≡ x.count → LastLink (sec (chain_bit sec x.first k))
      final k l = let q : k ≡ x.count - 1 = omega arith in rw q (is-last (sec (chain_bit sec x.first (x.count - 1))) steps.last)

  pub of_whole : WholeChain x sec → broken x sec ≡ false
  unfolding chain_bit
  of_whole w =
      steps_chain x sec
      (record {
        own = λ i l. rw (at i (omega arith)) (w.own i (omega (arith, w.long)));
        fresh = λ i l. refl;
        apart = λ i k l m q.
            w.distinct i k l (omega (arith, w.long)) (sym (at i (omega arith)) ∙ q ∙ at k (omega arith));
        last = rw (at (x.count - 1) (omega arith)) (last-is (sec (get_or w.chain (x.count - 1) 0)) (w.last (x.count - 1) (omega (arith, w.long))));
      })
    where
      at : (k : ℕ) → k < x.count → chain_bit sec x.first k ≡ get_or w.chain k 0
      at zero l = sym w.starts
      at (suc k) l =
          let m : suc k < length w.chain = omega (arith, w.long) in
          ap (λ (b : ℕ). linked_bit (sec b)) (at k (omega arith))
          ∙ links-next (sec (get_or w.chain k 0)) (get_or w.chain (suc k) 0) (has-small x.map (get_or w.chain (suc k) 0) small (w.own (suc k) m)) (w.links k m)
