-- The walk that tells whether a chain is scattered: so far it is in order.
use Prim.Native.Nat.{ℕ, suc, ◌+◌, ◌-◌, ◌≤◌, ◌<◌}
use mathlib.Core.Path.{◌≡◌, refl, sym, ap, ◌∙◌}
use mathlib.Core.Bool.{true, false, not}
use mathlib.Core.List.{List}
use mathlib.Core.Logic.{⊎_elim}
use native.Mathlib.Nat.{add-zero}
use native.Mathlib.Omega.{arith}
use borrow.Author.Tests.{ne_eqb}
use lib.Dec.{eqb}
use lib.ListN.{get_or}
use Rattle.buffers.specs.Bytes.{part}
use Rattle.buffers.proofs.Lists.{below_or_not}
use Rattle.buffers.proofs.Counts.{any_some}
use Rattle.geometry.specs.Disk.{bit_of, place_or_end}
use Rattle.geometry.proofs.Laws.{place_or_end_lem}
use Rattle.maps.specs.Bits.{has}
use Rattle.slots.specs.Slot.{count_of, first_of, map_of, slot_fields}
use Rattle.chains.specs.File.{file_of, sectors_of}
use Rattle.chains.specs.Chain.{linked_bit, chain_bit}
use Rattle.chains.proofs.Laws.{sectors-own, link_at, linked-own, map-small}
use Rattle.plans.specs.Gathering.{scattered}
use Rattle.plans.proofs.Runs.{in_order}
use Rattle.gathers.specs.Moving.{ChainedSlot}

-- a link, as it is read
pub link_read : (d : List ℕ) (b p t u x : ℕ) → p ≡ place_or_end b → t ≡ get_or d (p + 510) 0 → u ≡ get_or d (p + 511) 0 → x ≡ bit_of t u
    → x ≡ linked_bit (part (place_or_end b) 512 d)
link_read d b p t u x a h g q = q ∙ link_at d p t u h g ∙ ap (λ (p : ℕ). linked_bit (part p 512 d)) a

-- the link of a sector of the slot's own map, where the image e has that sector as it was, leads where the file's does
pub link_own : (d e s : List ℕ) (b : ℕ) → has (map_of s) b ≡ true → part (place_or_end b) 512 e ≡ part (place_or_end b) 512 d
    → (x : ℕ) → x ≡ linked_bit (part (place_or_end b) 512 e) → x ≡ linked_bit (sectors_of d s b)
link_own d e s b o k x q =
    q ∙ ap linked_bit k
    ∙ ap (λ (p : ℕ). linked_bit (part p 512 d)) (place_or_end_lem b (map-small s b o)) ∙ ap linked_bit (sym (sectors-own d s b o))

-- the first k sectors are in order, and bit is the last of them
pub record InOrderLoop (d s : List ℕ) (bit k : ℕ) : Type 0 where
  pub some : 1 ≤ k
  pub few : k ≤ count_of s
  pub at : bit + 1 ≡ first_of s + k
  pub order : (j : ℕ) → j < k → chain_bit (sectors_of d s) (first_of s) j ≡ first_of s + j

module _ (d s : List ℕ) (w : ChainedSlot d s) where
  -- each sector of the chain is the slot's own
  pub chain-own : (j : ℕ) → j < count_of s → has (map_of s) (chain_bit (sectors_of d s) (first_of s) j) ≡ true
  unfolding slot_fields
  chain-own j h = linked-own (slot_fields s) (sectors_of d s) w.whole j h

  pub rising_start : (b : ℕ) → b ≡ first_of s → InOrderLoop d s b 1
  unfolding chain_bit
  rising_start b e = record {
    some = omega arith;
    few = w.some;
    at = omega arith;
    order = λ j h. let z : j ≡ 0 = omega arith in rw z (sym (add-zero (first_of s)));
  }

  module _ (bit k : ℕ) (r : InOrderLoop d s bit k) where
    last-is : chain_bit (sectors_of d s) (first_of s) (k - 1) ≡ bit
    last-is = let z : first_of s + (k - 1) ≡ bit = omega (arith, r.at, r.some) in r.order (k - 1) (omega (arith, r.some)) ∙ z

    own : has (map_of s) bit ≡ true
    own = ap (has (map_of s)) (sym last-is) ∙ chain-own (k - 1) (omega (arith, r.some, r.few))

    pub rising-small : bit < 1560
    rising-small = map-small s bit own

    module _ (h : k < count_of s) (x : ℕ) (e : x ≡ linked_bit (part (place_or_end bit) 512 d)) where
      -- the link that is read is that of the chain
      next-is : x ≡ chain_bit (sectors_of d s) (first_of s) k
      unfolding chain_bit
      next-is =
          let z : k ≡ suc (k - 1) = omega (arith, r.some) in
          link_own d d s bit own refl x e ∙ ap (λ (b : ℕ). linked_bit (sectors_of d s b)) (sym last-is)
          ∙ ap (chain_bit (sectors_of d s) (first_of s)) (sym z)

      pub rising-more : x ≡ bit + 1 → InOrderLoop d s x (k + 1)
      rising-more q = record {
        some = omega arith;
        few = omega arith;
        at = omega (arith, r.at);
        order = λ j m.
            ⊎_elim (λ (l : j < k). r.order j l)
            (λ (l : k ≤ j).
            let z : j ≡ k = omega arith in
            let y : x ≡ first_of s + k = omega (arith, r.at) in
            rw z (sym next-is ∙ y)) (below_or_not j k);
      }

      pub rising_not : (x ≡ bit + 1 → ⊥) → true ≡ scattered (file_of d s)
      unfolding scattered file_of
      rising_not q =
          sym (any_some (count_of s) (λ k. not (eqb (chain_bit (sectors_of d s) (first_of s) k) (first_of s + k))) k h
          (ap not (ne_eqb (chain_bit (sectors_of d s) (first_of s) k) (first_of s + k) (λ z. q (next-is ∙ z ∙ sym r.at)))))

    pub rising_all : count_of s ≤ k → false ≡ scattered (file_of d s)
    unfolding file_of
    rising_all h = sym ((in_order (record { bytes = s; sectors = sectors_of d s })).1 (λ j m. r.order j (omega arith)))
