-- Laws of a file's sectors, and of the sectors that its links lead to.
use Prim.Native.Nat.{ℕ, zero, suc, ◌+◌, ◌-◌, ◌≤◌, ◌<◌}
use mathlib.Core.Path.{◌≡◌, refl, sym, ap, ap₂, ◌∙◌, fun_ext}
use mathlib.Core.Bool.{Bool, true, false, not, cond, ◌&&◌, true≢false, false≢true}
use mathlib.Core.List.{List, []}
use mathlib.Core.Logic.{⊎_elim}
use native.Mathlib.Omega.{arith}
use borrow.Author.Tests.{ne_eqb, eqb-false, not-false}
use lib.Dec.{eqb}
use lib.ListN.{length, get_or}
use Rattle.buffers.specs.Bytes.{part}
use Rattle.buffers.proofs.Lists.{below_or_not, length_part, part_at}
use Rattle.buffers.proofs.Tests.{or_neither}
use Rattle.geometry.specs.Disk.{bit_of}
use Rattle.maps.specs.Bits.{has}
use Rattle.maps.proofs.Laws.{has_past}
use Rattle.slots.specs.Slot.{SlotFields, map_of}
use Rattle.chains.specs.File.{sector_at, sectors_of, file_of}
use Rattle.chains.specs.Chain.{linked_bit, is_last, with_visited, leaves_map, broken, chain_bit}

-- ---- the sectors of a slot's own map

pub sectors-own : (d s : List ℕ) (b : ℕ) → has (map_of s) b ≡ true → sectors_of d s b ≡ sector_at d b
unfolding sectors_of
sectors-own d s b h = rw h

pub sectors_else : (d s : List ℕ) (b : ℕ) → has (map_of s) b ≡ false → sectors_of d s b ≡ []
unfolding sectors_of
sectors_else d s b h = rw h

-- two images that agree on them have one file there
pub sectors_agree : (d e s : List ℕ) → ((b : ℕ) → has (map_of s) b ≡ true → sector_at d b ≡ sector_at e b) → sectors_of d s ≡ sectors_of e s
unfolding sectors_of
sectors_agree d e s h = fun_ext (λ b. by b (has (map_of s) b) refl)
  where
    by : (b : ℕ) (t : Bool) → has (map_of s) b ≡ t → cond t (sector_at d b) [] ≡ cond t (sector_at e b) []
    by b true q = h b q
    by b false q = refl

pub file_agree : (d e s : List ℕ) → ((b : ℕ) → has (map_of s) b ≡ true → sector_at d b ≡ sector_at e b) → file_of d s ≡ file_of e s
unfolding file_of
file_agree d e s h = ap (λ (f : ℕ → List ℕ). record { bytes = s; sectors = f }) (sectors_agree d e s h)

-- a map of at most 195 bytes has no bit from 1,560 on
pub has-small : (m : List ℕ) (b : ℕ) → length m ≤ 195 → has m b ≡ true → b < 1560
has-small m b l h = ⊎_elim (λ k. k) (λ (k : 1560 ≤ b). absurd (false≢true (sym (has_past m b (omega arith)) ∙ h))) (below_or_not b 1560)

pub map-small : (s : List ℕ) (b : ℕ) → has (map_of s) b ≡ true → b < 1560
map-small s b h = has-small (map_of s) b (omega (arith, length_part 15 195 s)) h

-- ---- along the links

-- the link of the sector at a place, read off the image
pub link_at : (d : List ℕ) (a t u : ℕ) → t ≡ get_or d (a + 510) 0 → u ≡ get_or d (a + 511) 0 → bit_of t u ≡ linked_bit (part a 512 d)
unfolding linked_bit
link_at d a t u e f = ap₂ bit_of (e ∙ sym (part_at a 512 d 510 (omega arith))) (f ∙ sym (part_at a 512 d 511 (omega arith)))

taken : (a b x : Bool) → cond (a && not b) x true ≡ false → (a ≡ true) × (b ≡ false) × (x ≡ false)
taken true false x e = (refl, refl, e)
taken true true x e = absurd (true≢false e)
taken false b x e = absurd (true≢false e)

module _ (map : List ℕ) (sec : ℕ → List ℕ) where
  -- n links from bit b on: each leads to a bit of the map that was not passed before, and the last sector is a last one
  pub record Steps (n b : ℕ) (passed : ℕ → Bool) : Type 0 where
    pub own : (i : ℕ) → i ≤ n → has map (chain_bit sec b i) ≡ true
    pub fresh : (i : ℕ) → i ≤ n → passed (chain_bit sec b i) ≡ false
    pub apart : (i k : ℕ) → i < k → k ≤ n → chain_bit sec b i ≡ chain_bit sec b k → ⊥
    pub last : is_last (sec (chain_bit sec b n)) ≡ true

  -- the first link taken first
  pub linked-front : (b i : ℕ) → chain_bit sec b (suc i) ≡ chain_bit sec (linked_bit (sec b)) i
  unfolding chain_bit
  linked-front b zero = refl
  linked-front b (suc i) = ap (λ (c : ℕ). linked_bit (sec c)) (linked-front b i)

  no_steps : (b : ℕ) (passed : ℕ → Bool) → has map b ≡ true → passed b ≡ false → is_last (sec b) ≡ true → Steps 0 b passed
  unfolding chain_bit
  no_steps b passed h f e = record { own = own; fresh = fresh; apart = λ i k l m q. absurd (omega arith); last = e }
    where
      own : (i : ℕ) → i ≤ 0 → has map (chain_bit sec b i) ≡ true
      own zero l = h
      own (suc i) l = absurd (omega arith)

      fresh : (i : ℕ) → i ≤ 0 → passed (chain_bit sec b i) ≡ false
      fresh zero l = f
      fresh (suc i) l = absurd (omega arith)

  more_steps : (n b : ℕ) (passed : ℕ → Bool) → has map b ≡ true → passed b ≡ false → Steps n (linked_bit (sec b)) (with_visited passed b) → Steps (suc n) b passed
  unfolding chain_bit
  more_steps n b passed h f w = record { own = own; fresh = fresh; apart = apart; last = rw (linked-front b n) w.last }
    where
      rest : (i : ℕ) → i ≤ n → (eqb (chain_bit sec b (suc i)) b ≡ false) × (passed (chain_bit sec b (suc i)) ≡ false)
      rest i l = rw (linked-front b i) (or_neither (eqb (chain_bit sec (linked_bit (sec b)) i) b) (passed (chain_bit sec (linked_bit (sec b)) i)) (w.fresh i l))

      own : (i : ℕ) → i ≤ suc n → has map (chain_bit sec b i) ≡ true
      own zero l = h
      own (suc i) l = rw (linked-front b i) (w.own i (omega arith))

      fresh : (i : ℕ) → i ≤ suc n → passed (chain_bit sec b i) ≡ false
      fresh zero l = f
      fresh (suc i) l = (rest i (omega arith)).1

      apart : (i k : ℕ) → i < k → k ≤ suc n → chain_bit sec b i ≡ chain_bit sec b k → ⊥
      apart i zero l m q = absurd (omega arith)
      apart zero (suc k) l m q = eqb-false (chain_bit sec b (suc k)) b (rest k (omega arith)).0 (sym q)
      apart (suc i) (suc k) l m q = w.apart i k (omega arith) (omega arith) (sym (linked-front b i) ∙ q ∙ linked-front b k)

  fewer_steps : (n b : ℕ) (passed : ℕ → Bool) → Steps (suc n) b passed → Steps n (linked_bit (sec b)) (with_visited passed b)
  unfolding chain_bit
  fewer_steps n b passed w =
      record {
        own = λ i l. rw (← linked-front b i) (w.own (suc i) (omega arith));
        fresh = λ i l. rw (← linked-front b i) (fresh i (omega arith));
        apart = λ i k l m q. w.apart (suc i) (suc k) (omega arith) (omega arith) (linked-front b i ∙ q ∙ sym (linked-front b k));
        last = rw (← linked-front b n) w.last;
      }
    where
      fresh : (i : ℕ) → i ≤ n → with_visited passed b (chain_bit sec b (suc i)) ≡ false
      fresh i l = rw (ne_eqb (chain_bit sec b (suc i)) b (λ q. w.apart 0 (suc i) (omega arith) (omega arith) (sym q))) (w.fresh (suc i) (omega arith))

  -- the walk leaves the map nowhere exactly where it takes such steps
  pub leaves_steps : (n b : ℕ) (passed : ℕ → Bool) → has map b ≡ true → passed b ≡ false → leaves_map map sec n b passed ≡ false → Steps n b passed
  unfolding leaves_map
  leaves_steps zero b passed h f e = no_steps b passed h f (not-false (is_last (sec b)) e)
  leaves_steps (suc n) b passed h f e =
      let t = taken (has map (linked_bit (sec b))) (with_visited passed b (linked_bit (sec b))) (leaves_map map sec n (linked_bit (sec b)) (with_visited passed b)) e in
      more_steps n b passed h f (leaves_steps n (linked_bit (sec b)) (with_visited passed b) t.0 t.1 t.2)

  pub steps_leaves : (n b : ℕ) (passed : ℕ → Bool) → Steps n b passed → leaves_map map sec n b passed ≡ false
  unfolding leaves_map chain_bit
  steps_leaves zero b passed w = rw w.last
  steps_leaves (suc n) b passed w =
      let v = fewer_steps n b passed w in
      rw (v.own 0 (omega arith), v.fresh 0 (omega arith)) (steps_leaves n (linked_bit (sec b)) (with_visited passed b) v)

-- a chain that is not broken takes them from the first sector on
pub chain_steps : (x : SlotFields) (sec : ℕ → List ℕ) → broken x sec ≡ false → Steps x.map sec (x.count - 1) x.first (λ c. false)
unfolding broken
chain_steps x sec e = by (has x.map x.first) refl e
  where
    by : (t : Bool) → has x.map x.first ≡ t → cond t (leaves_map x.map sec (x.count - 1) x.first (λ c. false)) true ≡ false
        → Steps x.map sec (x.count - 1) x.first (λ c. false)
    by true h w = leaves_steps x.map sec (x.count - 1) x.first (λ c. false) h refl w
    by false h w = absurd (true≢false w)

pub steps_chain : (x : SlotFields) (sec : ℕ → List ℕ) → Steps x.map sec (x.count - 1) x.first (λ c. false) → broken x sec ≡ false
unfolding broken chain_bit
steps_chain x sec w = rw (w.own 0 (omega arith)) (steps_leaves x.map sec (x.count - 1) x.first (λ c. false) w)

pub linked-own : (x : SlotFields) (sec : ℕ → List ℕ) → broken x sec ≡ false → (i : ℕ) → i < x.count → has x.map (chain_bit sec x.first i) ≡ true
linked-own x sec e i h = (chain_steps x sec e).own i (omega arith)
