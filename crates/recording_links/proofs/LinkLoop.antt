-- Along the clear bits of a map: how far their sectors are known to lead to the next.
use Prim.Native.Nat.{ℕ, zero, suc, ◌+◌, ◌-◌, ◌≤◌, ◌<◌, min}
use Rattle.std.specs.Prelude.{None, Some}
use mathlib.Core.Path.{◌≡◌, refl, sym, ap, ap₂, ◌∙◌, subst}
use mathlib.Core.Bool.{Bool, true, false, cond, not, ◌||◌}
use mathlib.Core.List.{List, [], ◌∷◌}
use mathlib.Core.Logic.{⊎_elim}
use native.Mathlib.Nat.{not-suc-le-zero, le_of_suc-le-suc}
use native.Mathlib.Omega.{arith}
use lib.ListN.{length, get_or, length-take}
use lib.Seq.{get_or-take}
use Rattle.buffers.specs.Bytes.{any}
use Rattle.buffers.proofs.Lists.{below_or_not}
use Rattle.buffers.proofs.Counts.{any-more, any_none, none_any, any_some}
use Rattle.chains.specs.File.{sector_at}
use Rattle.plans.proofs.Free.{passing_run, run_at}
use Rattle.allocation.specs.Taken.{unset, lowest_clear_bits, next_clear}
use Rattle.allocation.proofs.Next.{clear_bits, clear_first, clear_next}
use Rattle.recordings.specs.Recording.{inner_sectors, leads_to, lacks_link}
use Rattle.recording_links.specs.LinkedSectors.{next_bit, continuation_along}

-- where there is a k-th, whatever else were given
any_default : (l : List ℕ) (k x y : ℕ) → k < length l → get_or l k x ≡ get_or l k y
any_default [] k x y h = absurd (not-suc-le-zero h)
any_default (a ∷ l) zero x y h = refl
any_default (a ∷ l) (suc k) x y h = any_default l k x y (le_of_suc-le-suc h)

past_default : (l : List ℕ) (k x : ℕ) → length l ≤ k → get_or l k x ≡ x
past_default [] k x h = refl
past_default (a ∷ l) zero x h = absurd (not-suc-le-zero h)
past_default (a ∷ l) (suc k) x h = past_default l k x (le_of_suc-le-suc h)

module _ (d m : List ℕ) (n : ℕ) where
  abbrev all : List ℕ
  all = clear_bits m

  abbrev bits : List ℕ
  bits = lowest_clear_bits m n

  -- the k-th of them is a bit exactly where there is one
  is-bit : (k : ℕ) → k < length all → get_or all k 1560 < 1560
  is-bit k h = subst (λ (x : ℕ). x < 1560) (any_default all k 0 1560 h) (run_at (unset m) 0 all (passing_run (unset m) 1560 0 (omega arith)) k h).small

  there : (k : ℕ) → get_or all k 1560 < 1560 → k < length all
  there k h = ⊎_elim (λ (l : k < length all). l) (λ (l : length all ≤ k). absurd (omega (arith, past_default all k 1560 l))) (below_or_not k (length all))

  none : (k : ℕ) → 1560 ≤ get_or all k 1560 → length all ≤ k
  none k h = ⊎_elim (λ (l : k < length all). absurd (omega (arith, is-bit k l))) (λ (l : length all ≤ k). l) (below_or_not k (length all))

  bits-long : length bits ≡ min n (length all)
  unfolding lowest_clear_bits
  bits-long = length-take n all

  bit_at : (k : ℕ) → k < n → k < length all → get_or bits k 0 ≡ get_or all k 1560
  unfolding lowest_clear_bits
  bit_at k h l = get_or-take n all k 0 h ∙ any_default all k 0 1560 l

  -- the pair behind the j-th bit is no link
  abbrev unled : ℕ → Bool
  unled j = not (leads_to (sector_at d (get_or bits (suc j) 0)) (get_or bits (suc (suc j)) 0))

  fewer : (j k : ℕ) → k ≤ j → any j unled ≡ false → any k unled ≡ false
  fewer j k h e = none_any k unled (λ i l. any_none j unled e i (omega arith))

  -- the walk ends with no fault where the chain has no further pair
  ended : (j : ℕ) → any j unled ≡ false → length bits ≤ j + 2 → (x : ℕ) → x ≡ get_or all (1 + inner_sectors n) 1560 → Some x ≡ continuation_along d m n
  unfolding lacks_link continuation_along next_bit
  ended j e h x q = sym (ap (λ (t : Bool). cond t None (Some (get_or all (1 + inner_sectors n) 1560))) (fewer j (length bits - 2) (omega arith) e) ∙ ap Some (sym q))

  -- and there is no next where the map has too few clear bits
  out : (j : ℕ) → any j unled ≡ false → length all ≤ j + 2 → length all ≤ 1 + inner_sectors n → Some 1560 ≡ continuation_along d m n
  out j e h l = ended j e (omega (arith, bits-long)) 1560 (sym (past_default all (1 + inner_sectors n) 1560 l))

  pub no_first : (x : ℕ) → x ≡ next_clear m 0 → 1560 ≤ x → Some 1560 ≡ continuation_along d m n
  unfolding any
  no_first x e h = let z : length all ≤ 0 = none 0 (subst (λ (y : ℕ). 1560 ≤ y) (e ∙ clear_first m) h) in out 0 refl (omega arith) (omega arith)

  -- of k sectors all that are looked at lead on, and b is the bit of the next of them
  pub record Walked (b k : ℕ) : Type 0 where
    pub least : 2 ≤ k
    pub few : inner_sectors k ≤ inner_sectors n
    pub at : b ≡ get_or (clear_bits m) (suc (inner_sectors k)) 1560
    pub fine : any (inner_sectors k) unled ≡ false

  pub walk_start : (x : ℕ) → x ≡ next_clear m 0 → x < 1560 → (b : ℕ) → b ≡ next_clear m (x + 1) → Walked b 2
  unfolding any
  walk_start x e h b q =
      let z : x + 1 ≡ suc (get_or (clear_bits m) 0 1560) = omega (arith, e ∙ clear_first m) in
      record { least = omega arith; few = omega arith; at = q ∙ ap (next_clear m) z ∙ clear_next m 0 (omega (arith, e ∙ clear_first m)); fine = refl }

  module _ (b k : ℕ) (w : Walked b k) where
    pub walk_done : n ≤ k → Some b ≡ continuation_along d m n
    walk_done h =
        let z : suc (inner_sectors k) ≡ 1 + inner_sectors n = omega (arith, w.few) in
        ended (inner_sectors k) w.fine (omega (arith, bits-long, w.least)) b (w.at ∙ ap (λ (j : ℕ). get_or all j 1560) z)

    module _ (s : k < n) where
      pub walk_short : 1560 ≤ b → Some 1560 ≡ continuation_along d m n
      walk_short h =
          let z : length all ≤ suc (inner_sectors k) = none (suc (inner_sectors k)) (subst (λ (y : ℕ). 1560 ≤ y) w.at h) in
          out (inner_sectors k) w.fine (omega arith) (omega (arith, w.few))

      module _ (h : b < 1560) (c : ℕ) (q : c ≡ next_clear m (b + 1)) where
        next-is : c ≡ get_or (clear_bits m) (suc (suc (inner_sectors k))) 1560
        next-is =
            let z : b + 1 ≡ suc (get_or (clear_bits m) (suc (inner_sectors k)) 1560) = omega (arith, w.at) in
            q ∙ ap (next_clear m) z ∙ clear_next m (suc (inner_sectors k)) (omega (arith, w.at))

        pub walk_last : 1560 ≤ c → Some 1560 ≡ continuation_along d m n
        walk_last l =
            let z : length all ≤ suc (suc (inner_sectors k)) = none (suc (suc (inner_sectors k))) (subst (λ (y : ℕ). 1560 ≤ y) next-is l) in
            out (inner_sectors k) w.fine (omega arith) (omega (arith, w.least))

        module _ (l : c < 1560) where
          two : suc (suc (inner_sectors k)) < length all
          two = there (suc (suc (inner_sectors k))) (omega (arith, next-is))

          pair : unled (inner_sectors k) ≡ not (leads_to (sector_at d b) c)
          pair =
              ap₂ (λ (x y : ℕ). not (leads_to (sector_at d x) y)) (bit_at (suc (inner_sectors k)) (omega (arith, w.least)) (omega (arith, two)) ∙ sym w.at)
              (bit_at (suc (suc (inner_sectors k))) (omega (arith, w.least)) two ∙ sym next-is)

          pub walk_fault : leads_to (sector_at d b) c ≡ false → None ≡ continuation_along d m n
          unfolding lacks_link continuation_along
          walk_fault e =
              sym (ap (λ (t : Bool). cond t None (Some (next_bit m n)))
              (any_some (length bits - 2) unled (inner_sectors k) (omega (arith, two, bits-long, w.least)) (pair ∙ ap not e)))

          pub walk_on : leads_to (sector_at d b) c ≡ true → Walked c (k + 1)
          walk_on e =
              let z : suc (inner_sectors k) ≡ inner_sectors (k + 1) = omega (arith, w.least) in
              let y : inner_sectors (k + 1) ≡ inner_sectors k + 1 = omega (arith, w.least) in
              record {
                least = omega (arith, w.least);
                few = omega (arith, w.least);
                at = next-is ∙ ap (λ (j : ℕ). get_or (clear_bits m) (suc j) 1560) z;
                fine = ap (λ (j : ℕ). any j unled) y ∙ any-more (inner_sectors k) unled ∙ ap₂ ◌||◌ w.fine (pair ∙ ap not e);
              }
