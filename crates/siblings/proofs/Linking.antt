-- The table while it is made: what it holds where the slots from slot i on are linked.
use Prim.Native.Nat.{ℕ, ◌+◌, ◌-◌, ◌≤◌, ◌<◌}
use mathlib.Core.Path.{◌≡◌, refl, sym, ap, ◌∙◌, subst}
use mathlib.Core.Bool.{Bool, true, false}
use mathlib.Core.List.{List}
use mathlib.Core.Logic.{◌⊎◌, inl, inr}
use mathlib.Core.Option.{none, some}
use native.Mathlib.Numerals.{add-one}
use native.Mathlib.Omega.{arith}
use borrow.Author.Tests.{lt-ltb, le-ltb, eqb-true, eqb-false, eq-eqb, ne_eqb}
use lib.Dec.{eqb}
use lib.ListN.{length, get_or, set, replicate, length-set, length-replicate, get_or-replicate}
use lib.Seq.{get_or-set_same, get_or-set_other}
use Rattle.buffers.proofs.Lists.{below_or_not, tab_of}
use Rattle.refusals.proofs.First.{scan_skip, scan_stop, none-scan_from}
use Rattle.slots.specs.Slot.{parent_of}
use Rattle.directory.specs.Places.{slots}
use Rattle.directory.specs.Directory.{fold_option, Directory}
use Rattle.siblings.specs.Links.{in_at, next_in, next_sibling, link_at, links_of}

pub record Linking (v : Directory) (i : ℕ) (links : List ℕ) : Type 0 where
  pub long : length links ≡ 1034
  pub first : (c : ℕ) → c < 256 → get_or links c 0 ≡ next_in v c i
  pub linked : (k : ℕ) → i ≤ k → k < slots → get_or links (256 + k) 0 ≡ next_sibling v k
  pub unlinked : (k : ℕ) → k < i → k < slots → get_or links (256 + k) 0 ≡ slots

-- ---- one slot less

module _ (v : Directory) (c i : ℕ) where
  in_dead : v i ≡ none → in_at v c i ≡ none
  unfolding in_at
  in_dead e = rw e

  in_other_lem : (s : List ℕ) → v i ≡ some s → (parent_of s ≡ c → ⊥) → in_at v c i ≡ none
  unfolding in_at
  in_other_lem s e h = rw (e, ne_eqb (parent_of s) c h)

  in_here : (s : List ℕ) → v i ≡ some s → parent_of s ≡ c → in_at v c i ≡ some i
  unfolding in_at
  in_here s e h = rw (e, eq-eqb (parent_of s) c h)

  next_skip : i < slots → in_at v c i ≡ none → next_in v c (i + 1) ≡ next_in v c i
  unfolding next_in
  next_skip h e = ap (fold_option slots (λ k. k)) (sym (scan_skip slots i (in_at v c) h e))

  next_here : i < slots → in_at v c i ≡ some i → next_in v c i ≡ i
  unfolding next_in
  next_here h e = ap (fold_option slots (λ k. k)) (scan_stop slots i (in_at v c) i h e)

  next-none : ((k : ℕ) → i ≤ k → v k ≡ none) → next_in v c i ≡ slots
  unfolding next_in in_at
  next-none e = ap (fold_option slots (λ k. k)) (none-scan_from (slots - i) i (in_at v c) (λ k l h. rw (e k l)))

module _ (v : Directory) where
  -- past the slots that are read there is none to link
  pub linking_none : (i : ℕ) (links : List ℕ) → links ≡ replicate 1034 slots → ((k : ℕ) → i ≤ k → v k ≡ none) → Linking v i links
  unfolding next_sibling
  linking_none i links q e = record {
    long = ap length q ∙ length-replicate {A = ℕ} 1034 slots;
    first = λ c h. at c (omega arith) ∙ sym (next-none v c i e);
    linked = λ k h m. at (256 + k) (omega arith) ∙ rw (e k h);
    unlinked = λ k h m. at (256 + k) (omega arith);
  }
    where
      at : (k : ℕ) → k < 1034 → get_or links k 0 ≡ slots
      at k h = ap (λ (l : List ℕ). get_or l k 0) q ∙ get_or-replicate 1034 k slots 0 h

  module _ (i : ℕ) (links : List ℕ) (t : Linking v (i + 1) links) (h : i < slots) where
    dead : v i ≡ none → Linking v i links
    unfolding next_sibling
    dead e = record {
      long = t.long;
      first = λ c l. t.first c l ∙ next_skip v c i h (in_dead v c i e);
      linked = λ k l m. by k l m (eqb k i) refl;
      unlinked = λ k l m. t.unlinked k (omega arith) m;
    }
      where
        by : (k : ℕ) → i ≤ k → k < slots → (b : Bool) → eqb k i ≡ b → get_or links (256 + k) 0 ≡ next_sibling v k
        by k l m true q = let z : k ≡ i = eqb-true k i q in rw (z, e) (t.unlinked i (omega arith) h)
        by k l m false q = t.linked k (let z = eqb-false k i q in omega arith) m

    -- put in front of those that its directory has
    live : (s : List ℕ) → v i ≡ some s → (p : ℕ) → p ≡ parent_of s → p < 256 → Linking v i (set (set links (256 + i) (get_or links p 0)) p i)
    unfolding next_sibling
    live s e p q l = record {
      long = length-set (set links (256 + i) (get_or links p 0)) p i ∙ length-set links (256 + i) (get_or links p 0) ∙ t.long;
      first = λ c m. front c m (eqb c p) refl;
      linked = λ k m w. by k m w (eqb k i) refl;
      unlinked = λ k m w. past k (λ z. omega arith) ∙ t.unlinked k (omega arith) w;
    }
      where
        once : List ℕ
        once = set links (256 + i) (get_or links p 0)

        front : (c : ℕ) → c < 256 → (b : Bool) → eqb c p ≡ b → get_or (set once p i) c 0 ≡ next_in v c i
        front c m true w =
            let z : c ≡ p = eqb-true c p w in
            rw z (get_or-set_same once p i 0 (omega (arith, length-set links (256 + i) (get_or links p 0), t.long)) ∙ sym (next_here v p i h (in_here v p i s e (sym q))))
        front c m false w =
            let n = eqb-false c p w in
            get_or-set_other once p c i 0 n ∙ get_or-set_other links (256 + i) c (get_or links p 0) 0 (λ z. omega arith) ∙ t.first c m
            ∙ next_skip v c i h (in_other_lem v c i s e (λ z. n (sym z ∙ sym q)))

        past : (k : ℕ) → (k ≡ i → ⊥) → get_or (set once p i) (256 + k) 0 ≡ get_or links (256 + k) 0
        past k n = get_or-set_other once p (256 + k) i 0 (λ z. omega arith) ∙ get_or-set_other links (256 + i) (256 + k) (get_or links p 0) 0 (λ z. n (omega arith))

        own : get_or (set once p i) (256 + i) 0 ≡ next_sibling v i
        own =
            get_or-set_other once p (256 + i) i 0 (λ z. omega arith) ∙ get_or-set_same links (256 + i) (get_or links p 0) 0 (omega (arith, t.long))
            ∙ t.first p l ∙ rw (e, add-one i, q)

        by : (k : ℕ) → i ≤ k → k < slots → (b : Bool) → eqb k i ≡ b → get_or (set once p i) (256 + k) 0 ≡ next_sibling v k
        by k m w true z = let y : k ≡ i = eqb-true k i z in rw y own
        by k m w false z = let y = eqb-false k i z in past k y ∙ t.linked k (omega arith) w

  -- as the loop counts
  module _ (i : ℕ) (links : List ℕ) (t : Linking v i links) (o : 0 < i) (h : i - 1 < slots) where
    counted : Linking v (i - 1 + 1) links
    counted = let z : i ≡ i - 1 + 1 = omega arith in subst (λ (k : ℕ). Linking v k links) z t

    pub linking_dead : v (i - 1) ≡ none → Linking v (i - 1) links
    linking_dead e = dead (i - 1) links counted h e

    pub linking_live : (s : List ℕ) → v (i - 1) ≡ some s → (p : ℕ) → p ≡ parent_of s → p < 256 → Linking v (i - 1) (set (set links (256 + (i - 1)) (get_or links p 0)) p (i - 1))
    linking_live s e p q l = live (i - 1) links counted h s e p q l

  pub linking_all : (i : ℕ) (links : List ℕ) → Linking v i links → i ≤ 0 → links ≡ links_of v
  unfolding links_of
  linking_all i links t z = tab_of 1034 (link_at v) links t.long (λ k h. by k h (below_or_not k 256))
    where
      o : i ≡ 0
      o = omega arith

      by : (k : ℕ) → k < 1034 → (k < 256) ⊎ (256 ≤ k) → get_or links k 0 ≡ link_at v k
      by k h (inl l) = t.first k l ∙ rw (lt-ltb k 256 l, o)
      by k h (inr l) =
          let y : 256 + (k - 256) ≡ k = omega arith in
          ap (λ (m : ℕ). get_or links m 0) (sym y) ∙ t.linked (k - 256) (omega arith) (omega arith) ∙ rw (le-ltb k 256 l)
