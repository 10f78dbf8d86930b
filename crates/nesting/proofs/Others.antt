-- Another live slot in a directory, as the loop looks for it among the slots that are not erased yet; and row 29.
use Prim.Native.Nat.{ℕ, ◌+◌, ◌≤◌, ◌<◌}
use mathlib.Core.Path.{◌≡◌, refl, sym, ap, ◌∙◌}
use mathlib.Core.Bool.{Bool, true, false, cond, not, ◌&&◌, and-false}
use mathlib.Core.List.{List, []}
use mathlib.Core.Logic.{⊎_elim}
use mathlib.Core.Option.{Option, none, some, some-ne-none}
use native.Mathlib.Omega.{arith}
use borrow.Author.Tests.{eq-eqb, ne_eqb}
use lib.Dec.{eqb}
use Rattle.buffers.specs.Bytes.{any}
use Rattle.buffers.proofs.Lists.{below_or_not}
use Rattle.buffers.proofs.Counts.{any-more, any_none, none_any, any_some, any_cong}
use Rattle.maps.specs.Bits.{has}
use Rattle.maps.proofs.Laws.{has_past}
use Rattle.slots.specs.Slot.{is_directory, code_of, parent_of}
use Rattle.directory.specs.Places.{slots}
use Rattle.directory.specs.Directory.{fold_option, Directory, directory, slots_read, slot_or}
use Rattle.directory.proofs.Ends.{slot_read}
use Rattle.directory.proofs.Live.{directory-some, directory-unread}
use Rattle.trees.specs.Tree.{occupied}
use Rattle.nesting.specs.Steps.{not_erased, in_other}

-- ---- what is left

module _ (v : Directory) (m : List ℕ) (i : ℕ) where
  pub left-gone : has m i ≡ true → not_erased v m i ≡ none
  unfolding not_erased
  left-gone e = rw e

  pub left_here : has m i ≡ false → not_erased v m i ≡ v i
  unfolding not_erased
  left_here e = rw e

  pub left-none : v i ≡ none → not_erased v m i ≡ none
  unfolding not_erased
  left-none e = by (has m i)
    where
      by : (t : Bool) → cond t none (v i) ≡ none
      by true = refl
      by false = e

  pub left_was : (s : List ℕ) → not_erased v m i ≡ some s → v i ≡ some s
  unfolding not_erased
  left_was s e = by (has m i) e
    where
      by : (t : Bool) → cond t none (v i) ≡ some s → v i ≡ some s
      by true q = absurd (some-ne-none s (sym q))
      by false q = q

-- ---- slot by slot

pub other_start : (v : Directory) (i code : ℕ) → any 0 (in_other v i code) ≡ false
unfolding any
other_start v i code = refl

-- v is what is left of the directory d
module _ (d m : List ℕ) (i code : ℕ) where
  abbrev v : Directory
  v = not_erased (directory d) m

  module _ (j : ℕ) (e : any j (in_other v i code) ≡ false) where
    more : in_other v i code j ≡ false → any (j + 1) (in_other v i code) ≡ false
    more q = any-more j (in_other v i code) ∙ rw (e, q)

    pub other-same : j ≡ i → any (j + 1) (in_other v i code) ≡ false
    unfolding in_other
    other-same q = more (rw (eq-eqb j i q))

    pub other_dead : v j ≡ none → any (j + 1) (in_other v i code) ≡ false
    unfolding in_other
    other_dead q = more (rw q (and-false (not (eqb j i))))

    -- a slot in another directory, live or not
    pub other-elsewhere : (s : List ℕ) → s ≡ slot_or d j → (p : ℕ) → p ≡ parent_of s → (p ≡ code → ⊥) → any (j + 1) (in_other v i code) ≡ false
    unfolding in_other
    other-elsewhere s q p w h = by (v j) refl
      where
        by : (o : Option (List ℕ)) → v j ≡ o → any (j + 1) (in_other v i code) ≡ false
        by none x = other_dead x
        by (some t) x =
            let y = directory-some d j t (left_was (directory d) m j t x) in
            let z : s ≡ t = q ∙ slot_read d j y.0 ∙ sym y.1 in
            more (rw (x, ne_eqb (parent_of t) code (λ u. h (w ∙ ap parent_of z ∙ u))) (and-false (not (eqb j i))))

  pub other-found : (j : ℕ) → j < slots → (j ≡ i → ⊥) → has m j ≡ false → (s : List ℕ) → directory d j ≡ some s → (p : ℕ) → p ≡ parent_of s → p ≡ code
      → any slots (in_other v i code) ≡ true
  unfolding in_other
  other-found j l n g s q p w h =
      any_some slots (in_other v i code) j l (rw (ne_eqb j i n, left_here (directory d) m j g, q, eq-eqb (parent_of s) code (sym w ∙ h)))

  -- past the slots that are read there is none
  pub other_end : (j : ℕ) → any j (in_other v i code) ≡ false → slots_read d ≤ j → any slots (in_other v i code) ≡ false
  unfolding in_other
  other_end j e h =
      none_any slots (in_other v i code)
      (λ k l. ⊎_elim (any_none j (in_other v i code) e k)
      (λ (q : j ≤ k). rw (left-none (directory d) m k (directory-unread d k (omega arith))) (and-false (not (eqb k i)))) (below_or_not k j))

-- ---- row 29

pub occupied_by : (v : Directory) (i : ℕ) (s : List ℕ) → is_directory s ≡ true → (c : ℕ) → c ≡ code_of s → (c ≡ 0 → ⊥) → {r : Bool} → r ≡ any slots (in_other v i c) → r ≡ occupied v i s
unfolding occupied in_other
occupied_by v i s e c q n w = w ∙ ap (λ (x : ℕ). any slots (in_other v i x)) q ∙ rw (e, ne_eqb (code_of s) 0 (λ z. n (q ∙ z)))

-- where no slot is erased
pub occupied_whole : (v : Directory) (i : ℕ) (s : List ℕ) → occupied (not_erased v []) i s ≡ occupied v i s
unfolding occupied
occupied_whole v i s =
    ap (λ (b : Bool). is_directory s && (not (eqb (code_of s) 0) && b))
    (any_cong slots _ _ (λ j l. ap (λ (o : Option (List ℕ)). not (eqb j i) && fold_option false (λ t. eqb (parent_of t) (code_of s)) o)
    (left_here v [] j (has_past [] j (omega arith)))))
