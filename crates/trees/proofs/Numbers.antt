-- The numbers 26 to 28 are given of none exactly where every directory has a code of its own, every live slot is in the root
-- or in a directory, and no directory lies beneath itself.
use Prim.Native.Nat.{ℕ, zero, suc, ◌+◌, ◌≤◌, ◌<◌}
use mathlib.Core.Path.{◌≡◌, refl, sym, ap, ◌∙◌}
use mathlib.Core.Bool.{Bool, true, false, not, cond, ◌&&◌, ◌||◌, true≢false}
use mathlib.Core.List.{List, [], ◌∷◌}
use mathlib.Core.Option.{Option, none, some, some-ne-none}
use native.Mathlib.Omega.{arith}
use borrow.Author.Tests.{eqb-true, eqb-false, eq-eqb, ne_eqb, not-true, not-false}
use lib.Dec.{eqb}
use Rattle.buffers.specs.Bytes.{any}
use Rattle.buffers.proofs.Tests.{or_neither}
use Rattle.buffers.proofs.Counts.{any_none, none_any, any_some, some-any}
use Rattle.refusals.specs.Order.{Reply, ◌when◌, row, rows, scan}
use Rattle.refusals.proofs.First.{else_none, none_else, rows_clear, clear_rows, scan-none, none-scan}
use Rattle.slots.specs.Slot.{is_directory, code_of, parent_of}
use Rattle.directory.specs.Places.{slots}
use Rattle.directory.specs.Directory.{fold_option, Directory}
use Rattle.surveys.specs.Survey.{earlier}
use Rattle.trees.specs.Tree.{coded, in_cycle, code_at, nesting_rows, place_at, tree_reply}
use Rattle.trees.specs.Beneath.{LiveSlot, DirectorySlot, Beneath, WellNested}
use Rattle.trees.proofs.Up.{Coded, coded-is, is-coded, OwnCodes, under_itself, itself_under}

-- ---- at a slot

-- 26 at a live slot
abbrev wrong : Directory → ℕ → List ℕ → Bool
wrong v i s = is_directory s && (eqb (code_of s) 0 || earlier v i (coded (code_of s)))

pub code-live : (v : Directory) (i : ℕ) (s : List ℕ) → v i ≡ some s
    → code_at v i ≡ row 26 (suc i) (wrong v i s)
unfolding code_at
code-live v i s e = rw e

pub code_dead : (v : Directory) (i : ℕ) → v i ≡ none → code_at v i ≡ none
unfolding code_at
code_dead v i e = rw e

pub place-live : (v : Directory) (i : ℕ) (s : List ℕ) → v i ≡ some s → place_at v i ≡ rows (suc i) (nesting_rows v s)
unfolding place_at
place-live v i s e = rw e

pub place_dead : (v : Directory) (i : ℕ) → v i ≡ none → place_at v i ≡ none
unfolding place_at
place_dead v i e = rw e

-- ---- an earlier directory with a code

pub earlier-coded : (v : Directory) (i c : ℕ) → i ≤ slots → earlier v i (coded c) ≡ true → (w : Coded v c) × (w.at < i)
unfolding earlier
earlier-coded v i c h e = let w = some-any i (λ j. fold_option false (coded c) (v j)) e in by w.0 w.1 (v w.0) refl w.2
  where
    by : (j : ℕ) → j < i → (o : Option (List ℕ)) → v j ≡ o → fold_option false (coded c) o ≡ true → (w : Coded v c) × (w.at < i)
    by j l none p q = absurd (true≢false (sym q))
    by j l (some t) p q =
        let d = coded-is c t q in
        (record { at = j; bytes = t; is-directory = record { live = record { below = omega arith; here = p }; is-directory = d.0 }; code = d.1 }, l)

pub coded-earlier : (v : Directory) (i c : ℕ) (w : Coded v c) → w.at < i → earlier v i (coded c) ≡ true
unfolding earlier
coded-earlier v i c w l =
    any_some i (λ j. fold_option false (coded c) (v j)) w.at l
    (ap (fold_option false (coded c)) w.is-directory.live.here ∙ is-coded c w.bytes w.is-directory.is-directory w.code)

-- ---- none given, nothing wrong

pub and_right : (a b : Bool) → (a && b) ≡ false → a ≡ true → b ≡ false
and_right true b e q = e
and_right false b e q = absurd (true≢false (sym q))

not_both : {A : Type 0} (t : Bool) → t ≡ false → t ≡ true → A
not_both t p q = absurd (true≢false (sym q ∙ p))

module _ (v : Directory) where
  code-own : scan slots (code_at v) ≡ none → (i : ℕ) (s : List ℕ) → DirectorySlot v i s → (eqb (code_of s) 0 ≡ false) × (earlier v i (coded (code_of s)) ≡ false)
  code-own e i s f =
      let c = rows_clear (suc i) ((26 when wrong v i s) ∷ []) (sym (code-live v i s f.live.here) ∙ scan-none slots (code_at v) e i f.live.below) in
      or_neither _ _ (and_right (is_directory s) _ c.0 f.is-directory)

  pub apart : scan slots (code_at v) ≡ none → OwnCodes v
  apart e = record {
    own = λ i s f q. not_both _ (code-own e i s f).0 (eq-eqb (code_of s) 0 q);
    unlike = λ i j s t f g l q. not_both _ (code-own e i s f).1 (coded-earlier v i (code_of s) (record { at = j; bytes = t; is-directory = g; code = q }) l);
  }

  apart-only : OwnCodes v → scan slots (code_at v) ≡ none
  apart-only a = none-scan slots (code_at v) (λ i h. at i h (v i) refl)
    where
      own : (i : ℕ) (s : List ℕ) → DirectorySlot v i s → (eqb (code_of s) 0 || earlier v i (coded (code_of s))) ≡ false
      own i s f =
          rw (ne_eqb (code_of s) 0 (a.own i s f)) (early (earlier v i (coded (code_of s))) refl)
        where
          early : (t : Bool) → earlier v i (coded (code_of s)) ≡ t → t ≡ false
          early false q = refl
          early true q =
              let w = earlier-coded v i (code_of s) (omega (arith, f.live.below)) q in
              absurd (a.unlike i w.0.at s w.0.bytes f w.0.is-directory w.1 w.0.code)

      live : (i : ℕ) (s : List ℕ) (t : Bool) → LiveSlot v i s → is_directory s ≡ t → (t && (eqb (code_of s) 0 || earlier v i (coded (code_of s)))) ≡ false
      live i s true l q = own i s (record { live = l; is-directory = q })
      live i s false l q = refl

      at : (i : ℕ) → i < slots → (o : Option (List ℕ)) → v i ≡ o → code_at v i ≡ none
      at i h none q = code_dead v i q
      at i h (some s) q = code-live v i s q ∙ clear_rows (suc i) ((26 when wrong v i s) ∷ []) (live i s (is_directory s) (record { below = h; here = q }) refl, tt)

  pub nested : tree_reply v ≡ none → WellNested v
  unfolding tree_reply
  nested e =
      let p = else_none (scan slots (code_at v)) (scan slots (place_at v)) e in
      let a = apart p.0 in
      record {
        own = a.own;
        unlike = a.unlike;
        placed = λ i s l n. home p.1 i s l n;
        apart = λ i s f u. not_both _ (and_right (is_directory s) _ (clear p.1 i s f.live).1.0 f.is-directory) (under_itself v a i s f u);
      }
    where
      clear : scan slots (place_at v) ≡ none → (i : ℕ) (s : List ℕ) → LiveSlot v i s
          → ((not (eqb (parent_of s) 0) && not (earlier v slots (coded (parent_of s)))) ≡ false) × (((is_directory s && in_cycle v (code_of s)) ≡ false) × Unit {0})
      clear q i s l = rows_clear (suc i) (nesting_rows v s) (sym (place-live v i s l.here) ∙ scan-none slots (place_at v) q i l.below)

      home : scan slots (place_at v) ≡ none → (i : ℕ) (s : List ℕ) → LiveSlot v i s → (parent_of s ≡ 0 → ⊥)
          → (j : ℕ) × (t : List ℕ) × DirectorySlot v j t × (code_of t ≡ parent_of s)
      home q i s l n =
          let z : not (eqb (parent_of s) 0) ≡ true = rw (ne_eqb (parent_of s) 0 n) in
          let w = earlier-coded v slots (parent_of s) (omega arith) (not-false _ (and_right (not (eqb (parent_of s) 0)) _ (clear q i s l).0 z)) in
          (w.0.at, w.0.bytes, w.0.is-directory, w.0.code)

  pub nested-only : WellNested v → tree_reply v ≡ none
  unfolding tree_reply
  nested-only n = none_else (scan slots (code_at v)) (scan slots (place_at v)) (apart-only a) (none-scan slots (place_at v) (λ i h. at i h (v i) refl))
    where
      a : OwnCodes v
      a = record { own = n.own; unlike = n.unlike }

      row27 : (i : ℕ) (s : List ℕ) → LiveSlot v i s → (t : Bool) → eqb (parent_of s) 0 ≡ t → (not t && not (earlier v slots (coded (parent_of s)))) ≡ false
      row27 i s l true q = refl
      row27 i s l false q =
          let w = n.placed i s l (eqb-false (parent_of s) 0 q) in
          rw (coded-earlier v slots (parent_of s) (record { at = w.0; bytes = w.1; is-directory = w.2; code = w.3 }) w.2.live.below)

      row28 : (i : ℕ) (s : List ℕ) → LiveSlot v i s → (t b : Bool) → is_directory s ≡ t → in_cycle v (code_of s) ≡ b → (t && b) ≡ false
      row28 i s l true true p q = let f : DirectorySlot v i s = record { live = l; is-directory = p } in absurd (n.apart i s f (itself_under v a i s f q))
      row28 i s l true false p q = refl
      row28 i s l false b p q = refl

      at : (i : ℕ) → i < slots → (o : Option (List ℕ)) → v i ≡ o → place_at v i ≡ none
      at i h none q = place_dead v i q
      at i h (some s) q =
          let l : LiveSlot v i s = record { below = h; here = q } in
          place-live v i s q ∙ clear_rows (suc i) (nesting_rows v s) (row27 i s l (eqb (parent_of s) 0) refl, (row28 i s l (is_directory s) (in_cycle v (code_of s)) refl refl, tt))
