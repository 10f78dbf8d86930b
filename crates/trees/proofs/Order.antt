-- The refusal of 26 to 28 is the first in the order.
use Prim.Native.Nat.{ℕ, zero, suc, ◌+◌, ◌≤◌, ◌<◌}
use mathlib.Core.Path.{◌≡◌, refl, sym, ap, ap₂, ◌∙◌, subst}
use mathlib.Core.Bool.{Bool, true, false, not, cond, ◌&&◌, ◌||◌, true≢false}
use mathlib.Core.List.{List, [], ◌∷◌}
use mathlib.Core.Logic.{◌⊎◌, inl, inr, ⊎_elim}
use mathlib.Core.Option.{Option, none, some, some-ne-none}
use native.Mathlib.Omega.{arith}
use borrow.Author.Tests.{eqb-true, eqb-false, eq-eqb, ne_eqb, not-true, not-false}
use lib.Dec.{eqb}
use Rattle.buffers.proofs.Tests.{and_both, or_either, or_neither}
use Rattle.refusals.specs.Order.{Refusal, refuse, Reply, ◌when◌, row, rows, scan, FirstRow, FirstAt}
use Rattle.refusals.proofs.First.{else_some, rows_clear, rows-first, scan-none, none-scan, scan-first, first-scan}
use Rattle.slots.specs.Slot.{is_directory, code_of, parent_of}
use Rattle.directory.specs.Places.{slots}
use Rattle.directory.specs.Directory.{fold_option, Directory}
use Rattle.surveys.specs.Survey.{earlier}
use Rattle.trees.specs.Tree.{coded, in_cycle, code_at, nesting_rows, place_at, tree_reply}
use Rattle.trees.specs.Beneath.{LiveSlot, DirectorySlot, Beneath, BadCode, Orphan, InCycle, WellPlaced, NestingGives, by_code, by_parent, by_cycle}
use Rattle.trees.proofs.Up.{Coded, OwnCodes, same_bytes_lem, under_itself, itself_under}
use Rattle.trees.proofs.Numbers.{code-live, code_dead, place-live, place_dead, earlier-coded, coded-earlier, and_right, apart}

refusal_is : (r : Refusal) (n s : ℕ) → r.number ≡ n → r.slot ≡ s → r ≡ refuse n s
refusal_is r n s p q = ap₂ refuse p q

module _ (v : Directory) (i : ℕ) (h : i < slots) where
  abbrev test : List ℕ → Bool
  test s = is_directory s && (eqb (code_of s) 0 || earlier v i (coded (code_of s)))

  -- 26 at a slot
  code-given : (r : Refusal) → code_at v i ≡ some r → BadCode v i × (r ≡ refuse 26 (suc i))
  code-given r e = by (v i) refl
    where
      by_test : (s : List ℕ) → v i ≡ some s → test s ≡ true → BadCode v i
      by_test s q w =
          let p = and_both (is_directory s) (eqb (code_of s) 0 || earlier v i (coded (code_of s))) w in
          record {
            bytes = s;
            is-directory = record { live = record { below = h; here = q }; is-directory = p.0 };
            why = ⊎_elim (λ z. inl (eqb-true (code_of s) 0 z))
                (λ z. let c = earlier-coded v i (code_of s) (omega arith) z in inr (c.0.at, c.0.bytes, c.0.is-directory, c.1, c.0.code))
                (or_either (eqb (code_of s) 0) (earlier v i (coded (code_of s))) p.1);
          }

      by : (o : Option (List ℕ)) → v i ≡ o → BadCode v i × (r ≡ refuse 26 (suc i))
      by none q = absurd (some-ne-none r (sym e ∙ code_dead v i q))
      by (some s) q =
          let f = rows-first (suc i) ((26 when test s) ∷ []) r (sym (code-live v i s q) ∙ e) in
          ⊎_elim (λ c. (by_test s q c.0, refusal_is r 26 (suc i) (sym c.1) f.1)) (λ c. absurd c.1) f.0

  code_clear : code_at v i ≡ none → BadCode v i → ⊥
  code_clear e w =
      let s : List ℕ = w.bytes in
      let c = rows_clear (suc i) ((26 when test s) ∷ []) (sym (code-live v i s w.is-directory.live.here) ∙ e) in
      let p = or_neither (eqb (code_of s) 0) (earlier v i (coded (code_of s))) (and_right (is_directory s) _ c.0 w.is-directory.is-directory) in
      ⊎_elim (λ z. eqb-false (code_of s) 0 p.0 z)
      (λ z. true≢false (sym (coded-earlier v i (code_of s) (record { at = z.0; bytes = z.1; is-directory = z.2; code = z.4 }) z.3) ∙ p.1)) w.why

  -- 27 and 28 at a slot, where every code is own
  module _ (a : OwnCodes v) where
    abbrev lost : List ℕ → Bool
    lost s = not (eqb (parent_of s) 0) && not (earlier v slots (coded (parent_of s)))

    is_lost : (s : List ℕ) → LiveSlot v i s → lost s ≡ true → Orphan v i
    is_lost s l w =
        let p = and_both (not (eqb (parent_of s) 0)) (not (earlier v slots (coded (parent_of s)))) w in
        record {
          bytes = s;
          live = l;
          nonzero = eqb-false (parent_of s) 0 (not-true _ p.0);
          nowhere = λ j t f q. true≢false (sym (coded-earlier v slots (parent_of s) (record { at = j; bytes = t; is-directory = f; code = q }) f.live.below) ∙ not-true _ p.1);
        }

    not_lost : (s : List ℕ) → LiveSlot v i s → lost s ≡ false → Orphan v i → ⊥
    not_lost s l w x =
        let e : s ≡ x.bytes = same_bytes_lem l x.live in
        let n : not (eqb (parent_of s) 0) ≡ true = ap not (ne_eqb (parent_of s) 0 (λ q. x.nonzero (ap parent_of (sym e) ∙ q))) in
        let c = earlier-coded v slots (parent_of s) (omega arith) (not-false _ (and_right (not (eqb (parent_of s) 0)) _ w n)) in
        x.nowhere c.0.at c.0.bytes c.0.is-directory (c.0.code ∙ ap parent_of e)

    is_knot : (s : List ℕ) → LiveSlot v i s → (is_directory s && in_cycle v (code_of s)) ≡ true → InCycle v i
    is_knot s l w =
        let p = and_both (is_directory s) (in_cycle v (code_of s)) w in
        let f : DirectorySlot v i s = record { live = l; is-directory = p.0 } in
        record { bytes = s; is-directory = f; under = itself_under v a i s f p.1 }

    not_knot : (s : List ℕ) → LiveSlot v i s → (is_directory s && in_cycle v (code_of s)) ≡ false → InCycle v i → ⊥
    not_knot s l w x =
        let e : x.bytes ≡ s = same_bytes_lem x.is-directory.live l in
        let t : in_cycle v (code_of s) ≡ true = ap (λ (u : List ℕ). in_cycle v (code_of u)) (sym e) ∙ under_itself v a i x.bytes x.is-directory x.under in
        true≢false (sym t ∙ and_right (is_directory s) _ w (ap is_directory (sym e) ∙ x.is-directory.is-directory))

    place_clear : place_at v i ≡ none → WellPlaced v i
    place_clear e = by (v i) refl
      where
        by : (o : Option (List ℕ)) → v i ≡ o → WellPlaced v i
        by none q = (λ x. some-ne-none x.bytes (sym x.live.here ∙ q), λ x. some-ne-none x.bytes (sym x.is-directory.live.here ∙ q))
        by (some s) q =
            let l : LiveSlot v i s = record { below = h; here = q } in
            let c = rows_clear (suc i) (nesting_rows v s) (sym (place-live v i s q) ∙ e) in
            (not_lost s l c.0, not_knot s l c.1.0)

    place-given : (r : Refusal) → place_at v i ≡ some r → (Orphan v i × (r ≡ refuse 27 (suc i))) ⊎ ((Orphan v i → ⊥) × InCycle v i × (r ≡ refuse 28 (suc i)))
    place-given r e = by (v i) refl
      where
        by : (o : Option (List ℕ)) → v i ≡ o → (Orphan v i × (r ≡ refuse 27 (suc i))) ⊎ ((Orphan v i → ⊥) × InCycle v i × (r ≡ refuse 28 (suc i)))
        by none q = absurd (some-ne-none r (sym e ∙ place_dead v i q))
        by (some s) q =
            let l : LiveSlot v i s = record { below = h; here = q } in
            let f = rows-first (suc i) (nesting_rows v s) r (sym (place-live v i s q) ∙ e) in
            ⊎_elim (λ c. inl (is_lost s l c.0, refusal_is r 27 (suc i) (sym c.1) f.1))
            (λ c. ⊎_elim (λ d. inr (not_lost s l c.0, is_knot s l d.0, refusal_is r 28 (suc i) (sym d.1) f.1)) (λ d. absurd d.1) c.1) f.0

-- which number is given, and at which slot
pub nesting_given : (v : Directory) (r : Refusal) → tree_reply v ≡ some r → NestingGives v r
unfolding tree_reply
nesting_given v r e = ⊎_elim (λ c. first (scan-first slots (code_at v) r c)) (λ c. second c.0 c.1) (else_some (scan slots (code_at v)) (scan slots (place_at v)) r e)
  where
    first : FirstAt slots (code_at v) r → NestingGives v r
    first f =
        let w = code-given v f.at f.below r f.here in
        subst (NestingGives v) (sym w.1) (by_code f.at f.below w.0 (λ k l. code_clear v k (omega (arith, f.below)) (f.before k l)))

    second : scan slots (code_at v) ≡ none → scan slots (place_at v) ≡ some r → NestingGives v r
    second p q =
        let a = apart v p in
        let f = scan-first slots (place_at v) r q in
        let clean : (k : ℕ) → k < slots → BadCode v k → ⊥ = λ k l. code_clear v k l (scan-none slots (code_at v) p k l) in
        let before : (k : ℕ) → k < f.at → WellPlaced v k = λ k l. place_clear v k (omega (arith, f.below)) a (f.before k l) in
        ⊎_elim (λ w. subst (NestingGives v) (sym w.1) (by_parent clean f.at f.below w.0 before))
        (λ w. subst (NestingGives v) (sym w.2) (by_cycle clean f.at f.below w.0 w.1 before)) (place-given v f.at f.below a r f.here)

-- and the other way
module _ (v : Directory) where
  wrong_at : (i : ℕ) → i < slots → BadCode v i → code_at v i ≡ some (refuse 26 (suc i))
  wrong_at i h w = by (code_at v i) refl
    where
      by : (o : Reply) → code_at v i ≡ o → o ≡ some (refuse 26 (suc i))
      by none e = absurd (code_clear v i h e w)
      by (some r) e = ap some (code-given v i h r e).1

  right_at : (i : ℕ) → i < slots → (BadCode v i → ⊥) → code_at v i ≡ none
  right_at i h n = by (code_at v i) refl
    where
      by : (o : Reply) → code_at v i ≡ o → o ≡ none
      by none e = refl
      by (some r) e = absurd (n (code-given v i h r e).0)

  module _ (a : OwnCodes v) (i : ℕ) (h : i < slots) where
    lost_at : Orphan v i → place_at v i ≡ some (refuse 27 (suc i))
    lost_at w = by (place_at v i) refl
      where
        by : (o : Reply) → place_at v i ≡ o → o ≡ some (refuse 27 (suc i))
        by none e = absurd ((place_clear v i h a e).0 w)
        by (some r) e = ⊎_elim (λ c. ap some c.1) (λ c. absurd (c.0 w)) (place-given v i h a r e)

    knot_at : (Orphan v i → ⊥) → InCycle v i → place_at v i ≡ some (refuse 28 (suc i))
    knot_at n w = by (place_at v i) refl
      where
        by : (o : Reply) → place_at v i ≡ o → o ≡ some (refuse 28 (suc i))
        by none e = absurd ((place_clear v i h a e).1 w)
        by (some r) e = ⊎_elim (λ c. absurd (n c.0)) (λ c. ap some c.2) (place-given v i h a r e)

    placed_at : WellPlaced v i → place_at v i ≡ none
    placed_at p = by (place_at v i) refl
      where
        by : (o : Reply) → place_at v i ≡ o → o ≡ none
        by none e = refl
        by (some r) e = ⊎_elim (λ c. absurd (p.0 c.0)) (λ c. absurd (p.1 c.1)) (place-given v i h a r e)

  no_code : ((k : ℕ) → k < slots → BadCode v k → ⊥) → scan slots (code_at v) ≡ none
  no_code n = none-scan slots (code_at v) (λ k l. right_at k l (n k l))

  pub given-only : (r : Refusal) → NestingGives v r → tree_reply v ≡ some r
  unfolding tree_reply
  given-only r (by_code i h w b) =
      let z : scan slots (code_at v) ≡ some (refuse 26 (suc i)) =
      first-scan slots (code_at v) _ (record { at = i; below = h; before = λ k l. right_at k (omega arith) (b k l); here = wrong_at i h w }) in
      rw z
  given-only r (by_parent n i h w b) =
      let z : scan slots (code_at v) ≡ none = no_code n in
      let a = apart v z in
      rw z (first-scan slots (place_at v) _ (record { at = i; below = h; before = λ k l. placed_at a k (omega arith) (b k l); here = lost_at a i h w }))
  given-only r (by_cycle n i h m w b) =
      let z : scan slots (code_at v) ≡ none = no_code n in
      let a = apart v z in
      rw z (first-scan slots (place_at v) _ (record { at = i; below = h; before = λ k l. placed_at a k (omega arith) (b k l); here = knot_at a i h m w }))
