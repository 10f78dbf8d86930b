-- Row 29 holds exactly when the directory's code is not 0 and another live slot's byte 254 is it.
use Prim.Native.Nat.{ℕ, ◌<◌}
use mathlib.Core.Path.{◌≡◌, refl, sym, ap, ◌∙◌}
use mathlib.Core.Bool.{Bool, true, false, not, ◌&&◌, false≢true}
use mathlib.Core.List.{List}
use mathlib.Core.Logic.{◌↔◌}
use mathlib.Core.Option.{Option, none, some}
use borrow.Author.Tests.{eqb-true, eqb-false, eq-eqb, ne_eqb, not-true}
use lib.Dec.{eqb}
use Rattle.buffers.specs.Bytes.{any}
use Rattle.buffers.proofs.Tests.{and_both, both_and}
use Rattle.buffers.proofs.Counts.{any_some, some-any}
use Rattle.slots.specs.Slot.{is_directory, code_of, parent_of}
use Rattle.directory.specs.Places.{slots}
use Rattle.directory.specs.Directory.{fold_option, Directory}
use Rattle.trees.specs.Tree.{occupied}
use Rattle.trees.specs.Beneath.{LiveSlot, Occupied}

module _ (v : Directory) (i : ℕ) (s : List ℕ) where
  -- slot j is another live slot that is in the directory
  abbrev inside : ℕ → Bool
  inside j = not (eqb j i) && fold_option false (λ t. eqb (parent_of t) (code_of s)) (v j)

  is-occupied : occupied v i s ≡ true → Occupied v i s
  unfolding occupied
  is-occupied e =
      let a = and_both (is_directory s) (not (eqb (code_of s) 0) && any slots inside) e in
      let b = and_both (not (eqb (code_of s) 0)) (any slots inside) a.1 in
      let w = some-any slots inside b.1 in
      let c = and_both (not (eqb w.0 i)) (fold_option false (λ t. eqb (parent_of t) (code_of s)) (v w.0)) w.2 in
      by a.0 (eqb-false (code_of s) 0 (not-true _ b.0)) w.0 w.1 (eqb-false w.0 i (not-true _ c.0)) (v w.0) refl c.1
    where
      by : is_directory s ≡ true → (code_of s ≡ 0 → ⊥) → (j : ℕ) → j < slots → (j ≡ i → ⊥) → (o : Option (List ℕ)) → v j ≡ o
          → fold_option false (λ t. eqb (parent_of t) (code_of s)) o ≡ true → Occupied v i s
      by f z j l n none p q = absurd (false≢true q)
      by f z j l n (some t) p q = record {
        is-directory = f;
        nonzero = z;
        other = j;
        bytes = t;
        elsewhere = n;
        live = record { below = l; here = p };
        inside = eqb-true (parent_of t) (code_of s) q;
      }

  occupied-is : Occupied v i s → occupied v i s ≡ true
  unfolding occupied
  occupied-is w =
      both_and (is_directory s) (not (eqb (code_of s) 0) && any slots inside) w.is-directory
      (both_and (not (eqb (code_of s) 0)) (any slots inside) (ap not (ne_eqb (code_of s) 0 w.nonzero))
      (any_some slots inside w.other w.live.below
      (both_and (not (eqb w.other i)) (fold_option false (λ t. eqb (parent_of t) (code_of s)) (v w.other)) (ap not (ne_eqb w.other i w.elsewhere))
      (ap (fold_option false (λ t. eqb (parent_of t) (code_of s))) w.live.here ∙ eq-eqb (parent_of w.bytes) (code_of s) w.inside))))

  pub occupied_exactly : (occupied v i s ≡ true) ↔ Occupied v i s
  occupied_exactly = (is-occupied, occupied-is)

  pub vacant : occupied v i s ≡ false → Occupied v i s → ⊥
  vacant e w = false≢true (sym e ∙ occupied-is w)

  pub not_occupied : (Occupied v i s → ⊥) → occupied v i s ≡ false
  not_occupied h = by (occupied v i s) refl
    where
      by : (t : Bool) → occupied v i s ≡ t → t ≡ false
      by true e = absurd (h (is-occupied e))
      by false e = refl

  -- ---- as the code meets it: another kind, code 0, and the slots one after the other

  pub vacant-file : is_directory s ≡ false → occupied v i s ≡ false
  unfolding occupied
  vacant-file e = rw e

  pub vacant-zero : code_of s ≡ 0 → occupied v i s ≡ false
  vacant-zero e = not_occupied (λ w. w.nonzero e)
