-- What a change finds has the name asked for, and on an accepted disk it is one slot at most.
use Prim.Native.Nat.{ℕ}
use mathlib.Core.Path.{◌≡◌, refl, sym, ◌∙◌}
use mathlib.Core.Bool.{Bool, true, false, false≢true}
use mathlib.Core.List.{List}
use mathlib.Core.Logic.{◌↔◌}
use mathlib.Core.Option.{none, some}
use borrow.Author.Tests.{eqb-true, eqb-false}
use lib.Dec.{eqb}
use Rattle.slots.specs.Slot.{name_of}
use Rattle.names.specs.Name.{Same, padded}
use Rattle.names.proofs.Names.{same-both}
use Rattle.chains.specs.File.{File}
use Rattle.disk.specs.View.{view}
use Rattle.disk.specs.Check.{check_disk}
use Rattle.plans.specs.Change.{SaveRequest, Mark, Change, save, erase, rename, mark, gather}
use Rattle.plans.specs.Plan.{finds}
use Rattle.plans.proofs.Frame.{disk-accepted, holds}
use Rattle.plans.proofs.Kept.{accepted-apart}

pub finds-erase : (n : List ℕ) (f : File) → (finds (erase n) f ≡ true) ↔ Same (name_of f.bytes) (padded n)
unfolding finds
finds-erase n f = (λ e. e, λ e. e)

pub finds-rename : (n new : List ℕ) (f : File) → (finds (rename n new) f ≡ true) ↔ Same (name_of f.bytes) (padded n)
unfolding finds
finds-rename n new f = (λ e. e, λ e. e)

pub finds-mark : (m : Mark) (n : List ℕ) (f : File) → (finds (mark m n) f ≡ true) ↔ Same (name_of f.bytes) (padded n)
unfolding finds
finds-mark m n f = (λ e. e, λ e. e)

pub finds-gather : (n : List ℕ) (f : File) → (finds (gather n) f ≡ true) ↔ Same (name_of f.bytes) (padded n)
unfolding finds
finds-gather n f = (λ e. e, λ e. e)

-- "a save finds none"
pub finds-save : (w : SaveRequest) (f : File) → finds (save w) f ≡ false
unfolding finds
finds-save w f = refl

-- two live slots of an accepted disk that a change finds are the same slot
module _ (d : List ℕ) (ok : check_disk d ≡ none) (i j : ℕ) (f g : File) (p : (view d).files i ≡ some f) (q : (view d).files j ≡ some g) where
  one_name : (n : List ℕ) → Same (name_of f.bytes) (padded n) → Same (name_of g.bytes) (padded n) → i ≡ j
  one_name n a b = by (eqb j i) refl
    where
      by : (t : Bool) → eqb j i ≡ t → i ≡ j
      by true e = sym (eqb-true j i e)
      by false e =
          let s = accepted-apart (view d) (disk-accepted d ok) i j f g (holds d i f p).here (holds d j g q).here (eqb-false j i e) p q in
          absurd (s.names (same-both (name_of g.bytes) (name_of f.bytes) (padded n) b a))

  pub finds_one : (c : Change) → finds c f ≡ true → finds c g ≡ true → i ≡ j
  finds_one (save w) a b = absurd (false≢true (sym (finds-save w f) ∙ a))
  finds_one (erase n) a b = one_name n ((finds-erase n f).0 a) ((finds-erase n g).0 b)
  finds_one (rename n new) a b = one_name n ((finds-rename n new f).0 a) ((finds-rename n new g).0 b)
  finds_one (mark m n) a b = one_name n ((finds-mark m n f).0 a) ((finds-mark m n g).0 b)
  finds_one (gather n) a b = one_name n ((finds-gather n f).0 a) ((finds-gather n g).0 b)
