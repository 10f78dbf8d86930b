-- A rename that 16 does not stop: no other live slot has the new name, and the ten bytes stored are others.
use Prim.Native.Nat.{ℕ, suc}
use mathlib.Core.Path.{◌≡◌, refl, sym, ap, ◌∙◌, subst}
use mathlib.Core.Bool.{Bool, true, false, cond, not, ◌&&◌, true≢false}
use mathlib.Core.List.{List}
use mathlib.Core.Logic.{◌⊎◌, inl, inr, ⊎_elim}
use mathlib.Core.Option.{Option, none, some, some-ne-none, some-injective}
use native.Mathlib.Omega.{arith}
use borrow.Author.Tests.{eqb-true}
use lib.Dec.{eqb}
use Rattle.refusals.specs.Order.{refuse}
use Rattle.slots.specs.Slot.{name_of}
use Rattle.names.specs.Name.{same_bytes, Same, padded}
use Rattle.names.proofs.Names.{are_bytes, same_eq}
use Rattle.chains.specs.File.{File}
use Rattle.directory.specs.Directory.{fold_option, Directory}
use Rattle.directory.specs.Find.{find}
use Rattle.disk.specs.View.{view, view_slots}
use Rattle.disk.specs.Accepted.{AcceptedDisk}
use Rattle.files.specs.Calls.{file_at}
use Rattle.plans.specs.Plan.{taken_at, respells, taken_by, rename_taken}
use Rattle.plans.specs.Allowed.{NameUnusedBut}
use Rattle.plans.proofs.Frame.{holds}
use Rattle.plans.proofs.Named.{found-file, find-fresh, alone}

-- where 16 is not given there is no slot to give it at
pub taken_none : (o : Option ℕ) → taken_at o ≡ none → o ≡ none
taken_none none e = refl
taken_none (some i) e = absurd (some-ne-none (refuse 16 (suc i)) e)

module _ (v : Directory) (i : ℕ) (f : File) (new : List ℕ) where
  -- the slot that it is given at has the new name
  pub taken_found : (j : ℕ) → taken_by v i f new ≡ some j → find v new ≡ some j
  unfolding taken_by
  taken_found j e = by (find v new) e
    where
      at : (k : ℕ) (t : Bool) → cond {A = Option ℕ} t none (some k) ≡ some j → some k ≡ some j
      at k true w = absurd (some-ne-none j (sym w))
      at k false w = w

      by : (o : Option ℕ) → fold_option none (λ k. cond (respells (suc i) (suc k) f new) none (some k)) o ≡ some j → o ≡ some j
      by none w = w
      by (some k) w = at k (respells (suc i) (suc k) f new) w

  -- where it is not given no live slot has the new name, or the file's own has it in other bytes
  untaken : taken_by v i f new ≡ none → (find v new ≡ none) ⊎ ((find v new ≡ some i) × (same_bytes (name_of f.bytes) (padded new) ≡ false))
  unfolding taken_by
  untaken e = by (find v new) e
    where
      at : (j : ℕ) (a b : Bool) → eqb (suc j) (suc i) ≡ a → same_bytes (name_of f.bytes) (padded new) ≡ b → cond {A = Option ℕ} (a && not b) none (some j) ≡ none
          → (some j ≡ some i) × (same_bytes (name_of f.bytes) (padded new) ≡ false)
      at j true true p q w = absurd (some-ne-none j w)
      at j true false p q w = let z : suc j ≡ suc i = eqb-true (suc j) (suc i) p in (ap some (omega arith), q)
      at j false b p q w = absurd (some-ne-none j w)

      by : (o : Option ℕ) → fold_option none (λ j. cond (respells (suc i) (suc j) f new) none (some j)) o ≡ none
          → (o ≡ none) ⊎ ((o ≡ some i) × (same_bytes (name_of f.bytes) (padded new) ≡ false))
      by none w = inl refl
      by (some j) w = inr (at j (eqb (suc j) (suc i)) (same_bytes (name_of f.bytes) (padded new)) refl refl w)

module _ (d : List ℕ) (w : AcceptedDisk (view d)) (i : ℕ) (f : File) (e : (view d).files i ≡ some f) (new : List ℕ) (t : rename_taken (view_slots (view d)) i f new ≡ none) where
  own_or_none : (find (view_slots (view d)) new ≡ none) ⊎ ((find (view_slots (view d)) new ≡ some i) × (same_bytes (name_of f.bytes) (padded new) ≡ false))
  own_or_none = untaken (view_slots (view d)) i f new (taken_none (taken_by (view_slots (view d)) i f new) t)

  -- where the own slot has the new name, no other has it, as the disk is accepted
  pub taken_fresh : NameUnusedBut d i new
  taken_fresh j g n q r =
      ⊎_elim (λ p. find-fresh d new p j g q r)
      (λ p.
      let s = found-file d new i p.0 in
      let z : file_at (view d) i ≡ f = some-injective (file_at (view d) i) f (sym s.here ∙ e) in
      alone (view d) w new i f s.below e (subst (λ (x : File). Same (name_of x.bytes) (padded new)) z s.name) j g (holds d j g q).here n q r)
      own_or_none

  pub taken_other : name_of f.bytes ≡ padded new → ⊥
  taken_other r =
      ⊎_elim (λ p. find-fresh d new p i f e (same_eq (name_of f.bytes) (padded new) r))
      (λ p. true≢false (sym (are_bytes (name_of f.bytes) (padded new) r) ∙ p.1))
      own_or_none
