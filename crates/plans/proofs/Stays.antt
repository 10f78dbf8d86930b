-- Every other file stays, whatever the change: its slot, its listing entry, and the whole answers to its name.
use Prim.Native.Nat.{ℕ}
use mathlib.Core.Path.{◌≡◌, refl, sym, ap, ◌∙◌}
use mathlib.Core.Bool.{Bool, true, false, false≢true}
use mathlib.Core.List.{List}
use mathlib.Core.Logic.{⊎_elim}
use mathlib.Core.Option.{none, some, some-ne-none, some-injective}
use Rattle.slots.specs.Slot.{name_of, count_of}
use Rattle.names.specs.Name.{Same, askable, padded}
use Rattle.names.proofs.Names.{same_eq, same_of, same_via}
use Rattle.chains.specs.File.{File}
use Rattle.directory.specs.Directory.{directory}
use Rattle.disk.specs.View.{view}
use Rattle.disk.specs.Check.{check_disk}
use Rattle.plans.specs.Change.{SaveRequest, Change, save, erase, rename, mark, gather, usable}
use Rattle.plans.specs.Gathering.{up_from}
use Rattle.plans.specs.Saving.{new_slot}
use Rattle.plans.specs.Plan.{with_slot, finds, new_disk, run_change}
use Rattle.plans.specs.Allowed.{EraseAllowed, RenameAllowed}
use Rattle.plans.specs.After.{SameAnswers, OtherName, NotNamed, marking}
use Rattle.plans.proofs.Kept.{usable-is}
use Rattle.plans.proofs.Free.{FreeSlot}
use Rattle.plans.proofs.NewFile.{new_file, name-is}
use Rattle.plans.proofs.Demand3.{change-accepted}
use Rattle.plans.proofs.Moved.{gathered-file}
use Rattle.plans.proofs.Effect.{erased, marked_so, renamed, erasing, gathers}
use Rattle.plans.proofs.ReadBack.{stored}
use Rattle.plans.proofs.Others.{Unnamed, others, unusable_same, other-slots, touched_slots, erase-others, mark-others, rename-others}
use Rattle.plans.proofs.Gathered.{after-gather}
use Rattle.plans.proofs.Finds.{finds-erase, finds-rename, finds-mark, finds-gather}

-- a name that cannot be asked for
unaskable_stay : (d new : List ℕ) → check_disk d ≡ none → check_disk new ≡ none → (m : List ℕ) → askable m ≡ false → SameAnswers new m d m
unfolding check_disk
unaskable_stay d new ok now m u =
    let a = unusable_same (view new) (view d) now ok m u in
    record { readings = a.0; starts = a.1 }

-- ---- a new file in a free slot

module _ (d new : List ℕ) (ok : check_disk d ≡ none) (now : check_disk new ≡ none) (i : ℕ) (at : FreeSlot (view d) i) (w : SaveRequest) (fit : usable w.name ≡ true)
    (bs : List ℕ) (f : File) (is : f.bytes ≡ new_slot (view d).label i w bs) (seen : view new ≡ with_slot (view d) i (some f)) where
  entered-others : (m : List ℕ) → (Same (padded m) (padded w.name) → ⊥) → SameAnswers new m d m
  entered-others m u =
      others d new i (some f) seen ok now m (λ g q p. some-ne-none g (sym q ∙ at.empty))
      (λ g q p.
      u (same_via (name_of g.bytes) (padded m) (padded w.name) p
      (same_eq (name_of g.bytes) (padded w.name)
      (ap (λ (f : File). name_of f.bytes) (sym (some-injective f g q)) ∙ ap name_of is ∙ name-is (view d).label i w bs (usable-is w.name fit).1))))

  -- for every name but its own, the whole answer of read and start is the old one
  pub entered-stays : (m : List ℕ) → NotNamed (save w) m → SameAnswers new m d m
  entered-stays m u = by (askable m) refl
    where
      by : (t : Bool) → askable m ≡ t → SameAnswers new m d m
      by true q = entered-others m (u q)
      by false q = unaskable_stay d new ok now m q

  -- and so is every listing entry
  pub entered-entries : (j : ℕ) (g : File) → (view d).files j ≡ some g → directory new j ≡ directory d j
  entered-entries j g h = other-slots d new i (some f) seen j (λ q. some-ne-none g (sym h ∙ ap (view d).files q ∙ at.empty))

-- ---- every change

module _ (d : List ℕ) (ok : check_disk d ≡ none) (room : ℕ) (new ss : List ℕ) where
  unfound : (j : ℕ) (f : File) (n : List ℕ) → (view d).files j ≡ some f → (Same (name_of f.bytes) (padded n) → ⊥) → Unnamed n ((view d).files j)
  unfound j f n h u g q p = u (same_of (ap (λ (f : File). name_of f.bytes) (some-injective f g (sym h ∙ q))) (padded n) p)

  others_stay : (c : Change) → run_change c d room ≡ new_disk new ss → (m : List ℕ) → OtherName c m → SameAnswers new m d m
  others_stay (save w) e m u =
      let k = stored d ok room w new ss e in
      entered-others d new ok (change-accepted (save w) d room new ss ok e) k.slot k.lowest w k.ready.name k.bits (new_file (view d).label k.slot w k.bits) refl k.seen m u
  others_stay (erase n) e m u = erase-others d ok room new ss n e m u
  others_stay (rename n to) e m u = rename-others d ok room new ss n to e m u.0 u.1
  others_stay (mark k n) e m u = mark-others d ok room new ss k n e m u
  others_stay (gather n) e m u = (after-gather d n room new ss e).answers m

  -- for every name but those the change names, the whole answer of read and start is the old one
  pub stays : (c : Change) → run_change c d room ≡ new_disk new ss → (m : List ℕ) → NotNamed c m → SameAnswers new m d m
  stays c e m u = by (askable m) refl
    where
      by : (t : Bool) → askable m ≡ t → SameAnswers new m d m
      by true q = others_stay c e m (u q)
      by false q = unaskable_stay d new ok (change-accepted c d room new ss ok e) m q

  -- and so is every other listing entry: the slot of each live file that the change does not find
  pub entries_stay : (c : Change) → run_change c d room ≡ new_disk new ss → (j : ℕ) (f : File) → (view d).files j ≡ some f → finds c f ≡ false → directory new j ≡ directory d j
  entries_stay (save w) e j f h n =
      let k = stored d ok room w new ss e in
      entered-entries d new ok (change-accepted (save w) d room new ss ok e) k.slot k.lowest w k.ready.name k.bits (new_file (view d).label k.slot w k.bits) refl k.seen j f h
  entries_stay (erase n) e j f h x =
      touched_slots d n 0 erasing (EraseAllowed d) new ss (erased d ok room new ss n e) j (unfound j f n h (λ p. false≢true (sym x ∙ (finds-erase n f).1 p)))
  entries_stay (rename n to) e j f h x =
      touched_slots d n 1 (λ f. padded to) (RenameAllowed d to) new ss (renamed d ok room new ss n to e) j
      (unfound j f n h (λ p. false≢true (sym x ∙ (finds-rename n to f).1 p)))
  entries_stay (mark k n) e j f h x =
      touched_slots d n 0 (marking k) (λ i f. Unit {0}) new ss (marked_so d ok room new ss k n e) j
      (unfound j f n h (λ p. false≢true (sym x ∙ (finds-mark k n f).1 p)))
  entries_stay (gather n) e j f h x =
      let t = gathers d ok room new ss n e in
      ⊎_elim (λ a. ap (λ (x : List ℕ). directory x j) a.1)
      (λ a. other-slots d new t.slot (some (gathered-file t.file (up_from (count_of t.file.bytes) a.bit))) a.seen j
      (λ q. unfound j f n h (λ p. false≢true (sym x ∙ (finds-gather n f).1 p)) t.file (ap (view d).files q ∙ t.found.here) t.found.name))
      t.done
