-- What becomes of the names of an erase-many: the files that they erase, a name that comes again, and every other name.
use Prim.Native.Nat.{ℕ, zero, suc, ◌≤◌, ◌<◌}
use mathlib.Core.Path.{◌≡◌, refl, sym, ap, ◌∙◌, subst}
use mathlib.Core.Bool.{Bool, true, false, cond, true≢false}
use mathlib.Core.List.{List, [], ◌∷◌}
use mathlib.Core.Logic.{◌↔◌, ⊎_elim}
use mathlib.Core.Option.{Option, none, some, some-ne-none, some-injective}
use native.Mathlib.Nat.{eq-or-lt_of_le, le_of_suc-le-suc}
use native.Mathlib.Omega.{arith}
use borrow.Author.Tests.{eqb-true, eq-eqb}
use lib.Dec.{eqb}
use Rattle.buffers.proofs.Tests.{or_either, or_left, or_right}
use Rattle.refusals.specs.Order.{refuse}
use Rattle.slots.specs.Slot.{protected}
use Rattle.names.specs.Name.{askable}
use Rattle.chains.specs.File.{File}
use Rattle.directory.specs.Directory.{fold_option, Directory}
use Rattle.directory.specs.Find.{find}
use Rattle.disk.specs.View.{View, view}
use Rattle.disk.specs.Check.{check_disk}
use Rattle.disk.proofs.View.{view-slots}
use Rattle.files.proofs.Named.{lookup-none}
use Rattle.files.proofs.Reading.{read-refused}
use Rattle.files.proofs.Starting.{start_refused}
use Rattle.trees.specs.Tree.{occupied}
use Rattle.steps.specs.Sectors.{is_listed}
use Rattle.plans.specs.Change.{erase}
use Rattle.plans.specs.Plan.{with_slot, Result, refused_result, new_disk}
use Rattle.plans.specs.Allowed.{NameUnused}
use Rattle.plans.specs.After.{SameAnswers, NotNamed, NameGone}
use Rattle.plans.proofs.Frame.{disk-accepted, upd_same, upd_other, holds}
use Rattle.plans.proofs.Named.{fresh-find, found_here, alone as no_other}
use Rattle.plans.proofs.Refused.{refused_positive}
use Rattle.plans.proofs.Stays.{stays}
use Rattle.erase_many.specs.EraseMany.{name_at, how_many, single_erase, result_number, disk_or, disk_after_erases, answer_at, erased_all, is_erased}
use Rattle.erase_many.specs.ErasedMap.{erase_answer, name_answer, erased_map_answer}
use Rattle.erase_many.specs.EraseManyCut.{ErasedBy}
use Rattle.erase_many.proofs.Meaning.{gone-never, Empties, empties, grown, after_fewer, after-accepted}
use Rattle.erase_many.proofs.ErasedMap.{run_15, answer_same}

-- ---- the answers

-- no other number than these is answered to a name
one_listed : (v : Directory) (n : List ℕ) → is_listed (name_answer v n) (0 ∷ 12 ∷ 15 ∷ 17 ∷ 29 ∷ []) ≡ true
unfolding name_answer erase_answer
one_listed v n = name (askable n)
  where
    given : ℕ → Bool
    given a = is_listed a (0 ∷ 12 ∷ 15 ∷ 17 ∷ 29 ∷ [])

    at : (p o : Bool) → given (cond p 17 (cond o 29 0)) ≡ true
    at true o = refl
    at false true = refl
    at false false = refl

    slot : (i : ℕ) (o : Option (List ℕ)) → given (fold_option 15 (erase_answer v i) o) ≡ true
    slot i none = refl
    slot i (some s) = at (protected s) (occupied v i s)

    found : (o : Option ℕ) → given (fold_option 15 (λ i. fold_option 15 (erase_answer v i) (v i)) o) ≡ true
    found none = refl
    found (some i) = slot i (v i)

    name : (t : Bool) → given (cond t (fold_option 15 (λ i. fold_option 15 (erase_answer v i) (v i)) (find v n)) 12) ≡ true
    name true = found (find v n)
    name false = refl

pub answer_listed : (d : List ℕ) → check_disk d ≡ none → (ns : List ℕ) (k : ℕ) → is_listed (answer_at d ns k) (0 ∷ 12 ∷ 15 ∷ 17 ∷ 29 ∷ []) ≡ true
unfolding erased_map_answer
answer_listed d ok ns k =
    ap (λ (a : ℕ). is_listed a (0 ∷ 12 ∷ 15 ∷ 17 ∷ 29 ∷ [])) (sym (answer_same d ok ns k)) ∙ one_listed _ (name_at ns k)

-- ---- one erase

module _ (x : List ℕ) (ok : check_disk x ≡ none) (n new : List ℕ) (t : Empties x n new) where
  -- what is left was there
  left_there : (i : ℕ) (f : File) → (view new).files i ≡ some f → (i ≡ t.slot → ⊥) × ((view x).files i ≡ some f)
  left_there i f e = (away, sym (upd_other (view x) t.slot none i away) ∙ now)
    where
      now : (with_slot (view x) t.slot none).files i ≡ some f
      now = ap (λ (l : View). l.files i) (sym t.sees) ∙ e

      away : i ≡ t.slot → ⊥
      away q = some-ne-none f (sym now ∙ ap (with_slot (view x) t.slot none).files q ∙ upd_same (view x) t.slot none)

  -- no live slot has the name then
  erased-fresh : NameUnused new n
  erased-fresh i f e q =
      let w = left_there i f e in
      no_other (view x) (disk-accepted x ok) n t.slot t.file t.found.below t.found.here t.found.name i f (holds x i f w.1).here w.0 w.1 q

  still-fresh : (m : List ℕ) → NameUnused x m → NameUnused new m
  still-fresh m h i f e = h i f (left_there i f e).1

fresh-gone : (x n : List ℕ) → check_disk x ≡ none → askable n ≡ true → NameUnused x n → NameGone x n
fresh-gone x n ok a h =
    let e = lookup-none x n ok a (ap (λ (v : Directory). find v n) (sym (view-slots x)) ∙ fresh-find x n h) in
    record { unread = λ buf. sym (read-refused x n buf (refuse 15 0) e); unstarted = sym (start_refused x n (refuse 15 0) e) }

module _ (d : List ℕ) (ok : check_disk d ≡ none) (ns : List ℕ) where
  abbrev disk : ℕ → List ℕ
  disk k = disk_after_erases d ns k

  abbrev name : ℕ → List ℕ
  name k = name_at ns k

  emptied : (k : ℕ) (new ss : List ℕ) → single_erase (disk k) (name k) ≡ new_disk new ss → Empties (disk k) (name k) new
  emptied k new ss e = empties (disk k) (after-accepted d ok ns k) (name k) new ss e

  -- the answer is 0 where the erase is accepted, and only there
  done-made : (k : ℕ) → answer_at d ns k ≡ 0 → (new : List ℕ) × (ss : List ℕ) × (single_erase (disk k) (name k) ≡ new_disk new ss)
  unfolding answer_at
  done-made k e = by (single_erase (disk k) (name k)) refl e
    where
      by : (r : Result) → single_erase (disk k) (name k) ≡ r → result_number r ≡ 0 → (new : List ℕ) × (ss : List ℕ) × (single_erase (disk k) (name k) ≡ new_disk new ss)
      by (refused_result r) q w = absurd (refused_positive (erase (name k)) (disk k) 1 r q w)
      by (new_disk new ss) q w = (new, ss, q)

  made-done : (k : ℕ) (new ss : List ℕ) → single_erase (disk k) (name k) ≡ new_disk new ss → (answer_at d ns k ≡ 0) × (disk (suc k) ≡ new)
  unfolding answer_at disk_after_erases
  made-done k new ss e = (ap result_number e, ap (disk_or (disk k)) e)

  -- ---- the files erased

  erased_by : (m i : ℕ) → is_erased d (disk m) i ≡ true → (k : ℕ) × (k < m) × ErasedBy d ns k i
  unfolding disk_after_erases
  erased_by zero i e = absurd (true≢false (sym e ∙ gone-never d i))
  erased_by (suc m) i e = by (single_erase (disk m) (name m)) refl e (erased_by m i)
    where
      earlier : ((k : ℕ) × (k < m) × ErasedBy d ns k i) → (k : ℕ) × (k < suc m) × ErasedBy d ns k i
      earlier w = (w.0, omega (arith, w.1), w.2)

      by : (r : Result) → single_erase (disk m) (name m) ≡ r → is_erased d (disk_or (disk m) r) i ≡ true
          → (is_erased d (disk m) i ≡ true → (k : ℕ) × (k < m) × ErasedBy d ns k i) → (k : ℕ) × (k < suc m) × ErasedBy d ns k i
      by (refused_result r) q w f = earlier (f w)
      by (new_disk new ss) q w f =
          let t = emptied m new ss q in
          ⊎_elim (λ a. earlier (f a))
          (λ a. (m, omega arith, record { file = t.file; found = rw (eqb-true i t.slot a) t.found; done = (made-done m new ss q).0 }))
          (or_either (is_erased d (disk m) i) (eqb i t.slot) (sym (grown d ok (disk m) (after_fewer d ok ns m) (name m) new t i) ∙ w))

  by_erased : (m k i : ℕ) → k < m → ErasedBy d ns k i → is_erased d (disk m) i ≡ true
  unfolding disk_after_erases
  by_erased zero k i h w = absurd (omega arith)
  by_erased (suc m) k i h w =
      ⊎_elim (λ (q : k ≡ m). this q) (λ (q : k < m). still (single_erase (disk m) (name m)) refl (by_erased m k i q w)) (eq-or-lt_of_le (le_of_suc-le-suc h))
    where
      still : (r : Result) → single_erase (disk m) (name m) ≡ r → is_erased d (disk m) i ≡ true → is_erased d (disk_or (disk m) r) i ≡ true
      still (refused_result r) q g = g
      still (new_disk new ss) q g =
          let t = emptied m new ss q in
          grown d ok (disk m) (after_fewer d ok ns m) (name m) new t i ∙ or_left (is_erased d (disk m) i) (eqb i t.slot) g

      this : k ≡ m → is_erased d (disk_or (disk m) (single_erase (disk m) (name m))) i ≡ true
      this q =
          let v : ErasedBy d ns m i = subst (λ (j : ℕ). ErasedBy d ns j i) q w in
          let a = done-made m v.done in
          let t = emptied m a.0 a.1 a.2 in
          let s = disk-accepted (disk m) (after-accepted d ok ns m) in
          let z : i ≡ t.slot =
          some-injective i t.slot
          (sym (found_here (view (disk m)) s (name m) i v.file v.found.below v.found.here v.found.name)
          ∙ found_here (view (disk m)) s (name m) t.slot t.file t.found.below t.found.here t.found.name) in
          ap (λ (r : Result). is_erased d (disk_or (disk m) r) i) a.2
          ∙ grown d ok (disk m) (after_fewer d ok ns m) (name m) a.0 t i
          ∙ or_right (is_erased d (disk m) i) (eqb i t.slot) (eq-eqb i t.slot z)

  -- a slot is gone exactly where a name erased its file
  pub gone_exactly : (i : ℕ) → (is_erased d (erased_all d ns) i ≡ true) ↔ ((k : ℕ) × (k < how_many ns) × ErasedBy d ns k i)
  gone_exactly i = (erased_by (how_many ns) i, λ w. by_erased (how_many ns) w.0 i w.1 w.2)

  -- ---- a name that comes again

  fresh-next : (k : ℕ) (n : List ℕ) → NameUnused (disk k) n → NameUnused (disk (suc k)) n
  unfolding disk_after_erases
  fresh-next k n h = by (single_erase (disk k) (name k)) refl
    where
      by : (r : Result) → single_erase (disk k) (name k) ≡ r → NameUnused (disk_or (disk k) r) n
      by (refused_result r) q = h
      by (new_disk new ss) q = still-fresh (disk k) (after-accepted d ok ns k) (name k) new (emptied k new ss q) n h

  fresh-later : (k m : ℕ) (n : List ℕ) → k ≤ m → NameUnused (disk k) n → NameUnused (disk m) n
  fresh-later k zero n h f = let z : k ≡ 0 = omega arith in subst (λ (j : ℕ). NameUnused (disk j) n) z f
  fresh-later k (suc m) n h f =
      ⊎_elim (λ (q : k ≡ suc m). subst (λ (j : ℕ). NameUnused (disk j) n) q f) (λ (q : k < suc m). fresh-next m n (fresh-later k m n (omega arith) f)) (eq-or-lt_of_le h)

  -- after name k erased its file: no live slot has the name
  record Done (k : ℕ) : Type 0 where
    usable : askable (name k) ≡ true
    fresh : NameUnused (disk (suc k)) (name k)

  done-fresh : (k : ℕ) → answer_at d ns k ≡ 0 → Done k
  done-fresh k e =
      let a = done-made k e in
      let t = emptied k a.0 a.1 a.2 in
      record {
        usable = t.askable-name;
        fresh = subst (λ (x : List ℕ). NameUnused x (name k)) (sym (made-done k a.0 a.1 a.2).1) (erased-fresh (disk k) (after-accepted d ok ns k) (name k) a.0 t);
      }

  -- "a repeated name included (15 the second time)"
  pub repeated : (j k : ℕ) → j < k → name_at ns j ≡ name_at ns k → answer_at d ns j ≡ 0 → answer_at d ns k ≡ 15
  unfolding answer_at
  repeated j k h q e =
      let w = done-fresh j e in
      let f : NameUnused (disk k) (name k) = subst (NameUnused (disk k)) q (fresh-later (suc j) k (name j) h w.fresh) in
      ap result_number (run_15 (disk k) (name k) (after-accepted d ok ns k) (ap askable (sym q) ∙ w.usable) (fresh-find (disk k) (name k) f))

  -- a name that was erased is refused 15 afterwards
  pub erased-gone : (k : ℕ) → k < how_many ns → answer_at d ns k ≡ 0 → NameGone (erased_all d ns) (name_at ns k)
  erased-gone k h e =
      let w = done-fresh k e in
      fresh-gone (erased_all d ns) (name k) (after-accepted d ok ns (how_many ns)) w.usable (fresh-later (suc k) (how_many ns) (name k) h w.fresh)

  -- ---- every other name

  stays_by : (m : ℕ) (n : List ℕ) → ((k : ℕ) → k < m → NotNamed (erase (name_at ns k)) n) → SameAnswers (disk m) n d n
  unfolding disk_after_erases
  stays_by zero n h = record { readings = λ buf. refl; starts = refl }
  stays_by (suc m) n h = by (single_erase (disk m) (name m)) refl (stays_by m n (λ k l. h k (omega arith)))
    where
      by : (r : Result) → single_erase (disk m) (name m) ≡ r → SameAnswers (disk m) n d n → SameAnswers (disk_or (disk m) r) n d n
      by (refused_result r) q w = w
      by (new_disk new ss) q w =
          let a = stays (disk m) (after-accepted d ok ns m) 1 new ss (erase (name m)) q n (h m (omega arith)) in
          record { readings = λ buf. a.readings buf ∙ w.readings buf; starts = a.starts ∙ w.starts }

  -- reading and the start address give for every name but those asked for what they gave
  pub erase_many-stays : (n : List ℕ) → ((k : ℕ) → k < how_many ns → NotNamed (erase (name_at ns k)) n) → SameAnswers (erased_all d ns) n d n
  erase_many-stays = stays_by (how_many ns)
