-- What a change by name comes to: refused before its slot is found, at that slot, or the bytes put there and one sector named.
use Prim.Native.Nat.{ℕ, suc, ◌+◌, ◌≤◌, ◌<◌}
use mathlib.Core.Path.{◌≡◌, refl, sym, ap, ap₂, ◌∙◌}
use mathlib.Core.Bool.{Bool, true, false, cond, not, ◌&&◌}
use mathlib.Core.List.{List, [], ◌∷◌}
use mathlib.Core.Option.{Option, none, some}
use native.Mathlib.Numerals.{add-one}
use native.Mathlib.Omega.{arith}
use borrow.Author.Tests.{lt-ltb, le-ltb, eq-eqb, ne_eqb}
use lib.ListN.{length, get_or}
use Rattle.buffers.specs.Bytes.{put}
use Rattle.refusals.specs.Order.{Refusal, refuse, Reply, ◌else◌, row}
use Rattle.refusals.specs.Answers.{Outcome, done, refused}
use Rattle.slots.specs.Slot.{protected, name_of}
use Rattle.names.specs.Name.{same_bytes, askable, padded}
use Rattle.chains.specs.File.{File, file_of}
use Rattle.directory.specs.Places.{slots, slot_at, slot_place, dir_sector_or}
use Rattle.directory.specs.Directory.{fold_option, Directory, directory, slot_or}
use Rattle.directory.specs.Find.{find}
use Rattle.directory.proofs.Places.{slot_placed, slot_within, slot-sector, dir_placed}
use Rattle.directory.proofs.Search.{find-some}
use Rattle.disk.specs.View.{View, view, view_slots}
use Rattle.disk.specs.Check.{check_view, check_disk}
use Rattle.disk.proofs.View.{view-slots}
use Rattle.files.specs.Calls.{refused_lookup, lookup_by, lookup, file_at}
use Rattle.files.proofs.Named.{LookedUp, named_slot}
use Rattle.steps.specs.Steps.{Step, put_all, apply, numbers}
use Rattle.trees.specs.Tree.{occupied}
use Rattle.plans.specs.Change.{Mark, Change, erase, rename, mark, marked_byte, usable}
use Rattle.plans.specs.Plan.{Plan, refused_plan, planned_steps, plan_unless, plan_by_name, taken_by, rename_taken, is_protected, is_occupied, put_steps, plan_of, plan, plan_result, checked_result, run_change, Changed, changed, changed_by, change}
use Rattle.plans.proofs.Respelt.{taken_found}
use Rattle.changes.specs.ChangeCalls.{plan_call, put_plan, put_unless_protected, erase_plan, rename_plan, FileInSlot, Applied}

-- ---- a change goes by its plan, once the disk is accepted

module _ (c : Change) (d buf : List ℕ) where
  pub change_err : (r : Refusal) → check_disk d ≡ some r → changed (refused r) d buf ≡ change c d buf
  unfolding change run_change
  change_err r e = rw e

  pub change_planned : check_disk d ≡ none → (p : Plan) → plan c d ≡ p → plan_call p d buf ≡ change c d buf
  unfolding change run_change plan_call
  change_planned a p e = rw (a, e)

-- a plan that refuses
pub settled_no : (d buf : List ℕ) (r : Refusal) (o : Outcome) → o ≡ refused r → changed o d buf ≡ plan_call (refused_plan r) d buf
unfolding plan_call
settled_no d buf r o e = ap (λ (o : Outcome). changed o d buf) e

-- a plan of steps: the list is too short for their sectors, or they are done
module _ (sts : List (Step View)) (d buf : List ℕ) where
  pub settled_short : length buf < length (numbers sts) → (o : Outcome) → o ≡ refused (refuse 20 0) → changed o d buf ≡ plan_call (planned_steps sts) d buf
  unfolding plan_call
  settled_short h o e = rw (e, lt-ltb (length buf) (length (numbers sts)) h)

  pub settled_done : length (numbers sts) ≤ length buf → (d' buf' : List ℕ) (r : ℕ) → Applied sts d buf d' buf' r → changed (done r 0) d' buf' ≡ plan_call (planned_steps sts) d buf
  unfolding plan_call
  settled_done h d' buf' r w = rw (w.many, w.image, w.list, le-ltb (length buf) (length (numbers sts)) h)

-- one plan for another
pub settled_as : (d buf : List ℕ) (p q : Plan) → p ≡ q → (x : Changed) → x ≡ plan_call p d buf → x ≡ plan_call q d buf
settled_as d buf p q e x w = w ∙ ap (λ (p : Plan). plan_call p d buf) e

-- ---- bytes put into a slot

-- at its place, as the code has it
pub slot-put : (d : List ℕ) (i o a : ℕ) (y e : List ℕ) → i < slots → a ≡ slot_place i → e ≡ put d (a + o) y → e ≡ put d (slot_at i + o) y
slot-put d i o a y e h p q = q ∙ ap (λ (a : ℕ). put d (a + o) y) (p ∙ slot_placed i h)

-- its sector number fits the list
pub sector-small : (i n : ℕ) → n ≡ dir_sector_or i → i < slots → n < 65536
sector-small i n e h = omega (arith, dir_placed i h, slot-sector i, slot_within i h)

module _ (d : List ℕ) (i o : ℕ) (y buf : List ℕ) where
  abbrev steps : List (Step View)
  steps = put_steps (view d) i (file_at (view d) i) o y

  pub touch_short : length buf < 1 → (a : Outcome) → a ≡ refused (refuse 20 0) → changed a d buf ≡ plan_call (put_plan d i o y) d buf
  unfolding put_plan numbers
  touch_short = settled_short steps d buf

  pub touch_done : i < slots → 1 ≤ length buf → (d' : List ℕ) → d' ≡ put d (slot_at i + o) y → (n : ℕ) → n ≡ dir_sector_or i → (buf' : List ℕ) → buf' ≡ put buf 0 (n ∷ [])
      → changed (done 1 0) d' buf' ≡ plan_call (put_plan d i o y) d buf
  unfolding put_plan numbers apply put_all
  touch_done b h d' p n q buf' s =
      settled_done steps d buf h d' buf' 1 (record { many = refl; image = p; list = s ∙ ap (λ (n : ℕ). put buf 0 (n ∷ [])) (q ∙ dir_placed i b) })

-- ---- the slot that has the name

pub named_holds : (d n : List ℕ) (i : ℕ) → LookedUp d n i → FileInSlot d i
unfolding file_of
named_holds d n i w = let s = named_slot d n i w in record { below = s.below; bytes = ap (λ (f : File). f.bytes) s.same }

-- 17, as the code meets it
module _ (d : List ℕ) (i o : ℕ) (y : List ℕ) (w : FileInSlot d i) (s : List ℕ) (e : s ≡ slot_or d i) where
  protected-at : {t : Bool} → protected s ≡ t → protected (file_at (view d) i).bytes ≡ t
  protected-at q = ap protected (w.bytes ∙ sym e) ∙ q

  pub plan-protected : protected s ≡ true → refused_plan (refuse 17 (i + 1)) ≡ put_unless_protected d i o y
  unfolding put_unless_protected
  plan-protected q = rw (protected-at q, add-one)

  pub plan_released : protected s ≡ false → put_plan d i o y ≡ put_unless_protected d i o y
  unfolding put_unless_protected
  plan_released q = rw (protected-at q)

-- 17 and 29 of an erase
module _ (d : List ℕ) (i : ℕ) (w : FileInSlot d i) (s : List ℕ) (e : s ≡ slot_or d i) where
  pub erase-protected : protected s ≡ true → refused_plan (refuse 17 (i + 1)) ≡ erase_plan d i
  unfolding erase_plan
  erase-protected q = rw (protected-at d i 0 [] w s e q, add-one)

  module _ (q : protected s ≡ false) (t : List ℕ) (g : t ≡ slot_or d i) where
    occupied-at : {b : Bool} → occupied (directory d) i t ≡ b → occupied (directory d) i (file_at (view d) i).bytes ≡ b
    occupied-at h = ap (occupied (directory d) i) (w.bytes ∙ sym g) ∙ h

    pub erase-occupied : occupied (directory d) i t ≡ true → refused_plan (refuse 29 (i + 1)) ≡ erase_plan d i
    unfolding erase_plan
    erase-occupied h = rw (protected-at d i 0 [] w s e q, occupied-at h, add-one)

    pub erase-free : occupied (directory d) i t ≡ false → put_plan d i 0 (0 ∷ []) ≡ erase_plan d i
    unfolding erase_plan
    erase-free h = rw (protected-at d i 0 [] w s e q, occupied-at h)

-- 16, as the code meets it: the name is found nowhere, at another slot, or at the file's own, where its bytes decide
module _ (d : List ℕ) (i : ℕ) (new : List ℕ) where
  abbrev pub barring : Option ℕ
  barring = taken_by (directory d) i (file_at (view d) i) new

  pub taken_nowhere : find (directory d) new ≡ none → none ≡ barring
  unfolding taken_by
  taken_nowhere e = rw e

  pub taken_there : (j : ℕ) → find (directory d) new ≡ some j → (j ≡ i → ⊥) → some j ≡ barring
  unfolding taken_by
  taken_there j e n = rw (e, ne_eqb (suc j) (suc i) (λ (z : suc j ≡ suc i). n (omega arith)))

  pub taken_here : (j : ℕ) → find (directory d) new ≡ some j → j ≡ i → (w : FileInSlot d i) (s m y : List ℕ) → s ≡ slot_or d i → m ≡ name_of s → y ≡ padded new
      → (r t : Bool) → r ≡ same_bytes m y → r ≡ t → cond t (some j) none ≡ barring
  unfolding taken_by
  taken_here j e z w s m y p q u r t v x =
      let b : same_bytes (name_of (file_at (view d) i).bytes) (padded new) ≡ t =
      sym (ap₂ same_bytes (q ∙ ap name_of (p ∙ sym w.bytes)) u) ∙ sym v ∙ x in
      rw (e, eq-eqb (suc j) (suc i) (ap suc z), b) (by t)
    where
      by : (t : Bool) → cond {A = Option ℕ} t (some j) none ≡ cond (not t) none (some j)
      by true = refl
      by false = refl

  pub taken_below : (j : ℕ) → barring ≡ some j → j < slots
  taken_below j e = (find-some (directory d) new j (taken_found (directory d) i (file_at (view d) i) new j e)).below

  pub plan_taken : (j : ℕ) → barring ≡ some j → refused_plan (refuse 16 (j + 1)) ≡ rename_plan d i new
  unfolding rename_plan
  plan_taken j e = rw (e, add-one)

  pub plan_new : barring ≡ none → (y : List ℕ) → y ≡ padded new → put_unless_protected d i 1 y ≡ rename_plan d i new
  unfolding rename_plan put_unless_protected
  plan_new e y q = rw (e, q)

-- ---- a change by name: 12 where a name is not fit (t), 15, and else what is planned of the file found (f)

abbrev pub naming : Bool → List ℕ → List ℕ → (ℕ → File → Plan) → Plan
naming t d n f = plan_unless (row 12 0 (not t)) (plan_by_name (view d) n f)

module _ (c : Change) (d n buf : List ℕ) (t : Bool) (f : ℕ → File → Plan) (s : plan c d ≡ naming t d n f) (a : check_disk d ≡ none) where
  pub name_unfit : t ≡ false → plan_call (refused_plan (refuse 12 0)) d buf ≡ change c d buf
  name_unfit e = change_planned c d buf a (refused_plan (refuse 12 0)) (s ∙ rw e)

  pub by_name : t ≡ true → (o : Option ℕ) → find (directory d) n ≡ o → plan c d ≡ fold_option (refused_plan (refuse 15 0)) (λ i. f i (file_at (view d) i)) o
  by_name e o q =
      s ∙ ap (λ (t : Bool). naming t d n f) e
      ∙ ap (λ (v : Directory). fold_option (refused_plan (refuse 15 0)) (λ i. f i (file_at (view d) i)) (find v n)) (view-slots d)
      ∙ ap (fold_option (refused_plan (refuse 15 0)) (λ i. f i (file_at (view d) i))) q

  pub name_missing : t ≡ true → find (directory d) n ≡ none → plan_call (refused_plan (refuse 15 0)) d buf ≡ change c d buf
  name_missing e q = change_planned c d buf a (refused_plan (refuse 15 0)) (by_name e none q)

  pub name-found : t ≡ true → (i : ℕ) → find (directory d) n ≡ some i → plan_call (f i (file_at (view d) i)) d buf ≡ change c d buf
  name-found e i q = change_planned c d buf a (f i (file_at (view d) i)) (by_name e (some i) q)

-- as the lookup answers
module _ (c : Change) (d n buf : List ℕ) (f : ℕ → File → Plan) (s : plan c d ≡ naming (askable n) d n f) where
  looked_refused : (r : Refusal) → refused_lookup r ≡ lookup (view d) n → changed (refused r) d buf ≡ change c d buf
  unfolding change run_change lookup check_disk
  looked_refused r e =
      by (check_view (view d)) (askable n) (find (view_slots (view d)) n) e
      ∙ ap (λ (p : Plan). changed_by (checked_result (check_disk d) (plan_result d (length buf) p)) d buf) (sym s)
    where
      by : (p : Reply) (t : Bool) (o : Option ℕ) → refused_lookup r ≡ lookup_by (p else row 12 0 (not t)) o
          → changed (refused r) d buf ≡ changed_by (checked_result p (plan_result d (length buf) (plan_unless (row 12 0 (not t)) (fold_option (refused_plan (refuse 15 0)) (λ i. f i (file_at (view d) i)) o)))) d buf
      by (some q) t o w = let z : r ≡ q = cc in ap (λ (r : Refusal). changed (refused r) d buf) z
      by none false o w = let z : r ≡ refuse 12 0 = cc in ap (λ (r : Refusal). changed (refused r) d buf) z
      by none true none w = let z : r ≡ refuse 15 0 = cc in ap (λ (r : Refusal). changed (refused r) d buf) z
      by none true (some i) w = let z : ◌≡◌ {A = ℕ} 0 1 = cc in absurd (omega arith)

  looked_at : (i : ℕ) → LookedUp d n i → plan_call (f i (file_at (view d) i)) d buf ≡ change c d buf
  looked_at i w = name-found c d n buf (askable n) f s w.accepted w.usable i w.found

-- ---- erase, and the marks

module _ (d n buf : List ℕ) where
  abbrev erase_at : ℕ → File → Plan
  erase_at i f = plan_unless (is_protected i f else is_occupied (view_slots (view d)) i f) (planned_steps (put_steps (view d) i f 0 (0 ∷ [])))

  abbrev mark_at : Mark → ℕ → File → Plan
  mark_at m i f = planned_steps (put_steps (view d) i f 0 (marked_byte m (get_or f.bytes 0 0) ∷ []))

  pub erase-refused : (r : Refusal) → refused_lookup r ≡ lookup (view d) n → changed (refused r) d buf ≡ change (erase n) d buf
  unfolding plan_of
  erase-refused = looked_refused (erase n) d n buf erase_at refl

  pub erase-found : (i : ℕ) → LookedUp d n i → plan_call (erase_plan d i) d buf ≡ change (erase n) d buf
  unfolding plan_of erase_plan put_plan
  erase-found i w =
      ap (λ (v : Directory). plan_call (plan_unless (is_protected i (file_at (view d) i) else is_occupied v i (file_at (view d) i)) (planned_steps (put_steps (view d) i (file_at (view d) i) 0 (0 ∷ [])))) d buf)
      (sym (view-slots d))
      ∙ looked_at (erase n) d n buf erase_at refl i w

  pub mark-refused : (m : Mark) (r : Refusal) → refused_lookup r ≡ lookup (view d) n → changed (refused r) d buf ≡ change (mark m n) d buf
  unfolding plan_of
  mark-refused m = looked_refused (mark m n) d n buf (mark_at m) refl

  -- with the byte that is marked as the code has it
  pub mark-found : (m : Mark) (i : ℕ) → LookedUp d n i → (s : List ℕ) → s ≡ slot_or d i → (x : ℕ) → x ≡ get_or s 0 0 → (y : ℕ) → y ≡ marked_byte m x
      → plan_call (put_plan d i 0 (y ∷ [])) d buf ≡ change (mark m n) d buf
  unfolding plan_of put_plan
  mark-found m i w s e x p y q =
      ap (λ (y : ℕ). plan_call (put_plan d i 0 (y ∷ [])) d buf) (q ∙ ap (marked_byte m) (p ∙ ap (λ (s : List ℕ). get_or s 0 0) (e ∙ sym (named_holds d n i w).bytes)))
      ∙ looked_at (mark m n) d n buf (mark_at m) refl i w

-- ---- rename

module _ (d n new buf : List ℕ) (a : check_disk d ≡ none) where
  abbrev rename_at : ℕ → File → Plan
  rename_at i f = plan_unless (rename_taken (view_slots (view d)) i f new else is_protected i f) (planned_steps (put_steps (view d) i f 1 (padded new)))

  pub rename_unaskable : askable n ≡ false → plan_call (refused_plan (refuse 12 0)) d buf ≡ change (rename n new) d buf
  unfolding plan_of
  rename_unaskable e = name_unfit (rename n new) d n buf (askable n && usable new) rename_at refl a (rw e)

  pub rename_unusable : askable n ≡ true → usable new ≡ false → plan_call (refused_plan (refuse 12 0)) d buf ≡ change (rename n new) d buf
  unfolding plan_of
  rename_unusable e q = name_unfit (rename n new) d n buf (askable n && usable new) rename_at refl a (rw (e, q))

  pub rename_missing : (askable n && usable new) ≡ true → find (directory d) n ≡ none → plan_call (refused_plan (refuse 15 0)) d buf ≡ change (rename n new) d buf
  unfolding plan_of
  rename_missing = name_missing (rename n new) d n buf (askable n && usable new) rename_at refl a

  pub rename-found : (askable n && usable new) ≡ true → (i : ℕ) → find (directory d) n ≡ some i → plan_call (rename_plan d i new) d buf ≡ change (rename n new) d buf
  unfolding plan_of rename_plan put_plan
  rename-found e i q =
      ap (λ (v : Directory). plan_call (plan_unless (rename_taken v i (file_at (view d) i) new else is_protected i (file_at (view d) i)) (put_plan d i 1 (padded new))) d buf) (sym (view-slots d))
      ∙ name-found (rename n new) d n buf (askable n && usable new) rename_at refl a e i q
