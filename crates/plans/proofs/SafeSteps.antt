-- Every plan's steps: quiet but for the last, which commits one slot, of a file that the change finds or of none.
use Prim.Native.Nat.{ℕ, suc, ◌≤◌}
use mathlib.Core.Path.{◌≡◌, refl, sym, ap, ◌∙◌, subst}
use mathlib.Core.Bool.{Bool, true, false, cond, not, ◌&&◌, false≢true}
use mathlib.Core.List.{List, [], ◌∷◌, ◌++◌, append_assoc}
use mathlib.Core.Logic.{◌⊎◌, inl, inr, ⊎_elim}
use mathlib.Core.Option.{Option, none, some, some-ne-none, some-injective}
use native.Mathlib.Nat.{not-suc-le-zero}
use native.Mathlib.Omega.{arith}
use borrow.Author.Tests.{eqb-false, ltb-false}
use lib.Dec.{leb, ltb}
use lib.ListN.{length, get_or}
use Rattle.buffers.specs.Bytes.{put}
use Rattle.buffers.proofs.Tests.{and_both}
use Rattle.refusals.specs.Order.{refuse, Reply, ◌else◌, row}
use Rattle.refusals.proofs.First.{else_none}
use Rattle.slots.specs.Slot.{name_of, kind_of, count_of, carried, directory_kind, is_directory, sectors_for}
use Rattle.names.specs.Name.{same_name, askable, padded}
use Rattle.chains.specs.File.{File}
use Rattle.directory.specs.Directory.{fold_option, Directory}
use Rattle.surveys.specs.Survey.{free}
use Rattle.directory.specs.Find.{find}
use Rattle.disk.specs.View.{View, view, view_slots, view_tracks}
use Rattle.disk.specs.Accepted.{AcceptedDisk}
use Rattle.files.specs.Calls.{file_at}
use Rattle.steps.specs.Sectors.{Once}
use Rattle.steps.specs.Steps.{Step, numbers, commits, last_view, and_then, StepHolds, StepsHold}
use Rattle.steps.proofs.Steps.{commits-append, quiet_take}
use Rattle.plans.specs.Change.{SaveRequest, Mark, Change, save, erase, rename, mark, gather, marked_byte, between, usable}
use Rattle.plans.specs.Saving.{taken_bits, lowest_slot, taken_slot, stream, chain_sectors, new_slot}
use Rattle.plans.specs.Gathering.{scattered, up_from, lowest_run, payload_of, chain_fields}
use Rattle.plans.specs.Plan.{with_slot, file_if_live, slot_step, put_steps, data_steps, old_name, end_steps, end_step, save_steps, gather_steps, Plan, refused_plan, planned_steps, plan_unless, plan_by_name, name_taken, rename_taken, is_protected, is_occupied, save_reply, move_plan, plan_of, plan, finds}
use Rattle.plans.specs.Allowed.{NamedSlot}
use Rattle.plans.proofs.Frame.{upd_other, upd_label}
use Rattle.plans.proofs.Kept.{erase_does, mark_does, rename_does}
use Rattle.plans.proofs.Named.{found-file}
use Rattle.plans.proofs.Respelt.{taken_none, taken_fresh}
use Rattle.plans.proofs.Free.{free-slot}
use Rattle.plans.proofs.NewFile.{taken_ready}
use Rattle.plans.proofs.Runs.{up_long, free-rises, found-run}
use Rattle.plans.proofs.Laid.{data_commits}
use Rattle.plans.proofs.Saved.{quiet_commits, save_goes}
use Rattle.plans.proofs.Moved.{gather_goes}
use Rattle.plans.proofs.Crash.{SafeSteps}

-- quiet steps, and then one that commits a slot, of a file that the change finds or of none
pub safe_of : (fd : File → Bool) (d : List ℕ) (qs : List (Step View)) (st : Step View) (i : ℕ) (e : Option File) → st.left ≡ some (with_slot (view d) i e)
    → commits qs ≡ [] → StepsHold view AcceptedDisk d (qs ++ (st ∷ [])) → Once (numbers (qs ++ (st ∷ [])))
    → ((f : File) → (view d).files i ≡ some f → fd f ≡ true) → SafeSteps fd d (qs ++ (st ∷ []))
unfolding commits last_view
safe_of fd d qs st i e z q g n w = record {
  goes = g;
  once = n;
  quiet = λ k h. quiet_take qs st k q h;
  label = ap (λ (ts : List View). (last_view (view d) ts).label) committed ∙ upd_label (view d) i e;
  others = λ j f m r.
      ap (λ (ts : List View). (last_view (view d) ts).files j) committed
      ∙ upd_other (view d) i e j (λ s. false≢true (sym r ∙ w f (ap (view d).files (sym s) ∙ m))) ∙ m;
}
  where
    committed : commits (qs ++ (st ∷ [])) ≡ with_slot (view d) i e ∷ []
    committed = commits-append qs (st ∷ []) q ∙ ap (λ (o : Option View). and_then o []) z

-- a change that touches the slot it finds
touch_safe : (fd : File → Bool) (d n : List ℕ) (i : ℕ) (f : File) → NamedSlot d n i f → ((g : File) → fd g ≡ same_name (name_of g.bytes) (padded n)) → (o : ℕ) (y : List ℕ)
    → StepHolds view AcceptedDisk d (slot_step (view d) i o y (file_if_live (put f.bytes o y) f.sectors)) → SafeSteps fd d (put_steps (view d) i f o y)
unfolding commits numbers
touch_safe fd d n i f w fn o y g =
    safe_of fd d [] (slot_step (view d) i o y (file_if_live (put f.bytes o y) f.sectors)) i (file_if_live (put f.bytes o y) f.sectors) refl refl (g, tt) (refl, tt)
    (λ g m.
    let z : g ≡ f = some-injective g f (sym m ∙ w.here) in
    fn g ∙ ap (λ (g : File). same_name (name_of g.bytes) (padded n)) z ∙ w.name)

-- ---- what an accepted plan has passed

pub or_none : (r : Reply) (o : Plan) (p : List (Step View)) → plan_unless r o ≡ planned_steps p → (r ≡ none) × (o ≡ planned_steps p)
or_none none o p e = (refl, e)
or_none (some r) o p e = (cc, cc)

pub row-none : (n s : ℕ) (t : Bool) → row n s t ≡ none → t ≡ false
row-none n s true e = absurd (some-ne-none (refuse n s) e)
row-none n s false e = refl

pub not_none : (n s : ℕ) (t : Bool) → row n s (not t) ≡ none → t ≡ true
not_none n s true e = refl
not_none n s false e = absurd (some-ne-none (refuse n s) e)

-- what a save has tested, and the slot that it takes
pub record SaveTested (n : ℕ) (v : Directory) (w : SaveRequest) : Type 0 where
  pub usable-name : usable w.name ≡ true
  pub carried-kind : carried w.kind ≡ true
  pub range : (leb w.page 31 && between 32768 w.offset 49151) ≡ true
  pub fresh : find v w.name ≡ none
  pub lowest : lowest_slot n v ≡ some (taken_slot n v)
  pub room : sectors_for (length w.body) ≤ free n v

pub save_tested : (n : ℕ) (v : Directory) (w : SaveRequest) → save_reply n v w ≡ none → SaveTested n v w
unfolding save_reply
save_tested n v w e =
    let t12 = else_none (row 12 0 (not (usable w.name))) (r13 else r14 else name_taken v w.name else r18 else r19) e in
    let t13 = else_none r13 (r14 else name_taken v w.name else r18 else r19) t12.1 in
    let t14 = else_none r14 (name_taken v w.name else r18 else r19) t13.1 in
    let t16 = else_none (name_taken v w.name) (r18 else r19) t14.1 in
    let t18 = else_none r18 r19 t16.1 in
    record {
      usable-name = not_none 12 0 (usable w.name) t12.0;
      carried-kind = not_none 13 0 (carried w.kind) t13.0;
      range = not_none 14 0 (leb w.page 31 && between 32768 w.offset 49151) t14.0;
      fresh = taken_none (find v w.name) t16.0;
      lowest = slot-there (lowest_slot n v) t18.0;
      room = ltb-false (free n v) (sectors_for (length w.body)) (row-none 19 0 (ltb (free n v) (sectors_for (length w.body))) t18.1);
    }
  where
    r13 : Reply
    r13 = row 13 0 (not (carried w.kind))

    r14 : Reply
    r14 = row 14 0 (not (leb w.page 31 && between 32768 w.offset 49151))

    r18 : Reply
    r18 = row 18 0 (fold_option true (λ i. false) (lowest_slot n v))

    r19 : Reply
    r19 = row 19 0 (ltb (free n v) (sectors_for (length w.body)))

    slot-there : (o : Option ℕ) → row 18 0 (fold_option true (λ i. false) o) ≡ none → o ≡ some (fold_option 0 (λ i. i) o)
    slot-there none q = absurd (some-ne-none (refuse 18 0) q)
    slot-there (some i) q = refl

-- the slot that a plan by name goes on with
pub at_name_lem : (d n : List ℕ) (at : ℕ → File → Plan) (p : List (Step View)) → plan_by_name (view d) n at ≡ planned_steps p → (i : ℕ) × (NamedSlot d n i (file_at (view d) i)) × (at i (file_at (view d) i) ≡ planned_steps p)
at_name_lem d n at p e = by (find (view_slots (view d)) n) refl e
  where
    by : (o : Option ℕ) → find (view_slots (view d)) n ≡ o → fold_option (refused_plan (refuse 15 0)) (λ i. at i (file_at (view d) i)) o ≡ planned_steps p
        → (i : ℕ) × (NamedSlot d n i (file_at (view d) i)) × (at i (file_at (view d) i) ≡ planned_steps p)
    by none q w = let z : ◌≡◌ {A = ℕ} 0 1 = cc in absurd (omega arith)
    by (some i) q w = (i, found-file d n i q, w)

pub go_is : (q p : List (Step View)) (P : List (Step View) → Type 0) → planned_steps q ≡ planned_steps p → P q → P p
go_is q p P e w = let s : q ≡ p = cc in subst P s w

-- ---- each change

module _ (d : List ℕ) (ok : AcceptedDisk (view d)) (p : List (Step View)) where
  pub safe-erase : (n : List ℕ) → plan (erase n) d ≡ planned_steps p → SafeSteps (finds (erase n)) d p
  unfolding plan_of finds
  safe-erase n e =
      let a = or_none (row 12 0 (not (askable n))) (plan_by_name (view d) n (λ i f. plan_unless (is_protected i f else is_occupied (view_slots (view d)) i f) (planned_steps (put_steps (view d) i f 0 (0 ∷ []))))) p e in
      let b = at_name_lem d n (λ i f. plan_unless (is_protected i f else is_occupied (view_slots (view d)) i f) (planned_steps (put_steps (view d) i f 0 (0 ∷ [])))) p a.1 in
      let f : File = file_at (view d) b.0 in
      let c = or_none (is_protected b.0 f else is_occupied (view_slots (view d)) b.0 f) (planned_steps (put_steps (view d) b.0 f 0 (0 ∷ []))) p b.2 in
      go_is (put_steps (view d) b.0 f 0 (0 ∷ [])) p (SafeSteps (finds (erase n)) d) c.1
      (touch_safe (finds (erase n)) d n b.0 f b.1 (λ g. refl) 0 (0 ∷ []) (erase_does d ok b.0 f b.1.here))

  pub safe-mark : (m : Mark) (n : List ℕ) → plan (mark m n) d ≡ planned_steps p → SafeSteps (finds (mark m n)) d p
  unfolding plan_of finds
  safe-mark m n e =
      let a = or_none (row 12 0 (not (askable n))) (plan_by_name (view d) n (λ i f. planned_steps (put_steps (view d) i f 0 (marked_byte m (get_or f.bytes 0 0) ∷ [])))) p e in
      let b = at_name_lem d n (λ i f. planned_steps (put_steps (view d) i f 0 (marked_byte m (get_or f.bytes 0 0) ∷ []))) p a.1 in
      let f : File = file_at (view d) b.0 in
      go_is (put_steps (view d) b.0 f 0 (marked_byte m (get_or f.bytes 0 0) ∷ [])) p (SafeSteps (finds (mark m n)) d) b.2
      (touch_safe (finds (mark m n)) d n b.0 f b.1 (λ g. refl) 0 (marked_byte m (get_or f.bytes 0 0) ∷ []) (mark_does d ok b.0 f b.1.here m))

  pub safe-rename : (n new : List ℕ) → plan (rename n new) d ≡ planned_steps p → SafeSteps (finds (rename n new)) d p
  unfolding plan_of finds
  safe-rename n new e =
      let a = or_none (row 12 0 (not (askable n && usable new))) (plan_by_name (view d) n (λ i f. plan_unless (rename_taken (view_slots (view d)) i f new else is_protected i f) (planned_steps (put_steps (view d) i f 1 (padded new))))) p e in
      let u = and_both (askable n) (usable new) (not_none 12 0 (askable n && usable new) a.0) in
      let b = at_name_lem d n (λ i f. plan_unless (rename_taken (view_slots (view d)) i f new else is_protected i f) (planned_steps (put_steps (view d) i f 1 (padded new)))) p a.1 in
      let f : File = file_at (view d) b.0 in
      let c = or_none (rename_taken (view_slots (view d)) b.0 f new else is_protected b.0 f) (planned_steps (put_steps (view d) b.0 f 1 (padded new))) p b.2 in
      let t = else_none (rename_taken (view_slots (view d)) b.0 f new) (is_protected b.0 f) c.0 in
      go_is (put_steps (view d) b.0 f 1 (padded new)) p (SafeSteps (finds (rename n new)) d) c.1
      (touch_safe (finds (rename n new)) d n b.0 f b.1 (λ g. refl) 1 (padded new) (rename_does d ok b.0 f b.1.here new u.1 (taken_fresh d ok b.0 f b.1.here new t.0)))

  -- what a save has tested, and its steps
  pub record Saves (w : SaveRequest) : Type 0 where
    pub tested : SaveTested (view_tracks (view d)) (view_slots (view d)) w
    pub steps : save_steps (old_name d (taken_slot (view_tracks (view d)) (view_slots (view d)))) (view d) (taken_slot (view_tracks (view d)) (view_slots (view d))) w (taken_bits (view_tracks (view d)) (view_slots (view d)) w) ≡ p

  pub saves : (w : SaveRequest) → plan (save w) d ≡ planned_steps p → Saves w
  unfolding plan_of
  saves w e =
      let i : ℕ = taken_slot (view_tracks (view d)) (view_slots (view d)) in
      let sts : List (Step View) = save_steps (old_name d i) (view d) i w (taken_bits (view_tracks (view d)) (view_slots (view d)) w) in
      let a = or_none (save_reply (view_tracks (view d)) (view_slots (view d)) w) (planned_steps sts) p e in
      let q = a.1 in
      record { tested = save_tested (view_tracks (view d)) (view_slots (view d)) w a.0; steps = cc }

  pub safe-save : (w : SaveRequest) → plan (save w) d ≡ planned_steps p → SafeSteps (finds (save w)) d p
  unfolding finds
  safe-save w e =
      let k = saves w e in
      let t = k.tested in
      let i : ℕ = taken_slot (view_tracks (view d)) (view_slots (view d)) in
      let bs : List ℕ = taken_bits (view_tracks (view d)) (view_slots (view d)) w in
      let slot : List ℕ = new_slot (view d).label i w bs in
      let r = taken_ready (view d) ok w t.usable-name t.carried-kind t.room in
      let at = free-slot (view d) i t.lowest in
      let old : Bool = old_name d i in
      let last : Step View = end_step old (view d) i 0 slot (file_if_live slot (chain_sectors (stream w) 0 bs)) in
      let same : data_steps (stream w) 0 bs ++ end_steps old i ++ (last ∷ []) ≡ save_steps old (view d) i w bs = append_assoc (data_steps (stream w) 0 bs) (end_steps old i) (last ∷ []) in
      let g = save_goes d ok i at w bs r t.fresh in
      subst (SafeSteps (finds (save w)) d) (same ∙ k.steps)
      (safe_of (finds (save w)) d (data_steps (stream w) 0 bs ++ end_steps old i) last i (file_if_live slot (chain_sectors (stream w) 0 bs)) refl
      (quiet_commits old i (stream w) bs) (subst (StepsHold view AcceptedDisk d) (sym same) g.0) (subst (λ (x : List (Step View)). Once (numbers x)) (sym same) g.1)
      (λ f m. absurd (some-ne-none f (sym m ∙ at.empty))))

-- ---- a gather

-- what it has tested of the slot that it finds
pub record GatherTested (d n : List ℕ) (p : List (Step View)) : Type 0 where
  pub askable-name : askable n ≡ true
  pub slot : ℕ
  pub found : NamedSlot d n slot (file_at (view d) slot)
  pub no_directory : is_directory (file_at (view d) slot).bytes ≡ false
  pub planned : move_plan (view d) slot (file_at (view d) slot) ≡ planned_steps p

pub passes : (d n : List ℕ) (p : List (Step View)) → plan (gather n) d ≡ planned_steps p → GatherTested d n p
unfolding plan_of
passes d n p e =
    let a = or_none (row 12 0 (not (askable n))) (plan_by_name (view d) n (λ i f. plan_unless (row 13 (suc i) (is_directory f.bytes)) (move_plan (view d) i f))) p e in
    let b = at_name_lem d n (λ i f. plan_unless (row 13 (suc i) (is_directory f.bytes)) (move_plan (view d) i f)) p a.1 in
    let f : File = file_at (view d) b.0 in
    let c = or_none (row 13 (suc b.0) (is_directory f.bytes)) (move_plan (view d) b.0 f) p b.2 in
    record {
      askable-name = not_none 12 0 (askable n) a.0;
      slot = b.0;
      found = b.1;
      no_directory = row-none 13 (suc b.0) (is_directory f.bytes) c.0;
      planned = c.1;
    }

-- and where the file goes
pub record MovePlanned (l : View) (i : ℕ) (f : File) (p : List (Step View)) : Type 0 where
  pub must : scattered f ≡ true
  pub bit : ℕ
  pub lowest : lowest_run (view_tracks l) (view_slots l) (count_of f.bytes) ≡ some bit
  pub steps : gather_steps l i f (up_from (count_of f.bytes) bit) ≡ p

pub left_or_lifted : (l : View) (i : ℕ) (f : File) (p : List (Step View)) → move_plan l i f ≡ planned_steps p → ((scattered f ≡ false) × ([] ≡ p)) ⊎ MovePlanned l i f p
unfolding move_plan
left_or_lifted l i f p e = by (scattered f) refl (lowest_run (view_tracks l) (view_slots l) (count_of f.bytes)) refl e
  where
    by : (t : Bool) → scattered f ≡ t → (o : Option ℕ) → lowest_run (view_tracks l) (view_slots l) (count_of f.bytes) ≡ o
        → cond t (fold_option (refused_plan (refuse 32 0)) (λ b. planned_steps (gather_steps l i f (up_from (count_of f.bytes) b))) o) (planned_steps []) ≡ planned_steps p
        → ((scattered f ≡ false) × ([] ≡ p)) ⊎ MovePlanned l i f p
    by true q none m w = let z : ◌≡◌ {A = ℕ} 0 1 = cc in absurd (omega arith)
    by true q (some b) m w = let z : gather_steps l i f (up_from (count_of f.bytes) b) ≡ p = cc in inr (record { must = q; bit = b; lowest = m; steps = z })
    by false q o m w = let z : ◌≡◌ {A = List (Step View)} [] p = cc in inl (q, z)

pub not_kind_21 : (s : List ℕ) → is_directory s ≡ false → kind_of s ≡ 21 → ⊥
unfolding is_directory directory_kind
not_kind_21 s e = eqb-false (kind_of s) 21 e

-- no steps change nothing
safe_nothing : (fd : File → Bool) (d : List ℕ) → SafeSteps fd d []
unfolding commits last_view numbers
safe_nothing fd d = record { goes = tt; once = tt; quiet = λ k h. absurd (not-suc-le-zero h); label = refl; others = λ i f e q. e }

module _ (d : List ℕ) (ok : AcceptedDisk (view d)) (p : List (Step View)) where
  pub safe-gather : (n : List ℕ) → plan (gather n) d ≡ planned_steps p → SafeSteps (finds (gather n)) d p
  unfolding finds
  safe-gather n e =
      let t = passes d n p e in
      ⊎_elim (λ a. subst (SafeSteps (finds (gather n)) d) a.1 (safe_nothing (finds (gather n)) d))
      (λ a. subst (SafeSteps (finds (gather n)) d) a.steps (lifts t a))
      (left_or_lifted (view d) t.slot (file_at (view d) t.slot) p t.planned)
    where
      lifts : (t : GatherTested d n p) (a : MovePlanned (view d) t.slot (file_at (view d) t.slot) p)
          → SafeSteps (finds (gather n)) d (gather_steps (view d) t.slot (file_at (view d) t.slot) (up_from (count_of (file_at (view d) t.slot).bytes) a.bit))
      lifts t a =
          let f : File = file_at (view d) t.slot in
          let bs : List ℕ = up_from (count_of f.bytes) a.bit in
          let g =
          gather_goes d ok t.slot f t.found.here (not_kind_21 f.bytes t.no_directory) bs
          (free-rises d (count_of f.bytes) a.bit (found-run d (count_of f.bytes) a.bit a.lowest).here) (up_long (count_of f.bytes) a.bit) in
          let now : Option File = file_if_live (put f.bytes 13 (chain_fields bs)) (chain_sectors (payload_of f) 0 bs) in
          safe_of (finds (gather n)) d (data_steps (payload_of f) 0 bs) (slot_step (view d) t.slot 13 (chain_fields bs) now) t.slot now refl
          (data_commits (payload_of f) 0 bs) g.0 g.1
          (λ h q.
          let z : h ≡ f = some-injective h f (sym q ∙ t.found.here) in
          ap (λ (h : File). same_name (name_of h.bytes) (padded n)) z ∙ t.found.name)

-- the steps of every plan
pub safe_steps : (c : Change) (d : List ℕ) (p : List (Step View)) → AcceptedDisk (view d) → plan c d ≡ planned_steps p → SafeSteps (finds c) d p
safe_steps (save w) d p ok e = safe-save d ok p w e
safe_steps (erase n) d p ok e = safe-erase d ok p n e
safe_steps (rename n new) d p ok e = safe-rename d ok p n new e
safe_steps (mark m n) d p ok e = safe-mark d ok p m n e
safe_steps (gather n) d p ok e = safe-gather d ok p n e
