-- What a gather comes to, by the tests that lead there.
use Prim.Native.Nat.{ℕ, ◌+◌, ◌≤◌, ◌<◌}
use mathlib.Core.Path.{◌≡◌, refl, sym, ap, ap₂, ◌∙◌, subst}
use mathlib.Core.Bool.{Bool, true, false, cond}
use mathlib.Core.List.{List, [], ◌∷◌, ◌++◌}
use mathlib.Core.Option.{Option, none, some}
use native.Mathlib.Numerals.{add-one}
use native.Mathlib.Omega.{arith}
use borrow.Author.Tests.{lt-ltb, le-ltb}
use Rattle.std.specs.Prelude as Prelude
use lib.Dec.{ltb}
use lib.ListN.{length}
use Rattle.buffers.specs.Bytes.{put}
use Rattle.buffers.proofs.Lists.{put-none}
use Rattle.refusals.specs.Order.{Refusal, refuse}
use Rattle.refusals.specs.Answers.{done, refused, refusal_of}
use Rattle.refusals.specs.declared.Refused.{Refused}
use Rattle.slots.specs.Slot.{is_directory}
use Rattle.names.specs.Name.{askable}
use Rattle.chains.specs.File.{File, file_of}
use Rattle.directory.specs.Places.{dir_sector}
use Rattle.directory.specs.Directory.{fold_option, directory, slot_or}
use Rattle.directory.specs.Find.{find}
use Rattle.surveys.specs.declared.UsedMap.{UsedMap}
use Rattle.disk.specs.View.{View, view, view_slots, view_tracks}
use Rattle.disk.specs.Check.{check_disk}
use Rattle.files.specs.Calls.{file_at}
use Rattle.files.specs.Steps.{CheckedDisk}
use Rattle.files.proofs.Named.{file-at, named_slot}
use Rattle.steps.specs.Steps.{Step, apply, numbers}
use Rattle.plans.specs.Change.{gather}
use Rattle.plans.specs.Gathering.{scattered, up_from, lowest_run}
use Rattle.plans.specs.Gathered.{run_sectors}
use Rattle.plans.specs.Plan.{Plan, refused_plan, planned_steps, move_plan, gather_steps, plan_of, plan, Result, refused_result, new_disk, plan_result, run_change, Changed, changed, changed_by, change}
use Rattle.plans.proofs.Moved.{gather-numbers, gather-long}
use Rattle.changes.proofs.Laws.{by_name}
use Rattle.allocation.specs.Taken.{unavailable_map}
use Rattle.free_runs.specs.Runs.{lowest_clear}
use Rattle.gathers.specs.declared.Move.{Move}
use Rattle.gathers.specs.Moving.{file_in, count_in, Movable}
use Rattle.gathers.specs.Call.{moved_sectors, GatherAnswer, gather_changed, changed_by_result, gather_call, gather_plan_at, gather_at_slot, MoveInRange, GatherFits, LiveSlotOf}
use Rattle.gathers.proofs.Bridge.{lowest_clear_lem}

-- ---- at the slot that has the name

module _ (d : List ℕ) (u : UsedMap) (i room : ℕ) (w : LiveSlotOf d u i) where
  abbrev f : File
  f = file_in d i

  settled_by : (p : Plan) → gather_plan_at d i (file_in d i) ≡ p → changed_by_result (plan_result d room p) d ≡ gather_at_slot d i room
  unfolding gather_at_slot
  settled_by p e =
      ap (λ (p : Plan). changed_by_result (plan_result d room p) d) (sym e) ∙ ap (λ (g : File). changed_by_result (plan_result d room (gather_plan_at d i g)) d) (sym (file-at d i (slot_or d i) w.live))

  pub at-directory : is_directory (slot_or d i) ≡ true → changed (refused (refuse 13 (i + 1))) d [] ≡ gather_at_slot d i room
  unfolding gather_plan_at file_of
  at-directory e = settled_by (refused_plan (refuse 13 (i + 1))) (rw (e, add-one))

  module _ (k : is_directory (slot_or d i) ≡ false) where
    at-file : gather_plan_at d i (file_in d i) ≡ move_plan (view d) i (file_in d i)
    unfolding gather_plan_at file_of
    at-file = rw k

    pub at-order : scattered (file_in d i) ≡ false → changed (done 0 0) d [] ≡ gather_at_slot d i room
    unfolding move_plan apply numbers
    at-order e = rw (le-ltb room 0 (omega arith)) at (settled_by (planned_steps []) (at-file ∙ rw e))

    module _ (e : scattered (file_in d i) ≡ true) (n : ℕ) (c : n ≡ count_in d i) where
      planned : (o : Option ℕ) → o ≡ lowest_clear (unavailable_map u) n
          → gather_plan_at d i (file_in d i) ≡ fold_option (refused_plan (refuse 32 0)) (λ b. planned_steps (gather_steps (view d) i (file_in d i) (up_from (count_in d i) b))) o
      unfolding move_plan file_of
      planned o q =
          let m : move_plan (view d) i (file_in d i)
          ≡ fold_option (refused_plan (refuse 32 0)) (λ b. planned_steps (gather_steps (view d) i (file_in d i) (up_from (count_in d i) b))) (lowest_run (view_tracks (view d)) (view_slots (view d)) (count_in d i)) =
          rw e in
          at-file ∙ m
          ∙ ap (fold_option (refused_plan (refuse 32 0)) (λ b. planned_steps (gather_steps (view d) i (file_in d i) (up_from (count_in d i) b))))
          (sym (q ∙ ap (lowest_clear (unavailable_map u)) c ∙ lowest_clear_lem d u w.disk (count_in d i)))

      pub at_none : none ≡ lowest_clear (unavailable_map u) n → changed (refused (refuse 32 0)) d [] ≡ gather_at_slot d i room
      at_none q = settled_by (refused_plan (refuse 32 0)) (planned none q)

      module _ (b : ℕ) (q : some b ≡ lowest_clear (unavailable_map u) n) where
        abbrev steps : List (Step View)
        steps = gather_steps (view d) i (file_in d i) (up_from (count_in d i) b)

        many : length (numbers steps) ≡ n + 1
        unfolding file_of
        many = gather-long (view d) i (file_in d i) b ∙ ap (λ (n : ℕ). n + 1) (sym c)

        pub at-short : room ≤ n → changed (refused (refuse 20 0)) d [] ≡ gather_at_slot d i room
        at-short h =
            let l : ltb room (length (numbers steps)) ≡ true = lt-ltb room (length (numbers steps)) (omega (arith, many)) in
            sym (ap (λ (t : Bool). changed_by_result (cond t (refused_result (refuse 20 0)) (new_disk (apply d steps) (numbers steps))) d) l) ∙ settled_by (planned_steps steps) (planned (some b) q)

        pub at_moved : n < room → (d' : List ℕ) → d' ≡ apply d (gather_steps (view d) i (file_in d i) (up_from (count_in d i) b))
            → changed (done (n + 1) 0) d' (moved_sectors (record { slot = i; count = n; bit = b })) ≡ gather_at_slot d i room
        at_moved h d' p =
            let l : ltb room (length (numbers steps)) ≡ false = le-ltb room (length (numbers steps)) (omega (arith, many)) in
            let z : moved_sectors (record { slot = i; count = n; bit = b }) ≡ numbers steps =
            ap (λ (n : ℕ). run_sectors n b ++ (dir_sector i ∷ [])) c ∙ sym (gather-numbers (view d) i (file_in d i) (up_from (count_in d i) b)) in
            ap₂ (λ (x : List ℕ) (k : ℕ). changed (done k 0) x (moved_sectors (record { slot = i; count = n; bit = b }))) p (sym many)
            ∙ ap (changed (done (length (numbers steps)) 0) (apply d steps)) z
            ∙ sym (ap (λ (t : Bool). changed_by_result (cond t (refused_result (refuse 20 0)) (new_disk (apply d steps) (numbers steps))) d) l) ∙ settled_by (planned_steps steps) (planned (some b) q)

        pub at-placed : Movable d i b → n < room → MoveInRange (record { slot = i; count = n; bit = b }) room
        at-placed m h = record { slot = m.slot; small = omega (arith, m.small); fits = omega arith }

-- ---- by name

module _ (n d : List ℕ) (room : ℕ) where
  pub gather_err : (r : Refusal) → check_disk d ≡ some r → changed (refused r) d [] ≡ gather_call n d room
  unfolding gather_call run_change
  gather_err r e = rw e

  module _ (a : check_disk d ≡ none) where
    planned_by : (p : Plan) → plan (gather n) d ≡ p → changed_by_result (plan_result d room p) d ≡ gather_call n d room
    unfolding gather_call run_change
    planned_by p e = rw (a, e)

    pub gather_unfit : askable n ≡ false → changed (refused (refuse 12 0)) d [] ≡ gather_call n d room
    unfolding plan_of
    gather_unfit e = planned_by (refused_plan (refuse 12 0)) (rw e)

    plan_by_name_lem : askable n ≡ true → (o : Option ℕ) → find (directory d) n ≡ o → plan (gather n) d ≡ fold_option (refused_plan (refuse 15 0)) (λ i. gather_plan_at d i (file_at (view d) i)) o
    unfolding plan_of gather_plan_at
    plan_by_name_lem e o q = by_name (gather n) d n [] (askable n) (gather_plan_at d) refl a e o q

    pub gather_missing : askable n ≡ true → find (directory d) n ≡ none → changed (refused (refuse 15 0)) d [] ≡ gather_call n d room
    gather_missing e q = planned_by (refused_plan (refuse 15 0)) (plan_by_name_lem e none q)

    pub gather-found : askable n ≡ true → (i : ℕ) → find (directory d) n ≡ some i → gather_at_slot d i room ≡ gather_call n d room
    unfolding gather_at_slot
    gather-found e i q = planned_by (gather_plan_at d i (file_at (view d) i)) (plan_by_name_lem e (some i) q)

pub gather_held : (n d : List ℕ) (u : UsedMap) → CheckedDisk d u → askable n ≡ true → (i : ℕ) → find (directory d) n ≡ some i → LiveSlotOf d u i
gather_held n d u a e i q =
    let s = named_slot d n i (record { accepted = a.accepted; usable = e; found = q }) in
    record { disk = a; slot = s.below; live = s.here }

-- ---- a refusal, as the code gives it

pub ends-refused : (g : GatherAnswer) (r : Refused) → g ≡ Prelude.Err r → (room : ℕ) (d : List ℕ) (x : Changed) → changed (refused (refusal_of r)) d [] ≡ x → (gather_changed g d ≡ x) × GatherFits g room
ends-refused g r e room d x q = rw e (q, tt)

-- ---- the sectors put to a list

-- a list that a result fills, with the numbers as they are or in another form: x is the result, put so by h
module _ (d buf d' : List ℕ) (form : List ℕ → List ℕ) (none-put : put buf 0 (form []) ≡ buf) (h : Result → Changed) (stops : (r : Refusal) → h (refused_result r) ≡ changed (refused r) d buf)
    (fills : (new ss : List ℕ) → h (new_disk new ss) ≡ changed (done (length ss) 0) new (put buf 0 (form ss))) (x : Result) (g : GatherAnswer) (w : gather_changed g d' ≡ changed_by_result x d) where
  abbrev filled : Changed → Changed
  filled y = changed y.outcome y.image (put buf 0 (form y.list))

  is-filled : (x : Result) → filled (changed_by_result x d) ≡ h x
  is-filled (refused_result r) = ap (changed (refused r) d) none-put ∙ sym (stops r)
  is-filled (new_disk new ss) = sym (fills new ss)

  answered : (a : GatherAnswer) → g ≡ a → filled (gather_changed a d') ≡ h x
  answered a e = ap (λ (g : GatherAnswer). filled (gather_changed g d')) (sym e) ∙ ap filled w ∙ is-filled x

  pub reported_refused : (r : Refused) → g ≡ Prelude.Err r → changed (refused (refusal_of r)) d' buf ≡ h x
  reported_refused r e = ap (changed (refused (refusal_of r)) d') (sym none-put) ∙ answered (Prelude.Err r) e

  pub reported_stays : g ≡ Prelude.Ok Prelude.None → changed (done 0 0) d' buf ≡ h x
  reported_stays e = ap (changed (done 0 0) d') (sym none-put) ∙ answered (Prelude.Ok Prelude.None) e

  pub reported_went : (m : Move) → g ≡ Prelude.Ok (Prelude.Some m) → (buf' : List ℕ) → buf' ≡ put buf 0 (form (moved_sectors m)) → changed (done (m.count + 1) 0) d' buf' ≡ h x
  reported_went m e buf' q = ap (changed (done (m.count + 1) 0) d') q ∙ answered (Prelude.Ok (Prelude.Some m)) e

module _ (n d buf d' : List ℕ) (g : GatherAnswer) (w : gather_changed g d' ≡ gather_call n d (length buf)) where
  pub list-refused : (r : Refused) → g ≡ Prelude.Err r → changed (refused (refusal_of r)) d' buf ≡ change (gather n) d buf
  unfolding change gather_call
  list-refused = reported_refused d buf d' (λ ss. ss) (sym (put-none buf 0 [])) (λ x. changed_by x d buf) (λ r. refl) (λ new ss. refl) (run_change (gather n) d (length buf)) g w

  pub list-stays : g ≡ Prelude.Ok Prelude.None → changed (done 0 0) d' buf ≡ change (gather n) d buf
  unfolding change gather_call
  list-stays = reported_stays d buf d' (λ ss. ss) (sym (put-none buf 0 [])) (λ x. changed_by x d buf) (λ r. refl) (λ new ss. refl) (run_change (gather n) d (length buf)) g w

  pub list_went : (m : Move) → g ≡ Prelude.Ok (Prelude.Some m) → (buf' : List ℕ) → buf' ≡ put buf 0 (moved_sectors m) → changed (done (m.count + 1) 0) d' buf' ≡ change (gather n) d buf
  unfolding change gather_call
  list_went = reported_went d buf d' (λ ss. ss) (sym (put-none buf 0 [])) (λ x. changed_by x d buf) (λ r. refl) (λ new ss. refl) (run_change (gather n) d (length buf)) g w

pub went_placed : (g : GatherAnswer) (room : ℕ) → GatherFits g room → (m : Move) → g ≡ Prelude.Ok (Prelude.Some m) → MoveInRange m room
went_placed g room w m e = subst (λ (g : GatherAnswer). GatherFits g room) e w
