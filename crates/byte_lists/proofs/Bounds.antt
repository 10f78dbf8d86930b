-- A change with a list of bytes is the change with a list of numbers: no change names more than 1,562 sectors, so that many numbers are always room enough.
use Prim.Native.Nat.{ℕ, suc, ◌*◌, ◌/◌, ◌≤◌, ◌<◌, min}
use mathlib.Core.Path.{◌≡◌, refl, ap}
use mathlib.Core.Bool.{Bool, true, false, cond, not, ◌&&◌}
use mathlib.Core.List.{List, [], ◌∷◌, ◌++◌}
use mathlib.Core.Option.{Option, none, some}
use native.Mathlib.Omega.{arith}
use lib.Dec.{leb, ltb}
use lib.ListN.{length, get_or, take, drop, length-take}
use Rattle.buffers.specs.Bytes.{put}
use Rattle.refusals.specs.Order.{Refusal, refuse, Reply, ◌else◌, row}
use Rattle.refusals.specs.Answers.{done, refused}
use Rattle.slots.specs.Slot.{carried, protected, is_directory, count_of, sectors_for}
use Rattle.names.specs.Name.{askable, padded}
use Rattle.chains.specs.File.{File}
use Rattle.directory.specs.Places.{slots}
use Rattle.directory.specs.Directory.{fold_option, Directory}
use Rattle.surveys.specs.Survey.{free, used_map}
use Rattle.directory.specs.Find.{find}
use Rattle.directory.proofs.Search.{find-some}
use Rattle.disk.specs.View.{View, view, view_slots, view_tracks}
use Rattle.disk.specs.Check.{check_disk}
use Rattle.disk.specs.Accepted.{AcceptedDisk}
use Rattle.files.specs.Calls.{file_at}
use Rattle.trees.specs.Tree.{occupied}
use Rattle.steps.specs.Steps.{apply, numbers}
use Rattle.plans.specs.Change.{SaveRequest, Change, save, erase, rename, mark, gather, marked_byte, between, usable}
use Rattle.plans.specs.Saving.{satisfying, free_bit, taken_bits, lowest_slot, taken_slot}
use Rattle.plans.specs.Gathering.{scattered, up_from, lowest_run}
use Rattle.plans.specs.Plan.{put_steps, old_name, save_steps, gather_steps, Plan, refused_plan, planned_steps, plan_unless, plan_by_name, taken_at, name_taken, taken_by, rename_taken, is_protected, is_occupied, save_reply, move_plan, plan_of, plan, Result, refused_result, new_disk, plan_result, checked_result, run_change, changed, change}
use Rattle.plans.proofs.Frame.{disk-accepted}
use Rattle.plans.proofs.Named.{found-file}
use Rattle.plans.proofs.Respelt.{taken_found}
use Rattle.plans.proofs.Runs.{found-run, run-few}
use Rattle.plans.proofs.Moved.{gather-long}
use Rattle.plans.proofs.Ended.{dirs_some}
use Rattle.plans.proofs.Saved.{save-long}
use Rattle.plans.proofs.SafeSteps.{save_tested}
use Rattle.plans.proofs.Demand3.{run_room}
use Rattle.allocation.proofs.Unavailable.{free_le}
use Rattle.byte_lists.specs.Lists.{in_bytes, change_bytes}
use Rattle.byte_lists.proofs.Table.{Small, small_else, small_row, check_small}
use Rattle.byte_lists.proofs.Lent.{least-room, lent_room, lent_is, lent_refused}

-- how many sectors a change names at most
abbrev pub most : Change → ℕ
most (save w) = 1562
most (erase n) = 1
most (rename n new) = 1
most (mark m n) = 1
-- a file that moves has at most half the disk's sectors
most (gather n) = 781

pub most-few : (c : Change) → most c ≤ 1562
most-few (save w) = omega arith
most-few (erase n) = omega arith
most-few (rename n new) = omega arith
most-few (mark m n) = omega arith
most-few (gather n) = omega arith

-- a plan whose refusals are of the table at slots of the directory, and whose sectors are at most m
abbrev pub PlanBounded : ℕ → Plan → Type 0
PlanBounded m (refused_plan r) = Small (some r)
PlanBounded m (planned_steps p) = length (numbers p) ≤ m

bounded_or : (m : ℕ) (q : Reply) (p : Plan) → Small q → PlanBounded m p → PlanBounded m (plan_unless q p)
bounded_or m none p a b = b
bounded_or m (some r) p a b = a

module _ (l : View) (n : List ℕ) where
  bounded_named : (m : ℕ) (at : ℕ → File → Plan) → ((i : ℕ) → find (view_slots l) n ≡ some i → i < slots → PlanBounded m (at i (file_at l i))) → PlanBounded m (plan_by_name l n at)
  bounded_named m at h = by (find (view_slots l) n) refl
    where
      by : (o : Option ℕ) → find (view_slots l) n ≡ o → PlanBounded m (fold_option (refused_plan (refuse 15 0)) (λ i. at i (file_at l i)) o)
      by none e = (omega arith, omega arith)
      by (some i) e = h i e (find-some (view_slots l) n i e).below

-- 16, at a slot that a search can give
small_at : (o : Option ℕ) → ((i : ℕ) → o ≡ some i → i < slots) → Small (taken_at o)
small_at none h = tt
small_at (some i) h = let k : i < slots = h i refl in (omega arith, omega arith)

small_taken : (v : Directory) (n : List ℕ) → Small (name_taken v n)
small_taken v n = small_at (find v n) (λ i e. (find-some v n i e).below)

small_renamed : (v : Directory) (i : ℕ) (f : File) (n : List ℕ) → Small (rename_taken v i f n)
small_renamed v i f n = small_at (taken_by v i f n) (λ j e. (find-some v n j (taken_found v i f n j e)).below)

small-protected : (i : ℕ) (f : File) → i < slots → Small (is_protected i f)
small-protected i f h = small_row 17 (suc i) (protected f.bytes) (omega arith) (omega arith)

pub free-few : (n : ℕ) (v : Directory) → free n v ≤ 1560
unfolding free
free-few n v = free_le (used_map n v)

pub small-save : (n : ℕ) (v : Directory) (w : SaveRequest) → Small (save_reply n v w)
unfolding save_reply
small-save n v w =
    small_else (row 12 0 (not (usable w.name))) (r13 else r14 else name_taken v w.name else r18 else r19) (small_row 12 0 (not (usable w.name)) (omega arith) (omega arith))
    (small_else r13 (r14 else name_taken v w.name else r18 else r19) (small_row 13 0 (not (carried w.kind)) (omega arith) (omega arith))
    (small_else r14 (name_taken v w.name else r18 else r19) (small_row 14 0 (not (leb w.page 31 && between 32768 w.offset 49151)) (omega arith) (omega arith))
    (small_else (name_taken v w.name) (r18 else r19) (small_taken v w.name)
    (small_else r18 r19 (small_row 18 0 (fold_option true (λ i. false) (lowest_slot n v)) (omega arith) (omega arith))
    (small_row 19 0 (ltb (free n v) (sectors_for (length w.body))) (omega arith) (omega arith))))))
  where
    r13 : Reply
    r13 = row 13 0 (not (carried w.kind))

    r14 : Reply
    r14 = row 14 0 (not (leb w.page 31 && between 32768 w.offset 49151))

    r18 : Reply
    r18 = row 18 0 (fold_option true (λ i. false) (lowest_slot n v))

    r19 : Reply
    r19 = row 19 0 (ltb (free n v) (sectors_for (length w.body)))

taken_few : (n : ℕ) (v : Directory) (w : SaveRequest) → length (taken_bits n v w) ≤ sectors_for (length w.body)
unfolding taken_bits
taken_few n v w = omega (arith, length-take (sectors_for (length w.body)) (satisfying 1560 0 (free_bit n v)))

bounded_save : (old : ℕ → Bool) (l : View) (w : SaveRequest) → PlanBounded 1562 (plan_of old (save w) l)
unfolding plan_of
bounded_save old l w = by (save_reply n v w) refl (small-save n v w)
  where
    n : ℕ
    n = view_tracks l

    v : Directory
    v = view_slots l

    i : ℕ
    i = taken_slot n v

    by : (q : Reply) → save_reply n v w ≡ q → Small q → PlanBounded 1562 (plan_unless q (planned_steps (save_steps (old i) l i w (taken_bits n v w))))
    by (some r) e a = a
    by none e a =
        let t = (save_tested n v w e).room in
        omega (arith, save-long (old i) l i w (taken_bits n v w), dirs_some (old i) i, taken_few n v w, t, free-few n v)

module _ (d : List ℕ) (ok : AcceptedDisk (view d)) where
  abbrev l : View
  l = view d

  -- a file that is left names none, one that moves its sectors and the slot's
  bounded_move : (i : ℕ) (f : File) → (view d).files i ≡ some f → PlanBounded 781 (move_plan (view d) i f)
  unfolding move_plan numbers
  bounded_move i f e = by (scattered f) (lowest_run (view_tracks l) (view_slots l) (count_of f.bytes)) refl
    where
      by : (t : Bool) (o : Option ℕ) → lowest_run (view_tracks l) (view_slots l) (count_of f.bytes) ≡ o
          → PlanBounded 781 (cond t (fold_option (refused_plan (refuse 32 0)) (λ b. planned_steps (gather_steps l i f (up_from (count_of f.bytes) b))) o) (planned_steps []))
      by false o q = omega arith
      by true none q = (omega arith, omega arith)
      by true (some b) q = omega (arith, gather-long l i f b, run-few d ok i f e b (found-run d (count_of f.bytes) b q).here)

  plan_bounded : (c : Change) → PlanBounded (most c) (plan c d)
  unfolding plan_of numbers
  plan_bounded (save w) = bounded_save (old_name d) l w
  plan_bounded (erase n) =
      bounded_or 1 (row 12 0 (not (askable n))) (plan_by_name l n (λ i f. plan_unless (is_protected i f else is_occupied (view_slots l) i f) (planned_steps (put_steps l i f 0 (0 ∷ [])))))
      (small_row 12 0 (not (askable n)) (omega arith) (omega arith))
      (bounded_named l n 1 (λ i f. plan_unless (is_protected i f else is_occupied (view_slots l) i f) (planned_steps (put_steps l i f 0 (0 ∷ []))))
      (λ i q h. bounded_or 1 (is_protected i (file_at l i) else is_occupied (view_slots l) i (file_at l i)) (planned_steps (put_steps l i (file_at l i) 0 (0 ∷ [])))
      (small_else (is_protected i (file_at l i)) (is_occupied (view_slots l) i (file_at l i)) (small-protected i (file_at l i) h)
      (small_row 29 (suc i) (occupied (view_slots l) i (file_at l i).bytes) (omega arith) (omega arith))) (omega arith)))
  plan_bounded (rename n new) =
      bounded_or 1 (row 12 0 (not (askable n && usable new))) (plan_by_name l n (λ i f. plan_unless (rename_taken (view_slots l) i f new else is_protected i f) (planned_steps (put_steps l i f 1 (padded new)))))
      (small_row 12 0 (not (askable n && usable new)) (omega arith) (omega arith))
      (bounded_named l n 1 (λ i f. plan_unless (rename_taken (view_slots l) i f new else is_protected i f) (planned_steps (put_steps l i f 1 (padded new))))
      (λ i q h. bounded_or 1 (rename_taken (view_slots l) i (file_at l i) new else is_protected i (file_at l i)) (planned_steps (put_steps l i (file_at l i) 1 (padded new)))
      (small_else (rename_taken (view_slots l) i (file_at l i) new) (is_protected i (file_at l i)) (small_renamed (view_slots l) i (file_at l i) new) (small-protected i (file_at l i) h)) (omega arith)))
  plan_bounded (mark m n) =
      bounded_or 1 (row 12 0 (not (askable n))) (plan_by_name l n (λ i f. planned_steps (put_steps l i f 0 (marked_byte m (get_or f.bytes 0 0) ∷ [])))) (small_row 12 0 (not (askable n)) (omega arith) (omega arith))
      (bounded_named l n 1 (λ i f. planned_steps (put_steps l i f 0 (marked_byte m (get_or f.bytes 0 0) ∷ []))) (λ i q h. omega arith))
  plan_bounded (gather n) =
      bounded_or 781 (row 12 0 (not (askable n))) (plan_by_name l n (λ i f. plan_unless (row 13 (suc i) (is_directory f.bytes)) (move_plan l i f)))
      (small_row 12 0 (not (askable n)) (omega arith) (omega arith))
      (bounded_named l n 781 (λ i f. plan_unless (row 13 (suc i) (is_directory f.bytes)) (move_plan l i f))
      (λ i q h. bounded_or 781 (row 13 (suc i) (is_directory (file_at l i).bytes)) (move_plan l i (file_at l i))
      (small_row 13 (suc i) (is_directory (file_at l i).bytes) (omega arith) (omega arith)) (bounded_move i (file_at l i) (found-file d n i q).here)))

-- ---- the same of what comes of it

abbrev pub ResultBounded : ℕ → Result → Type 0
ResultBounded m (refused_result r) = Small (some r)
ResultBounded m (new_disk new ss) = length ss ≤ m

-- of a plan for a disk that the check gives q
module _ (q : Reply) (d : List ℕ) (m : ℕ) (p : Plan) (w : q ≡ none → PlanBounded m p) where
  pub bounded_settled : Small q → (room : ℕ) → ResultBounded m (checked_result q (plan_result d room p))
  bounded_settled a room = by q refl a
    where
      room_or : (t : Bool) (new ss : List ℕ) → length ss ≤ m → ResultBounded m (cond t (refused_result (refuse 20 0)) (new_disk new ss))
      room_or true new ss h = (omega arith, omega arith)
      room_or false new ss h = h

      at : (p : Plan) → PlanBounded m p → ResultBounded m (plan_result d room p)
      at (refused_plan r) b = b
      at (planned_steps p) b = room_or (ltb room (length (numbers p))) (apply d p) (numbers p) b

      by : (x : Reply) → q ≡ x → Small x → ResultBounded m (checked_result x (plan_result d room p))
      by (some r) e a = a
      by none e a = at p (w e)

  -- more room than it can need makes no difference
  pub same_settled : (r n : ℕ) → m ≤ n → checked_result q (plan_result d (min r n) p) ≡ checked_result q (plan_result d r p)
  same_settled r n h = by q refl
    where
      at : (p : Plan) → PlanBounded m p → plan_result d (min r n) p ≡ plan_result d r p
      at (refused_plan x) v = refl
      at (planned_steps p) v = ap (λ (t : Bool). cond t (refused_result (refuse 20 0)) (new_disk (apply d p) (numbers p))) (least-room r n (length (numbers p)) (omega arith))

      by : (x : Reply) → q ≡ x → checked_result x (plan_result d (min r n) p) ≡ checked_result x (plan_result d r p)
      by (some x) e = refl
      by none e = at p (w e)

pub bounded_run : (c : Change) (d : List ℕ) (room : ℕ) → ResultBounded (most c) (run_change c d room)
unfolding run_change check_disk
bounded_run c d room = bounded_settled (check_disk d) d (most c) (plan c d) (λ e. plan_bounded d (disk-accepted d e) c) (check_small (view d)) room

-- ---- the call below

module _ (c : Change) (d b xs : List ℕ) (k : ℕ) (room : k ≡ min (length b / 2) (length xs)) (enough : most c ≤ length xs) where
  same : run_change c d (min (length b / 2) (length xs)) ≡ run_change c d (length b / 2)
  unfolding run_change
  same = same_settled (check_disk d) d (most c) (plan c d) (λ e. plan_bounded d (disk-accepted d e) c) (length b / 2) (length xs) enough

  fits : (n : ℕ) (new ss : List ℕ) → run_change c d n ≡ new_disk new ss → length ss ≤ n
  fits n new ss e = (run_room c d n new ss e).fits

  pub named_room : (n : ℕ) (d' ys : List ℕ) → changed (done n 0) d' ys ≡ change c d (take k xs) → (n ≤ length (ys ++ drop k xs)) × (2 * n ≤ length b)
  unfolding change
  named_room = lent_room (run_change c d) d b xs k room same fits

  pub changing_is : (n : ℕ) (d' ys : List ℕ) → changed (done n 0) d' ys ≡ change c d (take k xs) → (b' : List ℕ) → b' ≡ put b 0 (in_bytes (take n (ys ++ drop k xs)))
      → changed (done n 0) d' b' ≡ change_bytes c d b
  unfolding change change_bytes
  changing_is = lent_is (run_change c d) d b xs k room same fits

  pub changing_refused : (r : Refusal) (d' ys : List ℕ) → changed (refused r) d' ys ≡ change c d (take k xs) → changed (refused r) d' b ≡ change_bytes c d b
  unfolding change change_bytes
  changing_refused = lent_refused (run_change c d) d b xs k room same fits
