-- Every call that changes a disk is refused by the ledger of its view, but for 20.
use Prim.Native.Nat.{ℕ, suc}
use mathlib.Core.Path.{◌≡◌, refl, sym, ap, ap₂, ◌∙◌, subst}
use mathlib.Core.Bool.{Bool, true, false, cond, not, ◌&&◌}
use mathlib.Core.List.{List, [], ◌∷◌}
use mathlib.Core.Option.{Option, none, some, some-ne-none, some-injective}
use native.Mathlib.Omega.{arith}
use lib.Dec.{eqb, eqb-suc-suc, ltb}
use lib.ListN.{length, get_or}
use Rattle.refusals.specs.Order.{Refusal, refuse, Reply, ◌else◌, row}
use Rattle.slots.specs.Slot.{protected, is_directory, name_of, count_of}
use Rattle.names.specs.Name.{askable, padded, same_bytes}
use Rattle.chains.specs.File.{File}
use Rattle.directory.specs.Directory.{fold_option, Directory}
use Rattle.directory.specs.Find.{find}
use Rattle.disk.specs.View.{View, view, view_slots, view_tracks}
use Rattle.disk.specs.Check.{check_disk}
use Rattle.files.specs.Calls.{file_at}
use Rattle.steps.specs.Steps.{Step, apply, numbers}
use Rattle.trees.specs.Tree.{occupied}
use Rattle.plans.specs.Change.{SaveRequest, Change, save, erase, rename, mark, gather, marked_byte, usable}
use Rattle.plans.specs.Gathering.{scattered, up_from, lowest_run}
use Rattle.plans.specs.Plan.{put_steps, gather_steps, Plan, refused_plan, planned_steps, plan_unless, plan_by_name, taken_at, taken_by, rename_taken, is_protected, is_occupied, save_reply, move_plan, plan_of, plan, old_name, refused_result, new_disk, plan_result, checked_result, run_change}
use Rattle.plans.specs.Allowed.{sectors_taken}
use Rattle.surveys.specs.Survey.{free}
use Rattle.recordings.specs.Recording.{Recording, with_body, with_piece, chain_of, disk_moved, recording_unless, recording_reply, fresh_recording, open_recording, piece_steps, piece_plan, add_piece, close_steps, close_slot, close_plan, close_recording}
use Rattle.erase_many.specs.EraseMany.{how_many, erased_all, sectors_of_all, not_tens, many_reply, run_many}
use Rattle.journeys.specs.Ledger.{LedgerEntry, Ledger, ledger_tracks, ledger_slots, entry_at, entry_reply as named_in}
use Rattle.journeys.specs.Entered.{other_than, save_refuses, must_move, run_for, ledger_refuses}
use Rattle.journeys.specs.Journey.{entry_of_file, ledger_of}
use Rattle.journeys.specs.Answers.{But20, opening_of}
use Rattle.journeys.proofs.Alike.{slots_in_lem, tracks_in, entry-at, must_move_lem}

-- ---- but 20

pub stopped_but : (r : Refusal) → But20 (refused_result r) (some r)
stopped_but r = record { given = λ s e. ap refused_result (some-injective r s e); only = λ s e n. let z : r ≡ s = cc in ap some z }

pub short_but : But20 (refused_result (refuse 20 0)) none
short_but = record { given = λ s e. absurd (some-ne-none s (sym e)); only = λ s e n. absurd (n cc) }

pub made_but : (new ss : List ℕ) → But20 (new_disk new ss) none
made_but new ss = record {
  given = λ s e. absurd (some-ne-none s (sym e));
  only = λ s e n. let z : ◌≡◌ {A = ℕ} 0 1 = cc in absurd (omega arith);
}

-- ---- what a plan refuses

abbrev pub plan_reply : Plan → Reply
plan_reply (refused_plan r) = some r
plan_reply (planned_steps sts) = none

pub settled_but : (d : List ℕ) (room : ℕ) (p : Plan) → But20 (plan_result d room p) (plan_reply p)
settled_but d room (refused_plan r) = stopped_but r
settled_but d room (planned_steps sts) = by (ltb room (length (numbers sts)))
  where
    by : (t : Bool) → But20 (cond t (refused_result (refuse 20 0)) (new_disk (apply d sts) (numbers sts))) none
    by true = short_but
    by false = made_but (apply d sts) (numbers sts)

or_else : (r : Reply) (p : Plan) → plan_reply (plan_unless r p) ≡ (r else plan_reply p)
or_else none p = refl
or_else (some x) p = refl

or_go : (r : Reply) (sts : List (Step View)) → plan_reply (plan_unless r (planned_steps sts)) ≡ r
or_go none sts = refl
or_go (some x) sts = refl

-- rows, and then steps
or_but : (d : List ℕ) (room : ℕ) (r : Reply) (sts : List (Step View)) → But20 (plan_result d room (plan_unless r (planned_steps sts))) r
or_but d room r sts = subst (But20 (plan_result d room (plan_unless r (planned_steps sts)))) (or_go r sts) (settled_but d room (plan_unless r (planned_steps sts)))

held_plan : (x : Refusal) (at : ℕ → Plan) (rest : ℕ → Reply) → ((i : ℕ) → plan_reply (at i) ≡ rest i) → (o : Option ℕ)
    → plan_reply (fold_option (refused_plan x) at o) ≡ fold_option (some x) rest o
held_plan x at rest h none = refl
held_plan x at rest h (some i) = h i

-- ---- the tests

-- a save's rows are those of the slots and the tracks
pub save-is : (l : View) (w : SaveRequest) → save_reply (view_tracks l) (view_slots l) w ≡ save_refuses w (ledger_of l)
unfolding save_reply save_refuses
save-is l w = ap₂ (λ (n : ℕ) (v : Directory). save_reply n v w) (sym (tracks_in l)) (sym (slots_in_lem l))

-- slots counted from 1 or from 0
other_than_lem : (i : ℕ) (f : File) (new : List ℕ) (v : Directory) → taken_by v i f new ≡ other_than i (entry_of_file f) new (find v new)
unfolding taken_by
other_than_lem i f new v = by (find v new)
  where
    t : Bool
    t = not (same_bytes (name_of f.bytes) (padded new))

    by : (o : Option ℕ) → fold_option none (λ j. cond (eqb (suc j) (suc i) && t) none (some j)) o ≡ fold_option none (λ j. cond (eqb j i && t) none (some j)) o
    by none = refl
    by (some j) = ap (λ (b : Bool). cond {A = Option ℕ} (b && t) none (some j)) (eqb-suc-suc j i)

abbrev no_run : Option ℕ → Bool
no_run o = fold_option true (λ first. false) o

move_reply : (t : Bool) (at : ℕ → List (Step View)) (o : Option ℕ)
    → plan_reply (cond t (fold_option (refused_plan (refuse 32 0)) (λ b. planned_steps (at b)) o) (planned_steps [])) ≡ row 32 0 (t && no_run o)
move_reply true at none = refl
move_reply true at (some b) = refl
move_reply false at o = refl

-- ---- each change

module _ (old : ℕ → Bool) (l : View) where
  abbrev b : Ledger
  b = ledger_of l

  -- of the file that has the name
  found : (n : List ℕ) (at : ℕ → File → Plan) (rest : ℕ → LedgerEntry → Reply) → ((i : ℕ) (f : File) → plan_reply (at i f) ≡ rest i (entry_of_file f))
      → plan_reply (plan_by_name l n at) ≡ fold_option (some (refuse 15 0)) (λ i. rest i (entry_at b i)) (find (ledger_slots b) n)
  found n at rest h =
      held_plan (refuse 15 0) (λ i. at i (file_at l i)) (λ i. rest i (entry_at b i)) (λ i. h i (file_at l i) ∙ ap (rest i) (sym (entry-at l i))) (find (view_slots l) n)
      ∙ ap (λ (v : Directory). fold_option (some (refuse 15 0)) (λ i. rest i (entry_at b i)) (find v n)) (sym (slots_in_lem l))

  named : (n : List ℕ) (at : ℕ → File → Plan) (rest : ℕ → LedgerEntry → Reply) → ((i : ℕ) (f : File) → plan_reply (at i f) ≡ rest i (entry_of_file f))
      → plan_reply (plan_unless (row 12 0 (not (askable n))) (plan_by_name l n at)) ≡ named_in b n rest
  named n at rest h = or_else (row 12 0 (not (askable n))) (plan_by_name l n at) ∙ ap (λ (r : Reply). row 12 0 (not (askable n)) else r) (found n at rest h)

  move_is : (i : ℕ) (f : File) → plan_reply (move_plan l i f) ≡ row 32 0 (must_move (entry_of_file f) && no_run (run_for b (entry_of_file f)))
  unfolding move_plan
  move_is i f =
      move_reply (scattered f) (λ first. gather_steps l i f (up_from (count_of f.bytes) first)) (lowest_run (view_tracks l) (view_slots l) (count_of f.bytes))
      ∙ ap₂ (λ (t : Bool) (o : Option ℕ). row 32 0 (t && no_run o)) (sym (must_move_lem f))
      (ap₂ (λ (n : ℕ) (v : Directory). lowest_run n v (count_of f.bytes)) (sym (tracks_in l)) (sym (slots_in_lem l)))

  pub plan_refuses : (c : Change) → plan_reply (plan_of old c l) ≡ ledger_refuses c b
  unfolding plan_of ledger_refuses
  plan_refuses (save w) = or_go (save_reply (view_tracks l) (view_slots l) w) _ ∙ save-is l w
  plan_refuses (erase n) =
      named n (λ i f. plan_unless (is_protected i f else is_occupied (view_slots l) i f) (planned_steps (put_steps l i f 0 (0 ∷ []))))
      (λ i e. row 17 (suc i) (protected e.slot) else row 29 (suc i) (occupied (ledger_slots b) i e.slot))
      (λ i f.
      or_go (is_protected i f else is_occupied (view_slots l) i f) (put_steps l i f 0 (0 ∷ []))
      ∙ ap (λ (v : Directory). row 17 (suc i) (protected f.bytes) else row 29 (suc i) (occupied v i f.bytes)) (sym (slots_in_lem l)))
  plan_refuses (rename n new) = by (askable n)
    where
      at : ℕ → File → Plan
      at i f = plan_unless (rename_taken (view_slots l) i f new else is_protected i f) (planned_steps (put_steps l i f 1 (padded new)))

      rest : ℕ → LedgerEntry → Reply
      rest i e = taken_at (other_than i e new (find (ledger_slots b) new)) else row 17 (suc i) (protected e.slot)

      by : (t : Bool) → plan_reply (plan_unless (row 12 0 (not (t && usable new))) (plan_by_name l n at))
          ≡ (row 12 0 (not (t && usable new)) else row 12 0 (not t) else fold_option (some (refuse 15 0)) (λ i. rest i (entry_at b i)) (find (ledger_slots b) n))
      by false = refl
      by true =
          or_else (row 12 0 (not (usable new))) (plan_by_name l n at)
          ∙ ap (λ (r : Reply). row 12 0 (not (usable new)) else r)
          (found n at rest
          (λ i f.
          or_go (rename_taken (view_slots l) i f new else is_protected i f) (put_steps l i f 1 (padded new))
          ∙ ap (λ (o : Option ℕ). taken_at o else row 17 (suc i) (protected f.bytes))
          (other_than_lem i f new (view_slots l) ∙ ap (λ (v : Directory). other_than i (entry_of_file f) new (find v new)) (sym (slots_in_lem l)))))
  plan_refuses (mark m n) = named n (λ i f. planned_steps (put_steps l i f 0 (marked_byte m (get_or f.bytes 0 0) ∷ []))) (λ i e. none) (λ i f. refl)
  plan_refuses (gather n) =
      named n (λ i f. plan_unless (row 13 (suc i) (is_directory f.bytes)) (move_plan l i f))
      (λ i e. row 13 (suc i) (is_directory e.slot) else row 32 0 (must_move e && no_run (run_for b e)))
      (λ i f. or_else (row 13 (suc i) (is_directory f.bytes)) (move_plan l i f) ∙ ap (λ (r : Reply). row 13 (suc i) (is_directory f.bytes) else r) (move_is i f))

module _ (d : List ℕ) (ok : check_disk d ≡ none) where
  pub refusals_are : (c : Change) (room : ℕ) → But20 (run_change c d room) (ledger_refuses c (ledger_of (view d)))
  unfolding run_change
  refusals_are c room = rw (ok, ← plan_refuses (old_name d) (view d) c) (settled_but d room (plan c d))

  -- an erase-many: 23 alone refuses the whole of it
  pub many_are : (ns : List ℕ) (answers room : ℕ) → But20 (run_many ns d answers room) (row 23 0 (not_tens ns))
  unfolding run_many many_reply
  many_are ns answers room = rw ok (by (not_tens ns) (ltb answers (how_many ns)) (ltb room (length (sectors_of_all d ns))))
    where
      by : (t u v : Bool) → But20 (checked_result (row 23 0 t else row 20 0 u else row 20 0 v) (new_disk (erased_all d ns) (sectors_of_all d ns))) (row 23 0 t)
      by true u v = stopped_but (refuse 23 0)
      by false true v = short_but
      by false false true = short_but
      by false false false = made_but (erased_all d ns) (sectors_of_all d ns)

  -- ---- a recording

  pub openings_are : (w : SaveRequest) → opening_of (open_recording w d) ≡ save_refuses (with_body w []) (ledger_of (view d))
  unfolding open_recording
  openings_are w = rw ok (by (recording_reply w (view d))) ∙ save-is (view d) (with_body w [])
    where
      by : (q : Reply) → opening_of (recording_unless q (fresh_recording w (view d))) ≡ q
      by none = refl
      by (some r) = refl

  -- 30 is not given
  pub adds_are : (r : Recording) (x : List ℕ) (room : ℕ) → disk_moved d r ≡ false
      → But20 (add_piece r x d room) (row 19 0 (ltb (free (ledger_tracks (ledger_of (view d))) (ledger_slots (ledger_of (view d)))) (sectors_taken (with_piece r x).request)))
  unfolding add_piece piece_plan
  adds_are r x room e =
      rw (ok, e, tracks_in (view d), slots_in_lem (view d))
      (or_but d room (row 19 0 (ltb (free (view_tracks (view d)) (view_slots (view d))) (sectors_taken (with_piece r x).request))) (piece_steps r x))

  pub closed_are : (r : Recording) (room : ℕ) → disk_moved d r ≡ false → But20 (close_recording r d room) (save_refuses r.request (ledger_of (view d)))
  unfolding close_recording close_plan
  closed_are r room e =
      rw (ok, e, ← save-is (view d) r.request)
      (or_but d room (save_reply (view_tracks (view d)) (view_slots (view d)) r.request) (close_steps (old_name d (close_slot d)) d (close_slot d) r.request (chain_of r)))
