-- The answers of an erase-many, and the ledger that its erases leave, are the ledger's: each is that of a single erase, in order.
use Prim.Native.Nat.{ℕ, zero, suc}
use mathlib.Core.Path.{◌≡◌, refl, ap, ◌∙◌}
use mathlib.Core.Bool.{cond, not}
use mathlib.Core.List.{List, [], ◌∷◌}
use mathlib.Core.Option.{none, some}
use lib.Dec.{ltb}
use lib.ListN.{length}
use Rattle.refusals.specs.Order.{refuse, Reply, ◌else◌, row}
use Rattle.names.specs.Name.{askable}
use Rattle.chains.specs.File.{File}
use Rattle.directory.specs.Directory.{fold_option}
use Rattle.disk.specs.View.{View, view, view_slots}
use Rattle.disk.specs.Check.{check_disk}
use Rattle.files.specs.Calls.{file_at}
use Rattle.steps.specs.Steps.{Step, apply, numbers}
use Rattle.plans.specs.Change.{erase}
use Rattle.plans.specs.Plan.{put_steps, old_name, Plan, refused_plan, planned_steps, plan_unless, plan_by_name, is_protected, is_occupied, plan_of, plan, Result, refused_result, new_disk, plan_result, checked_result, run_change}
use Rattle.plans.proofs.SafeSteps.{or_none, at_name_lem, go_is}
use Rattle.erase_many.specs.EraseMany.{name_at, single_erase, result_number, disk_or, disk_after_erases, answer_at}
use Rattle.erase_many.proofs.Meaning.{after-accepted}
use Rattle.journeys.specs.Ledger.{Ledger}
use Rattle.journeys.specs.Entered.{ledger_refuses, ledger_after, ledger_after_erases, answer_to}
use Rattle.journeys.specs.Journey.{ledger_of}
use Rattle.journeys.proofs.Refusing.{plan_reply, plan_refuses}
use Rattle.journeys.proofs.Entering.{erase_enters}

-- ---- one erase, its list with room for one sector

abbrev result_reply : Result → Reply
result_reply (refused_result r) = some r
result_reply (new_disk new ss) = none

answer_reply : (z : Result) → result_number z ≡ fold_option 0 (λ r. r.number) (result_reply z)
answer_reply (refused_result r) = refl
answer_reply (new_disk new ss) = refl

module _ (x : List ℕ) (ok : check_disk x ≡ none) (n : List ℕ) where
  abbrev b : Ledger
  b = ledger_of (view x)

  -- it names one, so that 20 is not given
  names_one : (sts : List (Step View)) → plan (erase n) x ≡ planned_steps sts → length (numbers sts) ≡ 1
  unfolding plan_of numbers
  names_one sts e =
      let a = or_none (row 12 0 (not (askable n))) (plan_by_name (view x) n at) sts e in
      let w = at_name_lem x n at sts a.1 in
      let q = or_none (is_protected w.0 (file_at (view x) w.0) else is_occupied (view_slots (view x)) w.0 (file_at (view x) w.0)) (planned_steps (put_steps (view x) w.0 (file_at (view x) w.0) 0 (0 ∷ []))) sts w.2 in
      go_is (put_steps (view x) w.0 (file_at (view x) w.0) 0 (0 ∷ [])) sts (λ (s : List (Step View)). length (numbers s) ≡ 1) q.1 refl
    where
      at : ℕ → File → Plan
      at i f = plan_unless (is_protected i f else is_occupied (view_slots (view x)) i f) (planned_steps (put_steps (view x) i f 0 (0 ∷ [])))

  settles : (p : Plan) → plan (erase n) x ≡ p → result_reply (plan_result x 1 p) ≡ plan_reply p
  settles (refused_plan r) e = refl
  settles (planned_steps sts) e =
      ap (λ (m : ℕ). result_reply (cond (ltb 1 m) (refused_result (refuse 20 0)) (new_disk (apply x sts) (numbers sts)))) (names_one sts e)

  alone_reply : result_reply (single_erase x n) ≡ ledger_refuses (erase n) b
  unfolding run_change
  alone_reply =
      ap (λ (r : Reply). result_reply (checked_result r (plan_result x 1 (plan (erase n) x)))) ok ∙ settles (plan (erase n) x) refl
      ∙ plan_refuses (old_name x) (view x) (erase n)

  alone_leaves : ledger_of (view (disk_or x (single_erase x n))) ≡ fold_option (ledger_after (erase n) b) (λ r. b) (ledger_refuses (erase n) b)
  alone_leaves = by (single_erase x n) refl ∙ ap (fold_option (ledger_after (erase n) b) (λ r. b)) alone_reply
    where
      by : (z : Result) → single_erase x n ≡ z → ledger_of (view (disk_or x z)) ≡ fold_option (ledger_after (erase n) b) (λ r. b) (result_reply z)
      by (refused_result r) e = refl
      by (new_disk new ss) e = erase_enters x ok 1 new ss n e

-- ---- all of them

module _ (d : List ℕ) (ok : check_disk d ≡ none) (ns : List ℕ) where
  pub after-erased : (k : ℕ) → ledger_of (view (disk_after_erases d ns k)) ≡ ledger_after_erases (ledger_of (view d)) (name_at ns) k
  unfolding disk_after_erases ledger_after_erases
  after-erased zero = refl
  after-erased (suc k) =
      alone_leaves (disk_after_erases d ns k) (after-accepted d ok ns k) (name_at ns k)
      ∙ ap (λ (b : Ledger). fold_option (ledger_after (erase (name_at ns k)) b) (λ r. b) (ledger_refuses (erase (name_at ns k)) b)) (after-erased k)

  pub answers_are : (k : ℕ) → answer_at d ns k ≡ answer_to (ledger_of (view d)) (name_at ns) k
  unfolding answer_at answer_to
  answers_are k =
      answer_reply (single_erase (disk_after_erases d ns k) (name_at ns k))
      ∙ ap (fold_option 0 (λ r. r.number)) (alone_reply (disk_after_erases d ns k) (after-accepted d ok ns k) (name_at ns k))
      ∙ ap (λ (b : Ledger). fold_option 0 (λ r. r.number) (ledger_refuses (erase (name_at ns k)) b)) (after-erased k)
