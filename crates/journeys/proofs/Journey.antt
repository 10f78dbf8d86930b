-- A whole journey: after it the disk is accepted, and it answers as the ledger that made exactly the changes whose last sector was written.
use Prim.Native.Nat.{ℕ, ◌≤◌, ◌<◌}
use mathlib.Core.Path.{◌≡◌, refl, sym, ap, ap₂, ◌∙◌, subst}
use mathlib.Core.Bool.{Bool, true, false, cond}
use mathlib.Core.List.{List, [], ◌∷◌}
use mathlib.Core.Logic.{⊎_elim}
use mathlib.Core.Option.{none}
use native.Mathlib.Omega.{arith}
use borrow.Author.Tests.{le-leb, lt-leb, le-ltb}
use lib.Dec.{leb, ltb}
use lib.ListN.{length}
use lib.Seq.{take_all}
use Rattle.buffers.proofs.Lists.{below_or_not}
use Rattle.refusals.specs.Order.{refuse}
use Rattle.disk.specs.View.{view}
use Rattle.disk.specs.Check.{check_disk}
use Rattle.steps.specs.Sectors.{cut}
use Rattle.plans.specs.Change.{SaveRequest, Change, save, erase, rename, mark, gather}
use Rattle.plans.specs.Plan.{Result, refused_result, new_disk, run_change}
use Rattle.plans.proofs.Demand3.{crash_change}
use Rattle.plans.proofs.Released.{change-unseen}
use Rattle.recordings.specs.Recording.{Recording, Uninterrupted, close_recording}
use Rattle.recordings.proofs.Piece.{piece-unseen}
use Rattle.recordings.proofs.Closing.{close_closes}
use Rattle.recordings.proofs.Whole.{straight}
use Rattle.erase_many.specs.EraseMany.{how_many}
use Rattle.operations.specs.Operations.{Operation, single_change, erase_names, record_piece, record_close, run_operation}
use Rattle.operations.proofs.Demand3.{every_cut}
use Rattle.erase_many.proofs.Refused.{run_grants}
use Rattle.journeys.specs.Ledger.{Ledger}
use Rattle.journeys.specs.Entered.{ledger_after, erased_in}
use Rattle.journeys.specs.Journey.{Event, disk_left_by, disk_left, disk_after_journey, ledger_of, ledger_after_close, entered_by, entered_of, entered, ledger}
use Rattle.journeys.specs.Answers.{LedgerAnswers}
use Rattle.journeys.proofs.Reading.{listings, readings, opened, pieces, starting-is, treed}
use Rattle.journeys.proofs.Releasing.{release}
use Rattle.journeys.proofs.Refusing.{refusals_are, many_are, openings_are, adds_are, closed_are}
use Rattle.journeys.proofs.LedgerErases.{after-erased, answers_are}
use Rattle.journeys.proofs.Entering.{save_enters, erase_enters, rename_enters, mark_enters, gather_enters}
use Rattle.journeys.proofs.Closed.{close_enters}
use Rattle.journeys.proofs.EraseMany.{cut-entered}

-- ---- an accepted disk answers as its ledger

pub disk-answers : (d : List ℕ) → check_disk d ≡ none → LedgerAnswers d (ledger_of (view d))
disk-answers d ok = record {
  checks = ok;
  release = release d ok;
  listings = listings d ok;
  readings = readings d ok;
  opened = opened d ok;
  pieces = pieces d ok;
  starting = starting-is d ok;
  treed = treed d ok;
  refusals = refusals_are d ok;
  many = many_are d ok;
  answers = λ ns k. answers_are d ok ns k;
  openings = openings_are d ok;
  adds = adds_are d ok;
  closed = closed_are d ok;
}

-- ---- a change that was run to its end

change_enters : (c : Change) (d : List ℕ) → check_disk d ≡ none → (room : ℕ) (new ss : List ℕ) → run_change c d room ≡ new_disk new ss
    → ledger_of (view new) ≡ ledger_after c (ledger_of (view d))
change_enters (save w) d ok room new ss e = save_enters d ok room new ss w e
change_enters (erase n) d ok room new ss e = erase_enters d ok room new ss n e
change_enters (rename n to) d ok room new ss e = rename_enters d ok room new ss n to e
change_enters (mark m n) d ok room new ss e = mark_enters d ok room new ss m n e
change_enters (gather n) d ok room new ss e = gather_enters d ok room new ss n e

-- ---- one call, run to its end or cut

-- all sectors written, or more than there are
cut_past : (d new ss : List ℕ) (k : ℕ) → length ss ≤ k → cut d new ss k ≡ cut d new ss (length ss)
unfolding cut
cut_past d new ss k h = rw (take_all k ss h, take_all (length ss) ss (omega arith)) refl

module _ (d : List ℕ) (ok : check_disk d ≡ none) (new ss : List ℕ) (k : ℕ) where
  -- whose last sector was written, or not: what a call that is seen at its last sector alone leaves
  by_end : (b : Ledger) → (x : Ledger) → (k < length ss → ledger_of (view (cut d new ss k)) ≡ b) → (length ss ≤ k → ledger_of (view (cut d new ss k)) ≡ x)
      → ledger_of (view (cut d new ss k)) ≡ cond (leb (length ss) k) x b
  by_end b x early late =
      ⊎_elim (λ (h : k < length ss). early h ∙ sym (ap (λ (t : Bool). cond t x b) (lt-leb (length ss) k h)))
      (λ (h : length ss ≤ k). late h ∙ sym (ap (λ (t : Bool). cond t x b) (le-leb (length ss) k h))) (below_or_not k (length ss))

  call_enters : (a : Operation) (room : ℕ) → run_operation a d room ≡ new_disk new ss → ledger_of (view (cut d new ss k)) ≡ entered_by a ss k (cut d new ss k) (ledger_of (view d))
  call_enters (single_change c) room e =
      by_end (ledger_of (view d)) (ledger_after c (ledger_of (view d))) (λ h. ap ledger_of (change-unseen c d room new ss ok e k h))
      (λ h. ap (λ (x : List ℕ). ledger_of (view x)) (cut_past d new ss k h ∙ (crash_change c d room new ss ok e).whole) ∙ change_enters c d ok room new ss e)
  call_enters (record_piece r x) room e = ap ledger_of ((piece-unseen r x d room new ss e).unseen k)
  call_enters (record_close r) room e =
      let c = close_closes r d room new ss e in
      by_end (ledger_of (view d)) (ledger_after_close r (cut d new ss k) (ledger_of (view d))) (λ h. ap ledger_of (c.unseen k h))
      (λ h.
      subst (λ (x : List ℕ). ledger_of (view x) ≡ ledger_after_close r x (ledger_of (view d))) (sym (cut_past d new ss k h ∙ c.safe.whole)) (close_enters r d room new ss e))
  call_enters (erase_names ns abuf) room e =
      let g = run_grants d ns (length abuf) room new ss e in
      ap₂ (λ (x s : List ℕ). ledger_of (view (cut d x s k))) (sym g.1) (sym g.2) ∙ cut-entered d ok ns k
      ∙ ap (λ (c : Ledger). erased_in (ledger_of (view d)) c k) (after-erased d ok ns (how_many ns))

  call-accepted : (a : Operation) (room : ℕ) → run_operation a d room ≡ new_disk new ss → check_disk (cut d new ss k) ≡ none
  call-accepted a room e =
      ⊎_elim (λ (h : k < length ss). (every_cut a d room new ss ok e k (omega arith)).accepted)
      (λ (h : length ss ≤ k). ap check_disk (cut_past d new ss k h) ∙ (every_cut a d room new ss ok e (length ss) (omega arith)).accepted) (below_or_not k (length ss))

-- what an event leaves: an accepted disk, and the ledger of what it holds
event_leaves : (e : Event) (d : List ℕ) → check_disk d ≡ none → (check_disk (disk_left e d) ≡ none) × (ledger_of (view (disk_left e d)) ≡ entered e d (ledger_of (view d)))
unfolding disk_left entered
event_leaves e d ok = by (run_operation e.ask d e.room) refl
  where
    by : (x : Result) → run_operation e.ask d e.room ≡ x
        → (check_disk (disk_left_by d e.written x) ≡ none) × (ledger_of (view (disk_left_by d e.written x)) ≡ entered_of e x (disk_left_by d e.written x) (ledger_of (view d)))
    by (refused_result r) q = (ok, refl)
    by (new_disk new ss) q = (call-accepted d ok new ss e.written e.ask e.room q, call_enters d ok new ss e.written e.ask e.room q)

-- ---- the journey

-- the ledger beside it is the ledger of the disk that is left, which is accepted
pub journey_ledger : (es : List Event) (d : List ℕ) → check_disk d ≡ none
    → (check_disk (disk_after_journey es d) ≡ none) × (ledger es d (ledger_of (view d)) ≡ ledger_of (view (disk_after_journey es d)))
unfolding disk_after_journey ledger
journey_ledger [] d ok = (ok, refl)
journey_ledger (e ∷ es) d ok =
    let w = event_leaves e d ok in
    let r = journey_ledger es (disk_left e d) w.0 in
    (r.0, ap (ledger es (disk_left e d)) (sym w.1) ∙ r.1)

-- M-113: "Listing, reading, start addresses and every refusal but 20 and 30 are then those of a plain ledger of slots that made exactly the
-- changes whose last sector was written.": over every accepted disk and every journey
pub journey : (es : List Event) (d : List ℕ) → check_disk d ≡ none → LedgerAnswers (disk_after_journey es d) (ledger es d (ledger_of (view d)))
journey es d ok =
    let w = journey_ledger es d ok in
    subst (LedgerAnswers (disk_after_journey es d)) (sym w.1) (disk-answers (disk_after_journey es d) w.0)

-- "(the joined pieces if no other change or cut came since opening)": what the close enters is what a save of the joined pieces enters
-- in the ledger of the disk that the recording was opened on
pub joined-pieces : (w : SaveRequest) (d : List ℕ) (r : Recording) (now : List ℕ) → Uninterrupted w d r now → check_disk d ≡ none → (room : ℕ) (new ss : List ℕ)
    → close_recording r now room ≡ new_disk new ss → ledger_after_close r new (ledger_of (view now)) ≡ ledger_after (save r.request) (ledger_of (view d))
joined-pieces w d r now s ok room new ss e =
    let t = straight w d r now s in
    let q : new ≡ t.new = same new t.new t.of_close ss (ltb room (length t.of_close)) (sym (t.closes room) ∙ e) in
    let u : run_change (save r.request) d (length t.of_save) ≡ new_disk t.new t.of_save = t.saves (length t.of_save) ∙ rw (le-ltb (length t.of_save) (length t.of_save) (omega arith)) refl in
    sym (close_enters r now room new ss e) ∙ ap (λ (x : List ℕ). ledger_of (view x)) q ∙ save_enters d ok (length t.of_save) t.new t.of_save r.request u
  where
    same : (x y a b : List ℕ) (t : Bool) → cond t (refused_result (refuse 20 0)) (new_disk y a) ≡ new_disk x b → x ≡ y
    same x y a b true q = let z : ◌≡◌ {A = ℕ} 0 1 = cc in absurd (omega arith)
    same x y a b false q = cc
