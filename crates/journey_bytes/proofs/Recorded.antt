-- A journey through the C layer with the recordings that its records hold: the same disk, the same ledger; and a recording that nothing
-- came between is entered as its pieces joined.
use Prim.Native.Nat.{ℕ, ◌/◌}
use mathlib.Core.Path.{◌≡◌, refl, sym, ap, ap₂, ◌∙◌}
use mathlib.Core.List.{List, [], ◌∷◌}
use mathlib.Core.Option.{none}
use lib.ListN.{length}
use Rattle.refusals.specs.Answers.{done}
use Rattle.disk.specs.View.{view}
use Rattle.disk.specs.Check.{check_disk}
use Rattle.plans.specs.Change.{SaveRequest, save}
use Rattle.recordings.specs.Recording.{Recording}
use Rattle.operations.specs.Operations.{Operation, run_operation}
use Rattle.journeys.specs.Entered.{ledger_after}
use Rattle.journeys.specs.Journey.{Event, disk_left_by, disk_left, disk_after_journey, ledger_of, ledger_after_close, ledger}
use Rattle.journeys.proofs.Journey.{journey_ledger, joined-pieces}
use Rattle.byte_lists.specs.EraseMany.{operation_bytes}
use Rattle.record_calls.specs.Calls.{close_bytes}
use Rattle.record_calls.specs.RecordedBytes.{UninterruptedBytes}
use Rattle.record_calls.proofs.RecordedBytes.{piece-asked, close_held, unbroken, ends as ends_held}
use Rattle.journey_bytes.specs.Bytes.{ByteCall, call_bytes, ByteEvent, left_as, left_bytes, after_bytes, events_of, ledger_bytes, CallIs, by_change, by_erase_many, by_piece_lem, by_close, EventIs, EventsAre}
use Rattle.journey_bytes.proofs.Left.{asked-left, after_is}

stands-is : (c : ByteCall) (a : Operation) (d l : List ℕ) → CallIs c a → call_bytes c d l ≡ operation_bytes a d l
stands-is _ _ d l (by_change c) = refl
stands-is _ _ d l (by_erase_many ns abuf) = refl
stands-is _ _ d l (by_piece_lem b x r h) = piece-asked r d b l h x
stands-is _ _ d l (by_close b r h) = close_held r d b l h

left_are : (e : ByteEvent) (f : Event) (d : List ℕ) → EventIs e f → left_bytes e d ≡ disk_left f d
unfolding left_bytes disk_left
left_are e f d h =
    ap (left_as d e.written) (stands-is e.call f.ask d e.list h.ask) ∙ asked-left f.ask d e.list e.written
    ∙ ap₂ (λ (k room : ℕ). disk_left_by d k (run_operation f.ask d room)) (sym h.written) (sym h.room)

pub after_are : (es : List ByteEvent) (fs : List Event) (d : List ℕ) → EventsAre es fs → after_bytes es d ≡ disk_after_journey fs d
unfolding after_bytes disk_after_journey
after_are [] [] d h = refl
after_are [] (f ∷ fs) d h = absurd h
after_are (e ∷ es) [] d h = absurd h
after_are (e ∷ es) (f ∷ fs) d h = after_are es fs (left_bytes e d) h.1 ∙ ap (disk_after_journey fs) (left_are e f d h.0)

-- the ledger is that of the recordings themselves
pub ledger_are : (es : List ByteEvent) (fs : List Event) (d : List ℕ) → check_disk d ≡ none → EventsAre es fs
    → ledger_bytes es d (ledger_of (view d)) ≡ ledger fs d (ledger_of (view d))
ledger_are es fs d ok h =
    (journey_ledger (events_of es) d ok).1 ∙ ap (λ (x : List ℕ). ledger_of (view x)) (sym (after_is es d) ∙ after_are es fs d h)
    ∙ sym (journey_ledger fs d ok).1

-- "(the joined pieces if no other change or cut came since opening)": what the close enters is what a save of the joined pieces enters
pub joined_bytes : (w : SaveRequest) (d b now : List ℕ) (r : Recording) → UninterruptedBytes w d b now r → check_disk d ≡ none → (l : List ℕ) (n f : ℕ)
    → (close_bytes now b l).outcome ≡ done n f → ledger_after_close r (close_bytes now b l).image (ledger_of (view now)) ≡ ledger_after (save r.request) (ledger_of (view d))
joined_bytes w d b now r u ok l n f e =
    let p = unbroken w d b now r u in
    joined-pieces w d r now p.0 ok (length l / 2) (close_bytes now b l).image _ (ends_held r now b l p.1 n f e).accepted
