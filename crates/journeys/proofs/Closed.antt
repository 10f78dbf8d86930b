-- An accepted close that was run to its end leaves what the ledger enters for it: the recording, as its sectors then read.
use Prim.Native.Nat.{ℕ, ◌*◌, ◌/◌, ◌%◌, ◌≤◌}
use mathlib.Core.Path.{◌≡◌, sym, ap, ap₂, ◌∙◌, subst}
use mathlib.Core.Bool.{Bool}
use mathlib.Core.List.{List}
use mathlib.Core.Option.{none, some}
use native.Mathlib.Omega.{arith}
use lib.ListN.{length, get_or}
use Rattle.buffers.specs.Bytes.{tab}
use Rattle.buffers.proofs.Lists.{tab_cong}
use Rattle.chains.specs.File.{sector_at, sectors_of}
use Rattle.chains.proofs.Laws.{sectors-own}
use Rattle.directory.specs.Directory.{fold_option}
use Rattle.disk.specs.View.{View, view, view_slots, view_tracks}
use Rattle.disk.specs.Check.{check_disk}
use Rattle.steps.specs.Steps.{Step, apply}
use Rattle.plans.specs.Saving.{free_bit, lowest_slot, new_slot}
use Rattle.plans.specs.Plan.{with_slot, old_name, new_disk}
use Rattle.plans.proofs.Frame.{disk-accepted, upd_same, holds}
use Rattle.plans.proofs.Free.{FreeSlot, free-slot}
use Rattle.plans.proofs.NewFile.{filled}
use Rattle.plans.proofs.AcceptedFile.{own-bit, slot-names}
use Rattle.recordings.specs.Recording.{Recording, chain_of, close_data, close_steps, close_slot, close_plan, close_recording}
use Rattle.recordings.proofs.Piece.{made_of}
use Rattle.recordings.proofs.Close.{closed_file, along, close_view}
use Rattle.recordings.proofs.Closing.{CloseTested, passed}
use Rattle.journeys.specs.Ledger.{LedgerEntry}
use Rattle.journeys.specs.Entered.{with_entry}
use Rattle.journeys.specs.Journey.{entry_of_file, ledger_of, recorded_entry, ledger_after_close}
use Rattle.journeys.proofs.Along.{entry_along}
use Rattle.journeys.proofs.Alike.{slots_in_lem, tracks_in}
use Rattle.journeys.proofs.Entering.{ledger_upd, lowest-is}

module _ (d : List ℕ) (ok : check_disk d ≡ none) (r : Recording) (sts : List (Step View)) (p : CloseTested d r sts) where
  abbrev i : ℕ
  i = close_slot d

  abbrev bs : List ℕ
  bs = chain_of r

  abbrev slot : List ℕ
  slot = new_slot (view d).label i r.request bs

  abbrev new : List ℕ
  new = apply d (close_steps (old_name d i) d i r.request bs)

  abbrev free : ℕ → Bool
  free = free_bit (view_tracks (view d)) (view_slots (view d))

  at : FreeSlot (view d) i
  at = free-slot (view d) i p.tested.lowest

  some_bits : 1 ≤ length bs
  some_bits = filled (view d).label i (view_tracks (view d)) free r.request bs p.ready

  seen : view new ≡ with_slot (view d) i (some (closed_file d i r.request bs))
  seen = close_view d (disk-accepted d ok) i at r.request bs p.ready p.stays.links p.tested.fresh

  -- the slot's write leaves the sectors
  same-sectors : sectors_of new slot ≡ sectors_of (apply d (close_data r.request bs)) slot
  same-sectors =
      (holds new i (closed_file d i r.request bs) (ap (λ (l : View). l.files i) seen ∙ upd_same (view d) i (some (closed_file d i r.request bs)))).sectors

  entry : entry_of_file (closed_file d i r.request bs) ≡ recorded_entry (ledger_of (view d)) i r new
  unfolding ledger_of
  entry =
      entry_along free slot bs p.ready.run some_bits (slot-names (view d).label i r.request bs) (sectors_of (apply d (close_data r.request bs)) slot)
      (along d (disk-accepted d ok) i at r.request bs p.ready p.stays.links)
      ∙ ap {B = LedgerEntry} (λ (x : List ℕ). record { slot = slot; payload = x; chain = bs })
      (tab_cong (510 * length bs) (λ k. get_or (sectors_of (apply d (close_data r.request bs)) slot (get_or bs (k / 510) 0)) (k % 510) 0) byte
      (λ k h.
      ap (λ (x : List ℕ). get_or x (k % 510) 0)
      (ap (λ (f : ℕ → List ℕ). f (get_or bs (k / 510) 0)) (sym same-sectors)
      ∙ sectors-own new slot (get_or bs (k / 510) 0) (own-bit free slot bs p.ready.run some_bits (slot-names (view d).label i r.request bs) (k / 510) (omega arith))))
      ∙ ap (λ (n : ℕ). tab (510 * n) byte) p.ready.long)
    where
      byte : ℕ → ℕ
      byte k = get_or (sector_at new (get_or bs (k / 510) 0)) (k % 510) 0

  closed_so : ledger_of (view new) ≡ ledger_after_close r new (ledger_of (view d))
  closed_so =
      ap ledger_of seen ∙ ledger_upd (view d) i (some (closed_file d i r.request bs)) ∙ ap (λ (x : LedgerEntry). with_entry (ledger_of (view d)) i (some x)) entry
      ∙ sym
      (ap (fold_option (ledger_of (view d)) (λ i. with_entry (ledger_of (view d)) i (some (recorded_entry (ledger_of (view d)) i r new))))
      (ap₂ lowest_slot (tracks_in (view d)) (slots_in_lem (view d)) ∙ lowest-is (view d) i at))

pub close_enters : (r : Recording) (d : List ℕ) (room : ℕ) (new ss : List ℕ) → close_recording r d room ≡ new_disk new ss
    → ledger_of (view new) ≡ ledger_after_close r new (ledger_of (view d))
unfolding close_recording
close_enters r d room new ss e =
    let m = made_of d (close_plan d r) room new ss e in
    let p = passed d r m.steps (disk-accepted d m.accepted) m.planned in
    subst (λ (x : List ℕ). ledger_of (view x) ≡ ledger_after_close r x (ledger_of (view d))) (ap (apply d) p.steps ∙ m.disk) (closed_so d m.accepted r m.steps p)
