-- A journey through the C layer is a journey: what is left of the disk is the same.
use Prim.Native.Nat.{ℕ, ◌/◌, ◌≤◌}
use mathlib.Core.Path.{◌≡◌, refl, sym, ap, ◌∙◌}
use mathlib.Core.Bool.{Bool, true, false, cond}
use mathlib.Core.List.{List, [], ◌∷◌}
use mathlib.Core.Option.{none, some}
use native.Mathlib.Omega.{arith}
use borrow.Author.Tests.{ltb-false}
use lib.Dec.{ltb}
use lib.ListN.{length}
use Rattle.refusals.specs.Order.{Reply, ◌else◌, row}
use Rattle.refusals.specs.Answers.{Outcome, done, refused}
use Rattle.disk.specs.Check.{check_disk}
use Rattle.steps.specs.Sectors.{cut}
use Rattle.plans.specs.Plan.{Result, refused_result, new_disk, checked_result, Changed}
use Rattle.recordings.specs.Recording.{add_piece, close_recording}
use Rattle.recordings.specs.Record.{recording_of}
use Rattle.operations.specs.Operations.{Operation, run_operation, record_piece, record_close}
use Rattle.journeys.specs.Journey.{disk_left_by, disk_left, disk_after_journey}
use Rattle.byte_lists.specs.Lists.{change_bytes_by}
use Rattle.byte_lists.specs.EraseMany.{operation_bytes}
use Rattle.byte_lists.proofs.Safe.{asking_is, call_of}
use Rattle.record_bytes.specs.Layout.{record_bytes, record_in}
use Rattle.record_calls.specs.Calls.{piece_by, add_piece_bytes, close_bytes}
use Rattle.record_calls.proofs.RecordedBytes.{lent_is}
use Rattle.journey_bytes.specs.Bytes.{ByteCall, byte_change, byte_erase_many, byte_piece, byte_close, changed_of_piece, call_bytes, ByteEvent, left_with, left_as, left_bytes, after_bytes, operation_of, too_short, event_of, events_of}

-- ---- what is asked for, with a list of bytes

module _ (a : Operation) (d l : List ℕ) (k : ℕ) where
  -- the sectors in the list at return are those that it is run with
  pub asked-left : left_as d k (operation_bytes a d l) ≡ disk_left_by d k (run_operation a d (length l / 2))
  asked-left = by (operation_bytes a d l).outcome refl
    where
      none_made : (r : _) (x : Result) → (change_bytes_by x d l).outcome ≡ refused r → d ≡ disk_left_by d k x
      none_made r (refused_result s) w = refl
      none_made r (new_disk new ss) w = let z : ◌≡◌ {A = ℕ} 0 1 = cc in absurd (omega arith)

      by : (o : Outcome) → (operation_bytes a d l).outcome ≡ o → left_with d k (operation_bytes a d l) o ≡ disk_left_by d k (run_operation a d (length l / 2))
      by (done n f) e =
          call_of a d l (λ (new ss : List ℕ). cut d new ss k ≡ disk_left_by d k (run_operation a d (length l / 2))) (λ new ss q. sym (ap (disk_left_by d k) q)) n f e
      by (refused r) e = none_made r (run_operation a d (length l / 2)) (sym (ap (λ (c : Changed). c.outcome) (asking_is a d l)) ∙ e)

-- ---- a record that is long enough is asked as the recording in it

module _ (b d l : List ℕ) (h : ltb (length b) record_bytes ≡ false) where
  long : record_bytes ≤ length b
  long = ltb-false (length b) record_bytes h

  piece_is : (x : List ℕ) → changed_of_piece (add_piece_bytes x d b l) ≡ operation_bytes (record_piece (recording_of (record_in b)) x) d l
  unfolding add_piece_bytes add_piece
  piece_is x = ap (λ (y : Result). changed_of_piece (piece_by y x d b l)) (lent_is d b _ long) ∙ by (add_piece (recording_of (record_in b)) x d (length l / 2))
    where
      by : (y : Result) → changed_of_piece (piece_by y x d b l) ≡ change_bytes_by y d l
      by (refused_result r) = refl
      by (new_disk new ss) = refl

  close_is : close_bytes d b l ≡ operation_bytes (record_close (recording_of (record_in b))) d l
  unfolding close_bytes close_recording
  close_is = ap (λ (y : Result). change_bytes_by y d l) (lent_is d b _ long)

pub calling_is : (c : ByteCall) (d l : List ℕ) → too_short c ≡ false → call_bytes c d l ≡ operation_bytes (operation_of c) d l
calling_is (byte_change c) d l h = refl
calling_is (byte_erase_many ns abuf) d l h = refl
calling_is (byte_piece b x) d l h = piece_is b d l h x
calling_is (byte_close b) d l h = close_is b d l h

-- ---- and one too short is refused

module _ (d l : List ℕ) (k : ℕ) (y : Result) where
  short-piece : (b x : List ℕ) (q : Reply) (t : Bool) → t ≡ true → left_as d k (changed_of_piece (piece_by (checked_result (q else row 20 0 t) y) x d b l)) ≡ d
  short-piece b x none true h = refl
  short-piece b x (some r) true h = refl
  short-piece b x q false h = let z : ◌≡◌ {A = ℕ} 0 1 = cc in absurd (omega arith)

  short_close : (q : Reply) (t : Bool) → t ≡ true → left_as d k (change_bytes_by (checked_result (q else row 20 0 t) y) d l) ≡ d
  short_close none true h = refl
  short_close (some r) true h = refl
  short_close q false h = let z : ◌≡◌ {A = ℕ} 0 1 = cc in absurd (omega arith)

left-short : (c : ByteCall) (d l : List ℕ) (k : ℕ) → too_short c ≡ true → left_as d k (call_bytes c d l) ≡ d
unfolding add_piece_bytes close_bytes
left-short (byte_change c) d l k h = let z : ◌≡◌ {A = ℕ} 0 1 = cc in absurd (omega arith)
left-short (byte_erase_many ns abuf) d l k h = let z : ◌≡◌ {A = ℕ} 0 1 = cc in absurd (omega arith)
left-short (byte_piece b x) d l k h =
    short-piece d l k (add_piece (recording_of (record_in b)) x d (length l / 2)) b x (check_disk d) (ltb (length b) record_bytes) h
left-short (byte_close b) d l k h = short_close d l k (close_recording (recording_of (record_in b)) d (length l / 2)) (check_disk d) (ltb (length b) record_bytes) h

-- ---- one event, and all of them

pub left_is : (e : ByteEvent) (d : List ℕ) → too_short e.call ≡ false → left_bytes e d ≡ disk_left (event_of e) d
unfolding left_bytes disk_left
left_is e d h = ap (left_as d e.written) (calling_is e.call d e.list h) ∙ asked-left (operation_of e.call) d e.list e.written

after_more : (e : ByteEvent) (es : List ByteEvent) → ((d : List ℕ) → after_bytes es d ≡ disk_after_journey (events_of es) d) → (d : List ℕ)
    → after_bytes (e ∷ es) d ≡ disk_after_journey (events_of (e ∷ es)) d
unfolding left_bytes after_bytes events_of disk_after_journey
after_more e es all d = by (too_short e.call) refl
  where
    by : (t : Bool) → too_short e.call ≡ t → after_bytes es (left_bytes e d) ≡ disk_after_journey (cond t (events_of es) (event_of e ∷ events_of es)) d
    by true h = ap (after_bytes es) (left-short e.call d e.list e.written h) ∙ all d
    by false h = all (left_bytes e d) ∙ ap (disk_after_journey (events_of es)) (left_is e d h)

pub after_is : (es : List ByteEvent) (d : List ℕ) → after_bytes es d ≡ disk_after_journey (events_of es) d
unfolding after_bytes events_of disk_after_journey
after_is [] d = refl
after_is (e ∷ es) d = after_more e es (λ (d : List ℕ). after_is es d) d
