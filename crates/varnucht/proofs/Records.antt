-- The calls of a recording: the outcomes keep to bounds, and are packed whole.
use Prim.Native.Nat.{ℕ, ◌/◌}
use mathlib.Core.Path.{◌≡◌, sym, ap, subst}
use mathlib.Core.List.{List, []}
use mathlib.Core.Option.{none, some}
use native.Mathlib.Omega.{arith}
use lib.Dec.{ltb}
use lib.ListN.{length}
use Rattle.refusals.specs.Order.{Reply, ◌else◌}
use Rattle.refusals.specs.Answers.{Outcome, done, Out, out}
use Rattle.disk.specs.View.{view, view_slots, view_tracks}
use Rattle.disk.specs.Check.{check_disk}
use Rattle.plans.specs.Change.{SaveRequest}
use Rattle.plans.specs.Plan.{Result, refused_result, new_disk, checked_result, Changed, changed}
use Rattle.packing.specs.Packed.{packed, clipped, Within, Unpacked}
use Rattle.packing.proofs.Parts.{within_fits, unpacked}
use Rattle.recordings.specs.Recording.{with_body, recording_reply, add_piece, close_recording}
use Rattle.recordings.specs.Record.{recording_of, fresh_record}
use Rattle.recordings.specs.Calls.{open_recording_reply}
use Rattle.record_bytes.specs.Layout.{record_bytes, record_in, bytes_of}
use Rattle.byte_lists.specs.Lists.{change_bytes_by}
use Rattle.byte_lists.proofs.Table.{Small, small_else, small_row, check_small}
use Rattle.byte_lists.proofs.Bounds.{ResultBounded, small-save}
use Rattle.byte_lists.proofs.Records.{bounded_adding, bounded_closing}
use Rattle.record_calls.specs.Calls.{record_too_short, opening_bytes, lent_result, Pieced, pieced, piece_by, add_piece_bytes, close_bytes}
use Rattle.varnucht.specs.Calls.{ReturnsPiece, ReturnsClose}
use Rattle.varnucht.proofs.Bounds.{within_refused, within_unless, filled-outcome}
use Rattle.varnucht.proofs.Replies.{packed_within}

small-short : (b : List ℕ) → Small (record_too_short b)
small-short b = small_row 20 0 (ltb (length b) record_bytes) (omega arith) (omega arith)

small_check : (d : List ℕ) → Small (check_disk d)
unfolding check_disk
small_check d = check_small (view d)

small_opening : (w : SaveRequest) (d : List ℕ) → Small (open_recording_reply w d)
small_opening w d = small_else (check_disk d) (recording_reply w (view d)) (small_check d) (small-save (view_tracks (view d)) (view_slots (view d)) (with_body w []))

pub opening_within : (w : SaveRequest) (d b : List ℕ) → Within (opening_bytes w d b).outcome 0 0
unfolding opening_bytes
opening_within w d b =
    let q = open_recording_reply w d else record_too_short b in
    subst (λ (o : Outcome). Within o 0 0) (sym (filled-outcome q (done 0 0) (bytes_of (fresh_record w (view d))) b))
    (within_unless q 0 0 0 0 (small_else (open_recording_reply w d) (record_too_short b) (small_opening w d) (small-short b)) (λ e. (omega arith, omega arith)))

-- a call on a record that can be too short
settled_lent : (m : ℕ) (d b : List ℕ) (y : Result) → ResultBounded m y → ResultBounded m (lent_result d b y)
settled_lent m d b y w = by (check_disk d else record_too_short b) (small_else (check_disk d) (record_too_short b) (small_check d) (small-short b))
  where
    by : (q : Reply) → Small q → ResultBounded m (checked_result q y)
    by none a = w
    by (some r) a = a

-- a piece: at most 1,558 sectors
pub piece_within : (x d b l : List ℕ) → Within (add_piece_bytes x d b l).outcome 1558 0
unfolding add_piece_bytes
piece_within x d b l = by (lent_result d b y) (settled_lent 1558 d b y (bounded_adding (recording_of (record_in b)) x d (length l / 2)))
  where
    y : Result
    y = add_piece (recording_of (record_in b)) x d (length l / 2)

    by : (z : Result) → ResultBounded 1558 z → Within (piece_by z x d b l).outcome 1558 0
    by (refused_result r) m = within_refused r 1558 0 m
    by (new_disk new ss) m = record { refusal = omega arith; slot = omega arith; value = m; free = omega arith }

-- a close: at most 4
pub close_within : (d b l : List ℕ) → Within (close_bytes d b l).outcome 4 0
unfolding close_bytes
close_within d b l = by (lent_result d b y) (settled_lent 4 d b y (bounded_closing (recording_of (record_in b)) d (length l / 2)))
  where
    y : Result
    y = close_recording (recording_of (record_in b)) d (length l / 2)

    by : (z : Result) → ResultBounded 4 z → Within (change_bytes_by z d l).outcome 4 0
    by (refused_result r) m = within_refused r 4 0 m
    by (new_disk new ss) m = record { refusal = omega arith; slot = omega arith; value = m; free = omega arith }

-- ---- so every answer can be read in its parts

pub opening_reported : (w : SaveRequest) (d b : List ℕ) → Unpacked (opening_bytes w d b).outcome (packed (opening_bytes w d b).outcome)
opening_reported w d b = unpacked _ (within_fits _ _ _ (omega arith) (omega arith) (opening_within w d b))

pub piece_reported : (x d b l : List ℕ) → Unpacked (add_piece_bytes x d b l).outcome (packed (add_piece_bytes x d b l).outcome)
piece_reported x d b l = unpacked _ (within_fits _ _ _ (omega arith) (omega arith) (piece_within x d b l))

pub close_reported : (d b l : List ℕ) → Unpacked (close_bytes d b l).outcome (packed (close_bytes d b l).outcome)
close_reported d b l = unpacked _ (within_fits _ _ _ (omega arith) (omega arith) (close_within d b l))

-- ---- packed whole, with what the call leaves

module _ (o : Outcome) (n : ℕ) (q : n ≡ clipped o) where
  pub packed_opening_lem : (w : SaveRequest) (d b b' : List ℕ) → out o b' ≡ opening_bytes w d b → (n ≡ packed (opening_bytes w d b).outcome) × (b' ≡ (opening_bytes w d b).buffer)
  packed_opening_lem w d b b' e =
      (packed_within (opening_bytes w d b).outcome 0 0 (omega arith) (omega arith) (opening_within w d b) o (ap (λ (x : Out). x.outcome) e) n q, ap (λ (x : Out). x.buffer) e)

  pub packed-piece : (x d b l d' b' l' : List ℕ) → pieced o d' b' l' ≡ add_piece_bytes x d b l → ReturnsPiece x d b l n d' b' l'
  packed-piece x d b l d' b' l' e = (
    packed_within (add_piece_bytes x d b l).outcome 1558 0 (omega arith) (omega arith) (piece_within x d b l) o (ap (λ (p : Pieced). p.outcome) e) n q,
    ap (λ (p : Pieced). p.image) e,
    ap (λ (p : Pieced). p.kept) e,
    ap (λ (p : Pieced). p.list) e,
  )

  pub packed_close : (d b l d' l' : List ℕ) → changed o d' l' ≡ close_bytes d b l → ReturnsClose d b l n d' l'
  packed_close d b l d' l' e = (
    packed_within (close_bytes d b l).outcome 4 0 (omega arith) (omega arith) (close_within d b l) o (ap (λ (x : Changed). x.outcome) e) n q,
    ap (λ (x : Changed). x.image) e,
    ap (λ (x : Changed). x.list) e,
  )
