-- A piece and the close of a recording with a list of bytes: a piece names at most 1,558 sectors and a close at most 4, so that many
-- numbers are always room enough.
use Prim.Native.Nat.{ℕ, ◌+◌, ◌-◌, ◌*◌, ◌/◌, ◌≤◌, min}
use mathlib.Core.Path.{◌≡◌, refl, ap, ◌∙◌}
use mathlib.Core.List.{List, ◌++◌}
use mathlib.Core.Option.{none, some}
use native.Mathlib.Omega.{arith}
use lib.Dec.{ltb}
use lib.ListN.{length, take, drop, length-take, length-append, length-drop}
use Rattle.buffers.specs.Bytes.{put}
use Rattle.refusals.specs.Order.{Refusal, Reply, row}
use Rattle.refusals.specs.Answers.{done, refused}
use Rattle.surveys.specs.Survey.{free}
use Rattle.disk.specs.View.{View, view, view_slots, view_tracks}
use Rattle.disk.specs.Check.{check_disk}
use Rattle.steps.specs.Steps.{Step, numbers}
use Rattle.steps.proofs.Steps.{numbers-append, length-numbers}
use Rattle.plans.specs.Change.{SaveRequest}
use Rattle.plans.specs.Saving.{stream}
use Rattle.plans.specs.Plan.{data_steps, old_name, dir_sectors, planned_steps, plan_unless, save_reply, new_disk, changed}
use Rattle.plans.specs.Allowed.{sectors_taken}
use Rattle.plans.proofs.Ended.{dir_numbers_lem, dirs_some}
use Rattle.recordings.specs.Recording.{Recording, with_piece, chain_of, inner_sectors, disk_moved, piece_steps, piece_reply, piece_plan, add_piece, close_data, close_steps, close_slot, close_reply, close_plan, close_recording}
use Rattle.recordings.specs.Record.{recording_of, record_by}
use Rattle.recordings.specs.Calls.{add_piece_call, added_record, close_call}
use Rattle.recordings.specs.declared.Record.{Record}
use Rattle.recordings.proofs.Piece.{made_of, piece_of}
use Rattle.recordings.proofs.Refused.{length_data}
use Rattle.operations.specs.Operations.{record_piece, record_close}
use Rattle.byte_lists.specs.Lists.{in_bytes}
use Rattle.byte_lists.specs.EraseMany.{operation_bytes}
use Rattle.byte_lists.proofs.Table.{Small, small_else, small_row, check_small}
use Rattle.byte_lists.proofs.Lent.{lent_same, lent_room, lent_is, lent_refused}
use Rattle.byte_lists.proofs.Bounds.{PlanBounded, ResultBounded, small-save, free-few, bounded_settled, same_settled}

-- ---- how many sectors each names at most

small_moved : (d : List ℕ) (r : Recording) → Small (row 30 0 (disk_moved d r))
small_moved d r = small_row 30 0 (disk_moved d r) (omega arith) (omega arith)

bounded_piece : (d : List ℕ) (r : Recording) (x : List ℕ) → PlanBounded 1558 (piece_plan d r x)
unfolding piece_plan
bounded_piece d r x = by (piece_reply d r x) refl small
  where
    few : ℕ
    few = free (view_tracks (view d)) (view_slots (view d))

    small : Small (piece_reply d r x)
    small = small_else (row 30 0 (disk_moved d r)) (row 19 0 (ltb few (sectors_taken (with_piece r x).request))) (small_moved d r) (small_row 19 0 (ltb few (sectors_taken (with_piece r x).request)) (omega arith) (omega arith))

    long : piece_reply d r x ≡ none → length (numbers (piece_steps r x)) ≤ 1558
    long e =
        let f = (piece_of d r x (piece_steps r x) (ap (λ (q : Reply). plan_unless q (planned_steps (piece_steps r x))) e)).fits in
        omega (arith, f, free-few (view_tracks (view d)) (view_slots (view d)), length-numbers (piece_steps r x), length-take (inner_sectors (sectors_taken (with_piece r x).request) - inner_sectors (sectors_taken r.request)) (data_steps (stream (with_piece r x).request) (510 * (1 + inner_sectors (sectors_taken r.request))) (drop (1 + inner_sectors (sectors_taken r.request)) (chain_of (with_piece r x)))))

    by : (q : Reply) → piece_reply d r x ≡ q → Small q → PlanBounded 1558 (plan_unless q (planned_steps (piece_steps r x)))
    by (some n) e a = a
    by none e a = long e

data_few : (w : SaveRequest) (bs : List ℕ) → length (numbers (close_data w bs)) ≤ 2
data_few w bs =
    omega (arith, length-numbers (close_data w bs), length-append (data_steps (stream w) (510 * (length bs - 1)) (drop (length bs - 1) bs)) (take 1 (take (length bs - 1) (data_steps (stream w) 0 bs))), length_data (stream w) (510 * (length bs - 1)) (drop (length bs - 1) bs), length-drop (length bs - 1) bs, length-take 1 (take (length bs - 1) (data_steps (stream w) 0 bs)))

bounded_close : (d : List ℕ) (r : Recording) → PlanBounded 4 (close_plan d r)
unfolding close_plan
bounded_close d r = by (close_reply d r) small
  where
    small : Small (close_reply d r)
    small = small_else (row 30 0 (disk_moved d r)) (save_reply (view_tracks (view d)) (view_slots (view d)) r.request) (small_moved d r) (small-save (view_tracks (view d)) (view_slots (view d)) r.request)

    steps : List (Step View)
    steps = close_steps (old_name d (close_slot d)) d (close_slot d) r.request (chain_of r)

    long : length (numbers steps) ≤ 4
    long =
        let e : length (numbers steps) ≡ length (numbers (close_data r.request (chain_of r))) + length (dir_sectors (old_name d (close_slot d)) (close_slot d)) =
        ap length (numbers-append (close_data r.request (chain_of r)) _) ∙ length-append (numbers (close_data r.request (chain_of r))) _
        ∙ ap (λ (n : ℕ). length (numbers (close_data r.request (chain_of r))) + n) (ap length (dir_numbers_lem (old_name d (close_slot d)) (close_slot d) (view d) 0 _ _)) in
        omega (arith, data_few r.request (chain_of r), (dirs_some (old_name d (close_slot d)) (close_slot d)).1)

    by : (q : Reply) → Small q → PlanBounded 4 (plan_unless q (planned_steps steps))
    by (some n) a = a
    by none a = long

pub bounded_adding : (r : Recording) (x d : List ℕ) (room : ℕ) → ResultBounded 1558 (add_piece r x d room)
unfolding add_piece check_disk
bounded_adding r x d room = bounded_settled (check_disk d) d 1558 (piece_plan d r x) (λ e. bounded_piece d r x) (check_small (view d)) room

pub bounded_closing : (r : Recording) (d : List ℕ) (room : ℕ) → ResultBounded 4 (close_recording r d room)
unfolding close_recording check_disk
bounded_closing r d room = bounded_settled (check_disk d) d 4 (close_plan d r) (λ e. bounded_close d r) (check_small (view d)) room

-- ---- the calls below

module _ (k : Record) (x d xs : List ℕ) (n r : ℕ) (room : n ≡ min r (length xs)) (enough : 1558 ≤ length xs) where
  adding_same : add_piece (recording_of k) x d (min r (length xs)) ≡ add_piece (recording_of k) x d r
  unfolding add_piece
  adding_same = same_settled (check_disk d) d 1558 (piece_plan d (recording_of k) x) (λ e. bounded_piece d (recording_of k) x) r (length xs) enough

  pub added_record_lem : (q : Record) → q ≡ added_record k x d (length (take n xs)) → q ≡ added_record k x d r
  unfolding added_record
  added_record_lem q e = e ∙ ap (record_by k x) (lent_same (add_piece (recording_of k) x d) xs n r room adding_same)

adding_fits : (k : Record) (x d : List ℕ) (m : ℕ) (new ss : List ℕ) → add_piece (recording_of k) x d m ≡ new_disk new ss → length ss ≤ m
unfolding add_piece
adding_fits k x d m new ss e = (made_of d (piece_plan d (recording_of k) x) m new ss e).fits

module _ (k : Record) (x d b xs : List ℕ) (n : ℕ) (room : n ≡ min (length b / 2) (length xs)) (enough : 1558 ≤ length xs) where
  pub added_room : (m : ℕ) (d' ys : List ℕ) → changed (done m 0) d' ys ≡ add_piece_call k x d (take n xs) → (m ≤ length (ys ++ drop n xs)) × (2 * m ≤ length b)
  unfolding add_piece_call
  added_room = lent_room (add_piece (recording_of k) x d) d b xs n room (adding_same k x d xs n (length b / 2) room enough) (adding_fits k x d)

  pub added_is : (m : ℕ) (d' ys : List ℕ) → changed (done m 0) d' ys ≡ add_piece_call k x d (take n xs) → (b' : List ℕ) → b' ≡ put b 0 (in_bytes (take m (ys ++ drop n xs)))
      → changed (done m 0) d' b' ≡ operation_bytes (record_piece (recording_of k) x) d b
  unfolding add_piece_call
  added_is = lent_is (add_piece (recording_of k) x d) d b xs n room (adding_same k x d xs n (length b / 2) room enough) (adding_fits k x d)

  pub added_refused : (r : Refusal) (d' ys : List ℕ) → changed (refused r) d' ys ≡ add_piece_call k x d (take n xs) → changed (refused r) d' b ≡ operation_bytes (record_piece (recording_of k) x) d b
  unfolding add_piece_call
  added_refused = lent_refused (add_piece (recording_of k) x d) d b xs n room (adding_same k x d xs n (length b / 2) room enough) (adding_fits k x d)

module _ (k : Record) (d b xs : List ℕ) (n : ℕ) (room : n ≡ min (length b / 2) (length xs)) (enough : 4 ≤ length xs) where
  closing_same : close_recording (recording_of k) d (min (length b / 2) (length xs)) ≡ close_recording (recording_of k) d (length b / 2)
  unfolding close_recording
  closing_same = same_settled (check_disk d) d 4 (close_plan d (recording_of k)) (λ e. bounded_close d (recording_of k)) (length b / 2) (length xs) enough

  closing_fits : (m : ℕ) (new ss : List ℕ) → close_recording (recording_of k) d m ≡ new_disk new ss → length ss ≤ m
  unfolding close_recording
  closing_fits m new ss e = (made_of d (close_plan d (recording_of k)) m new ss e).fits

  pub closed_room : (m : ℕ) (d' ys : List ℕ) → changed (done m 0) d' ys ≡ close_call k d (take n xs) → (m ≤ length (ys ++ drop n xs)) × (2 * m ≤ length b)
  unfolding close_call
  closed_room = lent_room (close_recording (recording_of k) d) d b xs n room closing_same closing_fits

  pub closed_is : (m : ℕ) (d' ys : List ℕ) → changed (done m 0) d' ys ≡ close_call k d (take n xs) → (b' : List ℕ) → b' ≡ put b 0 (in_bytes (take m (ys ++ drop n xs)))
      → changed (done m 0) d' b' ≡ operation_bytes (record_close (recording_of k)) d b
  unfolding close_call
  closed_is = lent_is (close_recording (recording_of k) d) d b xs n room closing_same closing_fits

  pub closed_refused : (r : Refusal) (d' ys : List ℕ) → changed (refused r) d' ys ≡ close_call k d (take n xs) → changed (refused r) d' b ≡ operation_bytes (record_close (recording_of k)) d b
  unfolding close_call
  closed_refused = lent_refused (close_recording (recording_of k) d) d b xs n room closing_same closing_fits
