-- What the calls below give is what the calls with lent bytes give.
use Prim.Native.Nat.{ℕ, ◌/◌, ◌≤◌, ◌<◌}
use mathlib.Core.Path.{◌≡◌, refl, sym, ap, ◌∙◌, subst}
use mathlib.Core.List.{List}
use mathlib.Core.Option.{none, some}
use borrow.Author.Tests.{lt-ltb, le-ltb}
use lib.ListN.{length}
use Rattle.buffers.specs.Bytes.{put}
use Rattle.refusals.specs.Order.{Refusal, refuse, Reply, ◌else◌}
use Rattle.refusals.specs.Answers.{Outcome, done, refused, unless, Out, out, filled}
use Rattle.disk.specs.View.{view}
use Rattle.disk.specs.Check.{check_disk}
use Rattle.plans.specs.Change.{SaveRequest}
use Rattle.plans.specs.Plan.{Result, refused_result, new_disk, checked_result, Changed, changed}
use Rattle.recordings.specs.Recording.{add_piece, close_recording}
use Rattle.recordings.specs.Record.{recording_of, fresh_record, record_by}
use Rattle.recordings.specs.Calls.{open_recording_reply, record_or, opened_record, added_record}
use Rattle.recordings.specs.declared.Record.{Record}
use Rattle.operations.specs.Operations.{record_piece, record_close}
use Rattle.record_bytes.specs.Layout.{record_in, bytes_of, record_bytes_with}
use Rattle.byte_lists.specs.Lists.{change_bytes_by}
use Rattle.byte_lists.specs.EraseMany.{operation_bytes}
use Rattle.record_calls.specs.Calls.{record_too_short, opening_bytes, lent_result, Pieced, pieced, kept_by, piece_by, add_piece_bytes, close_bytes}
use Rattle.record_calls.proofs.RecordedBytes.{lent_is}

-- ---- opening

module _ (w : SaveRequest) (d b : List ℕ) where
  pub opening_refused : (n : Refusal) → some n ≡ open_recording_reply w d → out (refused n) b ≡ opening_bytes w d b
  unfolding opening_bytes
  opening_refused n e = rw (← e)

  pub opening_short : none ≡ open_recording_reply w d → length b < 2048 → (o : Outcome) → o ≡ refused (refuse 20 0) → out o b ≡ opening_bytes w d b
  unfolding opening_bytes
  opening_short e h o p = ap (λ (o : Outcome). out o b) p ∙ rw (← e, lt-ltb (length b) 2048 h)

  pub opening_done : none ≡ open_recording_reply w d → 2048 ≤ length b → (k : Record) → k ≡ opened_record w d → (b' : List ℕ) → b' ≡ put b 0 (bytes_of k)
      → out (done 0 0) b' ≡ opening_bytes w d b
  unfolding opening_bytes opened_record
  opening_done e h k p b' q =
      ap (out (done 0 0)) (q ∙ ap (λ (k : Record). put b 0 (bytes_of k)) (p ∙ ap (λ (q : Reply). record_or q (fresh_record w (view d))) (sym e))) ∙ rw (← e, le-ltb (length b) 2048 h)

-- ---- a record that is too short

module _ (d : List ℕ) where
  pub short-refused : (n : Refusal) → check_disk d ≡ some n → refused n ≡ unless (check_disk d) (refused (refuse 20 0))
  short-refused n e = rw e

  pub short-accepted : check_disk d ≡ none → (o : Outcome) → o ≡ refused (refuse 20 0) → o ≡ unless (check_disk d) (refused (refuse 20 0))
  short-accepted e o p = rw e p

lent_short : (d b : List ℕ) (y : Result) → length b < 2048 → lent_result d b y ≡ checked_result (check_disk d else some (refuse 20 0)) y
lent_short d b y h = rw (lt-ltb (length b) 2048 h)

module _ (d b l : List ℕ) (h : length b < 2048) (o : Outcome) (e : o ≡ unless (check_disk d) (refused (refuse 20 0))) where
  pub piece-short : (x : List ℕ) → pieced o d b l ≡ add_piece_bytes x d b l
  unfolding add_piece_bytes
  piece-short x =
      ap (λ (o : Outcome). pieced o d b l) e ∙ by (check_disk d)
      ∙ ap (λ (y : Result). piece_by y x d b l) (sym (lent_short d b (add_piece (recording_of (record_in b)) x d (length l / 2)) h))
    where
      by : (q : Reply) → pieced (unless q (refused (refuse 20 0))) d b l ≡ piece_by (checked_result (q else some (refuse 20 0)) (add_piece (recording_of (record_in b)) x d (length l / 2))) x d b l
      by none = refl
      by (some r) = refl

  pub close_short : changed o d l ≡ close_bytes d b l
  unfolding close_bytes
  close_short =
      ap (λ (o : Outcome). changed o d l) e ∙ by (check_disk d)
      ∙ ap (λ (y : Result). change_bytes_by y d l) (sym (lent_short d b (close_recording (recording_of (record_in b)) d (length l / 2)) h))
    where
      by : (q : Reply) → changed (unless q (refused (refuse 20 0))) d l ≡ change_bytes_by (checked_result (q else some (refuse 20 0)) (close_recording (recording_of (record_in b)) d (length l / 2))) d l
      by none = refl
      by (some r) = refl

-- ---- and of one that is not

module _ (d b l : List ℕ) (h : 2048 ≤ length b) (k : Record) (e : k ≡ record_in b) where
  pub piece_is : (x : List ℕ) (o : Outcome) (d' l' : List ℕ) → changed o d' l' ≡ operation_bytes (record_piece (recording_of k) x) d l → (q : Record) → q ≡ added_record k x d (length l / 2)
      → (b' : List ℕ) → b' ≡ kept_by o q b → pieced o d' b' l' ≡ add_piece_bytes x d b l
  unfolding add_piece_bytes added_record add_piece
  piece_is x o d' l' a q f b' m =
      whole ∙ ap (λ (k : Record). piece_by (add_piece (recording_of k) x d (length l / 2)) x d b l) e
      ∙ ap (λ (y : Result). piece_by y x d b l) (sym (lent_is d b _ h))
    where
      by : (y : Result) → changed o d' l' ≡ change_bytes_by y d l → q ≡ record_by k x y → pieced o d' b' l' ≡ piece_by y x d b l
      by (refused_result r) w v =
          let z : o ≡ refused r = ap (λ (c : Changed). c.outcome) w in
          rw (z, ap (λ (c : Changed). c.image) w, m ∙ ap (λ (o : Outcome). kept_by o q b) z, ap (λ (c : Changed). c.list) w)
      by (new_disk new ss) w v =
          let z : o ≡ done (length ss) 0 = ap (λ (c : Changed). c.outcome) w in
          rw (z, ap (λ (c : Changed). c.image) w, m ∙ ap (λ (o : Outcome). kept_by o q b) z ∙ ap (λ (k : Record). kept_by (done (length ss) 0) k b) (v ∙ ap (λ (k : Record). record_by k x (new_disk new ss)) e), ap (λ (c : Changed). c.list) w)

      whole : pieced o d' b' l' ≡ piece_by (add_piece (recording_of k) x d (length l / 2)) x d b l
      whole = by (add_piece (recording_of k) x d (length l / 2)) a f

  pub close_is : (o : Outcome) (d' l' : List ℕ) → changed o d' l' ≡ operation_bytes (record_close (recording_of k)) d l → changed o d' l' ≡ close_bytes d b l
  unfolding close_bytes close_recording
  close_is o d' l' a =
      a ∙ ap (λ (k : Record). change_bytes_by (close_recording (recording_of k) d (length l / 2)) d l) e ∙ ap (λ (y : Result). change_bytes_by y d l) (sym (lent_is d b _ h))
