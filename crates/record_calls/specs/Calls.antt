-- The calls of a recording with lent bytes: what each answers, and what it leaves in the image, the record and the list.
use Rattle.std.specs.Prelude.{ℕ, ◌/◌, List, ltb, length}
use Rattle.buffers.specs.Bytes.{put}
use Rattle.refusals.specs.Order.{Reply, ◌else◌, row}
use Rattle.refusals.specs.Answers.{Outcome, done, refused, Out, filled}
use Rattle.disk.specs.View.{view}
use Rattle.disk.specs.Check.{check_disk}
use Rattle.plans.specs.Change.{SaveRequest}
use Rattle.plans.specs.Plan.{Result, refused_result, new_disk, checked_result, Changed}
use Rattle.recordings.specs.Recording.{add_piece, close_recording}
use Rattle.recordings.specs.Record.{recording_of, fresh_record, record_with}
use Rattle.recordings.specs.Calls.{open_recording_reply}
use Rattle.recordings.specs.declared.Record.{Record}
use Rattle.record_bytes.specs.Layout.{record_bytes, record_in, bytes_of, record_bytes_with}
use Rattle.byte_lists.specs.Lists.{in_bytes, change_bytes_by}

-- "20 where the record is too short to be one"
abbrev pub record_too_short : List ℕ → Reply
record_too_short b = row 20 0 (ltb (length b) record_bytes)

-- opening: "12, 13, 14, 16, 18, 19; in C then 20, the record too short". The record comes to the front of the buffer b, whose rest stays
unfoldable pub opening_bytes : SaveRequest → List ℕ → List ℕ → Out
opening_bytes w d b = filled (open_recording_reply w d else record_too_short b) (done 0 0) (bytes_of (fresh_record w (view d))) b

-- the disk check's refusals, then 20 where the record is too short, then the call's own
abbrev pub lent_result : List ℕ → List ℕ → Result → Result
lent_result d b x = checked_result (check_disk d else record_too_short b) x

-- a piece: outcome, image, record and list at return
pub record Pieced : Type 0 where
  pub outcome : Outcome
  pub image : List ℕ
  pub kept : List ℕ
  pub list : List ℕ

abbrev pub pieced : Outcome → List ℕ → List ℕ → List ℕ → Pieced
pieced o d b l = record { outcome = o; image = d; kept = b; list = l }

-- the record's bytes b, with what a piece changed where it was accepted
abbrev pub kept_by : Outcome → Record → List ℕ → List ℕ
kept_by (done n f) k b = record_bytes_with b k
kept_by (refused r) k b = b

-- "Refusals, the recording then as before"
abbrev pub piece_by : Result → List ℕ → List ℕ → List ℕ → List ℕ → Pieced
piece_by (refused_result r) x d b l = pieced (refused r) d b l
piece_by (new_disk new ss) x d b l = pieced (done (length ss) 0) new (record_bytes_with b (record_with (record_in b) x)) (put l 0 (in_bytes ss))

-- "Each call lists what it wrote.", "two bytes to a number"
unfoldable pub add_piece_bytes : List ℕ → List ℕ → List ℕ → List ℕ → Pieced
add_piece_bytes x d b l = piece_by (lent_result d b (add_piece (recording_of (record_in b)) x d (length l / 2))) x d b l

-- the close: "The record is never changed, so that a close that was cut can be made again"
unfoldable pub close_bytes : List ℕ → List ℕ → List ℕ → Changed
close_bytes d b l = change_bytes_by (lent_result d b (close_recording (recording_of (record_in b)) d (length l / 2))) d l
