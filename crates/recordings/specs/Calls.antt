-- What the calls of a recording give: outcome, image and list at return, and the record.
use Rattle.std.specs.Prelude.{ℕ, List, length}
use Rattle.std.proofs.Math.Option.{none, some}
use Rattle.refusals.specs.Order.{Reply, ◌else◌}
use Rattle.disk.specs.View.{view}
use Rattle.disk.specs.Check.{check_disk}
use Rattle.plans.specs.Change.{SaveRequest}
use Rattle.plans.specs.Plan.{Changed, changed_by}
use Rattle.recordings.specs.Recording.{recording_reply, add_piece, close_recording}
use Rattle.recordings.specs.Record.{recording_of, zeros, fresh_record, record_by}
use Rattle.recordings.specs.declared.Record.{Record}

-- opening: what is refused, and the record, which is blank where it is
abbrev pub open_recording_reply : SaveRequest → List ℕ → Reply
open_recording_reply w d = check_disk d else recording_reply w (view d)

unfoldable pub blank_record : Record
blank_record = record {
  kind = 0;
  name = zeros 10;
  page = 0;
  offset = 0;
  exec = zeros 3;
  info = zeros 11;
  used = zeros 195;
  tracks = 0;
  long = 0;
  first = zeros 501;
  last = zeros 510;
}

abbrev pub record_or : Reply → Record → Record
record_or (some r) k = blank_record
record_or none k = k

unfoldable pub opened_record : SaveRequest → List ℕ → Record
opened_record w d = record_or (open_recording_reply w d) (fresh_record w (view d))

-- a piece: "Each call lists what it wrote."
unfoldable pub add_piece_call : Record → List ℕ → List ℕ → List ℕ → Changed
add_piece_call k x d buf = changed_by (add_piece (recording_of k) x d (length buf)) d buf

unfoldable pub added_record : Record → List ℕ → List ℕ → ℕ → Record
added_record k x d room = record_by k x (add_piece (recording_of k) x d room)

-- the close, which leaves the record as it is
unfoldable pub close_call : Record → List ℕ → List ℕ → Changed
close_call k d buf = changed_by (close_recording (recording_of k) d (length buf)) d buf
