-- Save while recording: a save whose body comes in pieces. The words of document 02 (M-109) stand above what they define.
use Rattle.std.specs.Prelude.{ℕ, suc, ◌+◌, ◌-◌, ◌*◌, Bool, not, ◌&&◌, ◌||◌, List, [], ◌++◌, ◌≡◌, eqb, ltb, length, get_or, take, drop}
use Rattle.std.proofs.Math.Option.{none, some}
use Rattle.buffers.specs.Bytes.{any}
use Rattle.geometry.specs.Disk.{track_of, sector_of}
use Rattle.refusals.specs.Order.{Refusal, Reply, ◌else◌, row}
use Rattle.maps.specs.Bits.{has}
use Rattle.slots.specs.Tracks.{data_bit}
use Rattle.names.specs.Name.{same_bytes}
use Rattle.chains.specs.File.{sector_at, sectors_of}
use Rattle.directory.specs.Places.{slots}
use Rattle.surveys.specs.Survey.{union, free}
use Rattle.disk.specs.View.{View, view, view_slots, view_tracks}
use Rattle.disk.specs.Check.{check_disk}
use Rattle.steps.specs.Steps.{Step, apply}
use Rattle.plans.specs.Change.{SaveRequest}
use Rattle.plans.specs.Saving.{satisfying, taken_slot, stream, new_slot}
use Rattle.plans.specs.Allowed.{sectors_taken}
use Rattle.plans.specs.Plan.{data_steps, old_name, slot_steps, Plan, planned_steps, plan_unless, save_reply, Result, refused_result, new_disk, plan_result, checked_result}

-- ---- a recording

-- "a save's particulars" with the pieces so far, joined, as body; and the used map and n as they were at opening
pub record Recording : Type 0 where
  pub request : SaveRequest
  pub used : List ℕ
  pub tracks : ℕ

-- the particulars with this body
abbrev pub with_body : SaveRequest → List ℕ → SaveRequest
with_body w x = record { kind = w.kind; name = w.name; page = w.page; offset = w.offset; exec = w.exec; info = w.info; body = x }

-- a recording with one piece more
abbrev pub with_piece : Recording → List ℕ → Recording
with_piece r x = record { request = with_body r.request (r.request.body ++ x); used = r.used; tracks = r.tracks }

-- "Sectors are taken as by a save.": the lowest bits that were free at opening, rising
unfoldable pub chain_of : Recording → List ℕ
chain_of r = take (sectors_taken r.request) (satisfying 1560 0 (λ b. data_bit r.tracks b && not (has r.used b)))

-- "Each after the first is written, with its link, when a byte beyond it comes;": of n sectors all but the first and the last
abbrev pub inner_sectors : ℕ → ℕ
inner_sectors n = n - 2

-- ---- 30

-- "the used map"
abbrev pub used_of : View → List ℕ
used_of l = union (view_slots l) slots

-- a sector's last two bytes are the track and the sector of map bit b
abbrev pub leads_to : List ℕ → ℕ → Bool
leads_to h b = eqb (get_or h 510 0) (track_of b) && eqb (get_or h 511 0) (sector_of b)

-- "a sector that its pieces listed lacks its link"
unfoldable pub lacks_link : List ℕ → List ℕ → Bool
lacks_link d bs = any (inner_sectors (length bs)) (λ k. not (leads_to (sector_at d (get_or bs (suc k) 0)) (get_or bs (suc (suc k)) 0)))

-- "30, the used map or n is not what it was at opening or a sector that its pieces listed lacks its link"
unfoldable pub disk_moved : List ℕ → Recording → Bool
disk_moved d r = not (same_bytes (used_of (view d)) r.used && eqb (view_tracks (view d)) r.tracks) || lacks_link d (chain_of r)

-- ---- opening: "a save's but 20, at opening with an empty body"

pub data RecordingOpening : Type 0 where
  refused_recording : Refusal → RecordingOpening
  opened_recording : Recording → RecordingOpening

-- with nothing in it yet
abbrev pub fresh_recording : SaveRequest → View → Recording
fresh_recording w l = record { request = with_body w []; used = used_of l; tracks = view_tracks l }

abbrev pub recording_unless : Reply → Recording → RecordingOpening
recording_unless (some x) r = refused_recording x
recording_unless none r = opened_recording r

abbrev pub recording_reply : SaveRequest → View → Reply
recording_reply w l = save_reply (view_tracks l) (view_slots l) (with_body w [])

unfoldable pub open_recording : SaveRequest → List ℕ → RecordingOpening
open_recording w d = recording_unless (check_disk d else recording_reply w (view d)) (fresh_recording w (view d))

-- ---- a piece

-- the sectors that a piece x completes: those after the first that now have a byte beyond them and had none before
abbrev pub piece_steps : Recording → List ℕ → List (Step View)
piece_steps r x =
    take (inner_sectors (sectors_taken (with_piece r x).request) - inner_sectors (sectors_taken r.request))
    (data_steps (stream (with_piece r x).request) (510 * (1 + inner_sectors (sectors_taken r.request))) (drop (1 + inner_sectors (sectors_taken r.request)) (chain_of (with_piece r x))))

-- "30, 19 where it doesn't fit"
abbrev pub piece_reply : List ℕ → Recording → List ℕ → Reply
piece_reply d r x = row 30 0 (disk_moved d r) else row 19 0 (ltb (free (view_tracks (view d)) (view_slots (view d))) (sectors_taken (with_piece r x).request))

unfoldable pub piece_plan : List ℕ → Recording → List ℕ → Plan
piece_plan d r x = plan_unless (piece_reply d r x) (planned_steps (piece_steps r x))

-- "at a piece the disk check's, 30, 19 where it doesn't fit, 20"
unfoldable pub add_piece : Recording → List ℕ → List ℕ → ℕ → Result
add_piece r x d room = checked_result (check_disk d) (plan_result d room (piece_plan d r x))

-- "Refusals, the recording then as before"
abbrev pub recording_by : Recording → List ℕ → Result → Recording
recording_by r x (refused_result n) = r
recording_by r x (new_disk new ss) = with_piece r x

-- ---- closing

-- "close writes the last, then the first if it is another,"
abbrev pub close_data : SaveRequest → List ℕ → List (Step View)
close_data w bs =
    data_steps (stream w) (510 * (length bs - 1)) (drop (length bs - 1) bs) ++ take 1 (take (length bs - 1) (data_steps (stream w) 0 bs))

-- "then the save's directory sectors.": slot i then holds what the recording's sectors do; old: whether an old name stands behind it
abbrev pub close_steps : Bool → List ℕ → ℕ → SaveRequest → List ℕ → List (Step View)
close_steps old d i w bs =
    close_data w bs
    ++ slot_steps old (view d) i (new_slot (view d).label i w bs) (sectors_of (apply d (close_data w bs)) (new_slot (view d).label i w bs))

-- the slot that a close takes: a save's
abbrev pub close_slot : List ℕ → ℕ
close_slot d = taken_slot (view_tracks (view d)) (view_slots (view d))

-- "at close all of these; 30, .., before 12"
abbrev pub close_reply : List ℕ → Recording → Reply
close_reply d r = row 30 0 (disk_moved d r) else save_reply (view_tracks (view d)) (view_slots (view d)) r.request

unfoldable pub close_plan : List ℕ → Recording → Plan
close_plan d r = plan_unless (close_reply d r) (planned_steps (close_steps (old_name d (close_slot d)) d (close_slot d) r.request (chain_of r)))

unfoldable pub close_recording : Recording → List ℕ → ℕ → Result
close_recording r d room = checked_result (check_disk d) (plan_result d room (close_plan d r))

-- ---- "a recording is one that opening, or an accepted piece added to such a recording, gave back, that piece cut or not":
-- whatever was done to the disk in between

pub data Recorded : Recording → Type 0 where
  by_opening : (w : SaveRequest) (d : List ℕ) (r : Recording) → open_recording w d ≡ opened_recording r → Recorded r
  by_piece : (r : Recording) (x d : List ℕ) (room : ℕ) (new ss : List ℕ) → Recorded r → add_piece r x d room ≡ new_disk new ss → Recorded (with_piece r x)

-- "If nothing else touches the disk and nothing is cut": from opening on disk d, each call on the disk that the one before left
pub data Uninterrupted (w : SaveRequest) (d : List ℕ) : Recording → List ℕ → Type 0 where
  from_opening : (r : Recording) → open_recording w d ≡ opened_recording r → Uninterrupted w d r d
  then_piece : (r : Recording) (x now : List ℕ) (room : ℕ) (new ss : List ℕ) → Uninterrupted w d r now → add_piece r x now room ≡ new_disk new ss → Uninterrupted w d (with_piece r x) new
