-- Bytes that hold a recording, and what the calls do for it: the words of document 02 (M-109), of what the app lends and gets.
use Rattle.std.specs.Prelude.{ℕ, ◌/◌, ◌≤◌, cond, List, ◌≡◌, ltb, length, take}
use Rattle.refusals.specs.Order.{refuse, SlotRow}
use Rattle.refusals.specs.Answers.{done}
use Rattle.disk.specs.View.{view}
use Rattle.files.specs.Refused.{row20}
use Rattle.plans.specs.Change.{SaveRequest, save}
use Rattle.plans.specs.Plan.{refused_result, new_disk}
use Rattle.recordings.specs.Recording.{Recording, with_body, with_piece, fresh_recording, opened_recording, open_recording, add_piece, close_recording}
use Rattle.recordings.specs.Record.{RecordOf}
use Rattle.recordings.specs.Closed.{Unseen, ClosedAs}
use Rattle.record_bytes.specs.Layout.{record_bytes, record_in, RestStays}
use Rattle.byte_lists.specs.Lists.{numbers_in, change_bytes_by, change_bytes}
use Rattle.record_calls.specs.Calls.{opening_bytes, add_piece_bytes, close_bytes}

-- the record at the front of a buffer stands for a recording
pub record HoldsRecording (b : List ℕ) (r : Recording) : Type 0 where
  pub long : record_bytes ≤ length b
  pub stands : RecordOf (record_in b) r

-- ---- each call, where it is accepted

-- "Open with a save's particulars"
pub record OpensBytes (w : SaveRequest) (d b : List ℕ) : Type 0 where
  pub opened : open_recording w d ≡ opened_recording (fresh_recording w (view d))
  pub holds : HoldsRecording (opening_bytes w d b).buffer (fresh_recording w (view d))
  pub rest : RestStays b (opening_bytes w d b).buffer

-- "add pieces, empty pieces too": n sectors, named at the front of the list
pub record AddsBytes (r : Recording) (x d b l : List ℕ) (n : ℕ) : Type 0 where
  pub accepted : add_piece r x d (length l / 2) ≡ new_disk (add_piece_bytes x d b l).image (take n (numbers_in (add_piece_bytes x d b l).list))
  -- nothing is seen to change, whichever number of them is written
  pub unseen : Unseen d (add_piece_bytes x d b l).image (take n (numbers_in (add_piece_bytes x d b l).list))
  pub holds : HoldsRecording (add_piece_bytes x d b l).kept (with_piece r x)
  pub rest : RestStays b (add_piece_bytes x d b l).kept

-- "and close."
pub record ClosesBytes (r : Recording) (d b l : List ℕ) (n : ℕ) : Type 0 where
  pub accepted : close_recording r d (length l / 2) ≡ new_disk (close_bytes d b l).image (take n (numbers_in (close_bytes d b l).list))
  pub closes : ClosedAs r d (close_bytes d b l).image (take n (numbers_in (close_bytes d b l).list))

-- ---- the bytes of our calls

-- "a recording is one that opening, or an accepted piece added to such a recording, gave back", whatever was done to the disk in between
pub data RecordedBytes : List ℕ → Recording → Type 0 where
  bytes_opened : (w : SaveRequest) (d b : List ℕ) (n f : ℕ) → (opening_bytes w d b).outcome ≡ done n f → RecordedBytes (opening_bytes w d b).buffer (fresh_recording w (view d))
  bytes_added : (r : Recording) (x d b l : List ℕ) (n f : ℕ) → RecordedBytes b r → (add_piece_bytes x d b l).outcome ≡ done n f → RecordedBytes (add_piece_bytes x d b l).kept (with_piece r x)

-- "If nothing else touches the disk and nothing is cut": from opening on disk d, each call on the disk that the one before left
pub data UninterruptedBytes (w : SaveRequest) (d : List ℕ) : List ℕ → List ℕ → Recording → Type 0 where
  bytes_from_opening : (b : List ℕ) (n f : ℕ) → (opening_bytes w d b).outcome ≡ done n f → UninterruptedBytes w d (opening_bytes w d b).buffer d (fresh_recording w (view d))
  bytes_then_piece : (r : Recording) (x now b l : List ℕ) (n f : ℕ) → UninterruptedBytes w d b now r → (add_piece_bytes x now b l).outcome ≡ done n f
      → UninterruptedBytes w d (add_piece_bytes x now b l).kept (add_piece_bytes x now b l).image (with_piece r x)

-- "the closed disk equals one save of the joined pieces.": the record's bytes b close as the pieces joined are saved on disk d, each
-- where its list has room
pub record OneSave (w : SaveRequest) (d b now : List ℕ) (r : Recording) : Type 0 where
  pub joined : r.request ≡ with_body w r.request.body
  pub new : List ℕ
  pub of_save : List ℕ
  pub of_close : List ℕ
  pub saves : (l : List ℕ) → change_bytes (save r.request) d l ≡ change_bytes_by (cond (ltb (length l / 2) (length of_save)) (refused_result (refuse 20 0)) (new_disk new of_save)) d l
  pub closes : (l : List ℕ) → close_bytes now b l ≡ change_bytes_by (cond (ltb (length l / 2) (length of_close)) (refused_result (refuse 20 0)) (new_disk new of_close)) now l

-- ---- what is refused, in C's order

-- "20 where the record is too short to be one"
abbrev pub row_short : List ℕ → SlotRow
row_short b = row20 (length b) record_bytes
