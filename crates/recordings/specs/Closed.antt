-- What an accepted piece and an accepted close leave, in document 02's words (M-109).
use Rattle.std.specs.Prelude.{ℕ, ◌+◌, ◌/◌, ◌%◌, ◌≤◌, ◌<◌, false, cond, List, ◌≡◌, ltb, length, get_or}
use Rattle.std.proofs.Math.Option.{some}
use Rattle.buffers.specs.Bytes.{put, tab}
use Rattle.refusals.specs.Order.{refuse, row}
use Rattle.refusals.specs.Answers.{out, done}
use Rattle.chains.specs.File.{File, sector_at, file_of}
use Rattle.directory.specs.Directory.{directory, end_of}
use Rattle.disk.specs.View.{view, view_slots, view_tracks}
use Rattle.files.specs.Calls.{reading}
use Rattle.steps.specs.Sectors.{cut}
use Rattle.plans.specs.Saving.{lowest_slot, new_slot}
use Rattle.plans.specs.Change.{save}
use Rattle.plans.specs.Plan.{with_slot, save_reply, refused_result, new_disk, run_change}
use Rattle.plans.specs.Allowed.{FirstEmptySlot, sectors_taken, free_sectors}
use Rattle.plans.specs.After.{SameAnswers, NotNamed}
use Rattle.plans.specs.Unread.{Unread, end_behind}
use Rattle.plans.specs.Safe.{Safe}
use Rattle.recordings.specs.Recording.{Recording, with_piece, chain_of, piece_reply, close_recording}

-- a piece: whichever number of its sectors is written, nothing is seen to change
pub record Unseen (old new ss : List ℕ) : Type 0 where
  pub safe : Safe (λ f. false) old new ss
  pub unseen : (k : ℕ) → view (cut old new ss k) ≡ view old
  pub after : view new ≡ view old
  -- and the slots that were unread stay so
  pub unread : Unread (λ j. ⊥) old new ss

-- byte k of a recording's body, as its sectors hold it on a disk
abbrev pub byte_on : List ℕ → Recording → ℕ → ℕ
byte_on d r k = get_or (sector_at d (get_or (chain_of r) ((9 + k) / 510) 0)) ((9 + k) % 510) 0

-- a close: "an accepted close still leaves an accepted disk and no other file altered"
pub record ClosedAs (r : Recording) (old new ss : List ℕ) : Type 0 where
  pub safe : Safe (λ f. false) old new ss
  -- "A cut before the end of the close leaves the old files."
  pub unseen : (k : ℕ) → k < length ss → view (cut old new ss k) ≡ view old
  -- the lowest free slot holds it
  pub slot : ℕ
  pub lowest : lowest_slot (view_tracks (view old)) (view_slots (view old)) ≡ some slot
  pub seen : view new ≡ with_slot (view old) slot (some (file_of new (new_slot (view old).label slot r.request (chain_of r))))
  -- every other name gets the answers it got, and every file its entry in the listing
  pub others : (m : List ℕ) → NotNamed (save r.request) m → SameAnswers new m old m
  pub entries : (j : ℕ) (f : File) → (view old).files j ≡ some f → directory new j ≡ directory old j
  -- the slots that were unread stay so but for this one; the directory then ends right behind it, if it was the end
  pub unread : Unread (FirstEmptySlot old) old new ss
  pub ends : (i : ℕ) → FirstEmptySlot old i → end_of old ≡ some i → end_of new ≡ end_behind old i
  -- "the recording then reads as its sectors do"
  pub reads : (buf : List ℕ) → length r.request.body ≤ length buf
      → reading new r.request.name buf ≡ out (done (length r.request.body) 0) (put buf 0 (tab (length r.request.body) (byte_on new r)))

-- "If nothing else touches the disk and nothing is cut, the closed disk equals one save of the joined pieces.": the close and a
-- save of the pieces make one disk, each where its list has room
pub record SameAsSave (d : List ℕ) (r : Recording) (now : List ℕ) : Type 0 where
  pub new : List ℕ
  pub of_save : List ℕ
  pub of_close : List ℕ
  pub saves : (room : ℕ) → run_change (save r.request) d room ≡ cond (ltb room (length of_save)) (refused_result (refuse 20 0)) (new_disk new of_save)
  pub closes : (room : ℕ) → close_recording r now room ≡ cond (ltb room (length of_close)) (refused_result (refuse 20 0)) (new_disk new of_close)
  -- a piece is refused as a save of all pieces with it is: "19 where it doesn't fit", and by nothing else
  pub pieces : (x : List ℕ) → piece_reply now r x ≡ save_reply (view_tracks (view d)) (view_slots (view d)) (with_piece r x).request
  pub fits : (x : List ℕ) → piece_reply now r x ≡ row 19 0 (ltb (free_sectors d) (sectors_taken (with_piece r x).request))
