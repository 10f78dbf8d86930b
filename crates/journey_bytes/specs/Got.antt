-- What the app gets through the C layer: "Listing, reading, start addresses and every refusal but 20 and 30 are then those of a plain
-- ledger of slots" (document 02, M-113)
use Rattle.std.specs.Prelude.{ℕ, ◌/◌, false, List, [], ◌≡◌, ltb, length, take}
use Rattle.std.proofs.Math.Option.{none, some}
use Rattle.buffers.specs.Bytes.{tab, put}
use Rattle.refusals.specs.Order.{Refusal, refuse, Reply, ◌else◌, row}
use Rattle.refusals.specs.Answers.{Outcome, done, refused, Out, filled}
use Rattle.packing.specs.Packed.{packed, check_outcome}
use Rattle.surveys.specs.Survey.{free}
use Rattle.disk.specs.Check.{check_disk, check_release}
use Rattle.trees.specs.Tree.{tree_reply, tree}
use Rattle.tree_lists.specs.Call.{name_reply, asked_code}
use Rattle.readers.specs.Opening.{open_file}
use Rattle.readers.specs.Pieces.{total}
use Rattle.plans.specs.Change.{SaveRequest, Change}
use Rattle.plans.specs.Allowed.{sectors_taken}
use Rattle.recordings.specs.Recording.{Recording, with_body, with_piece, disk_moved}
use Rattle.erase_many.specs.EraseMany.{name_at, how_many, not_tens}
use Rattle.journeys.specs.Ledger.{Ledger, ledger_tracks, ledger_slots, entry_named, body_of, ledger_opens, ledger_release}
use Rattle.journeys.specs.Entered.{save_refuses, ledger_refuses, answer_to}
use Rattle.journeys.specs.Answers.{LedgerAnswers}
use Rattle.byte_lists.specs.Lists.{in_bytes, change_bytes}
use Rattle.byte_lists.specs.Trees.{tree_listing_bytes}
use Rattle.byte_lists.specs.EraseMany.{erase_many_bytes}
use Rattle.record_calls.specs.Calls.{opening_bytes, add_piece_bytes, close_bytes}
use Rattle.record_calls.specs.RecordedBytes.{HoldsRecording}
use Rattle.varnucht.specs.Reading.{packed_opening, answer_value, place_opened, joined_by_answers}

-- "every refusal but 20": a call answers so, and nothing else but 20
pub record GotBut20 (o : Outcome) (q : Reply) : Type 0 where
  pub given : (r : Refusal) → q ≡ some r → o ≡ refused r
  pub only : (r : Refusal) → o ≡ refused r → (r ≡ refuse 20 0 → ⊥) → q ≡ some r

-- "fills a lent buffer of numbers with their slots", "two to a number, low byte first"; 20 where the list has not two bytes for each
abbrev pub fill_bytes : List ℕ → Reply → List ℕ → Out
fill_bytes t r l = filled (r else row 20 0 (ltb (length l / 2) (length t))) (done (length t) 0) (in_bytes t) l

-- "answers how many lie beneath it"
unfoldable pub trees_bytes : Ledger → List ℕ → List ℕ → Out
trees_bytes b n l = fill_bytes (tree (ledger_slots b) (asked_code (ledger_slots b) n)) (tree_reply (ledger_slots b) else name_reply (ledger_slots b) n) l

-- a file read piece by piece, where a reader is the parts of the last answer: "Refusals: those of reading but 20, at opening."; and where
-- there is none the body's length, and whatever buffers the app asks with, the body's first bytes, as many as they hold
pub record ReadsBytes (d : List ℕ) (b : Ledger) (n : List ℕ) : Type 0 where
  pub refusal : (r : Refusal) → ledger_opens b n ≡ some r → packed_opening (open_file d n) ≡ packed (refused r)
  pub long : ledger_opens b n ≡ none → answer_value (packed_opening (open_file d n)) ≡ length (body_of (entry_named b n))
  pub first : ledger_opens b n ≡ none → (rooms : List ℕ) → joined_by_answers d (place_opened (packed_opening (open_file d n))) rooms ≡ take (total rooms) (body_of (entry_named b n))

pub record BytesAnswer (d : List ℕ) (b : Ledger) : Type 0 where
  -- listing, reading in one and start addresses: the C layer gives them as they are
  pub answers : LedgerAnswers d b
  pub pieces : (n : List ℕ) → ReadsBytes d b n
  -- the two checks
  pub checks : check_outcome (check_disk d) ≡ done 0 0
  pub release : check_outcome (check_release d) ≡ check_outcome (ledger_release b)
  pub treed : (n l : List ℕ) → tree_listing_bytes d n l ≡ trees_bytes b n l
  -- every refusal but 20 of every change
  pub refusals : (c : Change) (l : List ℕ) → GotBut20 (change_bytes c d l).outcome (ledger_refuses c b)
  -- of an erase-many, and its answers, "one byte a name with 0 for done"
  pub whole : (ns abuf l : List ℕ) → GotBut20 (erase_many_bytes d ns abuf l).outcome (row 23 0 (not_tens ns))
  pub each : (ns abuf l : List ℕ) (n f : ℕ) → (erase_many_bytes d ns abuf l).outcome ≡ done n f
      → (erase_many_bytes d ns abuf l).answers ≡ put abuf 0 (tab (how_many ns) (answer_to b (name_at ns)))
  -- of a recording; of a piece and a close, where the bytes hold a recording and 30 is not given
  pub openings : (w : SaveRequest) (k : List ℕ) → GotBut20 (opening_bytes w d k).outcome (save_refuses (with_body w []) b)
  pub adds : (r : Recording) (x k l : List ℕ) → HoldsRecording k r → disk_moved d r ≡ false
      → GotBut20 (add_piece_bytes x d k l).outcome (row 19 0 (ltb (free (ledger_tracks b) (ledger_slots b)) (sectors_taken (with_piece r x).request)))
  pub closed : (r : Recording) (k l : List ℕ) → HoldsRecording k r → disk_moved d r ≡ false → GotBut20 (close_bytes d k l).outcome (save_refuses r.request b)
