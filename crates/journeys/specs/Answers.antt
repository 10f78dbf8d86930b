-- "Listing, reading, start addresses and every refusal but 20 and 30 are then those of a plain ledger of slots" (document 02, M-113)
use Rattle.std.specs.Prelude.{ℕ, false, not, List, [], ◌≡◌, ltb, take}
use Rattle.std.proofs.Math.Option.{none, some}
use Rattle.refusals.specs.Order.{Refusal, refuse, Reply, ◌else◌, row}
use Rattle.disk.specs.Check.{check_disk, check_release}
use Rattle.files.specs.Calls.{listing, reading, start_address}
use Rattle.tree_lists.specs.Call.{tree_listing}
use Rattle.readers.specs.Opening.{FileOpening, opened_at, refused_opening, open_file}
use Rattle.readers.specs.Pieces.{joined, total}
use Rattle.plans.specs.Change.{SaveRequest, Change}
use Rattle.plans.specs.Plan.{Result, refused_result, run_change}
use Rattle.plans.specs.Allowed.{sectors_taken}
use Rattle.recordings.specs.Recording.{Recording, with_body, with_piece, disk_moved, RecordingOpening, refused_recording, opened_recording, open_recording, add_piece, close_recording}
use Rattle.erase_many.specs.EraseMany.{name_at, not_tens, answer_at, run_many}
use Rattle.surveys.specs.Survey.{free}
use Rattle.journeys.specs.Ledger.{Ledger, ledger_tracks, ledger_slots, entry_named, ledger_lists, body_of, ledger_reads, ledger_opens, ledger_starts, ledger_trees, ledger_release}
use Rattle.journeys.specs.Entered.{save_refuses, ledger_refuses, answer_to}

-- "every refusal but 20": a call is refused so, and by nothing else but 20
pub record But20 (x : Result) (q : Reply) : Type 0 where
  pub given : (r : Refusal) → q ≡ some r → x ≡ refused_result r
  pub only : (r : Refusal) → x ≡ refused_result r → (r ≡ refuse 20 0 → ⊥) → q ≡ some r

-- what opening a file for reading refuses
abbrev pub begin_reply : FileOpening → Reply
begin_reply (opened_at p) = none
begin_reply (refused_opening r) = some r

-- what opening a recording refuses
abbrev pub opening_of : RecordingOpening → Reply
opening_of (refused_recording r) = some r
opening_of (opened_recording r) = none

pub record LedgerAnswers (d : List ℕ) (b : Ledger) : Type 0 where
  pub checks : check_disk d ≡ none
  pub release : check_release d ≡ ledger_release b
  pub listings : (buf : List ℕ) → listing d buf ≡ ledger_lists b buf
  -- reading in one and in pieces, into buffers of any lengths
  pub readings : (n buf : List ℕ) → reading d n buf ≡ ledger_reads b n buf
  pub opened : (n : List ℕ) → begin_reply (open_file d n) ≡ ledger_opens b n
  pub pieces : (n rooms : List ℕ) (p : _) → open_file d n ≡ opened_at p → joined d p rooms ≡ take (total rooms) (body_of (entry_named b n))
  pub starting : (n : List ℕ) → start_address d n ≡ ledger_starts b n
  pub treed : (n buf : List ℕ) → tree_listing d n buf ≡ ledger_trees b n buf
  -- every refusal but 20 of every change
  pub refusals : (c : Change) (room : ℕ) → But20 (run_change c d room) (ledger_refuses c b)
  pub many : (ns : List ℕ) (answers room : ℕ) → But20 (run_many ns d answers room) (row 23 0 (not_tens ns))
  pub answers : (ns : List ℕ) (k : ℕ) → answer_at d ns k ≡ answer_to b (name_at ns) k
  -- and of a recording, of a piece and a close where 30 is not given
  pub openings : (w : SaveRequest) → opening_of (open_recording w d) ≡ save_refuses (with_body w []) b
  pub adds : (r : Recording) (x : List ℕ) (room : ℕ) → disk_moved d r ≡ false
      → But20 (add_piece r x d room) (row 19 0 (ltb (free (ledger_tracks b) (ledger_slots b)) (Rattle.plans.specs.Allowed.sectors_taken (with_piece r x).request)))
  pub closed : (r : Recording) (room : ℕ) → disk_moved d r ≡ false → But20 (close_recording r d room) (save_refuses r.request b)
