-- A plain ledger of slots, and what it answers: no image, no links and no order of writing. The words of the documents stand above
-- what they define.
use Rattle.std.specs.Prelude.{ℕ, suc, cond, not, ◌&&◌, List, [], leb, ltb, length}
use Rattle.std.proofs.Math.Option.{Option, none, some}
use Rattle.buffers.specs.Bytes.{part}
use Rattle.refusals.specs.Order.{refuse, Reply, ◌else◌, row, scan}
use Rattle.refusals.specs.Answers.{Outcome, done, unless, Out, filled}
use Rattle.slots.specs.Slot.{kind_of, spectrum, readable, slot_fields, length_of, page_of, offset_of}
use Rattle.slots.specs.Rows.{wasteful}
use Rattle.slots.specs.Tracks.{tracks_by}
use Rattle.names.specs.Name.{askable}
use Rattle.headers.specs.Header.{header_length, header_start}
use Rattle.directory.specs.Places.{slots}
use Rattle.directory.specs.Directory.{fold_option, Directory, live_among}
use Rattle.directory.specs.Find.{find}
use Rattle.surveys.specs.Survey.{free}
use Rattle.files.specs.Calls.{entries, address}
use Rattle.trees.specs.Tree.{tree_reply, tree}
use Rattle.tree_lists.specs.Call.{name_reply, asked_code, fill_with}

-- a slot that holds a file: its 256 bytes; the payload of the file, 510 bytes to a sector, in the order of its chain; and the map bits
-- of its sectors in that order, since a map says which sectors are a file's and not in what order
pub record LedgerEntry : Type 0 where
  pub slot : List ℕ
  pub payload : List ℕ
  pub chain : List ℕ

-- the bytes of slot 1 that a save keeps, n among them; and for each slot no file, or an entry
pub record Ledger : Type 0 where
  pub label : ℕ → ℕ
  pub entry : ℕ → Option LedgerEntry

-- "Byte 255 of slot 1 .. is the number n beyond four"
abbrev pub ledger_tracks : Ledger → ℕ
ledger_tracks b = tracks_by (b.label 255)

abbrev pub ledger_slots : Ledger → Directory
ledger_slots b i = fold_option none (λ e. some e.slot) (b.entry i)

abbrev pub no_entry : LedgerEntry
no_entry = record { slot = []; payload = []; chain = [] }

abbrev pub entry_at : Ledger → ℕ → LedgerEntry
entry_at b i = fold_option no_entry (λ e. e) (b.entry i)

-- the entry that has the name
abbrev pub entry_named : Ledger → List ℕ → LedgerEntry
entry_named b n = fold_option no_entry (entry_at b) (find (ledger_slots b) n)

-- 12, 15 where no live slot has the name, else what is refused of the entry found, in slot i from 0
abbrev pub entry_reply : Ledger → List ℕ → (ℕ → LedgerEntry → Reply) → Reply
entry_reply b n rest = row 12 0 (not (askable n)) else fold_option (some (refuse 15 0)) (λ i. rest i (entry_at b i)) (find (ledger_slots b) n)

-- ---- listing

unfoldable pub ledger_lists : Ledger → List ℕ → Out
ledger_lists b buf =
    filled (row 20 0 (ltb (length buf) (length (entries (ledger_slots b) slots)))) (done (live_among (ledger_slots b) slots) (free (ledger_tracks b) (ledger_slots b)))
    (entries (ledger_slots b) slots) buf

-- ---- reading, in one and in pieces

-- a body's length: of kinds 1 to 4 the header's, which is the payload's front, else the slot's
unfoldable pub long_of : LedgerEntry → ℕ
long_of e = cond (spectrum (kind_of e.slot)) (header_length e.payload) (length_of (slot_fields e.slot))

-- "Body bytes follow" the nine of the header
unfoldable pub body_of : LedgerEntry → List ℕ
body_of e = part 9 (long_of e) e.payload

abbrev pub unreadable : ℕ → LedgerEntry → Reply
unreadable i e = row 13 (suc i) (not (readable (kind_of e.slot)))

unfoldable pub ledger_reads : Ledger → List ℕ → List ℕ → Out
ledger_reads b n buf =
    filled (entry_reply b n (λ i e. unreadable i e else row 20 0 (ltb (length buf) (long_of e)))) (done (long_of (entry_named b n)) 0)
    (body_of (entry_named b n)) buf

-- "Refusals: those of reading but 20, at opening."
unfoldable pub ledger_opens : Ledger → List ℕ → Reply
ledger_opens b n = entry_reply b n unreadable

-- ---- start addresses

abbrev pub entry_start_out_of_range : ℕ → LedgerEntry → Reply
entry_start_out_of_range i e =
    row 14 (suc i) (not (spectrum (kind_of e.slot)) && not (leb 32768 (offset_of e.slot) && leb (offset_of e.slot) 49151))

unfoldable pub entry_start : LedgerEntry → ℕ
entry_start e = cond (spectrum (kind_of e.slot)) (header_start e.payload) (address (page_of e.slot) (offset_of e.slot))

unfoldable pub ledger_starts : Ledger → List ℕ → Outcome
ledger_starts b n = unless (entry_reply b n (λ i e. unreadable i e else entry_start_out_of_range i e)) (done (entry_start (entry_named b n)) 0)

-- ---- subdirectories

unfoldable pub ledger_trees : Ledger → List ℕ → List ℕ → Out
ledger_trees b n buf = fill_with (tree (ledger_slots b) (asked_code (ledger_slots b) n)) (tree_reply (ledger_slots b) else name_reply (ledger_slots b) n) buf

-- ---- the check before a release: "22", lowest slot first

unfoldable pub ledger_release : Ledger → Reply
ledger_release b = scan slots (λ i. fold_option none (λ e. row 22 (suc i) (wasteful (slot_fields e.slot))) (b.entry i))
