-- Listing, reading and start addresses, as functions of the view. The words of documents 01 and 02 stand above what they define.
use Rattle.std.specs.Prelude.{ℕ, zero, suc, ◌+◌, ◌-◌, ◌*◌, ◌/◌, ◌%◌, cond, not, ◌&&◌, List, [], ◌∷◌, ◌++◌, leb, ltb, length, Result, Ok, Err}
use Rattle.std.proofs.Math.Option.{Option, none, some}
use Rattle.refusals.specs.Order.{Refusal, refuse, Reply, ◌else◌, row}
use Rattle.refusals.specs.Answers.{Outcome, done, refused, unless, Out, filled, refusal_of}
use Rattle.refusals.specs.declared.Refused.{Refused}
use Rattle.slots.specs.Slot.{kind_of, spectrum, readable, page_of, offset_of}
use Rattle.names.specs.Name.{askable}
use Rattle.chains.specs.File.{File}
use Rattle.headers.specs.Header.{header_start, first_sector, file_length, body}
use Rattle.directory.specs.Places.{slots}
use Rattle.directory.specs.Directory.{fold_option, Directory, live_among}
use Rattle.surveys.specs.Survey.{free}
use Rattle.directory.specs.Find.{find}
use Rattle.disk.specs.View.{View, view, view_slots, view_tracks}
use Rattle.disk.specs.Check.{check_view}
use Rattle.files.specs.declared.Listed.{Listed}

-- ---- listing

-- "258 bytes for each live slot, hidden ones too, rising: its number, low byte first, then its 256 bytes."
abbrev pub listing_entry : ℕ → List ℕ → List ℕ
listing_entry number s = number % 256 ∷ number / 256 ∷ s

-- the entries of the live slots among the first k
unfoldable pub entries : Directory → ℕ → List ℕ
entries v zero = []
entries v (suc k) = entries v k ++ fold_option [] (listing_entry (suc k)) (v k)

unfoldable pub list_view : View → List ℕ → Out
list_view l buf =
    filled (check_view l else row 20 0 (ltb (length buf) (length (entries (view_slots l) slots))))
    -- "It answers how many and the free sectors;"
    (done (live_among (view_slots l) slots) (free (view_tracks l) (view_slots l))) (entries (view_slots l) slots) buf

-- the code's answer
abbrev pub listed_outcome : Result Listed Refused → Outcome
listed_outcome (Ok l) = done l.files l.free
listed_outcome (Err r) = refused (refusal_of r)

-- ---- a file by its name

-- the file in a slot; one of no bytes where it holds none
abbrev pub no_file : File
no_file = record { bytes = []; sectors = λ b. [] }

abbrev pub file_at : View → ℕ → File
file_at l i = fold_option no_file (λ f. f) (l.files i)

-- the file that has the name
unfoldable pub file_named : View → List ℕ → File
file_named l n = fold_option no_file (file_at l) (find (view_slots l) n)

-- "then the lowest that applies of 12 to 20": 12, 15 where no live slot has the name, else what is refused of the file found
abbrev pub named_reply : View → List ℕ → (ℕ → File → Reply) → Reply
named_reply l n rest =
    check_view l else row 12 0 (not (askable n)) else fold_option (some (refuse 15 0)) (λ i. rest (suc i) (file_at l i)) (find (view_slots l) n)

-- a slot by its name, or the first refusal that stands before it
pub data SlotLookup : Type 0 where
  found_slot : ℕ → SlotLookup
  refused_lookup : Refusal → SlotLookup

abbrev pub lookup_by : Reply → Option ℕ → SlotLookup
lookup_by (some r) o = refused_lookup r
lookup_by none (some i) = found_slot i
lookup_by none none = refused_lookup (refuse 15 0)

unfoldable pub lookup : View → List ℕ → SlotLookup
lookup l n = lookup_by (check_view l else row 12 0 (not (askable n))) (find (view_slots l) n)

-- the code's answer
abbrev pub lookup_of : Result ℕ Refused → SlotLookup
lookup_of (Ok i) = found_slot i
lookup_of (Err r) = refused_lookup (refusal_of r)

-- the kind found cannot be read: it is not carried, nor one of kinds 1 to 4
abbrev pub not_readable : ℕ → File → Reply
not_readable slot f = row 13 slot (not (readable (kind_of f.bytes)))

-- ---- reading

unfoldable pub read_reply : View → List ℕ → ℕ → Reply
read_reply l n room = named_reply l n (λ slot f. not_readable slot f else row 20 0 (ltb room (file_length f)))

-- what a read answers at the slot that holds a file
unfoldable pub read_at : ℕ → File → List ℕ → Out
read_at slot f buf =
    filled (not_readable slot f else row 20 0 (ltb (length buf) (file_length f))) (done (file_length f) 0) (body f) buf

-- "Reading copies the body to the front of a lent buffer and answers its length; the rest stays."
unfoldable pub read_view : View → List ℕ → List ℕ → Out
read_view l n buf =
    filled (read_reply l n (length buf)) (done (file_length (file_named l n)) 0) (body (file_named l n)) buf

-- ---- the start address

-- offset outside 32,768 to 49,151 (a start page of five bits is not above 31), but "not given for kinds 1 to 4"
abbrev pub start_out_of_range : ℕ → File → Reply
start_out_of_range slot f = row 14 slot (not (spectrum (kind_of f.bytes)) && not (leb 32768 (offset_of f.bytes) && leb (offset_of f.bytes) 49151))

unfoldable pub start_reply : View → List ℕ → Reply
start_reply l n = named_reply l n (λ slot f. not_readable slot f else start_out_of_range slot f)

-- "The start address is page × 16,384 + offset − 16,384, for offsets 32,768 to 49,151, both taken from the slot;"
unfoldable pub address : ℕ → ℕ → ℕ
address page offset = page * 16384 + offset - 16384

-- of kinds 1 to 4 the header's: "give that start as it stands"
unfoldable pub file_start : File → ℕ
file_start f = cond (spectrum (kind_of f.bytes)) (header_start (first_sector f)) (address (page_of f.bytes) (offset_of f.bytes))

-- what a start address answers at the slot that holds a file
unfoldable pub start_at : ℕ → File → Outcome
start_at slot f = unless (not_readable slot f else start_out_of_range slot f) (done (file_start f) 0)

unfoldable pub start_view : View → List ℕ → Outcome
start_view l n = unless (start_reply l n) (done (file_start (file_named l n)) 0)

-- ---- the calls on a disk

abbrev pub listing : List ℕ → List ℕ → Out
listing d buf = list_view (view d) buf

abbrev pub reading : List ℕ → List ℕ → List ℕ → Out
reading d n buf = read_view (view d) n buf

abbrev pub start_address : List ℕ → List ℕ → Outcome
start_address d n = start_view (view d) n
