-- A journey as the app makes it: "From an accepted disk, take any sequence of changes, each run to its end or cut, the next starting from
-- what was left." (document 02, M-113), each asked for with a list of bytes, and of a recording with the record's bytes.
use Rattle.std.specs.Prelude.{ℕ, ◌/◌, Bool, false, cond, List, [], ◌∷◌, ◌≡◌, ltb, length, take}
use Rattle.refusals.specs.Answers.{Outcome, done, refused}
use Rattle.steps.specs.Sectors.{cut}
use Rattle.plans.specs.Change.{Change}
use Rattle.plans.specs.Plan.{Changed, changed}
use Rattle.recordings.specs.Recording.{Recording}
use Rattle.recordings.specs.Record.{recording_of}
use Rattle.operations.specs.Operations.{Operation, single_change, erase_names, record_piece, record_close, changed_of}
use Rattle.journeys.specs.Ledger.{Ledger}
use Rattle.journeys.specs.Journey.{Event, ledger}
use Rattle.byte_lists.specs.Lists.{numbers_in, change_bytes}
use Rattle.byte_lists.specs.EraseMany.{erase_many_bytes}
use Rattle.record_bytes.specs.Layout.{record_bytes, record_in}
use Rattle.record_calls.specs.Calls.{Pieced, add_piece_bytes, close_bytes}
use Rattle.record_calls.specs.RecordedBytes.{HoldsRecording}

-- ---- the calls

-- a change; an erase-many: the names, and the buffer lent for the answers; a piece of a recording: the record's bytes and the
-- piece; or its close: the record's bytes, whatever they are
pub data ByteCall : Type 0 where
  byte_change : Change → ByteCall
  byte_erase_many : List ℕ → List ℕ → ByteCall
  byte_piece : List ℕ → List ℕ → ByteCall
  byte_close : List ℕ → ByteCall

-- a piece without its record
abbrev pub changed_of_piece : Pieced → Changed
changed_of_piece p = changed p.outcome p.image p.list

-- on an image, with a list of bytes: outcome, image and list at return
abbrev pub call_bytes : ByteCall → List ℕ → List ℕ → Changed
call_bytes (byte_change c) d l = change_bytes c d l
call_bytes (byte_erase_many ns abuf) d l = changed_of (erase_many_bytes d ns abuf l)
call_bytes (byte_piece b x) d l = changed_of_piece (add_piece_bytes x d b l)
call_bytes (byte_close b) d l = close_bytes d b l

-- ---- the disk

-- a call, the list lent to it, and how many of the sectors that the list then names were written
pub record ByteEvent : Type 0 where
  pub call : ByteCall
  pub list : List ℕ
  pub written : ℕ

-- "Each change fills a lent buffer .. with its sector numbers and answers how many": of the first so many numbers in the list at return
-- the first k, with the image at return, were written. A refused call leaves the disk as it was
abbrev pub left_with : List ℕ → ℕ → Changed → Outcome → List ℕ
left_with d k c (done n f) = cut d c.image (take n (numbers_in c.list)) k
left_with d k c (refused r) = d

abbrev pub left_as : List ℕ → ℕ → Changed → List ℕ
left_as d k c = left_with d k c c.outcome

unfoldable pub left_bytes : ByteEvent → List ℕ → List ℕ
left_bytes e d = left_as d e.written (call_bytes e.call d e.list)

unfoldable pub after_bytes : List ByteEvent → List ℕ → List ℕ
after_bytes [] d = d
after_bytes (e ∷ es) d = after_bytes es (left_bytes e d)

-- ---- the journey that it is

-- what is asked for: of a recording, the one in the record
abbrev pub operation_of : ByteCall → Operation
operation_of (byte_change c) = single_change c
operation_of (byte_erase_many ns abuf) = erase_names ns abuf
operation_of (byte_piece b x) = record_piece (recording_of (record_in b)) x
operation_of (byte_close b) = record_close (recording_of (record_in b))

-- "20 where the record is too short to be one": nothing is asked for then
abbrev pub too_short : ByteCall → Bool
too_short (byte_change c) = false
too_short (byte_erase_many ns abuf) = false
too_short (byte_piece b x) = ltb (length b) record_bytes
too_short (byte_close b) = ltb (length b) record_bytes

-- "two to a number": a list of bytes has room for half as many numbers
abbrev pub event_of : ByteEvent → Event
event_of e = record { ask = operation_of e.call; room = length e.list / 2; written = e.written }

unfoldable pub events_of : List ByteEvent → List Event
events_of [] = []
events_of (e ∷ es) = cond (too_short e.call) (events_of es) (event_of e ∷ events_of es)

-- and the ledger beside it
abbrev pub ledger_bytes : List ByteEvent → List ℕ → Ledger → Ledger
ledger_bytes es d b = ledger (events_of es) d b

-- ---- "and a recording, always one opened on this journey"

-- what is asked for of the recording itself that the record's bytes hold
pub data CallIs : ByteCall → Operation → Type 0 where
  by_change : (c : Change) → CallIs (byte_change c) (single_change c)
  by_erase_many : (ns abuf : List ℕ) → CallIs (byte_erase_many ns abuf) (erase_names ns abuf)
  by_piece_lem : (b x : List ℕ) (r : Recording) → HoldsRecording b r → CallIs (byte_piece b x) (record_piece r x)
  by_close : (b : List ℕ) (r : Recording) → HoldsRecording b r → CallIs (byte_close b) (record_close r)

pub record EventIs (e : ByteEvent) (f : Event) : Type 0 where
  pub ask : CallIs e.call f.ask
  pub room : f.room ≡ length e.list / 2
  pub written : f.written ≡ e.written

-- a journey of these recordings
abbrev pub EventsAre : List ByteEvent → List Event → Type 0
EventsAre [] [] = Unit {0}
EventsAre [] (f ∷ fs) = ⊥
EventsAre (e ∷ es) [] = ⊥
EventsAre (e ∷ es) (f ∷ fs) = EventIs e f × EventsAre es fs
