-- Opening a file by its name, as a function of the view. The words of document 02 stand above what they define.
use Rattle.std.specs.Prelude.{ℕ, List, [], ◌∷◌, Result, Ok, Err}
use Rattle.std.proofs.Math.Option.{none, some}
use Rattle.refusals.specs.Order.{Refusal, Reply, SlotRow}
use Rattle.refusals.specs.Answers.{refusal_of}
use Rattle.refusals.specs.declared.Refused.{Refused}
use Rattle.slots.specs.Slot.{slot_fields}
use Rattle.names.specs.Name.{askable}
use Rattle.chains.specs.File.{File}
use Rattle.headers.specs.Header.{file_length}
use Rattle.disk.specs.View.{View, view}
use Rattle.files.specs.Calls.{named_reply, not_readable, file_named}
use Rattle.files.specs.Refused.{row12, row15, found_row13}
use Rattle.readers.specs.declared.Place.{Place}
use Rattle.readers.specs.Positions.{number_or_end}
use Rattle.readers.specs.Pieces.{read_place}

-- where the body of a file begins: past the nine bytes of its first sector, all of it left
abbrev pub body_place : File → Place
body_place f = read_place (number_or_end (slot_fields f.bytes).first) 9 (file_length f)

-- a place, or a refusal
pub data FileOpening : Type 0 where
  opened_at : Place → FileOpening
  refused_opening : Refusal → FileOpening

abbrev pub file_opening_by : Reply → Place → FileOpening
file_opening_by (some r) p = refused_opening r
file_opening_by none p = opened_at p

-- "Refusals: those of reading but 20, at opening."
unfoldable pub open_file_reply : View → List ℕ → Reply
open_file_reply l n = named_reply l n not_readable

-- the rows of the table after the check's: the name is not usable, the kind found cannot be read, no live slot has the name
unfoldable pub open_file_rows : View → List ℕ → List SlotRow
open_file_rows l n = row12 (askable n) ∷ found_row13 l n ∷ row15 l n ∷ []

-- "Open a file by name"
unfoldable pub open_file_view : View → List ℕ → FileOpening
open_file_view l n = file_opening_by (open_file_reply l n) (body_place (file_named l n))

abbrev pub open_file : List ℕ → List ℕ → FileOpening
open_file d n = open_file_view (view d) n

-- what opening answers at the slot that holds a file
unfoldable pub open_file_at : ℕ → File → FileOpening
open_file_at slot f = file_opening_by (not_readable slot f) (body_place f)

-- the code's answer
abbrev pub file_opening_of : Result Place Refused → FileOpening
file_opening_of (Ok p) = opened_at p
file_opening_of (Err r) = refused_opening (refusal_of r)
