-- A file read piece by piece through the C layer, where a reader is its three numbers.
use Rattle.std.specs.Prelude.{ℕ, ◌+◌, ◌-◌, ◌*◌, ◌/◌, ◌%◌, ◌^◌, List, [], ◌∷◌, ◌++◌}
use Rattle.packing.specs.Packed.{packed_at}
use Rattle.readers.specs.Pieces.{read_place, piece_of, next_bytes}
use Rattle.readers.specs.Opening.{FileOpening, opened_at, refused_opening}
use Rattle.readers.specs.declared.Place.{Place}
use Rattle.readers.specs.declared.Piece.{Piece}

-- opening: the value is the body's length; the slot and free parts are sector and offset of its first byte
abbrev pub packed_opening : FileOpening → ℕ
packed_opening (opened_at p) = packed_at p.sector p.left p.offset
packed_opening (refused_opening r) = r.number + 256 * r.slot

-- a piece: the value is how many came; the slot and free parts are sector and offset of the next byte
abbrev pub packed_piece : Piece → ℕ
packed_piece r = packed_at r.sector r.came r.offset

-- ---- the app's reader: the parts of the last answer, and how many bytes are left

abbrev pub answer_sector : ℕ → ℕ
answer_sector answer = answer / 256 % 2 ^ 16

abbrev pub answer_value : ℕ → ℕ
answer_value answer = answer / 2 ^ 24 % 2 ^ 24

abbrev pub answer_offset : ℕ → ℕ
answer_offset answer = answer / 2 ^ 48

-- after opening, and after a piece
abbrev pub place_opened : ℕ → Place
place_opened answer = read_place (answer_sector answer) (answer_offset answer) (answer_value answer)

abbrev pub place_after_answer : Place → ℕ → Place
place_after_answer p answer = read_place (answer_sector answer) (answer_offset answer) (p.left - answer_value answer)

-- the pieces into buffers of these lengths, joined, each asked for with the parts of the answer before it
unfoldable pub joined_by_answers : List ℕ → Place → List ℕ → List ℕ
joined_by_answers d p [] = []
joined_by_answers d p (room ∷ rooms) = next_bytes d p room ++ joined_by_answers d (place_after_answer p (packed_piece (piece_of d p room))) rooms
