-- The reader: "The reader holds the lent disk and its place in the chain."
use Rattle.std.specs.Prelude.{ℕ, List, [], ◌∷◌, ◌++◌}
use Rattle.std.specs.Borrow.{Bor}
use Rattle.readers.specs.declared.Place.{Place}
use Rattle.readers.specs.declared.Piece.{Piece}
use Rattle.readers.specs.declared.Reader.{Reader}
use Rattle.readers.specs.Pieces.{read_place, next_bytes, buffer_after, piece_of}

-- a reader of a disk at a place
abbrev pub reader_at : Bor (List ℕ) → Place → Reader
reader_at s p = record { image = s; at = p }

-- its place in the chain
abbrev pub reader_place : Reader → Place
reader_place r = r.at

-- what its next piece, into a buffer of `room` bytes, answers, and the piece's bytes
abbrev pub reader_piece : Reader → ℕ → Piece
reader_piece r room = piece_of r.image.now (reader_place r) room

abbrev pub reader_bytes : Reader → ℕ → List ℕ
reader_bytes r room = next_bytes r.image.now (reader_place r) room

-- a lent buffer after it
abbrev pub reader_buffer : Reader → List ℕ → List ℕ
reader_buffer r buf = buffer_after r.image.now (reader_place r) buf

-- the reader after it: the same disk, at the place where the next piece begins
abbrev pub reader_after : Reader → ℕ → Reader
reader_after r room = reader_at r.image (read_place (reader_piece r room).sector (reader_piece r room).offset (reader_piece r room).left)

-- ---- one piece after another, into buffers of these lengths

-- "The pieces joined"
unfoldable pub reader_joined : Reader → List ℕ → List ℕ
reader_joined r [] = []
reader_joined r (room ∷ rooms) = reader_bytes r room ++ reader_joined (reader_after r room) rooms

-- the reader after them
unfoldable pub reader_past : Reader → List ℕ → Reader
reader_past r [] = r
reader_past r (room ∷ rooms) = reader_past (reader_after r room) rooms
