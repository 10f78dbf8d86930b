-- The next bytes of a file, of any image and any three numbers. Document 02: "Open a file by name and ask for the next bytes, as
-- many as a lent buffer holds, 0 allowed, until the body ends; what isn't filled stays, and each piece answers how many came."
use Rattle.std.specs.Prelude.{ℕ, ◌+◌, ◌-◌, ◌<◌, ◌≤◌, min, Bool, cond, ◌&&◌, List, [], ◌∷◌, ◌++◌, ◌≡◌, eqb, ltb, leb, length}
use Rattle.buffers.specs.Bytes.{tab, put, count}
use Rattle.geometry.specs.Disk.{image_size}
use Rattle.readers.specs.declared.Position.{Position}
use Rattle.readers.specs.declared.Place.{Place}
use Rattle.readers.specs.declared.Piece.{Piece}
use Rattle.readers.specs.Positions.{position_of, no_position, is_byte, byte_at, position_after}

-- ---- "its place in the chain"

-- byte `offset` of sector `sector` is the next, and `left` bytes are left
abbrev pub read_place : ℕ → ℕ → ℕ → Place
read_place n o l = record { sector = n; offset = o; left = l }

-- the longest body that a disk holds: 510 × 1,560 less the nine bytes of the header
abbrev pub longest : ℕ
longest = 795591

-- "Of a reader, .., that was not made by our calls alone it is asked only that each call answers": the numbers can be a reader's
-- where the image has a disk's size, the sector and the byte are there, and no more is left than a disk holds
unfoldable pub is_reader_place : List ℕ → Place → Bool
is_reader_place d p = eqb (length d) image_size && (ltb p.sector 1600 && (ltb p.offset 510 && leb p.left longest))

-- where the next byte stands: nowhere, if they can be no reader's
unfoldable pub position_at : List ℕ → Place → Position
position_at d p = cond (is_reader_place d p) (position_of p.sector p.offset) no_position

-- ---- one piece

-- how many come of those wanted: a chain that is no file's may end before
unfoldable pub bytes_coming : List ℕ → Position → ℕ → ℕ
bytes_coming d q want = count want (λ k. is_byte (position_after d q k))

-- "as many as a lent buffer holds, 0 allowed, until the body ends": into a buffer of `room` bytes
unfoldable pub bytes_came : List ℕ → Place → ℕ → ℕ
bytes_came d p room = bytes_coming d (position_at d p) (min p.left room)

-- "the next bytes"
unfoldable pub next_bytes : List ℕ → Place → ℕ → List ℕ
next_bytes d p room = tab (bytes_came d p room) (λ k. byte_at d (position_after d (position_at d p) k))

-- "what isn't filled stays": the lent buffer after it
abbrev pub buffer_after : List ℕ → Place → List ℕ → List ℕ
buffer_after d p buf = put buf 0 (next_bytes d p (length buf))

-- the place when c bytes have come
unfoldable pub place_after : List ℕ → Place → ℕ → Place
place_after d p c = read_place (position_after d (position_at d p) c).sector (position_after d (position_at d p) c).offset (p.left - c)

abbrev pub next_place : List ℕ → Place → ℕ → Place
next_place d p room = place_after d p (bytes_came d p room)

-- "each piece answers how many came": and where the next one begins
abbrev pub piece_at : ℕ → Place → Piece
piece_at c p = record { came = c; sector = p.sector; offset = p.offset; left = p.left }

unfoldable pub piece_of : List ℕ → Place → ℕ → Piece
piece_of d p room = piece_at (bytes_came d p room) (next_place d p room)

-- what comes of numbers that can be no reader's
abbrev pub no_piece : ℕ → Piece
no_piece l = piece_at 0 (read_place 1600 0 l)

-- ---- one piece after another, into buffers of these lengths

-- how many bytes the buffers hold
unfoldable pub total : List ℕ → ℕ
total [] = 0
total (room ∷ rooms) = room + total rooms

-- "The pieces joined"
unfoldable pub joined : List ℕ → Place → List ℕ → List ℕ
joined d p [] = []
joined d p (room ∷ rooms) = next_bytes d p room ++ joined d (next_place d p room) rooms

-- the place after them
unfoldable pub place_past : List ℕ → Place → List ℕ → Place
place_past d p [] = p
place_past d p (room ∷ rooms) = place_past d (next_place d p room) rooms

-- ---- what the step of a piece is entered with

pub record PlaceInRange (d : List ℕ) (p : Place) : Type 0 where
  pub long : length d ≡ image_size
  pub sector-small : p.sector < 1600
  pub offset-small : p.offset < 510
  pub left-small : p.left ≤ longest
