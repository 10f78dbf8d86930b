-- What the pieces are, in the words of document 02: of any reader, and of one that was opened.
use Rattle.std.specs.Prelude.{ℕ, ◌-◌, ◌≤◌, min, List, ◌∷◌, ◌≡◌, length, get_or, take}
use Rattle.std.specs.Borrow.{Bor}
use Rattle.buffers.specs.Bytes.{part}
use Rattle.readers.specs.declared.Place.{Place}
use Rattle.readers.specs.declared.Reader.{Reader}
use Rattle.readers.specs.Pieces.{total}
use Rattle.readers.specs.Opening.{opened_at, open_file}
use Rattle.readers.specs.Readers.{reader_at, reader_piece, reader_bytes, reader_buffer, reader_after, reader_joined, reader_past}

-- "what isn't filled stays, and each piece answers how many came": of any reader and any buffer
pub record Fills (r : Reader) (buf : List ℕ) : Type 0 where
  pub front : take (reader_piece r (length buf)).came (reader_buffer r buf) ≡ reader_bytes r (length buf)
  pub rest : (k : ℕ) → (reader_piece r (length buf)).came ≤ k → get_or (reader_buffer r buf) k 0 ≡ get_or buf k 0
  pub long : length (reader_buffer r buf) ≡ length buf

-- "however the asking is cut": of any reader, pieces into buffers of these lengths give the bytes, and leave the reader, that one
-- piece gives and leaves into a buffer as long as they are together
pub record PiecesJoin (r : Reader) (room : ℕ) (rooms : List ℕ) : Type 0 where
  pub bytes : reader_joined r (room ∷ rooms) ≡ reader_bytes r (total (room ∷ rooms))
  pub state : reader_past r (room ∷ rooms) ≡ reader_after r (total (room ∷ rooms))

-- of a reader opened on a file with this body, whatever buffers it has filled
pub record ReadsBody (r : Reader) (body : List ℕ) : Type 0 where
  -- "The pieces joined are the body that one read gives": its first bytes, as many as the buffers hold
  pub first : (rooms : List ℕ) → reader_joined r rooms ≡ take (total rooms) body
  -- and all of it, where they hold as many
  pub whole : (rooms : List ℕ) → length body ≤ total rooms → reader_joined r rooms ≡ body
  -- "ask for the next bytes, as many as a lent buffer holds, 0 allowed, until the body ends"
  pub piece : (rooms : List ℕ) (room : ℕ) → reader_bytes (reader_past r rooms) room ≡ part (total rooms) room body
  pub came : (rooms : List ℕ) (room : ℕ) → (reader_piece (reader_past r rooms) room).came ≡ min (length body - total rooms) room
  pub left : (rooms : List ℕ) → (reader_past r rooms).at.left ≡ length body - total rooms

-- "the body that one read gives": where a read of the lent disk answers v and leaves x in its buffer, opening answers a place,
-- v bytes are left there, and the reader made of it plays the bytes that the read put in front
pub record OneRead (s : Bor (List ℕ)) (n : List ℕ) (v : ℕ) (x : List ℕ) : Type 0 where
  pub place : Place
  pub begins : open_file s.now n ≡ opened_at place
  pub left : place.left ≡ v
  pub plays : ReadsBody (reader_at s place) (take v x)
