-- The same of the reader: whatever it was made of, and where it was opened.
use Prim.Native.Nat.{ℕ, ◌+◌, ◌≤◌}
use mathlib.Core.Path.{◌≡◌, refl, sym, ap, ◌∙◌, subst}
use mathlib.Core.List.{List, [], ◌∷◌, ◌++◌}
use native.Mathlib.Omega.{arith}
use denote.Ref.{Bor}
use lib.ListN.{length, take}
use Rattle.buffers.specs.Bytes.{part}
use Rattle.buffers.proofs.Lists.{length-tab, part-put, put-after, length-put}
use Rattle.refusals.specs.Answers.{done, out}
use Rattle.headers.specs.Header.{body}
use Rattle.disk.specs.View.{view}
use Rattle.files.specs.Calls.{file_named, reading}
use Rattle.readers.specs.declared.Reader.{Reader}
use Rattle.readers.specs.Pieces.{next_bytes, piece_of, next_place, joined, place_past, total}
use Rattle.readers.specs.Opening.{opened_at, body_place, open_file}
use Rattle.readers.specs.Readers.{reader_at, reader_place, reader_piece, reader_bytes, reader_buffer, reader_after, reader_joined, reader_past}
use Rattle.readers.specs.ReadInPieces.{Fills, PiecesJoin, ReadsBody, OneRead}
use Rattle.readers.proofs.PositionAt.{bounded}
use Rattle.readers.proofs.Cut.{joined_one, past_one}
use Rattle.readers.proofs.Joined.{joined-first, joined-whole, each-piece, each-came, each_left}
use Rattle.readers.proofs.OneRead.{read-body}

-- ---- its pieces are those of its disk and its place

pub reader_after-is : (r : Reader) (room : ℕ) → reader_after r room ≡ reader_at r.image (next_place r.image.now (reader_place r) room)
unfolding piece_of
reader_after-is r room = refl

pub joined_is : (rooms : List ℕ) (r : Reader) → reader_joined r rooms ≡ joined r.image.now (reader_place r) rooms
unfolding reader_joined joined piece_of
joined_is [] r = refl
joined_is (room ∷ rooms) r = ap (λ (l : List ℕ). reader_bytes r room ++ l) (joined_is rooms (reader_after r room))

pub past_is : (rooms : List ℕ) (r : Reader) → reader_past r rooms ≡ reader_at r.image (place_past r.image.now (reader_place r) rooms)
unfolding reader_past place_past piece_of
past_is [] r = refl
past_is (room ∷ rooms) r = past_is rooms (reader_after r room)

-- ---- of any reader

came-long : (r : Reader) (room : ℕ) → (reader_piece r room).came ≡ length (reader_bytes r room)
unfolding piece_of next_bytes
came-long r room = sym (length-tab _ _)

pub fills : (r : Reader) (buf : List ℕ) → Fills r buf
unfolding part
fills r buf =
    let c = came-long r (length buf) in
    record {
      front = ap (λ (k : ℕ). take k (reader_buffer r buf)) c
          ∙ part-put buf 0 (reader_bytes r (length buf)) (omega (arith, c, (bounded r.image.now (reader_place r) (length buf)).came));
      rest = λ (k : ℕ) (h : (reader_piece r (length buf)).came ≤ k). put-after buf 0 (reader_bytes r (length buf)) k (omega (arith, c));
      long = length-put buf 0 (reader_bytes r (length buf));
    }

pub pieces-join : (r : Reader) (room : ℕ) (rooms : List ℕ) → PiecesJoin r room rooms
pieces-join r room rooms = record {
  bytes = joined_is (room ∷ rooms) r ∙ joined_one r.image.now (room ∷ rooms) (reader_place r);
  state = past_is (room ∷ rooms) r ∙ ap (reader_at r.image) (past_one r.image.now rooms (reader_place r) room) ∙ sym (reader_after-is r (total (room ∷ rooms)));
}

-- ---- of a reader at the place where its disk has a file's body begin

pub reads-body : (n : List ℕ) (r : Reader) → open_file r.image.now n ≡ opened_at (reader_place r) → ReadsBody r (body (file_named (view r.image.now) n))
unfolding piece_of
reads-body n r e =
    let d = r.image.now in
    let p = reader_place r in
    record {
      first = λ rooms. joined_is rooms r ∙ joined-first d n p e rooms;
      whole = λ rooms h. joined_is rooms r ∙ joined-whole d n p e rooms h;
      piece = λ rooms room. ap (λ (r : Reader). reader_bytes r room) (past_is rooms r) ∙ each-piece d n p e rooms room;
      came = λ rooms room. ap (λ (r : Reader). (reader_piece r room).came) (past_is rooms r) ∙ each-came d n p e rooms room;
      left = λ rooms. ap (λ (r : Reader). r.at.left) (past_is rooms r) ∙ each_left d n p e rooms;
    }

-- ---- "The pieces joined are the body that one read gives, however the asking is cut."

pub one_read : (s : Bor (List ℕ)) (n buf : List ℕ) (v f : ℕ) (x : List ℕ) → reading s.now n buf ≡ out (done v f) x → OneRead s n v x
one_read s n buf v f x e =
    let w = read-body s.now n buf v f x e in
    let p = body_place (file_named (view s.now) n) in
    record {
      place = p;
      begins = w.begins;
      left = w.long;
      plays = subst (ReadsBody (reader_at s p)) (sym w.front) (reads-body n (reader_at s p) w.begins);
    }
