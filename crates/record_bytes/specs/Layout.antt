-- The record of a recording as lent bytes: "VARNUCHT_RECORD_BYTES = 2,048, the front of a longer buffer is used, its rest stays". Numbers of
-- two and of four bytes have the low byte first.
use Rattle.std.specs.Prelude.{ℕ, ◌+◌, ◌*◌, ◌/◌, ◌%◌, ◌^◌, ◌≤◌, ◌<◌, List, [], ◌∷◌, ◌≡◌, length, get_or}
use Rattle.buffers.specs.Bytes.{tab}
use Rattle.steps.specs.Steps.{Put, put_all}
use Rattle.report_bytes.specs.Bytes.{four_of}
use Rattle.recordings.specs.Record.{zeros}
use Rattle.recordings.specs.declared.Record.{Record}

abbrev pub record_bytes : ℕ
record_bytes = 2048

-- ---- the record that bytes hold; bytes past the end count as 0

-- n bytes from a on
abbrev pub bytes_at : ℕ → ℕ → List ℕ → List ℕ
bytes_at a n b = tab n (λ j. get_or b (a + j) 0)

-- the start's offset
abbrev pub record_offset : List ℕ → ℕ
record_offset b = get_or b 2 0 + 256 * get_or b 3 0

-- how many bytes came
abbrev pub record_length : List ℕ → ℕ
record_length b = get_or b 8 0 + 256 * get_or b 9 0 + 65536 * get_or b 10 0 + 16777216 * get_or b 11 0

unfoldable pub record_in : List ℕ → Record
record_in b = record {
  kind = get_or b 0 0;
  name = bytes_at 12 10 b;
  page = get_or b 1 0;
  offset = record_offset b;
  exec = bytes_at 22 3 b;
  info = bytes_at 25 11 b;
  used = bytes_at 36 195 b;
  tracks = get_or b 4 0;
  long = record_length b;
  first = bytes_at 231 501 b;
  last = bytes_at 732 510 b;
}

-- ---- the bytes of a record; of a number that is too large for its bytes the remainder, and no call of ours has one

abbrev pub field : ℕ → List ℕ → Put
field a x = record { place = a; bytes = x }

-- bytes 0 to 11: kind, page, offset, n, three that are not used, and how many bytes came
abbrev pub front_of : Record → List ℕ
front_of k = k.kind % 256 ∷ k.page % 256 ∷ k.offset % 256 ∷ k.offset / 256 % 256 ∷ k.tracks % 256 ∷ 0 ∷ 0 ∷ 0 ∷ four_of k.long

-- opening: all of them, and those not named are 0
unfoldable pub bytes_of : Record → List ℕ
bytes_of k =
    put_all (zeros record_bytes)
    (field 0 (front_of k) ∷ field 12 k.name ∷ field 22 k.exec ∷ field 25 k.info ∷ field 36 k.used ∷ field 231 k.first ∷ field 732 k.last ∷ [])

-- a piece: how many bytes came, and the bytes that wait; all others stay
unfoldable pub record_bytes_with : List ℕ → Record → List ℕ
record_bytes_with b k = put_all b (field 8 (four_of k.long) ∷ field 231 k.first ∷ field 732 k.last ∷ [])

-- "the front of a longer buffer is used, its rest stays"
pub record RestStays (b b' : List ℕ) : Type 0 where
  pub long : length b' ≡ length b
  pub rest : (i : ℕ) → record_bytes ≤ i → get_or b' i 0 ≡ get_or b i 0

-- ---- a record that its bytes can hold

pub record FitsRecord (k : Record) : Type 0 where
  pub kind : k.kind < 256
  pub page : k.page < 256
  pub offset : k.offset < 65536
  pub tracks : k.tracks < 256
  pub long : k.long < 2 ^ 32
  pub name : length k.name ≡ 10
  pub exec : length k.exec ≡ 3
  pub info : length k.info ≡ 11
  pub used : length k.used ≡ 195
  pub first : length k.first ≡ 501
  pub last : length k.last ≡ 510
