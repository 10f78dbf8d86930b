-- The data sectors of a file: the header in front of its body, a run of bytes, and the link to a sector. The words of document 01
-- stand above what they define. Of a number that is too large for its byte the remainder is written; a save has none.
use Rattle.std.specs.Prelude.{ℕ, ◌+◌, ◌/◌, ◌%◌, ◌<◌, cond, List, [], ◌∷◌, ltb, length, get_or}
use Rattle.buffers.specs.Bytes.{tab}
use Rattle.geometry.specs.Disk.{track_of, sector_of}
use Rattle.plans.specs.Change.{SaveRequest}
use Rattle.plans.specs.Saving.{next_track, next_sector}
use Rattle.allocation.specs.declared.HeaderFields.{HeaderFields}
use Rattle.sector_writes.specs.declared.Link.{Link}

-- the kind of the file that is asked for, and where it is loaded
abbrev pub header_fields_of : SaveRequest → HeaderFields
header_fields_of w = record { kind = w.kind; page = w.page; offset = w.offset }

-- the numbers are those of a save that is not refused: each fits its bytes
pub record FieldsFit (s : HeaderFields) (n : ℕ) : Type 0 where
  pub kind : s.kind < 256
  pub page : s.page < 256
  pub offset : s.offset < 65536
  pub pages : n < 4194304

-- "The first sector begins with nine bytes: kind; remainder (2) and offset (2), both low byte first; two unused; pages; start page.",
-- in front of a body of n bytes
unfoldable pub header : HeaderFields → ℕ → List ℕ
header s n =
    s.kind % 256 ∷ n % 16384 % 256 ∷ n % 16384 / 256 ∷ s.offset % 256 ∷ s.offset / 256 % 256 ∷ 0 ∷ 0 ∷ n / 16384 % 256 ∷ s.page % 256 ∷ []

-- n bytes of a list from a place on, 0 past its end
unfoldable pub bytes_from : List ℕ → ℕ → ℕ → List ℕ
bytes_from st from n = tab n (λ k. get_or st (from + k) 0)

abbrev pub link_address : ℕ → ℕ → Link
link_address t s = record { track = t; sector = s }

-- the link to the sector of map bit b; "The last sector has 0, 0", and so has what is no map bit
unfoldable pub link_to_bit : ℕ → Link
link_to_bit b = cond {A = Link} (ltb b 1560) (link_address (track_of b) (sector_of b)) (link_address 0 0)

-- the link to the first sector of what is left of a chain
unfoldable pub link_to_next : List ℕ → Link
link_to_next bs = link_address (next_track bs) (next_sector bs)
