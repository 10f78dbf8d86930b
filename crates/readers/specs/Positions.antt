-- Where the bytes of a chain stand on an image, one after another. The words of document 01 stand above what they define.
use Rattle.std.specs.Prelude.{ℕ, zero, suc, ◌+◌, ◌*◌, ◌/◌, Bool, cond, List, ltb, get_or}
use Rattle.geometry.specs.Disk.{bit_of, place_or_end}
use Rattle.readers.specs.declared.Position.{Position}

-- "The sector number is that divided by 512, 0 to 1,599.": of a map bit's sector; 1,600, which no sector has, where there is
-- no such bit
abbrev pub number_or_end : ℕ → ℕ
number_or_end b = place_or_end b / 512

-- "Bytes 511 and 512 of a data sector, counted from one, are the next track and sector.": the number of the sector that
-- sector n leads to; 1,600 where they name no data sector
unfoldable pub next_sector_number : List ℕ → ℕ → ℕ
next_sector_number d n = number_or_end (bit_of (get_or d (n * 512 + 510) 0) (get_or d (n * 512 + 511) 0))

abbrev pub position_of : ℕ → ℕ → Position
position_of n o = record { sector = n; offset = o }

-- where a chain that has ended stands
abbrev pub no_position : Position
no_position = position_of 1600 0

-- "510 payload bytes to a sector": byte o of sector n; past the last, the first of the sector that it leads to
unfoldable pub position_or_next : List ℕ → ℕ → ℕ → Position
position_or_next d n o = cond (ltb o 510) (position_of n o) (position_of (next_sector_number d n) 0)

-- a byte stands there
abbrev pub is_byte : Position → Bool
is_byte p = ltb p.sector 1600

abbrev pub byte_at : List ℕ → Position → ℕ
byte_at d p = get_or d (p.sector * 512 + p.offset) 0

-- one byte further, where one stands
unfoldable pub next_position : List ℕ → Position → Position
next_position d p = cond (is_byte p) (position_or_next d p.sector (suc p.offset)) p

-- k bytes further
unfoldable pub position_after : List ℕ → Position → ℕ → Position
position_after d p zero = p
position_after d p (suc k) = next_position d (position_after d p k)
