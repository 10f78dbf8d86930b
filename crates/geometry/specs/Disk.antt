-- The disk: which track and sector numbers are sectors, where a sector stands in the image, and which sector a map bit is.
-- The words of document 01 stand above what they define.
-- Assumes nothing.
use Rattle.std.specs.Prelude.{ℕ, ◌+◌, ◌-◌, ◌*◌, ◌/◌, ◌%◌, Bool, cond, Option, Some, None, ◌&&◌, ◌||◌, ltb, leb}
use Rattle.geometry.specs.declared.Address.{Address}

-- "819,200 bytes."
abbrev pub image_size : ℕ
image_size = 819200

-- "A side has 80 tracks, a track 10 sectors of 512 bytes, numbered 1 to 10.
-- Tracks are 0 to 79 on the first side and 128 to 207 on the second."
unfoldable pub is_sector : ℕ → ℕ → Bool
is_sector t s = leb 1 s && leb s 10 && (ltb t 80 || leb 128 t && ltb t 208)

-- "The other 1,560 sectors are data.": all but those of tracks 0 to 3.
unfoldable pub is_data : ℕ → ℕ → Bool
is_data t s = leb 4 t && is_sector t s

-- "The sector number is that divided by 512, 0 to 1,599.": the place that stands below, divided by 512.
abbrev pub sector_number : ℕ → ℕ → ℕ
sector_number t s = (2 * (t % 128) + t / 128) * 10 + s - 1

-- "The image alternates sides: track t, sector s begins at ((2 × (t mod 128) + t div 128) × 10 + s − 1) × 512."
abbrev pub sector_place : ℕ → ℕ → ℕ
sector_place t s = sector_number t s * 512

-- "Map bit b is track 4 + b div 10 for b below 760, else 128 + (b−760) div 10;"
unfoldable pub track_of : ℕ → ℕ
track_of b = cond (ltb b 760) (4 + b / 10) (128 + (b - 760) / 10)

-- "sector b mod 10 + 1."
abbrev pub sector_of : ℕ → ℕ
sector_of b = b % 10 + 1

-- The map bit of a data sector, the same rule read backwards; 1,560, which no map has, where it is no data sector.
unfoldable pub bit_of : ℕ → ℕ → ℕ
bit_of t s = cond (is_data t s) (cond (ltb t 128) ((t - 4) * 10 + s - 1) (760 + (t - 128) * 10 + s - 1)) 1560

-- The sector number of a map bit.
unfoldable pub bit_number : ℕ → ℕ
bit_number b = sector_number (track_of b) (sector_of b)

-- "a constant table of 1,560 image places, one for each map bit"
abbrev pub bit_place : ℕ → ℕ
bit_place b = bit_number b * 512

-- The same for a number of any size: the image's size where there is no such bit.
unfoldable pub place_or_end : ℕ → ℕ
place_or_end b = cond (ltb b 1560) (bit_place b) image_size

-- What `place`, `place_of_bit`, `bit_of` and `address_of` answer.
unfoldable pub spot_of : ℕ → ℕ → Option ℕ
spot_of t s = cond (is_sector t s) (Some (sector_place t s)) None

unfoldable pub spot_of_bit : ℕ → Option ℕ
spot_of_bit b = cond (ltb b 1560) (Some (bit_place b)) None

unfoldable pub map_bit_of : ℕ → ℕ → Option ℕ
map_bit_of t s = cond (is_data t s) (Some (bit_of t s)) None

unfoldable pub address_of : ℕ → Option Address
address_of b = cond (ltb b 1560) (Some (record { track = track_of b; sector = sector_of b })) None
