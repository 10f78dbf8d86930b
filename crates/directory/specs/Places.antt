-- Where the directory lies. Slots are counted from 0 here, and from 1 where a number is given out.
use Rattle.std.specs.Prelude.{ℕ, ◌+◌, ◌*◌, ◌/◌, ◌%◌, cond, List, eqb, ltb}
use Rattle.buffers.specs.Bytes.{part}
use Rattle.geometry.specs.Disk.{image_size}

-- "Slot i (1 to 80)"; with n directory tracks beyond four, n above 0, "there are 78 + 20n slots"
unfoldable pub slot_count : ℕ → ℕ
slot_count n = cond (eqb n 0) 80 (78 + 20 * n)

-- "778 at most"
abbrev pub slots : ℕ
slots = 778

-- "The slots run on in track and sector order past that gap.": the two places of track 4 sector 1 are left out
unfoldable pub past_gap : ℕ → ℕ
past_gap i = cond (ltb i 80) i (i + 2)

-- "is the 256 bytes at ((i−1) div 20) × 10,240 + ((i−1) mod 20) × 256."
unfoldable pub slot_at : ℕ → ℕ
slot_at i = past_gap i / 20 * 10240 + past_gap i % 20 * 256

-- the same for a number of any size: the image's size past the last slot
unfoldable pub slot_place : ℕ → ℕ
slot_place i = cond (ltb i slots) (slot_at i) image_size

abbrev pub slot_bytes : List ℕ → ℕ → List ℕ
slot_bytes d i = part (slot_at i) 256 d

-- the number of the sector that slot i lies in
unfoldable pub dir_sector : ℕ → ℕ
dir_sector i = past_gap i / 20 * 20 + past_gap i % 20 / 2

-- the same for a number of any size: 1,600, the number of no sector, past the last slot
unfoldable pub dir_sector_or : ℕ → ℕ
dir_sector_or i = cond (ltb i slots) (dir_sector i) 1600
