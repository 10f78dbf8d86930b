-- A file as the rules see it: its slot's bytes, and the sectors of its own map. What lies elsewhere is no part of it.
use Rattle.std.specs.Prelude.{ℕ, cond, List, []}
use Rattle.buffers.specs.Bytes.{part}
use Rattle.geometry.specs.Disk.{bit_place}
use Rattle.maps.specs.Bits.{has}
use Rattle.slots.specs.Slot.{map_of}

pub record File : Type 0 where
  pub bytes : List ℕ
  pub sectors : ℕ → List ℕ

-- the 512 bytes of map bit b's sector
abbrev pub sector_at : List ℕ → ℕ → List ℕ
sector_at d b = part (bit_place b) 512 d

-- the sectors of a slot's own map on an image; none outside it
unfoldable pub sectors_of : List ℕ → List ℕ → ℕ → List ℕ
sectors_of d s b = cond (has (map_of s) b) (sector_at d b) []

-- the file of a slot
unfoldable pub file_of : List ℕ → List ℕ → File
file_of d s = record { bytes = s; sectors = sectors_of d s }
