-- A file that is moved, and what is written: the definitions of `plans` in the pieces that the code writes.
use Rattle.std.specs.Prelude.{ℕ, ◌+◌, ◌≤◌, ◌<◌, true, false, List, ◌⊎◌, ◌≡◌, length}
use Rattle.geometry.specs.Disk.{image_size}
use Rattle.maps.specs.Bits.{has}
use Rattle.slots.specs.Slot.{count_of, map_of, slot_fields}
use Rattle.chains.specs.File.{File, file_of, sectors_of}
use Rattle.chains.specs.Chain.{broken}
use Rattle.directory.specs.Places.{slots}
use Rattle.directory.specs.Directory.{slot_or}
use Rattle.disk.specs.View.{View}
use Rattle.steps.specs.Steps.{Step}
use Rattle.plans.specs.Saving.{next_track, next_sector}
use Rattle.plans.specs.Gathering.{up_from, payload_of}
use Rattle.plans.specs.Plan.{data_steps}
use Rattle.sector_writes.specs.declared.Link.{Link}

-- the file of slot i, and how many sectors it has
abbrev pub file_in : List ℕ → ℕ → File
file_in d i = file_of d (slot_or d i)

abbrev pub count_in : List ℕ → ℕ → ℕ
count_in d i = count_of (slot_or d i)

-- the link to the first of the n bits from b on; 0, 0 where there is none
unfoldable pub link_to_run : ℕ → ℕ → Link
link_to_run n b = record { track = next_track (up_from n b); sector = next_sector (up_from n b) }

-- its data sectors on the bits from b on
abbrev pub moved_steps : List ℕ → ℕ → ℕ → List (Step View)
moved_steps d i b = data_steps (payload_of (file_in d i)) 0 (up_from (count_in d i) b)

-- a slot with sectors, whose chain leads through them
pub record ChainedSlot (d s : List ℕ) : Type 0 where
  pub some : 1 ≤ count_of s
  pub whole : broken (slot_fields s) (sectors_of d s) ≡ false

-- slot i has such a chain, and the bits from b on, as many as its sectors, are none of its own
pub record Movable (d : List ℕ) (i b : ℕ) : Type 0 where
  pub slot : i < slots
  pub long : length d ≡ image_size
  pub chain : ChainedSlot d (slot_or d i)
  pub small : b + count_in d i ≤ 1560
  pub apart : (c : ℕ) → has (map_of (slot_or d i)) c ≡ true → (c < b) ⊎ (b + count_in d i ≤ c)

-- the 510 bytes from two places on lie in an image of so many bytes, and share none
pub record DisjointRanges (long from to : ℕ) : Type 0 where
  pub source : from + 510 ≤ long
  pub target : to + 510 ≤ long
  pub apart : (from + 510 ≤ to) ⊎ (to + 510 ≤ from)

-- two map bits of an image of so many bytes
pub record TwoBits (long from to : ℕ) : Type 0 where
  pub size : long ≡ image_size
  pub source : from < 1560
  pub target : to < 1560
  pub other : from ≡ to → ⊥
