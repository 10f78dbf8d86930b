-- What a gather needs, and what it leaves: stated by files, bits and bytes, without a search and without steps. The words of document 02
-- stand above what they define.
use Rattle.std.specs.Prelude.{ℕ, ◌+◌, ◌/◌, ◌≤◌, ◌<◌, ◌≡◌, true, false, List, [], ◌∷◌, ◌++◌, map, ◌⊎◌, ◌↔◌, length, get_or}
use Rattle.std.proofs.Math.Option.{none}
use Rattle.geometry.specs.Disk.{bit_number}
use Rattle.maps.specs.Bits.{has}
use Rattle.slots.specs.Slot.{kind_of, count_of, first_of, map_of}
use Rattle.slots.specs.Tracks.{data_bit}
use Rattle.names.specs.Name.{askable}
use Rattle.chains.specs.File.{File, sector_at}
use Rattle.chains.specs.Chain.{chain_bit}
use Rattle.directory.specs.Places.{slot_at, dir_sector}
use Rattle.directory.specs.Directory.{tracks_of, directory}
use Rattle.surveys.specs.Survey.{free}
use Rattle.disk.specs.Check.{check_disk}
use Rattle.steps.specs.Sectors.{is_listed}
use Rattle.plans.specs.Change.{gather}
use Rattle.plans.specs.Saving.{free_bit}
use Rattle.plans.specs.Gathering.{up_from}
use Rattle.plans.specs.Plan.{new_disk, run_change}
use Rattle.plans.specs.Allowed.{NamedSlot, UnusedBit}
use Rattle.plans.specs.After.{SameAnswers, Outside}

-- ---- what it needs

-- "already on consecutive bits in rising order"
abbrev pub InOrder : File → Type 0
InOrder f = (k : ℕ) → k < count_of f.bytes → chain_bit f.sectors (first_of f.bytes) k ≡ first_of f.bytes + k

-- "free map bits .. that are consecutive": count of them from b on, each a data sector's, and in no live file's map, the file's own neither
pub record FreeRun (d : List ℕ) (count b : ℕ) : Type 0 where
  pub data_bits : (k : ℕ) → k < count → data_bit (tracks_of d) (b + k) ≡ true
  pub unused : (k : ℕ) → k < count → UnusedBit d (b + k)

abbrev pub NoRun : List ℕ → ℕ → Type 0
NoRun d count = (b : ℕ) → FreeRun d count b → ⊥

-- "the lowest": no earlier one has all its bits free
pub record LowestRun (d : List ℕ) (count b : ℕ) : Type 0 where
  pub here : FreeRun d count b
  pub before : (c : ℕ) → c < b → FreeRun d count c → ⊥

-- a file that must move, a run for it, and a list for its sectors and the slot's
pub record CanMove (d : List ℕ) (f : File) (room : ℕ) : Type 0 where
  pub must : InOrder f → ⊥
  pub bit : ℕ
  pub run : FreeRun d (count_of f.bytes) bit
  pub list : count_of f.bytes + 1 ≤ room

-- the disk is accepted, the name can be asked for, a live slot has it, its file is no directory, and it is left or can be moved
pub record Gatherable (d n : List ℕ) (room : ℕ) : Type 0 where
  pub disk : check_disk d ≡ none
  pub name : askable n ≡ true
  pub slot : ℕ
  pub file : File
  pub found : NamedSlot d n slot file
  pub kind : kind_of file.bytes ≡ 21 → ⊥
  pub place : InOrder file ⊎ CanMove d file room

-- ---- what it leaves

-- the sectors of a run
abbrev pub run_sectors : ℕ → ℕ → List ℕ
run_sectors count b = map bit_number (up_from count b)

-- a file moved to the bits from b on
pub record MovedTo (d n : List ℕ) (slot : ℕ) (f : File) (b : ℕ) (new ss : List ℕ) : Type 0 where
  pub must : InOrder f → ⊥
  -- "to the lowest run of free map bits of its length that are consecutive"
  pub lowest : LowestRun d (count_of f.bytes) b
  pub long : length new ≡ length d
  -- "all its payload bytes in their order": those of the sector that k links lead to
  pub payload : (k : ℕ) → k < count_of f.bytes → (j : ℕ) → j < 510
      → get_or (sector_at new (b + k)) j 0 ≡ get_or (f.sectors (chain_bit f.sectors (first_of f.bytes) k)) j 0
  -- "Only slot bytes 13 to 209 change.": outside them, and outside the sectors of the run, every byte of the image is what it was
  pub bytes : (k : ℕ) → is_listed (k / 512) (run_sectors (count_of f.bytes) b) ≡ false → Outside k (slot_at slot + 13) 197 → get_or new k 0 ≡ get_or d k 0
  -- the file then: as many sectors, "chained rising", on these bits
  pub file : File
  pub now : NamedSlot new n slot file
  pub first : first_of file.bytes ≡ b
  pub count : count_of file.bytes ≡ count_of f.bytes
  pub order : InOrder file
  pub bits : (c : ℕ) → (has (map_of file.bytes) c ≡ true) ↔ ((b ≤ c) × (c < b + count_of f.bytes))
  -- its old sectors are free then, and as many are free as before
  pub freed : (c : ℕ) → has (map_of f.bytes) c ≡ true → free_bit (tracks_of new) (directory new) c ≡ true
  pub as_many : free (tracks_of new) (directory new) ≡ free (tracks_of d) (directory d)
  -- "Data first in chain order, slot sector last"
  pub sectors : ss ≡ run_sectors (count_of f.bytes) b ++ (dir_sector slot ∷ [])

-- "A file already on consecutive bits in rising order is left, with an empty list."
pub record LeftInPlace (d : List ℕ) (f : File) (new ss : List ℕ) : Type 0 where
  pub order : InOrder f
  pub disk : new ≡ d
  pub sectors : ss ≡ []

pub record AfterGather (d n new ss : List ℕ) : Type 0 where
  pub slot : ℕ
  pub file : File
  pub found : NamedSlot d n slot file
  pub kind : kind_of file.bytes ≡ 21 → ⊥
  pub done : LeftInPlace d file new ss ⊎ ((b : ℕ) × MovedTo d n slot file b new ss)
  -- reading and the start address give for every name, its own too, what they gave
  pub answers : (m : List ℕ) → SameAnswers new m d m
  -- gathering it again leaves it, whatever room the list has
  pub again : (room : ℕ) → run_change (gather n) new room ≡ new_disk new []
