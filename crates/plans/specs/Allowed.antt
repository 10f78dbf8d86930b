-- What a change needs to be accepted, and what a save takes: stated by slots, files and bits, without rows and without an order.
use Rattle.std.specs.Prelude.{ℕ, ◌+◌, ◌-◌, ◌*◌, ◌≤◌, ◌<◌, ◌≡◌, true, false, List, ◌++◌, map, ◌⊎◌, length, get_or}
use Rattle.std.proofs.Math.Option.{none, some}
use Rattle.geometry.specs.Disk.{bit_number}
use Rattle.maps.specs.Bits.{has}
use Rattle.slots.specs.Slot.{protected, name_of, map_of, sectors_for}
use Rattle.slots.specs.Tracks.{data_count, data_bit}
use Rattle.names.specs.Name.{Same, askable, padded}
use Rattle.chains.specs.File.{File}
use Rattle.directory.specs.Places.{slots, slot_bytes}
use Rattle.directory.specs.Directory.{tracks_of, slots_in, directory}
use Rattle.surveys.specs.Survey.{used_map}
use Rattle.disk.specs.View.{view}
use Rattle.disk.specs.Check.{check_disk}
use Rattle.disk.specs.Accepted.{Carried}
use Rattle.trees.specs.Beneath.{Occupied}
use Rattle.steps.specs.Sectors.{is_listed}
use Rattle.plans.specs.Change.{SaveRequest, usable}
use Rattle.plans.specs.Plan.{old_name, dir_sectors}

-- a slot that holds a file with the name
pub record NamedSlot (d n : List ℕ) (i : ℕ) (f : File) : Type 0 where
  pub below : i < slots
  pub here : (view d).files i ≡ some f
  pub name : Same (name_of f.bytes) (padded n)

-- no live slot has the name
abbrev pub NameUnused : List ℕ → List ℕ → Type 0
NameUnused d n = (i : ℕ) (f : File) → (view d).files i ≡ some f → Same (name_of f.bytes) (padded n) → ⊥

-- bit 6 is clear
abbrev pub Unprotected : File → Type 0
Unprotected f = protected f.bytes ≡ false

-- for an erase of the file in slot i: it is not protected, nor a directory that another live slot is in
pub record EraseAllowed (d : List ℕ) (i : ℕ) (f : File) : Type 0 where
  pub unprotected : Unprotected f
  pub vacant : Occupied (directory d) i f.bytes → ⊥

-- the disk is accepted, the name can be asked for, a live slot has it, more holds of its file, and the list has room for one number
pub record ChangeAllowed (d n : List ℕ) (Also : ℕ → File → Type 0) (room : ℕ) : Type 0 where
  pub disk : check_disk d ≡ none
  pub name : askable n ≡ true
  pub slot : ℕ
  pub file : File
  pub found : NamedSlot d n slot file
  pub also : Also slot file
  pub list : 1 ≤ room

-- no live slot but slot i has the name
abbrev pub NameUnusedBut : List ℕ → ℕ → List ℕ → Type 0
NameUnusedBut d i n = (j : ℕ) (g : File) → (j ≡ i → ⊥) → (view d).files j ≡ some g → Same (name_of g.bytes) (padded n) → ⊥

-- for a rename of the file in slot i: the new name is usable, no other live slot has it, and the file is not protected. "A rename
-- that alters only the case of its own name is allowed; a new name equal to the stored bytes stays refused."
pub record RenameAllowed (d new : List ℕ) (i : ℕ) (f : File) : Type 0 where
  pub name : usable new ≡ true
  pub fresh : NameUnusedBut d i new
  pub other : name_of f.bytes ≡ padded new → ⊥
  pub unprotected : Unprotected f

-- the new name of the file in slot i is refused at slot j: its own, which stores these bytes, or another that has the name
abbrev pub NameRefusedAt : List ℕ → List ℕ → ℕ → File → ℕ → Type 0
NameRefusedAt d new i f j = ((j ≡ i) × (name_of f.bytes ≡ padded new)) ⊎ ((j ≡ i → ⊥) × (g : File) × NamedSlot d new j g)

-- a slot that is erased, or whose first name byte is 0; of the latter the lowest is the directory's end
abbrev pub EmptySlot : List ℕ → ℕ → Type 0
EmptySlot d i = (get_or (slot_bytes d i) 0 0 ≡ 0) ⊎ (get_or (slot_bytes d i) 1 0 ≡ 0)

-- "18 only if no slot before the end is erased and there is no end"
abbrev pub NoEmptySlot : List ℕ → Type 0
NoEmptySlot d = (i : ℕ) → i < slots_in d → EmptySlot d i → ⊥

-- "the lowest free slot": erased and before the end, or the end
pub record FirstEmptySlot (d : List ℕ) (i : ℕ) : Type 0 where
  pub below : i < slots_in d
  pub empty : EmptySlot d i
  pub before : (k : ℕ) → k < i → EmptySlot d k → ⊥

-- the sectors of the directory that a save into slot i writes
abbrev pub dir_numbers : List ℕ → ℕ → List ℕ
dir_numbers d i = dir_sectors (old_name d i) i

-- the disk is accepted, and no row of 12 to 17 holds
pub record RequestAllowed (d : List ℕ) (w : SaveRequest) : Type 0 where
  pub disk : check_disk d ≡ none
  pub name : usable w.name ≡ true
  pub kind : Carried w.kind
  pub page : w.page ≤ 31
  pub low : 32768 ≤ w.offset
  pub high : w.offset ≤ 49151
  pub fresh : NameUnused d w.name

-- the sectors that a save takes
abbrev pub sectors_taken : SaveRequest → ℕ
sectors_taken w = sectors_for (length w.body)

-- "Free sectors are 1,560 less that count."; with n tracks beyond four, n above 0, 1,561 − 10n less it
abbrev pub free_sectors : List ℕ → ℕ
free_sectors d = data_count (tracks_of d) - (used_map (tracks_of d) (directory d)).count

-- a free slot, free sectors and a list for it
pub record SaveAllowed (d : List ℕ) (w : SaveRequest) (room : ℕ) : Type 0 where
  pub asked : RequestAllowed d w
  pub slot : ℕ
  pub free : FirstEmptySlot d slot
  pub sectors : sectors_taken w ≤ free_sectors d
  pub list : sectors_taken w + length (dir_numbers d slot) ≤ room

-- no live file's map has the bit
abbrev pub UnusedBit : List ℕ → ℕ → Type 0
UnusedBit d b = (i : ℕ) (f : File) → (view d).files i ≡ some f → has (map_of f.bytes) b ≡ true → ⊥

-- what a save takes, of an accepted disk
pub record SaveTakes (d : List ℕ) (w : SaveRequest) (ss : List ℕ) : Type 0 where
  -- "It takes the least n with 510 × n ≥ 9 + length,"
  pub enough : 9 + length w.body ≤ 510 * sectors_taken w
  pub least : 510 * (sectors_taken w - 1) < 9 + length w.body
  -- "the n lowest free map bits, rising, as chain,"
  pub bits : List ℕ
  pub long : length bits ≡ sectors_taken w
  pub data_bits : (b : ℕ) → is_listed b bits ≡ true → data_bit (tracks_of d) b ≡ true
  pub unused : (b : ℕ) → is_listed b bits ≡ true → UnusedBit d b
  pub rises : (j k : ℕ) → j < k → k < length bits → get_or bits j 0 < get_or bits k 0
  pub lowest : (b c : ℕ) → is_listed b bits ≡ true → c < b → data_bit (tracks_of d) c ≡ true → UnusedBit d c → is_listed c bits ≡ true
  -- "and the lowest free slot."
  pub slot : ℕ
  pub free : FirstEmptySlot d slot
  -- "for a save the n data sectors in chain order and then the directory sector", before that one the one behind the end
  pub sectors : ss ≡ map bit_number bits ++ dir_numbers d slot
