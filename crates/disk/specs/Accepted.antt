-- What an accepted disk is, without the table's rows and their order.
use Rattle.std.specs.Prelude.{ℕ, ◌+◌, ◌*◌, ◌≤◌, ◌<◌, ◌%◌, true, List, ◌⊎◌, ◌≡◌, get_or}
use Rattle.std.proofs.Math.Option.{some}
use Rattle.geometry.specs.Disk.{image_size, is_data, bit_of}
use Rattle.maps.specs.Bits.{has, bits_of}
use Rattle.slots.specs.Slot.{kind_of, name_of, count_of, map_of, pages_of, remainder_of, slot_fields, length_of}
use Rattle.names.specs.Name.{Same}
use Rattle.slots.specs.Tracks.{data_count, data_bit}
use Rattle.chains.specs.File.{File}
use Rattle.headers.specs.Header.{header_length, first_sector}
use Rattle.chains.specs.Whole.{WholeChain}
use Rattle.directory.specs.Places.{slots}
use Rattle.disk.specs.View.{View, view_tracks}

-- "Known kinds: 1 to 12, 16 to 23."
abbrev pub Known : ℕ → Type 0
Known k = ((1 ≤ k) × (k ≤ 12)) ⊎ ((16 ≤ k) × (k ≤ 23))

-- "The carried kinds are 16 to 20."
abbrev pub Carried : ℕ → Type 0
Carried k = (16 ≤ k) × (k ≤ 20)

-- "Kinds 1 to 4 have the Plus D header"
abbrev pub Spectrum : ℕ → Type 0
Spectrum k = (1 ≤ k) × (k ≤ 4)

-- the first sector's header agrees with the slot: kind, remainder (mod 16,384) and pages
pub record Agrees (s h : List ℕ) : Type 0 where
  pub kind : get_or h 0 0 ≡ kind_of s
  pub remainder : (get_or h 1 0 + 256 * get_or h 2 0) % 16384 ≡ remainder_of s
  pub pages : get_or h 7 0 ≡ pages_of s

-- a file with sectors: its count, its first address and its chain
pub record HasSectors (f : File) : Type 0 where
  pub some-sectors : 1 ≤ count_of f.bytes
  pub first_data : is_data (get_or f.bytes 13 0) (get_or f.bytes 14 0) ≡ true
  pub first-own : has (map_of f.bytes) (bit_of (get_or f.bytes 13 0) (get_or f.bytes 14 0)) ≡ true
  pub chain : WholeChain (slot_fields f.bytes) f.sectors

-- "A MasterDOS directory, kind 21, takes a slot and no sectors"; every other kind has some
abbrev pub SectorsByKind : File → Type 0
SectorsByKind f = ((kind_of f.bytes ≡ 21) × (count_of f.bytes ≡ 0)) ⊎ ((kind_of f.bytes ≡ 21 → ⊥) × HasSectors f)

-- a file whose slot and sectors are as documents 01 and 02 say, with n directory tracks beyond four
pub record AcceptedFile (n : ℕ) (f : File) : Type 0 where
  pub kind : Known (kind_of f.bytes)
  pub sectors : SectorsByKind f
  pub few-sectors : count_of f.bytes ≤ data_count n
  pub bits : bits_of (map_of f.bytes) ≡ count_of f.bytes
  -- no bit inside the directory
  pub data_bits : (b : ℕ) → has (map_of f.bytes) b ≡ true → data_bit n b ≡ true
  pub fits : Carried (kind_of f.bytes) → 9 + length_of (slot_fields f.bytes) ≤ 510 * count_of f.bytes
  pub header : Carried (kind_of f.bytes) → Agrees f.bytes (f.sectors (slot_fields f.bytes).first)
  pub spectrum-fits : Spectrum (kind_of f.bytes) → 9 + header_length (first_sector f) ≤ 510 * count_of f.bytes

-- an accepted disk: the size, a number of tracks that there can be, each live file accepted, and no two that share a sector or a name; two names that "differ only in a to z
-- against A to Z are the same name"
pub record AcceptedDisk (l : View) : Type 0 where
  pub long : l.long ≡ image_size
  -- "0 to 35, with 255 read as 0"
  pub tracks : (l.label 255 ≤ 35) ⊎ (l.label 255 ≡ 255)
  pub accepted : (i : ℕ) (f : File) → i < slots → l.files i ≡ some f → AcceptedFile (view_tracks l) f
  pub sectors : (i j : ℕ) (f g : File) → j < i → i < slots → l.files i ≡ some f → l.files j ≡ some g
      → (b : ℕ) → b < 1560 → has (map_of g.bytes) b ≡ true → has (map_of f.bytes) b ≡ true → ⊥
  pub names : (i j : ℕ) (f g : File) → j < i → i < slots → l.files i ≡ some f → l.files j ≡ some g → Same (name_of g.bytes) (name_of f.bytes) → ⊥
