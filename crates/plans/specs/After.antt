-- What a change leaves: the name that it finds, and every other. The words of document 01 stand above what they define.
use Rattle.std.specs.Prelude.{ℕ, suc, ◌+◌, ◌*◌, ◌≤◌, ◌<◌, ◌≡◌, Bool, true, false, cond, ◌&&◌, List, [], ◌∷◌, ◌⊎◌, eqb, length, get_or, drop}
use Rattle.std.proofs.Math.Option.{none}
use Rattle.buffers.specs.Bytes.{put}
use Rattle.geometry.specs.Disk.{bit_place}
use Rattle.refusals.specs.Order.{refuse}
use Rattle.refusals.specs.Answers.{refused, out}
use Rattle.maps.specs.Bits.{has}
use Rattle.slots.specs.Slot.{hidden, protected, kind_of, count_of, map_of}
use Rattle.slots.specs.Tracks.{is_label}
use Rattle.names.specs.Name.{Same, askable, padded}
use Rattle.chains.specs.File.{File}
use Rattle.directory.specs.Places.{slot_at, dir_sector}
use Rattle.directory.specs.Directory.{tracks_of, directory}
use Rattle.surveys.specs.Survey.{free}
use Rattle.disk.specs.View.{view}
use Rattle.files.specs.Calls.{reading, start_address}
use Rattle.plans.specs.Change.{SaveRequest, Mark, hide, show, protect, release, Change, save, erase, rename, mark, gather, marked_byte}
use Rattle.plans.specs.Saving.{free_bit, stream, next_track, next_sector, slot_byte}
use Rattle.plans.specs.Plan.{old_name}
use Rattle.plans.specs.Allowed.{NamedSlot, sectors_taken, SaveTakes}

-- reading and the start address, asked for m on one disk, give what they give for n on another: length, address, refusal with its
-- slot, and every output buffer at return
pub record SameAnswers (new m old n : List ℕ) : Type 0 where
  pub readings : (buf : List ℕ) → reading new m buf ≡ reading old n buf
  pub starts : start_address new m ≡ start_address old n

-- another name than those that the change names
abbrev pub OtherName : Change → List ℕ → Type 0
OtherName (save w) m = Same (padded m) (padded w.name) → ⊥
OtherName (erase n) m = Same (padded m) (padded n) → ⊥
OtherName (rename n to) m = (Same (padded m) (padded n) → ⊥) × (Same (padded m) (padded to) → ⊥)
OtherName (mark k n) m = Same (padded m) (padded n) → ⊥
OtherName (gather n) m = Same (padded m) (padded n) → ⊥

-- every name but those the change names: one that cannot be asked for is none of them, however it is spelt
abbrev pub NotNamed : Change → List ℕ → Type 0
NotNamed c m = askable m ≡ true → OtherName c m

-- "no live slot has the name"
pub record NameGone (new n : List ℕ) : Type 0 where
  pub unread : (buf : List ℕ) → reading new n buf ≡ out (refused (refuse 15 0)) buf
  pub unstarted : start_address new n ≡ refused (refuse 15 0)

-- "Erase sets byte 0 to 0 and changes no other byte."
pub record AfterErase (d n new ss : List ℕ) : Type 0 where
  pub slot : ℕ
  pub file : File
  pub found : NamedSlot d n slot file
  pub long : length new ≡ length d
  pub byte : get_or new (slot_at slot) 0 ≡ 0
  pub bytes : (k : ℕ) → (k ≡ slot_at slot → ⊥) → get_or new k 0 ≡ get_or d k 0
  -- the slot is free
  pub empty : (view new).files slot ≡ none
  -- the name is refused 15
  pub gone : NameGone new n
  pub sectors : ss ≡ dir_sector slot ∷ []
  -- "So freed sectors and slots are used again."
  pub freed : (b : ℕ) → has (map_of file.bytes) b ≡ true → free_bit (tracks_of new) (directory new) b ≡ true
  pub more : free (tracks_of new) (directory new) ≡ free (tracks_of d) (directory d) + count_of file.bytes

-- "Rename changes bytes 1 to 10"
pub record AfterRename (d n to new ss : List ℕ) : Type 0 where
  pub slot : ℕ
  pub file : File
  pub found : NamedSlot d n slot file
  pub long : length new ≡ length d
  pub name : (k : ℕ) → k < 10 → get_or new (slot_at slot + (1 + k)) 0 ≡ get_or (padded to) k 0
  pub bytes : (k : ℕ) → (k < slot_at slot + 1) ⊎ (slot_at slot + 11 ≤ k) → get_or new k 0 ≡ get_or d k 0
  pub sectors : ss ≡ dir_sector slot ∷ []
  -- the file in the slot has the new name, and its sectors
  pub now : NamedSlot new to slot (record { bytes = put file.bytes 1 (padded to); sectors = file.sectors })
  -- reading and the start address give for the new name what they gave for the old one
  pub answers : SameAnswers new to d n
  -- the old one is refused 15 where the new one is another name; where it "alters only the case" the old spelling finds the file
  pub gone : (Same (padded n) (padded to) → ⊥) → NameGone new n
  pub respelt : Same (padded n) (padded to) → SameAnswers new n d n

-- what a mark makes of bit 7, and of bit 6
abbrev pub hidden_by : Mark → Bool → Bool
hidden_by hide t = true
hidden_by show t = false
hidden_by protect t = t
hidden_by release t = t

abbrev pub protected_by : Mark → Bool → Bool
protected_by hide t = t
protected_by show t = t
protected_by protect t = true
protected_by release t = false

-- the first byte of a file with a mark
abbrev pub marking : Mark → File → List ℕ
marking m f = marked_byte m (get_or f.bytes 0 0) ∷ []

-- "Hide, show, protect, release set or clear one bit": no other byte changes, and of this one no other bit
pub record AfterMark (k : Mark) (d n new ss : List ℕ) : Type 0 where
  pub slot : ℕ
  pub file : File
  pub found : NamedSlot d n slot file
  pub long : length new ≡ length d
  pub byte : get_or new (slot_at slot) 0 ≡ marked_byte k (get_or d (slot_at slot) 0)
  pub bytes : (j : ℕ) → (j ≡ slot_at slot → ⊥) → get_or new j 0 ≡ get_or d j 0
  pub sectors : ss ≡ dir_sector slot ∷ []
  -- the file in the slot has its name and sectors
  pub now : NamedSlot new n slot (record { bytes = put file.bytes 0 (marking k file); sectors = file.sectors })
  pub hides : hidden (put file.bytes 0 (marking k file)) ≡ hidden_by k (hidden file.bytes)
  pub protects : protected (put file.bytes 0 (marking k file)) ≡ protected_by k (protected file.bytes)
  pub kind : kind_of (put file.bytes 0 (marking k file)) ≡ kind_of file.bytes
  -- reading and the start address give for every name, its own too, what they gave
  pub answers : (m : List ℕ) → SameAnswers new m d m

-- place k lies outside the n bytes from a on
abbrev pub Outside : ℕ → ℕ → ℕ → Type 0
Outside k a n = (k < a) ⊎ (a + n ≤ k)

-- "Save takes kind, new name, start page, offset, execution bytes, kind information and body.": what it leaves, byte by byte
pub record AfterSave (d : List ℕ) (w : SaveRequest) (new ss : List ℕ) : Type 0 where
  pub takes : SaveTakes d w ss
  pub long : length new ≡ length d
  -- the slot's 256 bytes; "a save into slot 1 now keeps bytes 210 to 219, 252, 253 and 255."
  pub slot : (k : ℕ) → k < 256
      → get_or new (slot_at takes.slot + k) 0
      ≡ cond (eqb takes.slot 0 && is_label k) (get_or d (slot_at takes.slot + k) 0) (slot_byte w takes.bits k)
  -- each data sector's 512: "510 payload bytes to a sector", then "the next track and sector. The last sector has 0, 0"
  pub payload : (j k : ℕ) → j < sectors_taken w → k < 510 → get_or new (bit_place (get_or takes.bits j 0) + k) 0 ≡ get_or (stream w) (510 * j + k) 0
  pub track : (j : ℕ) → j < sectors_taken w → get_or new (bit_place (get_or takes.bits j 0) + 510) 0 ≡ next_track (drop (suc j) takes.bits)
  pub sector : (j : ℕ) → j < sectors_taken w → get_or new (bit_place (get_or takes.bits j 0) + 511) 0 ≡ next_sector (drop (suc j) takes.bits)
  -- "the save also sets that next slot's bytes 0 and 1 to 0"
  pub cleared : old_name d takes.slot ≡ true → (k : ℕ) → k < 2 → get_or new (slot_at (suc takes.slot) + k) 0 ≡ 0
  -- every other byte
  pub bytes : (k : ℕ) → Outside k (slot_at takes.slot) 256 → (old_name d takes.slot ≡ true → Outside k (slot_at (suc takes.slot)) 2)
      → ((j : ℕ) → j < sectors_taken w → Outside k (bit_place (get_or takes.bits j 0)) 512) → get_or new k 0 ≡ get_or d k 0
  -- the file in the slot has the name
  pub file : File
  pub now : NamedSlot new w.name takes.slot file
