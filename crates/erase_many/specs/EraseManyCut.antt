-- When an erase-many is accepted, what its list names, and what a cut leaves. The words of document 02 stand above what they define.
use Rattle.std.specs.Prelude.{ℕ, ◌*◌, ◌≤◌, ◌<◌, ◌≡◌, true, cond, ◌&&◌, List, ◌↔◌, length, get_or, take}
use Rattle.std.proofs.Math.Option.{none}
use Rattle.chains.specs.File.{File}
use Rattle.directory.specs.Places.{dir_sector}
use Rattle.directory.specs.Directory.{label_of, slots_in, is_read}
use Rattle.disk.specs.View.{view}
use Rattle.disk.specs.Check.{check_disk}
use Rattle.steps.specs.Sectors.{sector, is_listed, cut}
use Rattle.plans.specs.Allowed.{NamedSlot}
use Rattle.erase_many.specs.EraseMany.{name_at, how_many, disk_after_erases, answer_at, is_erased, sectors_of_all}

-- the disk is accepted, the names are "a whole number of tens", and answers and list have room
pub record EraseManyAllowed (d ns : List ℕ) (answers room : ℕ) : Type 0 where
  pub disk : check_disk d ≡ none
  pub tens : (k : ℕ) × (length ns ≡ 10 * k)
  pub answered : how_many ns ≤ answers
  pub list : length (sectors_of_all d ns) ≤ room

-- the file in slot i is erased by name k: the disk as the erases before it left it has that name there, and the answer is 0
pub record ErasedBy (d ns : List ℕ) (k i : ℕ) : Type 0 where
  pub file : File
  pub found : NamedSlot (disk_after_erases d ns k) (name_at ns k) i file
  pub done : answer_at d ns k ≡ 0

-- "The sector list names each changed directory sector once, rising."
pub record NamesChanged (old new ss : List ℕ) : Type 0 where
  pub rising : (j k : ℕ) → j < k → k < length ss → get_or ss j 0 < get_or ss k 0
  pub changed : (s : ℕ) → (is_listed s ss ≡ true) ↔ (sector new s ≡ sector old s → ⊥)
  pub directory : (s : ℕ) → is_listed s ss ≡ true → (i : ℕ) × (i < slots_in old) × (dir_sector i ≡ s)

-- "A cut leaves an accepted disk without the files erased in the sectors already written, the others still there."
pub record CutLeaves (old new ss : List ℕ) (k : ℕ) : Type 0 where
  pub accepted : check_disk (cut old new ss k) ≡ none
  -- a slot holds nothing where its file is erased and its sector is among the first k, and else what it held
  pub files : (i : ℕ) → (view (cut old new ss k)).files i ≡ cond (is_erased old new i && is_listed (dir_sector i) (take k ss)) none ((view old).files i)
  -- n and the kept bytes of slot 1, and which slots are read, stay
  pub label : label_of (cut old new ss k) ≡ label_of old
  pub unread : (j : ℕ) → is_read (cut old new ss k) j ≡ is_read old j
