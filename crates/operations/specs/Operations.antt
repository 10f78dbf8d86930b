-- Demand 3 over every part of every change. Document 02: "So for demand 3 each sector of this list counts as a change of its own:
-- its old disk is what the sectors before it left, and it finds by name the files erased in that sector".
use Rattle.std.specs.Prelude.{ℕ, suc, ◌<◌, Bool, false, ◌&&◌, List, [], ◌∷◌, ◌≡◌, eqb, length, get_or}
use Rattle.std.proofs.Math.Option.{none}
use Rattle.buffers.specs.Bytes.{any}
use Rattle.slots.specs.Slot.{name_of}
use Rattle.names.specs.Name.{same_name}
use Rattle.chains.specs.File.{File}
use Rattle.directory.specs.Places.{slots, slot_bytes, dir_sector}
use Rattle.directory.specs.Directory.{label_of, is_read}
use Rattle.disk.specs.Check.{check_disk}
use Rattle.steps.specs.Sectors.{cut}
use Rattle.plans.specs.Change.{Change}
use Rattle.plans.specs.Plan.{Result, run_change, Changed, changed, changed_by, change, finds}
use Rattle.plans.specs.Allowed.{FirstEmptySlot}
use Rattle.plans.specs.Safe.{Safe}
use Rattle.plans.specs.Unread.{Writes}
use Rattle.recordings.specs.Recording.{Recording, add_piece, close_recording}
use Rattle.erase_many.specs.EraseMany.{is_erased, run_many, Erased, erase_many}

-- ---- what can be asked of a disk

-- one change; an erase-many: the names, and the buffer lent for the answers; a piece of a recording; or its close
pub data Operation : Type 0 where
  single_change : Change → Operation
  erase_names : List ℕ → List ℕ → Operation
  record_piece : Recording → List ℕ → Operation
  record_close : Recording → Operation

-- a refusal, or the new disk and its sectors, with a list of so many numbers
abbrev pub run_operation : Operation → List ℕ → ℕ → Result
run_operation (single_change c) d room = run_change c d room
run_operation (erase_names ns abuf) d room = run_many ns d (length abuf) room
run_operation (record_piece r x) d room = add_piece r x d room
run_operation (record_close r) d room = close_recording r d room

-- outcome, image and list at return
abbrev pub changed_of : Erased → Changed
changed_of e = changed e.outcome e.image e.list

abbrev pub call_operation : Operation → List ℕ → List ℕ → Changed
call_operation (single_change c) d buf = change c d buf
call_operation (erase_names ns abuf) d buf = changed_of (erase_many d ns abuf buf)
call_operation (record_piece r x) d buf = changed_by (add_piece r x d (length buf)) d buf
call_operation (record_close r) d buf = changed_by (close_recording r d (length buf)) d buf

-- ---- its parts

-- what demand 3 is said of: an old disk, a new one, the sectors named, and the live files found by name
pub record OperationPart : Type 0 where
  pub old : List ℕ
  pub new : List ℕ
  pub sectors : List ℕ
  pub finds : File → Bool

-- "it finds by name the files erased in that sector": a file with the name of one that is gone, whose slot lies in sector s
unfoldable pub finds_in : List ℕ → List ℕ → ℕ → File → Bool
finds_in old new s f = any slots (λ i. (is_erased old new i && eqb (dir_sector i) s) && same_name (name_of f.bytes) (name_of (slot_bytes old i)))

-- "each sector of this list counts as a change of its own: its old disk is what the sectors before it left": the k-th, from 0
abbrev pub sector_part : List ℕ → List ℕ → List ℕ → ℕ → OperationPart
sector_part old new ss k = record {
  old = cut old new ss k;
  new = cut old new ss (suc k);
  sectors = get_or ss k 0 ∷ [];
  finds = finds_in old new (get_or ss k 0);
}

-- every other change is one part, and so are a piece and a close, which find no file
abbrev pub whole_part : (File → Bool) → List ℕ → List ℕ → List ℕ → OperationPart
whole_part finds old new ss = record { old = old; new = new; sectors = ss; finds = finds }

-- how many parts there are, with these sectors named
abbrev pub parts : Operation → List ℕ → ℕ
parts (single_change c) ss = 1
parts (erase_names ns abuf) ss = length ss
parts (record_piece r x) ss = 1
parts (record_close r) ss = 1

abbrev pub part_at : Operation → List ℕ → List ℕ → List ℕ → ℕ → OperationPart
part_at (single_change c) old new ss k = whole_part (finds c) old new ss
part_at (erase_names ns abuf) old new ss k = sector_part old new ss k
part_at (record_piece r x) old new ss k = whole_part (λ f. false) old new ss
part_at (record_close r) old new ss k = whole_part (λ f. false) old new ss

-- they are the change: the first begins with the old disk, each with what the one before it left, and the last leaves the new one
pub record PartsJoin (a : Operation) (old new ss : List ℕ) : Type 0 where
  pub first : 0 < parts a ss → (part_at a old new ss 0).old ≡ old
  pub next : (k : ℕ) → suc k < parts a ss → (part_at a old new ss (suc k)).old ≡ (part_at a old new ss k).new
  pub last : (k : ℕ) → suc k ≡ parts a ss → (part_at a old new ss k).new ≡ new
  pub empty : parts a ss ≡ 0 → new ≡ old

-- demand 3 of each of them
abbrev pub EachSafe : Operation → List ℕ → List ℕ → List ℕ → Type 0
EachSafe a old new ss =
    (k : ℕ) → k < parts a ss
    → Safe (part_at a old new ss k).finds (part_at a old new ss k).old (part_at a old new ss k).new (part_at a old new ss k).sectors

-- ---- the whole of it, cut anywhere

-- slot j is the one that a save or a close writes
abbrev pub WritesSlot : Operation → List ℕ → ℕ → Type 0
WritesSlot (single_change c) d j = Writes c d j
WritesSlot (erase_names ns abuf) d j = ⊥
WritesSlot (record_piece r x) d j = ⊥
WritesSlot (record_close r) d j = FirstEmptySlot d j

-- whichever number k of all its sectors is written: the disk is accepted, n and the kept bytes of slot 1 stay, and the slots that
-- were unread stay so but for the one that a save or a close writes
pub record EveryCut (a : Operation) (old new ss : List ℕ) (k : ℕ) : Type 0 where
  pub accepted : check_disk (cut old new ss k) ≡ none
  pub label : label_of (cut old new ss k) ≡ label_of old
  pub unread : (j : ℕ) → is_read old j ≡ false → (WritesSlot a old j → ⊥) → is_read (cut old new ss k) j ≡ false
