-- The end of the directory, and the slots behind it, after a change.
use Rattle.std.specs.Prelude.{ℕ, suc, ◌≤◌, ◌<◌, false, cond, List, ◌≡◌, length}
use Rattle.std.proofs.Math.Option.{Option, none, some}
use Rattle.chains.specs.File.{File}
use Rattle.directory.specs.Directory.{is_slot, is_read}
use Rattle.disk.specs.View.{view}
use Rattle.steps.specs.Sectors.{cut}
use Rattle.plans.specs.Change.{Change, save, erase, rename, mark, gather}
use Rattle.plans.specs.Allowed.{FirstEmptySlot}

-- slot j is the one that a save writes
abbrev pub Writes : Change → List ℕ → ℕ → Type 0
Writes (save w) d j = FirstEmptySlot d j
Writes (erase n) d j = ⊥
Writes (rename n to) d j = ⊥
Writes (mark k n) d j = ⊥
Writes (gather n) d j = ⊥

-- "that slot .. and all later ones are unread .. none of them is a live slot, also in demand 3": whichever number of the sectors
-- named is written; writes: the slot that the change writes, if it is one that writes a new slot
pub record Unread (writes : ℕ → Type 0) (old new ss : List ℕ) : Type 0 where
  -- if any is missing, every slot that was unread is
  pub before : (k : ℕ) → k < length ss → (j : ℕ) → is_read old j ≡ false → is_read (cut old new ss k) j ≡ false
  -- always every one but the slot that is written
  pub stays : (k : ℕ) → k ≤ length ss → (j : ℕ) → is_read old j ≡ false → (writes j → ⊥) → is_read (cut old new ss k) j ≡ false
  -- so that a live slot that was unread is that one
  pub live : (k : ℕ) → k ≤ length ss → (j : ℕ) (f : File) → is_read old j ≡ false → (view (cut old new ss k)).files j ≡ some f → writes j

-- the directory ends right behind slot i; it has no end where that is the last slot
unfoldable pub end_behind : List ℕ → ℕ → Option ℕ
end_behind d i = cond (is_slot d (suc i)) (some (suc i)) none
