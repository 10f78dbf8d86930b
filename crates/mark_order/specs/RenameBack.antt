-- A rename taken back. The words of document 02 stand above what they define.
use Rattle.std.specs.Prelude.{ℕ, ◌≡◌, true, List}
use Rattle.refusals.specs.Answers.{done}
use Rattle.slots.specs.Slot.{name_of}
use Rattle.names.specs.Name.{padded}
use Rattle.chains.specs.File.{File}
use Rattle.plans.specs.Change.{rename, usable}
use Rattle.plans.specs.Allowed.{NamedSlot}
use Rattle.mark_order.specs.MarkCalls.{ChangeCall}

-- "where the old name, as stored, is the one given back and is usable as a new one": n finds a file, and the ten bytes of its
-- name are `old`, filled with 32
pub record StoredName (d n old : List ℕ) : Type 0 where
  pub slot : ℕ
  pub file : File
  pub found : NamedSlot d n slot file
  pub bytes : name_of file.bytes ≡ padded old
  pub accepted : usable old ≡ true

-- "an accepted rename followed by the rename back restores every byte": the first with a list a, the second with a list b, which
-- then names the sector that the first would have named in it
pub record RenameRestores (call : ChangeCall) (d n to old a b : List ℕ) : Type 0 where
  pub disk : (call (rename to old) (call (rename n to) d a).image b).image ≡ d
  pub accepted : (call (rename to old) (call (rename n to) d a).image b).outcome ≡ done 1 0
  pub list : (call (rename to old) (call (rename n to) d a).image b).list ≡ (call (rename n to) d b).list
