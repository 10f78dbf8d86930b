-- `slot_writes::is_behind` meets its contract.
use mathlib.Core.Path.{◌∙◌}
use borrow.Author.Tests.{le-ltb}
use Rattle.slot_writes.proofs.Dirs.{behind_far, behind_near}
use Rattle.slot_writes.proofs.is_behind.Goals as goal

pub returns-then-i-lt-LAST_SLOT : goal.returns-then-i-lt-LAST_SLOT
returns-then-i-lt-LAST_SLOT c = behind_near _ _ c.if-i-lt-LAST_SLOT.true

pub returns-else-i-lt-LAST_SLOT : goal.returns-else-i-lt-LAST_SLOT
returns-else-i-lt-LAST_SLOT c = le-ltb _ _ c.if-i-lt-LAST_SLOT.false ∙ behind_far _ _ c.if-i-lt-LAST_SLOT.false
