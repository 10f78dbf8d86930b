-- `nesting::Codes::is_orphan` meets its contract.
use mathlib.Core.Path.{sym}
use Rattle.nesting.proofs.Table.{in_the_root, in_one}
use Rattle.nesting.proofs.Codes.is_orphan.Goals as goal

pub returns-then-parent-ne0 : goal.returns-then-parent-ne0
returns-then-parent-ne0 c = in_one _ _ _ c.parent_of-parent.ensures.0 c.if-parent-ne0.true _ c.entry_at.ensures

pub returns-else-parent-ne0 : goal.returns-else-parent-ne0
returns-else-parent-ne0 c = rw c.if-parent-ne0.false (sym (in_the_root _ _ _ c.parent_of-parent.ensures.0 c.if-parent-ne0.false))
