-- `nesting::is_occupied_yet` meets its contract.
use mathlib.Core.Path.{sym, ◌∙◌}
use Rattle.trees.proofs.Occupied.{vacant-file, vacant-zero}
use Rattle.nesting.proofs.Others.{occupied_by}
use Rattle.nesting.proofs.is_occupied_yet.Goals as goal

pub returns-then-not-is_directory : goal.returns-then-not-is_directory
returns-then-not-is_directory c = sym (vacant-file _ _ _ (sym c.if-not-is_directory.ensures))

pub returns-then-code-ne0 : goal.returns-then-code-ne0
returns-then-code-ne0 c =
    occupied_by _ _ _ (sym c.if-not-is_directory.ensures) _ c.code_of-code.ensures.0 c.if-code-ne0.true c.holds_other.ensures

pub returns-else-code-ne0 : goal.returns-else-code-ne0
returns-else-code-ne0 c = rw c.if-code-ne0.false (sym (vacant-zero _ _ _ (sym c.code_of-code.ensures.0 ∙ c.if-code-ne0.false)))
