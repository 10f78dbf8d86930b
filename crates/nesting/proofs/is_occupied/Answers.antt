-- `nesting::is_occupied` meets its contract.
use mathlib.Core.Path.{sym, ◌∙◌}
use Rattle.trees.proofs.Occupied.{vacant-file, vacant-zero}
use Rattle.nesting.proofs.Others.{occupied_whole}
use Rattle.nesting.proofs.is_occupied.Goals as goal

pub returns-then-not-can_hold : goal.returns-then-not-can_hold
returns-then-not-can_hold c = sym (vacant-file _ _ _ (sym c.is_directory-can_hold.ensures ∙ c.if-not-can_hold.true))

pub returns-then-code-eq0 : goal.returns-then-code-eq0
returns-then-code-eq0 c = sym (vacant-zero _ _ _ (sym c.code_of-code.ensures.0 ∙ c.if-code-eq0.true))

pub returns : goal.returns
returns c = c.is_occupied_yet.ensures ∙ occupied_whole _ _ _
