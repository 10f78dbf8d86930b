-- `text_lines::mark_of` meets its contract.
use borrow.Author.Rules.{rules}
use mathlib.Core.Path.{◌∙◌, sym}
use Rattle.text_lines.proofs.mark_of.Goals as goal

pub returns-then-is_protected : goal.returns-then-is_protected
returns-then-is_protected c = rw (sym c.is_protected.ensures ∙ c.if-is_protected.true)

pub returns-else-is_protected : goal.returns-else-is_protected
returns-else-is_protected c = rw (sym c.is_protected.ensures ∙ c.if-is_protected.false)
