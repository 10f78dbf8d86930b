-- `text_lines::put_decimal` meets its contract.
use borrow.Author.Rules.{rules}
use Rattle.text_lines.specs.Lines.{decimal}
use Rattle.text_lines.proofs.put_decimal.Goals as goal

pub returns : goal.returns
unfolding decimal
returns c = c.put_digits.ensures
