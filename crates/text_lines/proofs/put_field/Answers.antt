-- `text_lines::put_field` meets its contract.
use borrow.Author.Rules.{rules}
use Rattle.text_lines.proofs.Laws.{wrote_then}
use Rattle.text_lines.proofs.put_field.Goals as goal

pub returns : goal.returns
returns c =
    wrote_then c.put_bytes-next.ensures c.put_decimal.ensures
