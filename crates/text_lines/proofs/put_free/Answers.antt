-- `text_lines::put_free` meets its contract: three parts, one after another.
use borrow.Author.Rules.{rules}
use Rattle.text_lines.specs.Lines.{free_line}
use Rattle.text_lines.proofs.Laws.{wrote_then}
use Rattle.text_lines.proofs.put_free.Goals as goal

pub returns : goal.returns
unfolding free_line
returns c =
    wrote_then (wrote_then c.put_bytes-a.ensures c.put_decimal-b.ensures) c.put_bytes.ensures
