-- `text_lines::put_bytes` meets its contract: a place past the end, bytes that reach it, or those that fit.
use native.Mathlib.Omega.{arith}
use Rattle.text_lines.proofs.Laws.{wrote_end}
use borrow.Author.Rules.{rules}
use Rattle.text_lines.proofs.put_bytes.Goals as goal

pub returns-then-len-at : goal.returns-then-len-at
returns-then-len-at c = wrote_end _ _ _ c.if-len-at.true

pub returns-then-len-at-2 : goal.returns-then-len-at-2
returns-then-len-at-2 c = record { page = c.copy_into.ensures; next = omega arith }

pub returns : goal.returns
returns c = record { page = c.copy_into.ensures; next = omega arith }
