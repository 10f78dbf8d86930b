-- `text_lines::shown_name` meets its contract: after k turns the first k bytes are as shown.
use borrow.Author.Rules.{rules}
use Prim.Native.Nat.{◌≤◌, ◌-◌}
use mathlib.Core.Path.{◌≡◌, refl, ap, ◌∙◌}
use native.Mathlib.Omega.{arith}
use lib.ListN.{length, get_or, take, length-set}
use Rattle.buffers.specs.Bytes.{tab}
use Rattle.buffers.proofs.Lists.{fill_more, fill_done}
use Rattle.text_lines.specs.Lines.{shown}
use Rattle.text_lines.proofs.shown_name.Given as goal

abbrev pub invariant-loop-k : goal.invariant-loop-k
invariant-loop-k l = (length l.visible ≡ 10) × (take l.k l.visible ≡ tab l.k (λ j. shown (get_or l.name j 0)))
