-- `catalogue::put_lines` meets its contract: after i turns the lines of the first i slots are put.
use borrow.Author.Rules.{rules}
use Prim.Native.Nat.{◌-◌, ◌≤◌}
use mathlib.Core.Path.{◌≡◌, refl}
use native.Mathlib.Omega.{arith}
use lib.ListN.{length}
use Rattle.text_lines.specs.Written.{Wrote}
use Rattle.text_lines.proofs.Laws.{wrote_none, wrote_as}
use Rattle.directory.specs.Directory.{slots_read, directory}
use Rattle.catalogue.specs.Text.{lines}
use Rattle.catalogue.proofs.Laws.{lines_none, lines_turn, lines-read}
use Rattle.catalogue.proofs.put_lines.Given as goal

abbrev pub invariant-loop-i : goal.invariant-loop-i
invariant-loop-i l = (length l.page ≡ length l.initial.page) × Wrote l.initial.page 0 (lines (directory l.dir) l.i) l.page l.at
