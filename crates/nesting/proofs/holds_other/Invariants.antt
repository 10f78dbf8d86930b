-- `nesting::holds_other` meets its contract: of the first `j` slots none is it.
use mathlib.Core.Path.{◌≡◌}
use mathlib.Core.Bool.{false}
use Rattle.buffers.specs.Bytes.{any}
use Rattle.directory.specs.Directory.{directory}
use Rattle.nesting.specs.Steps.{not_erased, in_other}
use Rattle.nesting.proofs.holds_other.Given as goal

abbrev pub invariant-loop-j : goal.invariant-loop-j
invariant-loop-j l = any l.j (in_other (not_erased (directory l.dir) l.erased) l.i l.code) ≡ false
