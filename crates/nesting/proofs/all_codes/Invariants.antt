-- `nesting::all_codes` meets its contract: the table holds the directories of the first `i` slots.
use Rattle.directory.specs.Directory.{directory}
use Rattle.nesting.proofs.Table.{TableLoop}
use Rattle.nesting.proofs.all_codes.Given as goal

abbrev pub invariant-loop-i : goal.invariant-loop-i
invariant-loop-i l = TableLoop (directory l.dir) l.above l.number l.i
