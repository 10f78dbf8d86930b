-- `gathers::put_run` meets its contract: before each turn the numbers of the first `j` bits are put.
use Rattle.gathers.proofs.Listed.{RunListLoop}
use Rattle.gathers.proofs.put_run.Given as goal

abbrev pub invariant-loop-j : goal.invariant-loop-j
invariant-loop-j l = RunListLoop l.initial.list l.n l.b l.list l.j
