-- `free_runs::find_run` meets its contract: before each turn the last `len` bits before `b` are clear, and no run begins before them.
use Prim.Native.Nat.{◌-◌}
use Rattle.free_runs.proofs.Pass.{RunLoop}
use Rattle.free_runs.proofs.find_run.Given as goal

abbrev pub invariant-loop-b : goal.invariant-loop-b
invariant-loop-b l = RunLoop l.map l.count l.len l.b

abbrev pub decreases-loop-b : goal.decreases-loop-b
decreases-loop-b l = 1560 - l.b
