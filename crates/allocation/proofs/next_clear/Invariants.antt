-- `allocation::next_clear` meets its contract: before each turn no bit from `from` on and below `b` is clear.
use Prim.Native.Nat.{◌-◌}
use Rattle.allocation.proofs.Next.{NoneClear}
use Rattle.allocation.proofs.next_clear.Given as goal

abbrev pub invariant-loop-b : goal.invariant-loop-b
invariant-loop-b l = NoneClear l.map l.from l.b

abbrev pub decreases-loop-b : goal.decreases-loop-b
decreases-loop-b l = 1560 - l.b
