-- `allocation::pick_bits` meets its contract: before each turn `j` of the bits are found among those below `b`.
use Prim.Native.Nat.{◌-◌}
use Rattle.allocation.proofs.Picked.{PickLoop}
use Rattle.allocation.proofs.pick_bits.Given as goal

abbrev pub invariant-loop-b : goal.invariant-loop-b
invariant-loop-b l = PickLoop l.map l.n l.initial.list l.list l.j l.b

abbrev pub decreases-loop-b : goal.decreases-loop-b
decreases-loop-b l = 1560 - l.b
