-- `gathers::move_chain` meets its contract: before each turn `k` sectors are moved, and what is left to write makes the whole.
use Rattle.gathers.proofs.Moving.{MoveLoop}
use Rattle.gathers.proofs.move_chain.Given as goal

abbrev pub invariant-loop-k : goal.invariant-loop-k
invariant-loop-k l = MoveLoop l.initial.image l.i l.b l.image l.bit l.k
