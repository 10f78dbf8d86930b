-- `gathers::is_scattered` meets its contract: before each turn the first `k` sectors are in order.
use Rattle.gathers.proofs.ChainOrder.{InOrderLoop}
use Rattle.gathers.proofs.is_scattered.Given as goal

abbrev pub invariant-loop-k : goal.invariant-loop-k
invariant-loop-k l = InOrderLoop l.image l.s l.bit l.k
