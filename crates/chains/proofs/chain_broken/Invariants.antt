-- `chains::chain_broken` meets its contract: before each turn the chain is broken exactly where what is left of it leaves the map.
use Prim.Native.Nat.{◌-◌}
use Rattle.chains.proofs.ChainLoop.{ChainLoop}
use Rattle.chains.proofs.chain_broken.Given as goal

abbrev pub invariant-loop : goal.invariant-loop
invariant-loop l = ChainLoop l.image l.s l.passed (l.end - l.counter) l.bit l.at
