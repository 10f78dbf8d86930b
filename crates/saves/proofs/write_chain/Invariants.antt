-- `saves::write_chain` meets its contract: before each turn the sectors so far are written, and the rest of the chain is left.
use mathlib.Core.List.{◌++◌}
use Rattle.saves.proofs.Chained.{WriteChainLoop}
use Rattle.saves.proofs.write_chain.Given as goal

abbrev pub invariant-loop-k : goal.invariant-loop-k
invariant-loop-k l = WriteChainLoop l.initial.image (l.head ++ l.body) l.bits l.image l.k
