-- `saves::write_chain` meets its contract: before each turn the sectors so far are written, and the rest of the chain is left.
use Rattle.saves.proofs.Chained.{chain_more, chain_all}
use Rattle.saves.proofs.write_chain.Goals as goal

pub loop-k-preserved : goal.loop-k-preserved
loop-k-preserved c =
    chain_more _ _ _ _ _ c.loop-k.invariant c.loop-k-test.true (c.requires.small _ c.loop-k-test.true) _ c.link_to-link.ensures _
    (rw c.from.ensures at c.write_sector.ensures)

pub returns : goal.returns
returns c = chain_all _ _ _ _ _ c.loop-k.invariant c.loop-k-test.false
