-- `record_add::write_sectors` meets its contract: before each turn the sectors so far are written and named, and the bit is the next one's.
use native.Mathlib.Omega.{arith}
use Rattle.sector_writes.proofs.Links.{number-of}
use Rattle.record_add.proofs.Sectors.{set_as_put, written_none, written-bit, written-more, written_all}
use Rattle.record_add.proofs.write_sectors.Goals as goal

pub loop-j-init : goal.loop-j-init
loop-j-init c = written_none _ _ _ _ _ _ _ c.requires

pub overflow_add-b : goal.overflow_add-b
overflow_add-b c = omega (arith, written-bit _ _ _ _ _ _ _ c.requires _ _ _ _ c.loop-j.invariant c.loop-j-test.true)

pub loop-j-preserved : goal.loop-j-preserved
loop-j-preserved c =
    written-more _ _ _ _ _ _ _ c.requires _ _ _ _ c.loop-j.invariant c.loop-j-test.true _ c.next_clear-next.ensures _ c.link_of-link.ensures _ c.write_sector.ensures _
    (set_as_put _ _ _ _ (number-of _ _ (written-bit _ _ _ _ _ _ _ c.requires _ _ _ _ c.loop-j.invariant c.loop-j-test.true) c.sector_number.ensures))

pub returns : goal.returns
returns c = written_all _ _ _ _ _ _ _ c.requires _ _ _ _ c.loop-j.invariant c.loop-j-test.false
