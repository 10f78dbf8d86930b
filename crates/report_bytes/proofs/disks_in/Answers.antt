-- `report_bytes::disks_in` meets its contract: before each turn the first `k` numbers are added up.
use Rattle.std.proofs.Common.{arith}
use Rattle.reports.proofs.Raised.{summed_none, summed_more, summed_few, summed_all}
use Rattle.report_bytes.proofs.disks_in.Goals as goal

pub loop-k-init : goal.loop-k-init
loop-k-init c = summed_none _

pub overflow_cast-disks : goal.overflow_cast-disks
overflow_cast-disks c = omega (arith, c.number_at.ensures.1)

pub overflow_add-disks : goal.overflow_add-disks
overflow_add-disks c = omega (arith, summed_few _ _ _ c.loop-k.invariant, c.number_at.ensures.1)

pub loop-k-preserved : goal.loop-k-preserved
loop-k-preserved c = summed_more _ _ _ c.loop-k.invariant c.loop-k-test.true c.number_at.ensures.0 c.number_at.ensures.1

pub returns : goal.returns
returns c = let w = c.loop-k.invariant in (summed_all _ _ _ w c.loop-k-test.false, summed_few _ _ _ w)
