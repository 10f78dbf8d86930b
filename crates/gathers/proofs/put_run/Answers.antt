-- `gathers::put_run` meets its contract: before each turn the numbers of the first `j` bits are put.
use native.Mathlib.Omega.{arith}
use Rattle.sector_writes.proofs.Links.{number-of}
use Rattle.gathers.proofs.Listed.{listed_more}
use Rattle.gathers.proofs.put_run.Goals as goal

pub loop-j-preserved : goal.loop-j-preserved
loop-j-preserved c = listed_more _ _ _ _ _ c.loop-j.invariant c.loop-j-test.true _
    (number-of _ _ (omega (arith, c.requires, c.loop-j-test.true)) c.sector_number.ensures)
