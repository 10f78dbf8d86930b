-- `sector_writes::write_run` meets its contract: what the body has of the run, and zeros after it.
use mathlib.Core.Path.{refl}
use Rattle.buffers.specs.Bytes.{part}
use Rattle.sector_writes.proofs.Runs.{run-whole, run_short}
use Rattle.sector_writes.proofs.write_run.Goals as goal

pub returns-then-len-n : goal.returns-then-len-n
unfolding part
returns-then-len-n c =
    run_short _ _ _ _ _ _ c.part_at-there.ensures c.if-len-n.true c.requires.1 _ refl _ _ c.copy_into.ensures c.copy_into-then-len-n.ensures

pub returns-else-len-n : goal.returns-else-len-n
returns-else-len-n c = run-whole _ _ _ _ _ _ c.part_at-there.ensures c.if-len-n.false _ c.copy_into.ensures
