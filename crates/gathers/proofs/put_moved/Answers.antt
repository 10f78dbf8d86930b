-- `gathers::put_moved` meets its contract: the numbers of the run, and then the slot's sector.
use native.Mathlib.Omega.{arith}
use Rattle.changes.proofs.Laws.{sector-small}
use Rattle.gathers.proofs.Listed.{listed_last}
use Rattle.gathers.proofs.put_moved.Goals as goal

pub put_run-requires : goal.put_run-requires
put_run-requires c = let w = c.requires in (omega (arith, w.fits), w.small)

pub overflow_cast-dir_sector : goal.overflow_cast-dir_sector
overflow_cast-dir_sector c = omega (arith, sector-small _ _ c.dir_sector.ensures c.requires.slot)

pub returns : goal.returns
returns c = listed_last _ _ _ _ c.requires c.put_run.ensures _ c.dir_sector.ensures _ c.put_number.ensures
