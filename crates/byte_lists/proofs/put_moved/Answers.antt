-- `byte_lists::put_moved` meets its contract: the bytes of the run's numbers, and then those of the slot's sector.
use mathlib.Core.Path.{◌∙◌}
use native.Mathlib.Omega.{arith}
use Rattle.changes.proofs.Laws.{sector-small}
use Rattle.byte_lists.proofs.Gathers.{last-room, last-is}
use Rattle.byte_lists.proofs.put_moved.Goals as goal

pub put_run-requires : goal.put_run-requires
put_run-requires c = let w = c.requires in (omega (arith, w.fits), w.small)

pub overflow_cast-dir_sector : goal.overflow_cast-dir_sector
overflow_cast-dir_sector c = omega (arith, sector-small _ _ c.dir_sector.ensures c.requires.slot)

pub put_pair-requires : goal.put_pair-requires
put_pair-requires c = last-room _ _ _ c.requires c.put_run.ensures

pub returns : goal.returns
returns c = c.put_pair.ensures ∙ last-is _ _ _ c.requires c.put_run.ensures _ c.dir_sector.ensures
