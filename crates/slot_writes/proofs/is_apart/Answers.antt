-- `slot_writes::is_apart` meets its contract.
use Rattle.slot_writes.proofs.Dirs.{apart_by}
use Rattle.slot_writes.proofs.is_apart.Goals as goal

pub returns-then-old : goal.returns-then-old
returns-then-old c =
    apart_by c.args.i c.args.old c.requires c.if-old.true _ _ c.dir_sector.ensures c.dir_sector-then-old.ensures
