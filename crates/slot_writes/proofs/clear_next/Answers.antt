-- `slot_writes::clear_next` meets its contract.
use native.Mathlib.Omega.{arith}
use Rattle.slot_writes.proofs.Dirs.{cleared-next}
use Rattle.slot_writes.proofs.clear_next.Goals as goal

pub returns-then-old : goal.returns-then-old
returns-then-old c =
    let p = c.requires c.if-old.true in
    cleared-next _ _ c.if-old.true (omega arith) _ c.slot_place.ensures.0 _ c.copy_into.ensures
