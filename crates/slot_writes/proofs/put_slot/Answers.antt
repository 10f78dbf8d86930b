-- `slot_writes::put_slot` meets its contract: no old name behind the slot, and then the slot.
use Rattle.slot_writes.proofs.Dirs.{behind_next, filed_none, filed_some}
use Rattle.slot_writes.proofs.put_slot.Goals as goal

pub returns-then-i-ge-SLOTS : goal.returns-then-i-ge-SLOTS
returns-then-i-ge-SLOTS c = filed_none _ _ c.if-i-ge-SLOTS.true _ _

pub clear_next-requires : goal.clear_next-requires
clear_next-requires c = behind_next _ _ c.is_behind.ensures

pub returns : goal.returns
returns c =
    filed_some _ _ c.if-i-ge-SLOTS.false _ _ c.is_behind.ensures c.clear_next.ensures c.slot_place.ensures.0 c.copy_into.ensures
