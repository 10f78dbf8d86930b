-- `changes::put_in_slot` meets its contract: the place is the slot's and o more.
use Rattle.changes.proofs.Laws.{slot-put}
use Rattle.changes.proofs.put_in_slot.Goals as goal

pub returns : goal.returns
returns c =
    slot-put _ _ _ _ _ _ c.requires.slot.below c.slot_place.ensures.0 c.copy_into.ensures
