-- `slot_writes::fresh_slot` meets its contract: the pieces are put from the front to the back.
use Rattle.buffers.proofs.Lists.{put_one}
use Rattle.slot_writes.proofs.Slot.{slot-put}
use Rattle.slot_writes.proofs.fresh_slot.Goals as goal

pub returns : goal.returns
returns c =
    slot-put _ _ _ _ _ _ _ _ (put_one _ 0 _) c.padded_name-filled.ensures c.copy_into.ensures c.chain_bytes-chain.ensures
    c.copy_into-2.ensures c.part_at.ensures c.copy_into-3.ensures c.part_at-2.ensures c.copy_into-4.ensures
    c.span_of-span.ensures c.copy_into-5.ensures c.part_at-3.ensures c.copy_into-6.ensures (put_one _ 245 255)
