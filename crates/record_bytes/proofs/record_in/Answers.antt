-- `record_bytes::record_in` meets its contract: the numbers byte by byte, the rest copied part by part.
use Rattle.record_bytes.proofs.Laid.{copied, record_is}
use borrow.Author.Rules.{rules}
use Rattle.record_bytes.proofs.record_in.Goals as goal

pub returns : goal.returns
returns c =
    record_is _ c.num_at.ensures.0 (copied _ _ _ _ _ c.part_at.ensures c.copy_into.ensures) c.num_at-2.ensures.0 c.two_at.ensures.0 (copied _ _ _ _ _ c.part_at-2.ensures c.copy_into-2.ensures) (copied _ _ _ _ _ c.part_at-3.ensures c.copy_into-3.ensures)
    (copied _ _ _ _ _ c.part_at-4.ensures c.copy_into-4.ensures) c.num_at-3.ensures.0 c.long_in.ensures (copied _ _ _ _ _ c.part_at-5.ensures c.copy_into-5.ensures) (copied _ _ _ _ _ c.part_at-6.ensures c.copy_into-6.ensures)
