-- `erase_calls::NameIndex::is_short` meets its contract.
use Rattle.erase_calls.proofs.Whole.{never-short}
use Rattle.erase_calls.proofs.NameIndex.is_short.Goals as goal

pub returns-then-room-ge-DIR_SECTORS : goal.returns-then-room-ge-DIR_SECTORS
returns-then-room-ge-DIR_SECTORS c = never-short _ _ c.if-room-ge-DIR_SECTORS.true
