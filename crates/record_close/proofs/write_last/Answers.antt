-- `record_close::write_last` meets its contract.
use Rattle.record_close.proofs.Ends.{last_from_lem, last-sector}
use Rattle.record_close.proofs.write_last.Goals as goal

pub overflow_sub-kept : goal.overflow_sub-kept
overflow_sub-kept c = (last_from_lem _ _ c.requires.0 c.requires.1).1

pub returns : goal.returns
returns c =
    last-sector _ _ c.requires.0 c.requires.1 _ _ c.part_at-there.ensures c.write_sector.ensures
