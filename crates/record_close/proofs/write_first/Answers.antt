-- `record_close::write_first` meets its contract.
use Rattle.record_close.proofs.Ends.{first-sector}
use Rattle.record_close.proofs.write_first.Goals as goal

pub returns : goal.returns
returns c =
    first-sector _ c.requires _ _ _ c.start_of.ensures c.header_of-head.ensures c.part_at.ensures c.write_sector.ensures
