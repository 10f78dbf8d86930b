-- `sector_writes::write_sector` meets its contract: the payload, and after it the link.
use Rattle.sector_writes.proofs.Runs.{block_at}
use Rattle.sector_writes.proofs.write_sector.Goals as goal

pub returns : goal.returns
returns c =
    block_at _ _ _ c.bit_place-at.ensures _ _ _ _ _ _ c.write_payload.ensures c.write_link.ensures
