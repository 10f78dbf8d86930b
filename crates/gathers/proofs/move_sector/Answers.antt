-- `gathers::move_sector` meets its contract: the payload, and then the link.
use native.Mathlib.Omega.{arith}
use Rattle.sector_writes.proofs.Links.{end_le}
use Rattle.gathers.proofs.Moving.{places_are, sector-is}
use Rattle.gathers.proofs.move_sector.Goals as goal

pub copy_payload-requires : goal.copy_payload-requires
copy_payload-requires c = places_are c.args.image.now _ _ _ _ c.requires c.bit_place.ensures c.bit_place-at.ensures

pub overflow_add-at : goal.overflow_add-at
overflow_add-at c = omega (arith, end_le _ _ c.bit_place-at.ensures)

pub returns : goal.returns
returns c =
    sector-is _ _ _ _ _ c.requires c.bit_place.ensures c.bit_place-at.ensures _ _ _ _ c.copy_payload.ensures c.copy_into.ensures
