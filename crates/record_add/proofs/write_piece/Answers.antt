-- `record_add::write_piece` meets its contract: where one sector was begun nothing waits for the next, else its last one's bytes do.
use native.Mathlib.Omega.{arith}
use Rattle.record_add.proofs.Longer.{last_le}
use Rattle.record_add.proofs.Blocks.{goes_along, made_one, made_more}
use Rattle.record_add.proofs.write_piece.Goals as goal

pub write_sectors-requires : goal.write_sectors-requires
write_sectors-requires c = goes_along _ _ _ _ _ _ c.requires _ (omega arith)

pub returns-then-long-le501 : goal.returns-then-long-le501
returns-then-long-le501 c =
    made_one _ _ _ _ _ _ c.requires _ _ _ c.if-long-le501.true _ c.part_at-none.ensures c.write_sectors.ensures

pub overflow_sub-long-2 : goal.overflow_sub-long-2
overflow_sub-long-2 c = omega (arith, last_le _ _ c.last_from.ensures)

pub write_sectors-requires-2 : goal.write_sectors-requires-2
write_sectors-requires-2 c = goes_along _ _ _ _ _ _ c.requires _ (omega arith)

pub returns : goal.returns
returns c =
    made_more _ _ _ _ _ _ c.requires _ _ _ c.if-long-le501.false _ c.last_from.ensures (omega arith) _ c.part_at-wait.ensures c.write_sectors-2.ensures
