-- `sector_writes::write_payload` meets its contract: what the first list has of the payload, and the rest of the second.
use native.Mathlib.Omega.{arith}
use Rattle.sector_writes.proofs.Runs.{part-few, payload-first, payload-later}
use Rattle.sector_writes.proofs.write_payload.Goals as goal

pub returns-then-len-from : goal.returns-then-len-from
returns-then-len-from c =
    payload-later c.args.front.now _ _ _ _ c.if-len-from.true _ c.write_run.ensures

pub overflow_sub-n : goal.overflow_sub-n
overflow_sub-n c = part-few _ _ _ _ c.part_at-there.ensures

pub write_run-requires-else-len-from : goal.write_run-requires-else-len-from
write_run-requires-else-len-from c = let l = part-few _ _ _ _ c.part_at-there.ensures in (omega arith, omega arith)

pub returns-else-len-from : goal.returns-else-len-from
returns-else-len-from c =
    payload-first _ _ _ _ _ _ c.part_at-there.ensures c.if-len-from.false _ _ c.copy_into.ensures c.write_run-else-len-from.ensures
