-- `slot_writes::put_dirs` meets its contract: one number or two.
use native.Mathlib.Omega.{arith}
use Rattle.buffers.proofs.Lists.{put_past}
use Rattle.slot_writes.proofs.Dirs.{behind_next, or_small, put_both, put_alone, none-put, some-put}
use Rattle.slot_writes.proofs.put_dirs.Goals as goal

pub returns-then-list-at : goal.returns-then-list-at
returns-then-list-at c = put_past _ _ _ c.if-list-at.true

pub returns-then-i-ge-SLOTS : goal.returns-then-i-ge-SLOTS
returns-then-i-ge-SLOTS c = none-put _ _ c.if-i-ge-SLOTS.true _ _

pub overflow_cast-dir_sector : goal.overflow_cast-dir_sector
overflow_cast-dir_sector c = omega (arith, or_small _ _ c.dir_sector.ensures)

pub overflow_cast-dir_sector-then-is_apart : goal.overflow_cast-dir_sector-then-is_apart
overflow_cast-dir_sector-then-is_apart c = omega (arith, or_small _ _ c.dir_sector-then-is_apart.ensures)

pub overflow_cast-dir_sector-2 : goal.overflow_cast-dir_sector-2
overflow_cast-dir_sector-2 c = omega (arith, or_small _ _ c.dir_sector-2.ensures)

pub returns-then-is_apart : goal.returns-then-is_apart
returns-then-is_apart c =
    let h = c.if-i-ge-SLOTS.false in
    some-put _ _ h c.is_behind.ensures _ _
    (put_both _ _ c.is_apart.ensures h (behind_next _ _ c.is_behind.ensures) _ _ c.if-is_apart.true c.dir_sector.ensures c.dir_sector-then-is_apart.ensures c.put_number.ensures c.put_number-then-is_apart.ensures)

pub returns : goal.returns
returns c =
    let h = c.if-i-ge-SLOTS.false in
    some-put _ _ h c.is_behind.ensures _ _ (put_alone _ _ c.is_apart.ensures h (behind_next _ _ c.is_behind.ensures) _ _ c.if-is_apart.false c.dir_sector-2.ensures c.put_number-2.ensures)
