-- `record_add::grow` meets its contract: the last sector goes on, or another begins in the piece.
use mathlib.Core.Path.{ap, ◌∙◌}
use native.Mathlib.Omega.{arith}
use Rattle.slots.specs.Slot.{sectors_for}
use Rattle.record_add.proofs.Longer.{last_le, goes_on, begins_in, begins, with_long, grown_is}
use Rattle.record_add.proofs.grow.Goals as goal
use Rattle.record_add.proofs.grow.Goals.{then-total-long, else-total-long}

pub overflow_sub-long : goal.overflow_sub-long
overflow_sub-long c = omega (arith, last_le _ _ c.last_from.ensures)

pub overflow_sub-from : goal.overflow_sub-from
unfolding sectors_for
overflow_sub-from c =
    omega (arith, begins_in c.args.kept.now c.args.piece.now c.if-total-long.false _ c.last_from-else-total-long.ensures)

pub returns : goal.returns
unfolding sectors_for
returns c =
    elim c.if-total-long.branch [
      | then-total-long w ↦
          ap (with_long _) w.kept-is
          ∙ grown_is c.args.kept.now c.args.piece.now _ _ c.copy_into.ensures (goes_on _ _ w.if-total-long.true _ w.last_from.ensures _ w.copy_into-then-total-long.ensures)
      | else-total-long w ↦
          ap (with_long _) w.kept-is
          ∙ grown_is c.args.kept.now c.args.piece.now _ _ c.copy_into.ensures
          (begins _ _ w.if-total-long.false _ w.last_from-else-total-long.ensures _ w.part_at.ensures _ w.copy_into-else-total-long.ensures)
    ]
