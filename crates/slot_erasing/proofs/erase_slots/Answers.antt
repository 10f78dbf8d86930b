-- `slot_erasing::erase_slots` meets its contract: the first `i` slots are done.
use mathlib.Core.Path.{sym, ◌∙◌}
use native.Mathlib.Omega.{arith}
use Rattle.slot_erasing.proofs.Loops.{cleared_start, cleared_skip, cleared_more, cleared_all}
use Rattle.slot_erasing.proofs.erase_slots.Goals.{then-has_bit, else-has_bit}
use Rattle.slot_erasing.proofs.erase_slots.Goals as goal

pub loop-i-init : goal.loop-i-init
loop-i-init c = cleared_start _ _

pub loop-i-preserved : goal.loop-i-preserved
loop-i-preserved c =
    let a = c.loop-i in
    elim c.if-has_bit.branch [
      | then-has_bit w ↦
          w.image-is ∙ cleared_more _ _ a.i _ a.invariant c.loop-i-test.true (sym c.has_bit.ensures ∙ w.if-has_bit.true) _ w.slot_place.ensures.0 _ w.copy_into.ensures
      | else-has_bit w ↦ w.image-is ∙ cleared_skip _ _ a.i _ a.invariant (sym c.has_bit.ensures ∙ w.if-has_bit.false)
    ]

pub returns : goal.returns
returns c = cleared_all _ _ c.loop-i.i _ c.loop-i.invariant (omega arith)
