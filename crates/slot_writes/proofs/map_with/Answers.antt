-- `slot_writes::map_with` meets its contract: before each turn the bits from `j` on are set.
use mathlib.Core.Path.{ap, ◌∙◌}
use Rattle.maps.specs.Bits.{with_bit}
use Rattle.slot_writes.proofs.Slot.{map-none, map_more}
use Rattle.slot_writes.proofs.map_with.Goals as goal

pub loop-j-init : goal.loop-j-init
loop-j-init c = map-none c.args.bits.now

pub loop-j-preserved : goal.loop-j-preserved
loop-j-preserved c =
    map_more _ _ c.loop-j-test.true c.loop-j.auto.j _ c.loop-j.invariant _ (c.set_bit.ensures ∙ ap (with_bit _) c.from.ensures)
