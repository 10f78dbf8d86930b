-- `slot_erasing::erase_slots` meets its contract: the first `i` slots are done.
use mathlib.Core.Path.{◌≡◌}
use Rattle.maps.specs.Bits.{has}
use Rattle.erase_many.specs.ErasedMap.{slots_cleared}
use Rattle.slot_erasing.proofs.erase_slots.Given as goal

abbrev pub invariant-loop-i : goal.invariant-loop-i
invariant-loop-i l = l.image ≡ slots_cleared l.initial.image (has l.map) l.i
