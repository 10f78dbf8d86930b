-- `slot_erasing::list_sectors` meets its contract: the sectors of the first `j` are listed.
use Rattle.maps.specs.Bits.{has}
use Rattle.slot_erasing.proofs.Loops.{ListSectorsLoop}
use Rattle.slot_erasing.proofs.list_sectors.Given as goal

abbrev pub invariant-loop-j : goal.invariant-loop-j
invariant-loop-j l = ListSectorsLoop (has l.map) l.initial.list l.j l.at l.list
