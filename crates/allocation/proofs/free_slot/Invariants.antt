-- `allocation::free_slot` meets its contract: the answer is that of the slots from `i` on.
use Prim.Native.Nat.{◌-◌, ◌≤◌}
use mathlib.Core.Path.{◌≡◌}
use Rattle.refusals.specs.Order.{scan_from}
use Rattle.directory.specs.Directory.{tracks_of, slots_in, slots_read, directory}
use Rattle.plans.specs.Saving.{lowest_slot}
use Rattle.allocation.proofs.Placed.{empty_at}
use Rattle.allocation.proofs.free_slot.Given as goal

abbrev pub invariant-loop-i : goal.invariant-loop-i
invariant-loop-i l = (l.i ≤ slots_read l.image) × (lowest_slot (tracks_of l.image) (directory l.image) ≡ scan_from (slots_in l.image - l.i) l.i (empty_at (directory l.image)))
