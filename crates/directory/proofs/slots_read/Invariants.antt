-- `directory::slots_read` meets its contract: the end is that of the slots from `i` on.
use Prim.Native.Nat.{◌-◌, ◌≤◌}
use mathlib.Core.Path.{◌≡◌}
use Rattle.refusals.specs.Order.{scan_from}
use Rattle.directory.specs.Directory.{slots_in, end_at, end_of}
use Rattle.directory.proofs.slots_read.Given as goal

abbrev pub invariant-loop-i : goal.invariant-loop-i
invariant-loop-i l = (l.count ≡ slots_in l.dir) × (l.count ≤ 778) × (l.i ≤ l.count) × (end_of l.dir ≡ scan_from (slots_in l.dir - l.i) l.i (end_at l.dir))
