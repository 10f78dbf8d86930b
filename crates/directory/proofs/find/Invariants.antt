-- `directory::find` meets its contract: the answer is that of the slots from `i` on.
use Prim.Native.Nat.{◌-◌, ◌≤◌}
use mathlib.Core.Path.{◌≡◌}
use Rattle.refusals.specs.Order.{scan_from}
use Rattle.names.specs.Name.{padded}
use Rattle.directory.specs.Places.{slots}
use Rattle.directory.specs.Directory.{slots_read, directory}
use Rattle.directory.specs.Find.{match_at, find}
use Rattle.directory.proofs.find.Given as goal

abbrev pub invariant-loop-i : goal.invariant-loop-i
invariant-loop-i l = (l.i ≤ slots_read l.dir) × (l.filled ≡ padded l.name) × (find (directory l.dir) l.name ≡ scan_from (slots - l.i) l.i (match_at (directory l.dir) l.name))
