-- `nesting::Codes::all_places` meets its contract: the reply is that of the slots from `i` on.
use Prim.Native.Nat.{◌-◌}
use mathlib.Core.Path.{◌≡◌}
use Rattle.refusals.specs.Order.{scan, scan_from}
use Rattle.directory.specs.Places.{slots}
use Rattle.directory.specs.Directory.{directory}
use Rattle.trees.specs.Tree.{place_at}
use Rattle.nesting.specs.Steps.{Passed}
use Rattle.nesting.proofs.Codes.all_places.Given as goal

abbrev pub invariant-loop-i : goal.invariant-loop-i
invariant-loop-i l = Passed l.self.above.now l.passed l.self.number × (scan slots (place_at (directory l.self.dir.now)) ≡ scan_from (slots - l.i) l.i (place_at (directory l.self.dir.now)))
