-- The measures of the recursion fill, the number of directories not yet entered, and of its loop, which goes up by the links.
use Prim.Native.Nat.{◌-◌}
use Rattle.directory.specs.Places.{slots}
use Rattle.directory.specs.Directory.{directory}
use Rattle.tree_lists.proofs.Filled.{FillAtSlot}
use Rattle.tree_lists.proofs.Tree.+fill.Given as goal

abbrev pub decreases-fill : goal.decreases-fill
decreases-fill l = l.left

abbrev pub invariant-loop-i : goal.invariant-loop-i
invariant-loop-i l = FillAtSlot (directory l.self.dir.now) l.left l.code l.initial.list l.from l.i l.at l.list

abbrev pub decreases-loop-i : goal.decreases-loop-i
decreases-loop-i l = slots - l.i
