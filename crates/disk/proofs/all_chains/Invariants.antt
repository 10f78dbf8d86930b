-- `disk::all_chains` meets its contract: the reply is that of the slots from `i` on.
use Prim.Native.Nat.{◌-◌, ◌≤◌}
use mathlib.Core.Path.{◌≡◌}
use Rattle.refusals.specs.Order.{scan, scan_from}
use Rattle.directory.specs.Places.{slots}
use Rattle.directory.specs.Directory.{directory, live_among}
use Rattle.disk.specs.View.{view}
use Rattle.disk.specs.Check.{chain_at}
use borrow.Author.Rules.{rules}
use Rattle.disk.proofs.all_chains.Given as goal

abbrev pub invariant-loop-seen : goal.invariant-loop-seen
invariant-loop-seen l =
    (l.i ≤ slots) × (scan slots (chain_at (view l.image)) ≡ scan_from (slots - l.i) l.i (chain_at (view l.image))) × (l.seen ≡ live_among (directory l.image) l.i)

abbrev pub decreases-loop-seen : goal.decreases-loop-seen
decreases-loop-seen l = slots - l.i
