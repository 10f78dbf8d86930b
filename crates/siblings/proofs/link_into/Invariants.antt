-- `siblings::link_into` meets its contract: the slots from slot `i` on are linked.
use Prim.Native.Nat.{ℕ, ◌≤◌, ◌<◌}
use mathlib.Core.Path.{◌≡◌}
use lib.ListN.{length, get_or}
use Rattle.directory.specs.Places.{slots}
use Rattle.directory.specs.Directory.{directory, slots_read}
use Rattle.siblings.proofs.Linking.{Linking}
use Rattle.siblings.proofs.link_into.Given as goal

abbrev pub invariant-loop-i : goal.invariant-loop-i
invariant-loop-i l = (l.i ≤ slots_read l.dir) × Linking (directory l.dir) l.i l.links

abbrev pub invariant-loop-k : goal.invariant-loop-k
invariant-loop-k l = (length l.links ≡ 1034) × ((j : ℕ) → j < l.k → get_or l.links j 0 ≡ slots)
