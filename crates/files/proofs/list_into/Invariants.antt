-- `files::list_into` meets its contract: the entries of the first `i` slots are put.
use Prim.Native.Nat.{◌-◌, ◌*◌, ◌≤◌}
use Rattle.directory.specs.Places.{slots}
use Rattle.files.proofs.Listing.{ListLoop}
use borrow.Author.Rules.{rules}
use Rattle.files.proofs.list_into.Given as goal

abbrev pub invariant-loop-at : goal.invariant-loop-at
invariant-loop-at l = (l.i ≤ slots) × (l.at ≤ 258 * l.i) × ListLoop l.dir l.initial.buf l.i l.at l.buf

abbrev pub decreases-loop-at : goal.decreases-loop-at
decreases-loop-at l = slots - l.i
