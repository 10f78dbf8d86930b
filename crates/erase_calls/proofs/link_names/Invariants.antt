-- `erase_calls::link_names` meets its contract: the slots from `i` on are in the index.
use Prim.Native.Nat.{◌≤◌}
use Rattle.directory.specs.Directory.{directory, slots_read}
use Rattle.erase_calls.specs.Index.{IndexedFrom}
use Rattle.erase_calls.proofs.link_names.Given as goal

abbrev pub invariant-loop-i : goal.invariant-loop-i
invariant-loop-i l = (l.i ≤ slots_read l.dir) × IndexedFrom (directory l.dir) l.i l.links
