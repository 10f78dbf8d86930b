-- `erase_calls::NameIndex::find_left` meets its contract: no slot below `c` is left and has the name.
use Prim.Native.Nat.{◌-◌}
use Rattle.directory.specs.Places.{slots}
use Rattle.erase_calls.proofs.Seek.{SeekLoop}
use Rattle.erase_calls.proofs.NameIndex.find_left.Given as goal

abbrev pub invariant-loop-c : goal.invariant-loop-c
invariant-loop-c l = SeekLoop l.self.dir.now l.map l.name l.c

abbrev pub decreases-loop-c : goal.decreases-loop-c
decreases-loop-c l = slots - l.c
