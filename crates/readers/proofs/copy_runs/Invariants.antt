-- `readers::copy_runs` meets its contract: before each turn the bytes of the runs before it stand in front.
use Prim.Native.Nat.{◌-◌}
use Rattle.readers.specs.Positions.{position_of}
use Rattle.readers.proofs.Runs.{PieceCopyLoop}
use Rattle.readers.proofs.copy_runs.Given as goal

abbrev pub invariant-loop-done : goal.invariant-loop-done
invariant-loop-done l = PieceCopyLoop l.image (position_of l.place.sector l.place.offset) l.want l.initial.out l.at.sector l.at.offset l.done l.out

abbrev pub decreases-loop-done : goal.decreases-loop-done
decreases-loop-done l = l.want - l.done
