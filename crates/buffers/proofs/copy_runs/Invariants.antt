-- `buffers::copy_runs`: before each turn the first `done` bytes are put.
use Prim.Native.Nat.{◌≤◌, ◌-◌}
use mathlib.Core.Path.{◌≡◌}
use lib.ListN.{length, take}
use Rattle.buffers.specs.Bytes.{put}
use Rattle.buffers.proofs.copy_runs.Given as goal

abbrev pub invariant-loop-done : goal.invariant-loop-done
invariant-loop-done l = (l.done ≤ length l.from) × (length l.out ≡ length l.initial.out) × (l.out ≡ put l.initial.out l.at (take l.done l.from))

abbrev pub decreases-loop-done : goal.decreases-loop-done
decreases-loop-done l = length l.from - l.done
