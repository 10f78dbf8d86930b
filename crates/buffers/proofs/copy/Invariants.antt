-- `buffers::copy`: after j turns the first j bytes are put.
use mathlib.Core.Path.{◌≡◌}
use lib.ListN.{length, take}
use Rattle.buffers.specs.Bytes.{put}
use Rattle.buffers.proofs.copy.Given as goal

abbrev pub invariant-loop-j : goal.invariant-loop-j
invariant-loop-j l = (length l.out ≡ length l.initial.out) × (l.out ≡ put l.initial.out l.at (take l.j l.from))
