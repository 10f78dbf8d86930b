-- `byte_lists::put_run`: before each turn the bytes of the first `j` bits' numbers are put.
use mathlib.Core.Path.{◌≡◌}
use Rattle.buffers.specs.Bytes.{put}
use Rattle.plans.specs.Gathered.{run_sectors}
use Rattle.byte_lists.specs.Lists.{in_bytes}
use Rattle.byte_lists.proofs.put_run.Given as goal

abbrev pub invariant-loop-j : goal.invariant-loop-j
invariant-loop-j l = l.list ≡ put l.initial.list 0 (in_bytes (run_sectors l.j l.b))
