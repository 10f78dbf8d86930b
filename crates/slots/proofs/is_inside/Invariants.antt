-- `slots::is_inside` meets its contract: no bit from 1 on and below `b` is set.
use Prim.Native.Nat.{◌-◌, ◌*◌, ◌≤◌, min}
use mathlib.Core.Path.{◌≡◌}
use Rattle.slots.proofs.Tracks.{NoneTo}
use Rattle.slots.proofs.is_inside.Given as goal

abbrev pub invariant-loop-b : goal.invariant-loop-b
invariant-loop-b l = (1 ≤ l.b) × (l.end ≡ 10 * min l.tracks 156) × NoneTo l.map l.b

abbrev pub decreases-loop-b : goal.decreases-loop-b
decreases-loop-b l = l.end - l.b
