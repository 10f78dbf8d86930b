-- `slots::inner_map` meets its contract: it marks the bits from 1 on and below ten for each track.
use Prim.Native.Nat.{ℕ, ◌*◌}
use mathlib.Core.Path.{ap}
use native.Mathlib.Omega.{arith}
use lib.ListN.{length-replicate}
use Rattle.slots.proofs.Tracks.{inner_first, inner_turn, inner_done}
use Rattle.slots.proofs.inner_map.Goals as goal

pub loop-b-init : goal.loop-b-init
loop-b-init c = record { first = omega arith; few = omega arith; ends = ap (λ (k : ℕ). 10 * k) c.min-end.ensures; long = length-replicate {A = ℕ} 195 0; made = inner_first _ }

pub loop-b-preserved : goal.loop-b-preserved
loop-b-preserved c =
    inner_turn _ _ c.loop-b.b _ _ c.loop-b.invariant c.loop-b-test.true c.set_bit.ensures

pub returns : goal.returns
returns c = inner_done _ _ c.loop-b.b _ c.loop-b.invariant c.loop-b-test.false
