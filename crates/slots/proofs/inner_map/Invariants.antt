-- `slots::inner_map` meets its contract: it marks the bits from 1 on and below ten for each track.
use Rattle.slots.proofs.Tracks.{InnerLoop}
use Rattle.slots.proofs.inner_map.Given as goal

abbrev pub invariant-loop-b : goal.invariant-loop-b
invariant-loop-b l = InnerLoop l.tracks l.end l.b l.map
