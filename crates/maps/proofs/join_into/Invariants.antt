-- `maps::join_into`: after i turns the first i bytes of `d` are joined.
use mathlib.Core.Path.{◌≡◌}
use lib.ListN.{length, take}
use Rattle.maps.specs.Bits.{join}
use Rattle.maps.proofs.join_into.Given as goal

abbrev pub invariant-loop-i : goal.invariant-loop-i
invariant-loop-i l = (length l.m ≡ length l.initial.m) × (l.m ≡ join l.initial.m (take l.i l.d))
