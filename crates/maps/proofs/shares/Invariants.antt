-- `maps::shares`: after i turns `common` has a set bit where i bytes of the maps share one.
use Prim.Native.Nat.{◌*◌}
use mathlib.Core.Path.{◌≡◌}
use Rattle.buffers.specs.Bytes.{any}
use Rattle.maps.proofs.Laws.{bit, in_both}
use Rattle.maps.proofs.shares.Given as goal

abbrev pub invariant-loop-i : goal.invariant-loop-i
invariant-loop-i l = any 8 (bit l.common) ≡ any (8 * l.i) (in_both l.m l.d)
