-- `points::blank` is 819,200 zeros.
use Prim.Native.Nat.{ℕ}
use mathlib.Core.Path.{refl, sym}
use lib.ListN.{length-replicate}
use Rattle.points.proofs.blank.Goals as goal

pub returns : goal.returns
returns c = record { zeros = refl; size = sym (length-replicate {0} {A = ℕ} 819200 0) }
