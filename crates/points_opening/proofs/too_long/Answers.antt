-- `points_opening::too_long` has as many bytes as it says.
use Prim.Native.Nat.{ℕ}
use mathlib.Core.Path.{sym}
use lib.ListN.{length-replicate}
use Rattle.points_opening.proofs.too_long.Goals as goal

pub returns : goal.returns
returns c = sym (length-replicate {0} {A = ℕ} 819201 0)
