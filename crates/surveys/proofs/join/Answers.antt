-- `surveys::join` meets its contract: nothing is shared, so that the counts add up.
use mathlib.Core.Path.{refl, ap₂}
use Prim.Native.Nat.{◌+◌}
use native.Mathlib.Omega.{arith}
use Rattle.maps.proofs.Laws.{bits_le}
use Rattle.surveys.proofs.Union.{counted-join}
use borrow.Author.Rules.{rules}
use Rattle.surveys.proofs.join.Goals as goal

pub overflow_add-used : goal.overflow_add-used
overflow_add-used c = omega (arith, c.requires, bits_le c.args.used.now.bytes, bits_le c.args.map.now)

pub returns : goal.returns
returns c =
    let p = c.requires in
    counted-join _ _ _ _ c.join_into.ensures (ap₂ ◌+◌ p.count p.own-count) refl p.long p.apart
