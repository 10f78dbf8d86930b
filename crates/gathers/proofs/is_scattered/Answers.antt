-- `gathers::is_scattered` meets its contract: before each turn the first `k` sectors are in order.
use native.Mathlib.Omega.{arith}
use Rattle.gathers.proofs.ChainOrder.{rising_start, rising-small, rising-more, rising_not, rising_all}
use Rattle.gathers.proofs.is_scattered.Goals as goal

pub loop-k-init : goal.loop-k-init
loop-k-init c = rising_start _ _ c.requires _ c.first_of-bit.ensures.0

pub overflow_add-bit : goal.overflow_add-bit
overflow_add-bit c = omega (arith, rising-small _ _ c.requires c.loop-k.bit c.loop-k.k c.loop-k.invariant)

pub returns-then-next-bit : goal.returns-then-next-bit
returns-then-next-bit c =
    rising_not _ _ c.requires c.loop-k.bit c.loop-k.k c.loop-k.invariant (omega (arith, c.loop-k-test.true)) _ c.bit_after-next.ensures c.if-next-bit.true

pub loop-k-preserved : goal.loop-k-preserved
loop-k-preserved c =
    rising-more _ _ c.requires c.loop-k.bit c.loop-k.k c.loop-k.invariant (omega (arith, c.loop-k-test.true)) _ c.bit_after-next.ensures c.if-next-bit.false

pub returns : goal.returns
returns c = rising_all _ _ c.requires c.loop-k.bit c.loop-k.k c.loop-k.invariant (omega (arith, c.loop-k-test.false))
