-- `reports::class_of` meets its contract: before each turn the count is no less than the least of the class.
use mathlib.Core.Path.{◌≡◌}
use native.Mathlib.Omega.{arith}
use Rattle.reports.proofs.Classes.{lookup_start, lookup-small, lookup-more, lookup-here, lookup-last, lookup-few}
use Rattle.reports.proofs.class_of.Goals as goal

pub loop-class-init : goal.loop-class-init
loop-class-init c = lookup_start _

pub returns-then-count-next : goal.returns-then-count-next
returns-then-count-next c = let w = c.loop-class.invariant in (lookup-here _ _ _ w c.if-count-next.true, lookup-few _ _ _ w)

pub overflow_mul-next : goal.overflow_mul-next
overflow_mul-next c = omega (arith, lookup-small _ _ _ c.loop-class.invariant)

pub loop-class-preserved : goal.loop-class-preserved
loop-class-preserved c = lookup-more _ _ _ c.loop-class.invariant c.loop-class-test.true c.if-count-next.false

pub returns : goal.returns
returns c =
    let w = c.loop-class.invariant in
    let e : c.loop-class.class ≡ 11 = omega (arith, w.few) in
    (rw e at (lookup-last _ _ _ w (omega arith)), omega arith)
