-- `surveys::may_contain` meets its contract: one bit after the other, up to the first that is clear.
use mathlib.Core.Path.{◌≡◌, ap}
use mathlib.Core.Bool.{not}
use native.Mathlib.Omega.{arith}
use borrow.Author.Rules.{rules}
use Rattle.surveys.specs.Filter.{may_contain}
use Rattle.surveys.proofs.Filter.{key_bits-at, lacks_none, lacks_more, lacks_one}
use Rattle.surveys.proofs.may_contain.Goals as goal

pub loop-b-init : goal.loop-b-init
loop-b-init c = lacks_none _ _

pub returns-then-not-has_bit : goal.returns-then-not-has_bit
returns-then-not-has_bit c =
    let j = c.loop-b.b-index in lacks_one _ _ j c.loop-b-test.true (key_bits-at _ j c.key_bits-bits.ensures c.loop-b-test.true) c.has_bit.ensures c.if-not-has_bit.true

pub loop-b-preserved : goal.loop-b-preserved
loop-b-preserved c =
    let j = c.loop-b.b-index in lacks_more _ _ j c.loop-b.invariant (key_bits-at _ j c.key_bits-bits.ensures c.loop-b-test.true) c.has_bit.ensures c.if-not-has_bit.false

pub returns : goal.returns
unfolding may_contain
returns c =
    let e : c.loop-b.b-index ≡ 4 = omega arith in
    ap not (rw e at c.loop-b.invariant)
