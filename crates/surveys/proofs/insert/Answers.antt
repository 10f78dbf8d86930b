-- `surveys::insert` meets its contract: one bit after the other.
use mathlib.Core.Path.{◌≡◌, refl, ap, ◌∙◌}
use native.Mathlib.Omega.{arith}
use lib.ListN.{length}
use borrow.Author.Rules.{rules}
use Rattle.surveys.specs.Filter.{inserted_to}
use Rattle.surveys.proofs.Filter.{key_bits-at, length_noted, noted_more}
use Rattle.surveys.proofs.insert.Goals as goal

pub loop-b-init : goal.loop-b-init
unfolding inserted_to
loop-b-init c = refl

pub loop-b-preserved : goal.loop-b-preserved
loop-b-preserved c =
    let j = c.loop-b.b-index in noted_more _ _ j c.loop-b.invariant (key_bits-at _ j c.key_bits-bits.ensures c.loop-b-test.true) c.set_bit.ensures

pub shape_of-filter : goal.shape_of-filter
shape_of-filter c = let a = c.loop-b in ap length a.invariant ∙ length_noted _ _ a.b-index

pub returns : goal.returns
returns c =
    let e : c.loop-b.b-index ≡ 4 = omega arith in
    rw e at c.loop-b.invariant
