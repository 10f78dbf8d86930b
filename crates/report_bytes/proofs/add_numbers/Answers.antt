-- `report_bytes::add_numbers` meets its contract: before each turn the numbers before place `k` are added.
use Rattle.std.proofs.Common.{arith}
use Rattle.report_bytes.proofs.Raising.{rest-room}
use Rattle.report_bytes.proofs.Counting.{joining_none, joining_more, joining_all}
use Rattle.report_bytes.proofs.add_numbers.Goals as goal

pub loop-k-init : goal.loop-k-init
loop-k-init c = joining_none _ _ (λ k. omega (arith, c.type_inv.bytes k))

pub raise-requires : goal.raise-requires
raise-requires c = (omega arith, rest-room c.loop-k.invariant.same c.requires.0)

pub loop-k-preserved : goal.loop-k-preserved
loop-k-preserved c =
    joining_more _ _ _ _ c.loop-k.invariant c.loop-k-test.true c.number_at.ensures.0 c.raise.ensures

pub shape_of-bytes : goal.shape_of-bytes
shape_of-bytes c = c.loop-k.invariant.same.long

pub returns : goal.returns
returns c = joining_all _ _ _ _ c.loop-k.invariant c.loop-k-test.false
