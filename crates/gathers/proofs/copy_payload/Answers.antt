-- `gathers::copy_payload` meets its contract: before each turn the first `j` bytes are copied.
use Prim.Native.Nat.{◌-◌}
use Rattle.gathers.proofs.Moving.{copied_none, copied_more, copied_all}
use Rattle.gathers.proofs.copy_payload.Goals as goal

pub loop-j-init : goal.loop-j-init
loop-j-init c = copied_none _ _ _

pub loop-j-preserved : goal.loop-j-preserved
loop-j-preserved c =
    copied_more _ _ _ c.requires _ _ c.loop-j.invariant c.loop-j-test.true

pub shape_of-image : goal.shape_of-image
shape_of-image c = c.loop-j.invariant.long

pub returns : goal.returns
returns c = copied_all _ _ _ c.requires _ _ c.loop-j.invariant c.loop-j-test.false
