-- `saves::to_numbers` meets its contract: before each turn the first `j` bits are turned.
use Prim.Native.Nat.{◌<◌}
use mathlib.Core.Path.{ap, ◌∙◌}
use Rattle.geometry.specs.Disk.{bit_number}
use Rattle.sector_writes.proofs.Links.{number-of}
use Rattle.saves.proofs.Numbers.{numbered_none, numbered_small, numbered_more}
use Rattle.saves.proofs.to_numbers.Goals as goal

pub loop-j-init : goal.loop-j-init
loop-j-init c = numbered_none _ _ c.requires.0

pub loop-j-preserved : goal.loop-j-preserved
loop-j-preserved c =
    let small : c.from.result < 1560 = rw c.from.ensures (numbered_small _ _ _ _ c.loop-j.invariant c.loop-j-test.true c.requires.1) in
    numbered_more _ _ _ _ c.loop-j.invariant c.loop-j-test.true _ (number-of _ _ small c.sector_number.ensures ∙ ap bit_number c.from.ensures)
