-- `gathers::map_run` meets its contract: before each turn the bits from `j` on are set.
use Prim.Native.Nat.{◌-◌}
use mathlib.Core.Path.{sym, ap, ◌∙◌}
use native.Mathlib.Omega.{arith}
use lib.ListN.{length}
use Rattle.plans.proofs.NewFile.{length-map_with}
use Rattle.gathers.proofs.Moving.{run_map_none, run_map_more, map_all}
use Rattle.gathers.proofs.map_run.Goals as goal

pub loop-j-init : goal.loop-j-init
loop-j-init c = (omega arith, run_map_none c.args.n c.args.b)

pub slice_bounds-set_bit-end : goal.slice_bounds-set_bit-end
slice_bounds-set_bit-end c = sym (ap length c.loop-j.invariant.1 ∙ length-map_with _)

pub overflow_add-b : goal.overflow_add-b
overflow_add-b c = let h = c.loop-j.invariant.0 in omega (arith, c.requires)

pub loop-j-preserved : goal.loop-j-preserved
loop-j-preserved c =
    let l = c.loop-j in
    (omega (arith, l.invariant.0), run_map_more _ _ l.j c.loop-j-test.true l.invariant.0 _ l.invariant.1 _ c.set_bit.ensures)

pub returns : goal.returns
returns c = let l = c.loop-j in map_all _ _ l.j c.loop-j-test.false _ l.invariant.1
