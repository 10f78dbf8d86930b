-- `maps::join_into` meets its contract: what `d` has past the end of `m` is left out.
use mathlib.Core.Path.{refl, ◌∙◌}
use native.Mathlib.Omega.{arith}
use lib.ListN.{length-set}
use Rattle.maps.proofs.Laws.{join-none, join_more, join_all}
use Rattle.maps.proofs.join_into.Goals as goal

pub loop-i-init : goal.loop-i-init
loop-i-init c = (refl, join-none c.args.m.now c.args.d.now)

pub loop-i-preserved : goal.loop-i-preserved
loop-i-preserved c =
    let a = c.args in
    (simp length-set c.loop-i.invariant.0, join_more a.m.now a.d.now c.loop-i.m c.loop-i.i _ (omega arith) c.loop-i.invariant.1 refl)

pub returns : goal.returns
returns c = c.loop-i.invariant.1 ∙ join_all c.args.m.now c.args.d.now c.loop-i.i (omega arith)
