-- `buffers::copy` meets its contract: after j turns the first j bytes are put.
use mathlib.Core.Path.{refl, ◌∙◌}
use native.Mathlib.Omega.{arith}
use lib.ListN.{length-set}
use Rattle.buffers.proofs.Lists.{put-none, put-more, put_all_lem}
use Rattle.buffers.proofs.copy.Goals as goal

pub loop-j-init : goal.loop-j-init
loop-j-init c = (refl, put-none c.args.out.now c.args.at c.args.from.now)

pub loop-j-preserved : goal.loop-j-preserved
loop-j-preserved c =
    let a = c.args in
    (simp length-set c.loop-j.invariant.0, rw c.loop-j.invariant.1 (put-more a.out.now a.at a.from.now c.loop-j.j c.loop-j-test.true (omega arith)))

pub returns : goal.returns
returns c =
    let a = c.args in
    c.loop-j.invariant.1 ∙ put_all_lem a.out.now a.at a.from.now c.loop-j.j (omega arith)
