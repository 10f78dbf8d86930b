-- `maps::shares` meets its contract: past the bytes that both maps have no bit is shared.
use mathlib.Core.Path.{refl, ◌∙◌}
use native.Mathlib.Omega.{arith}
use Rattle.buffers.specs.Bytes.{any}
use Rattle.maps.proofs.Laws.{share-more, byte-set, share_all}
use Rattle.maps.proofs.shares.Goals as goal

pub loop-i-init : goal.loop-i-init
unfolding any
loop-i-init c = refl

pub loop-i-preserved : goal.loop-i-preserved
loop-i-preserved c = share-more c.args.m.now c.args.d.now c.loop-i.i c.loop-i.common _ _ refl refl c.loop-i.invariant

pub returns : goal.returns
returns c =
    let l = c.loop-i in
    byte-set l.common l.auto.common-fits.fits ∙ l.invariant ∙ share_all c.args.m.now c.args.d.now l.i (omega arith)
