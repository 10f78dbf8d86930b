-- `gathers::move_chain` meets its contract: before each turn `k` sectors are moved, and what is left to write makes the whole.
use mathlib.Core.Path.{◌≡◌}
use native.Mathlib.Omega.{arith}
use Rattle.gathers.specs.Moving.{count_in}
use Rattle.gathers.proofs.Moving.{moving_none, turn_bits, moving_turn, moving_all}
use Rattle.gathers.proofs.move_chain.Goals as goal

pub loop-k-init : goal.loop-k-init
loop-k-init c = moving_none _ _ _ _ (cc (c.first_of-bit.ensures.0))

pub overflow_add-b : goal.overflow_add-b
overflow_add-b c =
    let counted : c.count_of-count.result ≡ count_in c.args.image.now c.args.i = cc (c.count_of-count.ensures.0) in
    omega (arith, c.requires.small, c.loop-k-test.true)

pub link_to-link-requires : goal.link_to-link-requires
link_to-link-requires c =
    let counted : c.count_of-count.result ≡ count_in c.args.image.now c.args.i = cc (c.count_of-count.ensures.0) in
    omega (arith, c.requires.small, c.loop-k-test.true)

pub move_sector-requires : goal.move_sector-requires
move_sector-requires c =
    turn_bits _ _ _ c.requires _ c.loop-k.bit c.loop-k.k c.loop-k.invariant c.count_of-count.result (cc (c.count_of-count.ensures.0)) c.loop-k-test.true

pub loop-k-preserved : goal.loop-k-preserved
loop-k-preserved c =
    moving_turn _ _ _ c.requires _ c.loop-k.bit c.loop-k.k c.loop-k.invariant c.count_of-count.result (cc (c.count_of-count.ensures.0)) c.loop-k-test.true
    _ c.bit_after-next.ensures _ c.link_to-link.ensures _ c.move_sector.ensures

pub shape_of-image : goal.shape_of-image
shape_of-image c = c.loop-k.invariant.long

pub returns : goal.returns
returns c =
    moving_all _ _ _ c.requires _ c.loop-k.bit c.loop-k.k c.loop-k.invariant c.count_of-count.result (cc (c.count_of-count.ensures.0)) c.loop-k-test.false
