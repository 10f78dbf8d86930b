-- `chains::chain_broken` meets its contract: before each turn the chain is broken exactly where what is left of it leaves the map.
use Prim.Native.Nat.{ℕ, ◌-◌}
use mathlib.Core.Path.{sym, ap, ◌∙◌}
use mathlib.Core.Bool.{not}
use native.Mathlib.Omega.{arith}
use Rattle.chains.proofs.Laws.{map-small}
use Rattle.chains.proofs.ChainLoop.{walked_inside, in_map, outside, start, leaves_off, comes_again, walked, end}
use Rattle.chains.proofs.chain_broken.Goals as goal

pub returns-then-not-has_bit : goal.returns-then-not-has_bit
returns-then-not-has_bit c =
    outside _ _ _ c.first_of-bit.ensures.0 (in_map _ _ _ c.map_of-map.ensures c.has_bit.ensures (c.if-not-has_bit.true))

pub loop-init : goal.loop-init
loop-init c =
    start _ _ _ _ _ _ c.first_of-bit.ensures.0 (ap (λ (n : ℕ). n - 1) c.count_of-end.ensures.0) c.first_place-at.ensures
    (in_map _ _ _ c.map_of-map.ensures c.has_bit.ensures (c.if-not-has_bit.false)) c.set_bit.ensures

pub overflow_add-at : goal.overflow_add-at
overflow_add-at c = omega (arith, (walked_inside _ _ _ _ _ _ c.loop.invariant).1)

pub overflow_add-at-in-loop : goal.overflow_add-at-in-loop
overflow_add-at-in-loop c = omega (arith, (walked_inside _ _ _ _ _ _ c.loop.invariant).1)

pub returns-then-not-has_bit-2 : goal.returns-then-not-has_bit-2
returns-then-not-has_bit-2 c =
    leaves_off _ _ _ _ _ _ _ _ _ c.loop.invariant (omega (arith, c.loop-test.true)) c.num_at-track.ensures.0 c.num_at-number.ensures.0 c.bit_or_end-next.ensures.0
    (in_map _ _ _ c.map_of-map.ensures c.has_bit-in-loop.ensures (c.if-not-has_bit-2.true))

pub returns-then-has_bit : goal.returns-then-has_bit
returns-then-has_bit c =
    comes_again _ _ _ _ _ _ _ _ _ c.loop.invariant (omega (arith, c.loop-test.true)) c.num_at-track.ensures.0 c.num_at-number.ensures.0 c.bit_or_end-next.ensures.0
    (in_map _ _ _ c.map_of-map.ensures c.has_bit-in-loop.ensures (c.if-not-has_bit-2.false))
    (sym c.has_bit-in-loop-2.ensures ∙ c.if-has_bit.true)

pub place_after-at-requires : goal.place_after-at-requires
place_after-at-requires c =
    let m = in_map _ _ _ c.map_of-map.ensures c.has_bit-in-loop.ensures (c.if-not-has_bit-2.false) in
    ((walked_inside _ _ _ _ _ _ c.loop.invariant).0, c.loop.invariant.place, map-small _ _ m, c.bit_or_end-next.ensures.0)

pub loop-preserved : goal.loop-preserved
loop-preserved c =
    walked _ _ _ _ _ _ _ _ _ c.loop.invariant (omega (arith, c.loop-test.true)) c.num_at-track.ensures.0 c.num_at-number.ensures.0 c.bit_or_end-next.ensures.0 _ _ _
    (in_map _ _ _ c.map_of-map.ensures c.has_bit-in-loop.ensures (c.if-not-has_bit-2.false))
    (sym c.has_bit-in-loop-2.ensures ∙ c.if-has_bit.false)
    c.place_after-at.ensures c.set_bit-in-loop.ensures (omega (arith, c.loop-test.true))

pub returns : goal.returns
returns c =
    ap not c.is_last.ensures ∙ sym (end _ _ _ _ _ _ _ c.loop.invariant (omega (arith, c.loop-test.false)) c.part_at.ensures)
