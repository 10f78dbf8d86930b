-- `files::copy_body` meets its contract: before each turn the bytes of the sectors passed stand in front.
use Prim.Native.Nat.{◌-◌}
use native.Mathlib.Omega.{arith}
use Rattle.files.proofs.Body.{nothing_yet, at-inside, turn, body_copy_long, all_of_it}
use borrow.Author.Rules.{rules}
use Rattle.files.proofs.copy_body.Goals as goal

pub loop-done-init : goal.loop-done-init
loop-done-init c = nothing_yet _ _ _ _ _ _ c.file_length-len.ensures.0 c.first_of.ensures.0 c.bit_place-at.ensures

pub overflow_add-at : goal.overflow_add-at
overflow_add-at c = omega (arith, at-inside _ _ c.requires _ _ _ _ _ _ c.loop-done.invariant c.loop-done-test.true)

pub overflow_add-at-in-loop-done : goal.overflow_add-at-in-loop-done
overflow_add-at-in-loop-done c = omega (arith, at-inside _ _ c.requires _ _ _ _ _ _ c.loop-done.invariant c.loop-done-test.true)

pub overflow_add-at-in-loop-done-2 : goal.overflow_add-at-in-loop-done-2
overflow_add-at-in-loop-done-2 c =
    omega (arith, c.loop-done.invariant.inside, at-inside _ _ c.requires _ _ _ _ _ _ c.loop-done.invariant c.loop-done-test.true)

pub loop-done-preserved : goal.loop-done-preserved
loop-done-preserved c =
    turn _ _ c.requires _ _ _ _ _ _ c.loop-done.invariant c.loop-done-test.true _ _ _ _ _ _ c.num_at-track.ensures.0 c.num_at-number.ensures.0
    c.min-n.ensures c.part_at.ensures c.copy_into.ensures c.data_place-at.ensures

pub shape_of-buf : goal.shape_of-buf
shape_of-buf c = body_copy_long c.loop-done.invariant

pub returns : goal.returns
returns c = all_of_it _ _ _ _ _ _ _ _ c.loop-done.invariant c.loop-done-test.false
