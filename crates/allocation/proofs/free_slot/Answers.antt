-- `allocation::free_slot` meets its contract: the answer is that of the slots from `i` on.
use Prim.Native.Nat.{◌<◌}
use mathlib.Core.Path.{◌≡◌, sym, ap, ◌∙◌}
use mathlib.Core.Option.{some}
use native.Mathlib.Omega.{arith}
use Rattle.directory.specs.Directory.{slots_in}
use Rattle.directory.proofs.Ends.{read_in}
use Rattle.directory.proofs.Live.{met_live, met_dead, directory-unread}
use Rattle.allocation.proofs.Placed.{slot_start, slot_held, slot-free, slot-none}
use Rattle.allocation.proofs.free_slot.Goals as goal

pub loop-i-init : goal.loop-i-init
loop-i-init c = (omega arith, slot_start _)

pub returns-then-not-is_live : goal.returns-then-not-is_live
returns-then-not-is_live c =
    let l = c.loop-i in
    let there : l.i < slots_in c.args.image.now = omega (arith, c.loop-i-test.true, c.slots_read-end.ensures.0, read_in c.args.image.now) in
    slot-free _ l.i l.invariant.1 there (met_dead _ _ c.slot_at.ensures c.is_live.ensures c.if-not-is_live.true)

pub loop-i-preserved : goal.loop-i-preserved
loop-i-preserved c =
    let l = c.loop-i in
    let there : l.i < slots_in c.args.image.now = omega (arith, c.loop-i-test.true, c.slots_read-end.ensures.0, read_in c.args.image.now) in
    (omega arith, slot_held _ l.i l.invariant.1 there _ (met_live _ _ c.slot_at.ensures c.is_live.ensures (omega arith) c.if-not-is_live.false))

pub returns-then-end-slots_in : goal.returns-then-end-slots_in
returns-then-end-slots_in c =
    let l = c.loop-i in
    let at_end : l.i ≡ c.slots_read-end.result = omega arith in
    ap some (sym at_end) ∙ slot-free _ l.i l.invariant.1 (omega (arith, c.if-end-slots_in.true, c.slots_in.ensures.0)) (directory-unread _ _ (omega (arith, c.slots_read-end.ensures.0)))

pub returns : goal.returns
returns c =
    let l = c.loop-i in
    let at_end : l.i ≡ c.slots_read-end.result = omega arith in
    slot-none _ l.i l.invariant.1 (omega (arith, c.if-end-slots_in.false, c.slots_in.ensures.0))
