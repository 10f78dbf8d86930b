-- `directory::slots_read` meets its contract: the end is that of the slots from `i` on.
use Prim.Native.Nat.{◌<◌}
use mathlib.Core.Path.{sym, ◌∙◌}
use native.Mathlib.Omega.{arith}
use Rattle.directory.specs.Directory.{slots_in}
use Rattle.directory.proofs.Ends.{end_start, end_past, end_here, end_on}
use Rattle.directory.proofs.slots_read.Goals as goal

pub loop-i-init : goal.loop-i-init
loop-i-init c = (c.slots_in-count.ensures.0, c.slots_in-count.ensures.1, omega arith, end_start _)

pub returns-then-is_nameless : goal.returns-then-is_nameless
returns-then-is_nameless c =
    let there : c.loop-i.i < slots_in c.args.dir.now = omega (arith, c.loop-i-test.true, c.loop-i.invariant.0) in
    let a = c.loop-i in
    (sym (end_here _ a.i a.invariant.3 there c.slot_at.ensures c.is_nameless.ensures c.if-is_nameless.true), omega (arith, c.loop-i-test.true, a.invariant.1))

pub loop-i-preserved : goal.loop-i-preserved
loop-i-preserved c =
    let there : c.loop-i.i < slots_in c.args.dir.now = omega (arith, c.loop-i-test.true, c.loop-i.invariant.0) in
    let a = c.loop-i in
    (a.invariant.0, a.invariant.1, omega (arith, c.loop-i-test.true), end_on _ a.i a.invariant.3 there c.slot_at.ensures c.is_nameless.ensures c.if-is_nameless.false)

pub returns : goal.returns
returns c =
    let a = c.loop-i in
    (a.invariant.0 ∙ sym (end_past _ a.i a.invariant.3 (omega (arith, c.loop-i-test.false, a.invariant.0))), a.invariant.1)
