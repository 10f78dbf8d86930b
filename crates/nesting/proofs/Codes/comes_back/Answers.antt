-- `nesting::Codes::comes_back` meets its contract: `n` steps up have not come back.
use Prim.Native.Nat.{◌+◌}
use mathlib.Core.Path.{refl, sym, ◌∙◌}
use native.Mathlib.Omega.{arith}
use Rattle.buffers.specs.Bytes.{any}
use Rattle.nesting.specs.Steps.{climb}
use Rattle.nesting.proofs.Table.{climb-more, back_more, back_found, back-never}
use Rattle.nesting.proofs.Passed.{back_passed}
use Rattle.nesting.proofs.Codes.comes_back.Goals as goal

pub loop-n-init : goal.loop-n-init
unfolding climb any
loop-n-init c = (refl, refl)

pub returns-then-at-code : goal.returns-then-at-code
returns-then-at-code c =
    let a = c.loop-n in
    sym (back_found _ _ _ a._n _ c.loop-n-test.true (climb-more _ _ a._n _ _ a.invariant.0 c.step_up-at.ensures) c.if-at-code.true)

pub returns-then-byte_at-ne0 : goal.returns-then-byte_at-ne0
returns-then-byte_at-ne0 c =
    let a = c.loop-n in
    let m = climb-more _ _ a._n _ _ a.invariant.0 c.step_up-at.ensures in
    let f = c.if-at-code.false in
    sym (back_passed _ _ _ c.requires _ (a._n + 1) _ (back_more _ _ a._n _ a.invariant.1 m f) m f (λ z. c.if-byte_at-ne0.true (c.byte_at.ensures ∙ z)))

pub loop-n-preserved : goal.loop-n-preserved
loop-n-preserved c =
    let a = c.loop-n in
    let m = climb-more _ _ a._n _ _ a.invariant.0 c.step_up-at.ensures in
    (m, back_more _ _ a._n _ a.invariant.1 m c.if-at-code.false)

pub returns : goal.returns
returns c = let a = c.loop-n in sym (back-never _ _ _ a._n (omega arith) a.invariant.1)
