-- `slots::is_inside` meets its contract: no bit from 1 on and below `b` is set.
use Prim.Native.Nat.{ℕ, ◌*◌}
use mathlib.Core.Path.{sym, ap, ◌∙◌}
use native.Mathlib.Omega.{arith}
use Rattle.slots.proofs.Tracks.{none_first, none_more, none-word, inside_not, inside_met}
use Rattle.slots.proofs.is_inside.Goals as goal

pub loop-b-init : goal.loop-b-init
loop-b-init c = let p = none_first _ _ c.past_first-b.ensures in (p.0, ap (λ (k : ℕ). 10 * k) c.min-end.ensures, p.1)

pub loop-b-preserved-then-is_clear : goal.loop-b-preserved-then-is_clear
loop-b-preserved-then-is_clear c =
    let a = c.loop-b in
    (omega arith, a.invariant.1, none-word _ a.b a.invariant.2 (sym c.is_clear.ensures ∙ c.if-is_clear.true))

pub returns-then-has_bit : goal.returns-then-has_bit
returns-then-has_bit c =
    let a = c.loop-b in
    sym (inside_met _ _ a.b _ a.invariant.1 a.invariant.0 c.loop-b-test.true (sym c.has_bit.ensures ∙ c.if-has_bit.true))

pub loop-b-preserved : goal.loop-b-preserved
loop-b-preserved c =
    let a = c.loop-b in
    (omega arith, a.invariant.1, none_more _ a.b a.invariant.2 (sym c.has_bit.ensures ∙ c.if-has_bit.false))

pub returns : goal.returns
returns c = let a = c.loop-b in sym (inside_not _ _ a.b _ a.invariant.1 c.loop-b-test.false a.invariant.2)
