-- `names::same_name` meets its contract: what is left to compare is what is left of both names.
use mathlib.Core.Path.{◌≡◌, sym, ap, ◌∙◌}
use native.Mathlib.Omega.{arith}
use lib.ListN.{get_or}
use Rattle.names.specs.Name.{lower}
use Rattle.names.proofs.Names.{same_start, same_lengths, same_more, same_differ, same_end}
use Rattle.names.proofs.same_name.Goals.{else-a-i-via-then-a-i+else-lower, else-a-i-via-else-a-i}
use Rattle.names.proofs.same_name.Goals as goal

pub returns-then-a-b : goal.returns-then-a-b
returns-then-a-b c = same_lengths _ _ c.if-a-b.true

pub loop-i-init : goal.loop-i-init
loop-i-init c = (c.if-a-b.false, same_start _ _)

pub returns-then-lower : goal.returns-then-lower
returns-then-lower c =
    let l = c.loop-i in
    sym (l.invariant.1 ∙ same_differ _ _ l.i (omega arith) (omega arith) (λ e. c.if-lower.true (c.lower.ensures ∙ e ∙ sym c.lower-then-a-i.ensures)))

pub loop-i-preserved : goal.loop-i-preserved
loop-i-preserved c =
    let l = c.loop-i in
    let e : lower (get_or c.args.a.now l.i 0) ≡ lower (get_or c.args.b.now l.i 0) =
    elim c.else-a-i.branch [
      | else-a-i-via-then-a-i+else-lower w ↦ sym w.lower.ensures ∙ w.if-lower.false ∙ w.lower-then-a-i.ensures
      | else-a-i-via-else-a-i w ↦ ap lower w.if-a-i.false
    ]
    in
    (l.invariant.0, l.invariant.1 ∙ same_more _ _ l.i (omega arith) (omega arith) e)

pub returns : goal.returns
returns c = let l = c.loop-i in sym (l.invariant.1 ∙ same_end _ _ l.i (omega arith) (omega arith))
