-- `changes::touch_unprotected` meets its contract: 17 where the slot says so, and else what is written.
use mathlib.Core.Path.{sym, ap, ◌∙◌}
use Rattle.refusals.specs.Answers.{outcome_of}
use Rattle.changes.proofs.Laws.{settled_no, settled_as, plan-protected, plan_released}
use Rattle.changes.proofs.touch_unprotected.Goals as goal

pub returns-then-is_protected : goal.returns-then-is_protected
returns-then-is_protected c =
    settled_as _ _ _ _ (plan-protected _ _ _ _ c.requires.slot _ c.slot_at.ensures (sym c.is_protected.ensures ∙ c.if-is_protected.true))
    _ (settled_no _ _ _ _ (ap outcome_of c.refuse.ensures))

pub returns : goal.returns
returns c =
    settled_as _ _ _ _ (plan_released _ _ _ _ c.requires.slot _ c.slot_at.ensures (sym c.is_protected.ensures ∙ c.if-is_protected.false))
    _ c.touch.ensures
