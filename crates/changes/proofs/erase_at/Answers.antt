-- `changes::erase_at` meets its contract: 17, then 29, and else what is written.
use mathlib.Core.Path.{sym, ap, ◌∙◌}
use Rattle.refusals.specs.Answers.{outcome_of}
use Rattle.changes.proofs.Laws.{settled_no, settled_as, erase-protected, erase-occupied, erase-free}
use Rattle.changes.proofs.erase_at.Goals as goal

pub returns-then-is_protected : goal.returns-then-is_protected
returns-then-is_protected c =
    settled_as _ _ _ _ (erase-protected _ _ c.requires _ c.slot_at-erased.ensures (sym c.is_protected.ensures ∙ c.if-is_protected.true))
    _ (settled_no _ _ _ _ (ap outcome_of c.refuse.ensures))

pub returns-then-is_occupied : goal.returns-then-is_occupied
returns-then-is_occupied c =
    settled_as _ _ _ _
    (erase-occupied _ _ c.requires _ c.slot_at-erased.ensures (sym c.is_protected.ensures ∙ c.if-is_protected.false) _ c.slot_at.ensures
    (sym c.is_occupied.ensures ∙ c.if-is_occupied.true))
    _ (settled_no _ _ _ _ (ap outcome_of c.refuse-then-is_occupied.ensures))

pub returns : goal.returns
returns c =
    settled_as _ _ _ _
    (erase-free _ _ c.requires _ c.slot_at-erased.ensures (sym c.is_protected.ensures ∙ c.if-is_protected.false) _ c.slot_at.ensures
    (sym c.is_occupied.ensures ∙ c.if-is_occupied.false))
    _ c.touch.ensures
