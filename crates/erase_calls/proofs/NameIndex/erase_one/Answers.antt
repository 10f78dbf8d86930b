-- `erase_calls::NameIndex::erase_one` meets its contract: each way out has the tests that led there.
use mathlib.Core.Path.{sym, ◌∙◌}
use Rattle.erase_calls.proofs.EraseEach.{settled_12, settled_15, settled_17, settled_29, settled_0}
use Rattle.erase_calls.proofs.NameIndex.erase_one.Goals as goal

pub returns-then-not-is_askable : goal.returns-then-not-is_askable
returns-then-not-is_askable c = settled_12 _ _ _ (sym c.if-not-is_askable.ensures)

pub returns-in_default : goal.returns-in_default
returns-in_default c = settled_15 _ _ _ (sym c.if-not-is_askable.ensures) (sym c.in_default.ensures)

pub returns-then-is_protected : goal.returns-then-is_protected
returns-then-is_protected c =
    settled_17 _ _ _ (sym c.if-not-is_askable.ensures) _ (sym c.in-Some.ensures) _ c.slot_at-s.ensures (sym c.is_protected.ensures ∙ c.if-is_protected.true)

pub returns-then-is_occupied_yet : goal.returns-then-is_occupied_yet
returns-then-is_occupied_yet c =
    settled_29 _ _ _ (sym c.if-not-is_askable.ensures) _ (sym c.in-Some.ensures) _ c.slot_at-s.ensures (sym c.is_protected.ensures ∙ c.if-is_protected.false)
    (sym c.is_occupied_yet.ensures ∙ c.if-is_occupied_yet.true)

pub returns : goal.returns
returns c =
    settled_0 _ _ _ (sym c.if-not-is_askable.ensures) _ (sym c.in-Some.ensures) _ c.slot_at-s.ensures (sym c.is_protected.ensures ∙ c.if-is_protected.false)
    (sym c.is_occupied_yet.ensures ∙ c.if-is_occupied_yet.false) _ c.set_bit.ensures
