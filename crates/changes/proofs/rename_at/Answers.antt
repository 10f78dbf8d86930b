-- `changes::rename_at` meets its contract: 16 at the slot that has the new name, and else what is written.
use mathlib.Core.Path.{◌≡◌, sym, ap, ◌∙◌}
use mathlib.Core.Option.{some}
use native.Mathlib.Omega.{arith}
use Rattle.refusals.specs.Answers.{outcome_of}
use Rattle.directory.specs.Find.{found_at}
use Rattle.changes.proofs.Usable.{usable-padded}
use Rattle.changes.proofs.Laws.{settled_no, settled_as, barring, taken_below, plan_taken, plan_new}
use Rattle.changes.proofs.rename_at.Goals as goal

pub overflow_add-j : goal.overflow_add-j
overflow_add-j c =
    let found : barring c.args.image.now c.args.i c.args.new.now ≡ some c.in-Some.j = sym c.taken_by.ensures ∙ ap found_at c.in-Some.is in
    omega (arith, taken_below _ _ _ _ found)

pub touch_unprotected-requires : goal.touch_unprotected-requires
touch_unprotected-requires c = record { slot = c.requires.slot; inside = omega arith }

pub returns-in-Some : goal.returns-in-Some
returns-in-Some c =
    let found : barring c.args.image.now c.args.i c.args.new.now ≡ some c.in-Some.j = sym c.taken_by.ensures ∙ ap found_at c.in-Some.is in
    settled_as _ _ _ _ (plan_taken _ _ _ _ found) _ (settled_no _ _ _ _ (ap outcome_of c.refuse.ensures))

pub returns-in-None : goal.returns-in-None
returns-in-None c =
    settled_as _ _ _ _
    (plan_new _ _ _ (sym c.taken_by.ensures ∙ ap found_at c.in-None.is) _ (usable-padded _ _ c.requires.fit c.padded_name.ensures))
    _ c.touch_unprotected.ensures
