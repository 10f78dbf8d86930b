-- `changes::rename` meets its contract: each way out has the tests that led there.
use mathlib.Core.Path.{◌≡◌, sym, ap, ap₂, ◌∙◌}
use mathlib.Core.Bool.{true, ◌&&◌}
use mathlib.Core.Option.{some}
use Rattle.std.proofs.lemmas.Result.{err_from_is_err_and}
use Rattle.refusals.specs.Answers.{outcome_of}
use Rattle.names.specs.Name.{askable}
use Rattle.directory.specs.Directory.{directory}
use Rattle.directory.specs.Find.{find, found_at}
use Rattle.plans.specs.Change.{usable}
use Rattle.changes.proofs.Laws.{settled_no, change_err, named_holds, rename_unaskable, rename_unusable, rename_missing, rename-found}
use Rattle.changes.proofs.rename.Goals as goal

pub returns-in_err-check : goal.returns-in_err-check
returns-in_err-check c =
    let p = err_from_is_err_and c.from_residual.result c.from_residual.ensures.1 in
    rw (p.1, p.2) (change_err _ _ _ _ (sym c.in_err-check.ensures))

pub returns-then-not-is_askable : goal.returns-then-not-is_askable
returns-then-not-is_askable c =
    settled_no _ _ _ _ (ap outcome_of c.refuse.ensures) ∙ rename_unaskable _ _ _ _ (sym c.in_ok-check.ensures) (sym c.is_askable.ensures ∙ c.if-not-is_askable.true)

pub returns-then-not-is_usable : goal.returns-then-not-is_usable
returns-then-not-is_usable c =
    settled_no _ _ _ _ (ap outcome_of c.refuse-then-not-is_usable.ensures)
    ∙ rename_unusable _ _ _ _ (sym c.in_ok-check.ensures) (sym c.is_askable.ensures ∙ c.if-not-is_askable.false) (sym c.is_usable.ensures ∙ c.if-not-is_usable.true)

pub rename_at-requires : goal.rename_at-requires
rename_at-requires c =
    let is_askable : askable c.args.name.now ≡ true = sym c.is_askable.ensures ∙ c.if-not-is_askable.false in
    let is_usable : usable c.args.new.now ≡ true = sym c.is_usable.ensures ∙ c.if-not-is_usable.false in
    let found : find (directory c.args.image.now) c.args.name.now ≡ some c.in-Some.i = sym c.find.ensures ∙ ap found_at c.in-Some.is in
    record { slot = named_holds _ _ _ (record { accepted = sym c.in_ok-check.ensures; usable = is_askable; found = found }); fit = is_usable }

pub returns-in-Some : goal.returns-in-Some
returns-in-Some c =
    let is_askable : askable c.args.name.now ≡ true = sym c.is_askable.ensures ∙ c.if-not-is_askable.false in
    let is_usable : usable c.args.new.now ≡ true = sym c.is_usable.ensures ∙ c.if-not-is_usable.false in
    let found : find (directory c.args.image.now) c.args.name.now ≡ some c.in-Some.i = sym c.find.ensures ∙ ap found_at c.in-Some.is in
    c.rename_at.ensures ∙ rename-found _ _ _ _ (sym c.in_ok-check.ensures) (ap₂ ◌&&◌ is_askable is_usable) _ found

pub returns-in-None : goal.returns-in-None
returns-in-None c =
    let is_askable : askable c.args.name.now ≡ true = sym c.is_askable.ensures ∙ c.if-not-is_askable.false in
    let is_usable : usable c.args.new.now ≡ true = sym c.is_usable.ensures ∙ c.if-not-is_usable.false in
    settled_no _ _ _ _ (ap outcome_of c.refuse-in-None.ensures)
    ∙ rename_missing _ _ _ _ (sym c.in_ok-check.ensures) (ap₂ ◌&&◌ is_askable is_usable) (sym c.find.ensures ∙ ap found_at c.in-None.is)
