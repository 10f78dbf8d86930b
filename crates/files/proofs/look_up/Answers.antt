-- `files::look_up` meets its contract: each way out has the tests that led there.
use mathlib.Core.Path.{sym, ap, ◌∙◌}
use Rattle.std.proofs.lemmas.Result.{err_from_is_err_and}
use Rattle.directory.specs.Find.{found_at}
use Rattle.files.specs.Calls.{lookup_of}
use Rattle.files.proofs.Named.{lookup-refused, lookup_unusable, lookup-at, lookup-none}
use borrow.Author.Rules.{rules}
use Rattle.files.proofs.look_up.Goals as goal

pub returns-in_err-check : goal.returns-in_err-check
returns-in_err-check c =
    let e = err_from_is_err_and c.from_residual.result c.from_residual.ensures.1 in rw (e.1, e.2) (lookup-refused _ _ _ (sym c.in_err-check.ensures))

pub returns-then-not-is_askable : goal.returns-then-not-is_askable
returns-then-not-is_askable c =
    ap lookup_of c.refuse.ensures ∙ lookup_unusable _ _ (sym c.in_ok-check.ensures) (sym c.is_askable.ensures ∙ c.if-not-is_askable.true)

pub returns-in-Some : goal.returns-in-Some
returns-in-Some c =
    lookup-at _ _ (sym c.in_ok-check.ensures) (sym c.is_askable.ensures ∙ c.if-not-is_askable.false) _ (sym c.find.ensures ∙ ap found_at c.in-Some.is)

pub returns-in-None : goal.returns-in-None
returns-in-None c =
    ap lookup_of c.refuse-in-None.ensures
    ∙ lookup-none _ _ (sym c.in_ok-check.ensures) (sym c.is_askable.ensures ∙ c.if-not-is_askable.false) (sym c.find.ensures ∙ ap found_at c.in-None.is)
