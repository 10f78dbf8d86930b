-- `erase_calls::erase_many` meets its contract: each way out has the tests that led there.
use mathlib.Core.Path.{sym, ap}
use Rattle.std.proofs.lemmas.Result.{err_from_is_err_and}
use Rattle.refusals.specs.Answers.{outcome_of}
use Rattle.erase_calls.proofs.Whole.{many_err, many_uneven}
use Rattle.erase_calls.proofs.erase_many.Goals as goal

pub returns-in_err-check : goal.returns-in_err-check
returns-in_err-check c =
    let e = err_from_is_err_and c.from_residual.result c.from_residual.ensures.1 in rw (e.1, e.2) (many_err _ _ _ _ _ (sym c.in_err-check.ensures))

pub returns-then-names-ne0 : goal.returns-then-names-ne0
returns-then-names-ne0 c = many_uneven _ _ _ _ (sym c.in_ok-check.ensures) c.if-names-ne0.true (ap outcome_of c.refuse.ensures)
