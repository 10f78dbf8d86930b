-- `record_calls::too_short` meets its contract.
use mathlib.Core.Path.{sym, ap}
use Rattle.std.proofs.lemmas.Result.{err_from_is_err_and}
use Rattle.refusals.specs.Answers.{outcome_of}
use Rattle.record_calls.proofs.Called.{short-refused, short-accepted}
use Rattle.record_calls.proofs.too_short.Goals as goal

pub returns-in_err-check : goal.returns-in_err-check
returns-in_err-check c =
    let p = err_from_is_err_and c.from_residual.result c.from_residual.ensures.1 in
    rw (p.1, p.2) (short-refused _ _ (sym c.in_err-check.ensures))

pub returns : goal.returns
returns c = short-accepted _ (sym c.in_ok-check.ensures) _ (ap outcome_of c.refuse.ensures)
