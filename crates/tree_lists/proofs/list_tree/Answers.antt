-- `tree_lists::list_tree` meets its contract: each way out has the tests that led there.
use mathlib.Core.Path.{sym, ◌∙◌}
use Rattle.std.proofs.lemmas.Result.{err_from_is_err_and}
use Rattle.tree_lists.proofs.Results.{reported_err, reported_tangled, reported_unnamed, reported_listed}
use Rattle.tree_lists.proofs.list_tree.Goals as goal

pub returns-in_err-check : goal.returns-in_err-check
returns-in_err-check c =
    let e = err_from_is_err_and c.from_residual.result c.from_residual.ensures.1 in rw (e.1, e.2) (reported_err _ _ _ _ (sym c.in_err-check.ensures))

pub returns-in_err-number : goal.returns-in_err-number
returns-in_err-number c =
    let e = err_from_is_err_and c.from_residual-in_err-number.result c.from_residual-in_err-number.ensures.1 in
    rw (e.1, e.2) (reported_tangled _ _ _ (sym c.in_ok-check.ensures) _ (sym c.in_err-number.ensures.reply))

pub returns-in_err-code : goal.returns-in_err-code
returns-in_err-code c =
    let e = err_from_is_err_and c.from_residual-in_err-code.result c.from_residual-in_err-code.ensures.1 in
    rw (e.1, e.2) (reported_unnamed _ _ _ (sym c.in_ok-check.ensures) (sym c.in_ok-number.ensures.reply) _ (sym c.in_err-code.ensures.reply))

pub returns : goal.returns
returns c =
    c.list_code.ensures
    ∙ reported_listed _ _ _ (sym c.in_ok-check.ensures) (sym c.in_ok-number.ensures.reply) (sym c.in_ok-code.ensures.reply) _ c.in_ok-code.ensures.code.0
