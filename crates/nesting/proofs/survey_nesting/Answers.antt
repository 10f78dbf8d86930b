-- `nesting::survey_nesting` meets its contract: the first pass that refuses, or neither.
use mathlib.Core.Path.{sym, ◌∙◌}
use Rattle.std.proofs.lemmas.Result.{err_from_is_err_and}
use Rattle.nesting.proofs.Results.{tree-first, tree-second}
use Rattle.nesting.proofs.survey_nesting.Goals as goal

pub returns-in_err-number : goal.returns-in_err-number
returns-in_err-number c =
    let e = err_from_is_err_and c.from_residual.result c.from_residual.ensures.1 in
    rw (e.1, e.2) (record { reply = sym (tree-first _ _ (sym c.in_err-number.ensures.reply)); number = tt })

pub returns-in_err-all_places : goal.returns-in_err-all_places
returns-in_err-all_places c =
    let e = err_from_is_err_and c.from_residual-in_err-all_places.result c.from_residual-in_err-all_places.ensures.1 in
    rw (e.1, e.2) (record { reply = c.in_err-all_places.ensures ∙ sym (tree-second _ (sym c.in_ok-number.ensures.reply)); number = tt })

pub returns : goal.returns
returns c =
    record { reply = c.in_ok-all_places.ensures ∙ sym (tree-second _ (sym c.in_ok-number.ensures.reply)); number = c.in_ok-number.ensures.table.number }
