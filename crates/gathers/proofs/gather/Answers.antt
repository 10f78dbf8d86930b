-- `gathers::gather` meets its contract: where the file was moved, the sectors are put to the list.
use mathlib.Core.Path.{ap, ◌∙◌}
use Rattle.std.specs.Prelude.{Ok}
use Rattle.std.proofs.lemmas.Result.{err_from_is_err_and}
use Rattle.gathers.proofs.Call.{list-refused, list-stays, list_went}
use Rattle.gathers.proofs.gather.Goals as goal

pub returns-in_err-gather_in : goal.returns-in_err-gather_in
returns-in_err-gather_in c =
    let p = err_from_is_err_and c.from_residual.result c.from_residual.ensures.1 in
    rw (p.1, p.2) (list-refused _ _ _ _ _ c.gather_in.ensures.0 _ c.in_err-gather_in.was)

pub returns-in-None : goal.returns-in-None
returns-in-None c = list-stays _ _ _ _ _ c.gather_in.ensures.0 (c.in_ok-gather_in.was ∙ ap Ok c.in-None.is)

pub returns-in-Some : goal.returns-in-Some
returns-in-Some c =
    list_went _ _ _ _ _ c.gather_in.ensures.0 _ (c.in_ok-gather_in.was ∙ ap Ok c.in-Some.is) _ c.put_moved.ensures
