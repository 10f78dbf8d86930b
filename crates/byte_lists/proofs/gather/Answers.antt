-- `byte_lists::gather` meets its contract: where the file was moved, the bytes of its sectors are put to the list.
use mathlib.Core.Path.{ap, ◌∙◌}
use native.Mathlib.Omega.{arith}
use Rattle.std.specs.Prelude.{Ok}
use Rattle.std.proofs.lemmas.Result.{err_from_is_err_and}
use Rattle.gathers.proofs.Call.{went_placed}
use Rattle.byte_lists.proofs.Gathers.{bytes-refused, bytes-stays, bytes_went}
use Rattle.byte_lists.proofs.gather.Goals as goal

pub put_moved-requires : goal.put_moved-requires
put_moved-requires c = went_placed _ _ c.gather_in.ensures.1 _ (c.in_ok-gather_in.was ∙ ap Ok c.in-Some.is)

pub overflow_add-result : goal.overflow_add-result
overflow_add-result c =
    omega (arith, (went_placed _ _ c.gather_in.ensures.1 _ (c.in_ok-gather_in.was ∙ ap Ok c.in-Some.is)).small)

pub returns-in_err-gather_in : goal.returns-in_err-gather_in
returns-in_err-gather_in c =
    let p = err_from_is_err_and c.from_residual.result c.from_residual.ensures.1 in
    rw (p.1, p.2) (bytes-refused _ _ _ _ _ c.gather_in.ensures.0 _ c.in_err-gather_in.was)

pub returns-in-None : goal.returns-in-None
returns-in-None c = bytes-stays _ _ _ _ _ c.gather_in.ensures.0 (c.in_ok-gather_in.was ∙ ap Ok c.in-None.is)

pub returns-in-Some : goal.returns-in-Some
returns-in-Some c =
    bytes_went _ _ _ _ _ c.gather_in.ensures.0 _ (c.in_ok-gather_in.was ∙ ap Ok c.in-Some.is) _ c.put_moved.ensures
