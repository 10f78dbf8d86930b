-- `record_close::close_still` meets its contract: what refuses the slot, or the close there.
use Rattle.std.proofs.lemmas.Result.{err_from_is_err_and}
use Rattle.record_close.proofs.Planned.{closed-refused, open_at}
use Rattle.record_close.proofs.close_still.Goals as goal

pub returns-in_err-i : goal.returns-in_err-i
returns-in_err-i c =
    let p = err_from_is_err_and c.from_residual.result c.from_residual.ensures.1 in
    rw (p.1, p.2) (closed-refused _ _ _ c.requires _ c.start_of.ensures _ _ c.in_err-i.ensures)

pub close_at-requires : goal.close_at-requires
close_at-requires c = open_at _ _ _ c.requires _ c.start_of.ensures _ c.in_ok-i.ensures
