-- `record_close::close` meets its contract: a refused check is the answer; on an accepted disk 30, or the close there.
use mathlib.Core.Path.{sym, ap}
use Rattle.std.proofs.lemmas.Result.{err_from_is_err_and}
use Rattle.refusals.specs.Answers.{outcome_of}
use Rattle.files.proofs.Listing.{checked_disk}
use Rattle.record_close.proofs.Planned.{closed_err, closed_lost, stays_on}
use Rattle.record_close.proofs.close.Goals as goal

pub returns-in_err-used : goal.returns-in_err-used
returns-in_err-used c =
    let p = err_from_is_err_and c.from_residual.result c.from_residual.ensures.1 in
    rw (p.1, p.2) (closed_err _ _ _ _ (sym c.in_err-used.ensures.reply))

pub close_still-requires : goal.close_still-requires
close_still-requires c = stays_on _ _ _ (checked_disk _ _ c.in_ok-used.ensures) _ c.min.ensures _ c.follow.ensures _ c.in-Some.is

pub returns-in-None : goal.returns-in-None
returns-in-None c =
    closed_lost _ _ _ (checked_disk _ _ c.in_ok-used.ensures) _ c.min.ensures _ c.follow.ensures c.in-None.is _ _ (ap outcome_of c.refuse.ensures)
