-- `record_add::add` meets its contract: a refused check is the answer; on an accepted disk 30, or the piece as it is added there.
use mathlib.Core.Path.{sym, ap, ◌∙◌}
use Rattle.std.proofs.lemmas.Result.{err_from_is_err_and}
use Rattle.refusals.specs.Answers.{outcome_of}
use Rattle.files.proofs.Listing.{checked_disk}
use Rattle.record_add.proofs.PieceResult.{add_err, trail_lost, trail_on}
use Rattle.record_add.proofs.add.Goals as goal

pub returns-in_err-used : goal.returns-in_err-used
returns-in_err-used c =
    let p = err_from_is_err_and c.from_residual.result c.from_residual.ensures.1 in
    rw (p.1, p.2) (add_err _ _ _ _ _ (sym c.in_err-used.ensures.reply))

pub add_at-requires : goal.add_at-requires
add_at-requires c =
    trail_on _ _ (checked_disk _ _ c.in_ok-used.ensures) _ _ c.sectors_of-n.ensures _ (sym c.follow.ensures ∙ c.in-Some.is)

pub returns-in-None : goal.returns-in-None
returns-in-None c =
    trail_lost _ _ (checked_disk _ _ c.in_ok-used.ensures) _ _ c.sectors_of-n.ensures _ _ (sym c.follow.ensures ∙ c.in-None.is) _ (ap outcome_of c.refuse.ensures)
