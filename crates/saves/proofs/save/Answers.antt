-- `saves::save` meets its contract: a refused check is the answer; on an accepted disk what refuses the slot, or the save there.
use mathlib.Core.Path.{sym}
use Rattle.std.proofs.lemmas.Result.{err_from_is_err_and}
use Rattle.files.proofs.Listing.{checked_disk}
use Rattle.changes.proofs.Laws.{change_err}
use Rattle.saves.proofs.Planned.{save-refused}
use Rattle.saves.proofs.save.Goals as goal

pub returns-in_err-used : goal.returns-in_err-used
returns-in_err-used c =
    let p = err_from_is_err_and c.from_residual.result c.from_residual.ensures.1 in
    rw (p.1, p.2) (change_err _ _ _ _ (sym c.in_err-used.ensures.reply))

pub returns-in_err-i : goal.returns-in_err-i
returns-in_err-i c =
    let p = err_from_is_err_and c.from_residual-in_err-i.result c.from_residual-in_err-i.ensures.1 in
    rw (p.1, p.2) (save-refused _ _ _ _ _ _ _ (checked_disk _ _ c.in_ok-used.ensures).accepted _ c.in_err-i.ensures)
