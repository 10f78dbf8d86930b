-- `allocation::slot_for` meets its contract: each way out has the tests that led there.
use mathlib.Core.Path.{sym, ap, ◌∙◌}
use native.Mathlib.Omega.{arith}
use Rattle.std.proofs.lemmas.Result.{err_from_is_err_and}
use Rattle.directory.proofs.Search.{find-some}
use Rattle.files.specs.Calls.{lookup_of}
use Rattle.allocation.proofs.Placed.{place-asked, place_named, place_full, place_at_lem}
use Rattle.allocation.proofs.slot_for.Goals as goal

pub returns-in_err-asked_rows : goal.returns-in_err-asked_rows
returns-in_err-asked_rows c =
    let p = err_from_is_err_and c.from_residual.result c.from_residual.ensures.1 in
    rw (p.1, p.2) (place-asked _ _ _ _ (sym c.in_err-asked_rows.ensures))

pub overflow_add-i : goal.overflow_add-i
overflow_add-i c = omega (arith, (find-some _ _ _ (sym c.in-Some.ensures)).below)

pub returns-in-Some : goal.returns-in-Some
returns-in-Some c = ap lookup_of c.refuse.ensures ∙ place_named _ _ _ (sym c.in_ok-asked_rows.ensures) _ (sym c.in-Some.ensures)

pub returns-in-Some-free_slot : goal.returns-in-Some-free_slot
returns-in-Some-free_slot c =
    place_at_lem _ _ _ (sym c.in_ok-asked_rows.ensures) (sym c.in_default.ensures) _ (sym c.in-Some-free_slot.ensures)

pub returns-in-None : goal.returns-in-None
returns-in-None c =
    ap lookup_of c.refuse-in-None.ensures ∙ place_full _ _ _ (sym c.in_ok-asked_rows.ensures) (sym c.in_default.ensures) (sym c.in-None.ensures)
