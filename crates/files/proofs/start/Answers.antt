-- `files::start` meets its contract: what refuses the name is the answer, and else what its slot gives.
use native.Mathlib.Omega.{arith}
use Rattle.std.proofs.lemmas.Result.{err_from_is_err_and}
use Rattle.files.proofs.Named.{lookup_named, named_slot}
use Rattle.files.proofs.Starting.{start_refused, start_met}
use borrow.Author.Rules.{rules}
use Rattle.files.proofs.start.Goals as goal

pub overflow_add-i : goal.overflow_add-i
overflow_add-i c = omega (arith, named_slot _ _ _ (lookup_named _ _ _ c.in_ok-i.ensures))

pub returns-in_err-i : goal.returns-in_err-i
returns-in_err-i c =
    let e = err_from_is_err_and c.from_residual.result c.from_residual.ensures.1 in rw (e.1, e.2) (start_refused _ _ _ c.in_err-i.ensures)

pub returns : goal.returns
returns c = start_met _ _ _ _ c.slot_at.ensures c.in_ok-i.ensures _ c.start_at.ensures
