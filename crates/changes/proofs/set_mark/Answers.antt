-- `changes::set_mark` meets its contract: what refuses the name is the answer, and else the byte with its mark is put.
use mathlib.Core.Path.{◌∙◌}
use native.Mathlib.Omega.{arith}
use Rattle.std.proofs.lemmas.Result.{err_from_is_err_and}
use Rattle.files.proofs.Named.{lookup_named}
use Rattle.changes.proofs.Laws.{named_holds, mark-refused, mark-found}
use Rattle.changes.proofs.set_mark.Goals as goal

pub touch-requires : goal.touch-requires
touch-requires c = record { slot = named_holds _ _ _ (lookup_named _ _ _ c.in_ok-i.ensures); inside = omega arith }

pub returns-in_err-i : goal.returns-in_err-i
returns-in_err-i c =
    let p = err_from_is_err_and c.from_residual.result c.from_residual.ensures.1 in
    rw (p.1, p.2) (mark-refused _ _ _ _ _ c.in_err-i.ensures)

pub returns : goal.returns
returns c =
    c.touch.ensures ∙ mark-found _ _ _ _ _ (lookup_named _ _ _ c.in_ok-i.ensures) _ c.slot_at.ensures _ c.byte_at-first.ensures _ c.marked_byte.ensures
