-- `changes::erase` meets its contract: what refuses the name is the answer, and else what its slot gives.
use mathlib.Core.Path.{◌∙◌}
use Rattle.std.proofs.lemmas.Result.{err_from_is_err_and}
use Rattle.files.proofs.Named.{lookup_named}
use Rattle.changes.proofs.Laws.{named_holds, erase-refused, erase-found}
use Rattle.changes.proofs.erase.Goals as goal

pub erase_at-requires : goal.erase_at-requires
erase_at-requires c = named_holds _ _ _ (lookup_named _ _ _ c.in_ok-i.ensures)

pub returns-in_err-i : goal.returns-in_err-i
returns-in_err-i c =
    let p = err_from_is_err_and c.from_residual.result c.from_residual.ensures.1 in
    rw (p.1, p.2) (erase-refused _ _ _ _ c.in_err-i.ensures)

pub returns : goal.returns
returns c = c.erase_at.ensures ∙ erase-found _ _ _ _ (lookup_named _ _ _ c.in_ok-i.ensures)
