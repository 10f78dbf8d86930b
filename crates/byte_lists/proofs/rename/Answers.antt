-- `byte_lists::rename` meets its contract: the call below is lent room for the one number that it can name.
use mathlib.Core.List.{[], ◌∷◌}
use native.Mathlib.Omega.{arith}
use Rattle.plans.specs.Change.{rename}
use Rattle.byte_lists.proofs.Lent.{lent_long, back_long}
use Rattle.byte_lists.proofs.Bounds.{named_room, changing_is, changing_refused}
use Rattle.std.proofs.lemmas.Result.{err_from_is_err_and}
use Rattle.byte_lists.proofs.rename.Goals as goal

pub slice_bounds-rename-end : goal.slice_bounds-rename-end
slice_bounds-rename-end c = lent_long _ _ _ c.min-room.ensures

pub slice_bounds-put_numbers-end : goal.slice_bounds-put_numbers-end
slice_bounds-put_numbers-end c = back_long (0 ∷ []) c.rename.new.list c.min-room.result c.rename.auto.list

pub put_numbers-requires : goal.put_numbers-requires
put_numbers-requires c = named_room (rename _ _) _ _ _ _ c.min-room.ensures (omega arith) _ _ _ c.in_ok-renamed.ensures

pub returns-in_err-renamed : goal.returns-in_err-renamed
returns-in_err-renamed c =
    let p = err_from_is_err_and c.from_residual.result c.from_residual.ensures.1 in
    rw (p.1, p.2) (changing_refused (rename _ _) _ _ _ _ c.min-room.ensures (omega arith) _ _ _ c.in_err-renamed.ensures)

pub returns : goal.returns
returns c = changing_is (rename _ _) _ _ _ _ c.min-room.ensures (omega arith) _ _ _ c.in_ok-renamed.ensures _ c.put_numbers.ensures
