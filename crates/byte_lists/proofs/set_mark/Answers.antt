-- `byte_lists::set_mark` meets its contract: the call below is lent room for the one number that it can name.
use mathlib.Core.List.{[], ◌∷◌}
use native.Mathlib.Omega.{arith}
use Rattle.plans.specs.Change.{mark}
use Rattle.byte_lists.proofs.Lent.{lent_long, back_long}
use Rattle.byte_lists.proofs.Bounds.{named_room, changing_is, changing_refused}
use Rattle.std.proofs.lemmas.Result.{err_from_is_err_and}
use Rattle.byte_lists.proofs.set_mark.Goals as goal

pub slice_bounds-set_mark-end : goal.slice_bounds-set_mark-end
slice_bounds-set_mark-end c = lent_long _ _ _ c.min-room.ensures

pub slice_bounds-put_numbers-end : goal.slice_bounds-put_numbers-end
slice_bounds-put_numbers-end c = back_long (0 ∷ []) c.set_mark.new.list c.min-room.result c.set_mark.auto.list

pub put_numbers-requires : goal.put_numbers-requires
put_numbers-requires c = named_room (mark _ _) _ _ _ _ c.min-room.ensures (omega arith) _ _ _ c.in_ok-marked.ensures

pub returns-in_err-marked : goal.returns-in_err-marked
returns-in_err-marked c =
    let p = err_from_is_err_and c.from_residual.result c.from_residual.ensures.1 in
    rw (p.1, p.2) (changing_refused (mark _ _) _ _ _ _ c.min-room.ensures (omega arith) _ _ _ c.in_err-marked.ensures)

pub returns : goal.returns
returns c = changing_is (mark _ _) _ _ _ _ c.min-room.ensures (omega arith) _ _ _ c.in_ok-marked.ensures _ c.put_numbers.ensures
