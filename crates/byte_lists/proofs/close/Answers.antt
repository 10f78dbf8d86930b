-- `byte_lists::close` meets its contract: the call below is lent room for as many numbers as a close can name.
use mathlib.Core.List.{[], ◌∷◌}
use native.Mathlib.Omega.{arith}
use Rattle.byte_lists.proofs.Lent.{lent_long, back_long}
use Rattle.byte_lists.proofs.Records.{closed_room, closed_is, closed_refused}
use Rattle.std.proofs.lemmas.Result.{err_from_is_err_and}
use Rattle.byte_lists.proofs.close.Goals as goal

pub slice_bounds-close-end : goal.slice_bounds-close-end
slice_bounds-close-end c = lent_long _ _ _ c.min-room.ensures

pub slice_bounds-put_numbers-end : goal.slice_bounds-put_numbers-end
slice_bounds-put_numbers-end c = back_long (0 ∷ 0 ∷ 0 ∷ 0 ∷ []) c.close.new.list c.min-room.result c.close.auto.list

pub put_numbers-requires : goal.put_numbers-requires
put_numbers-requires c = closed_room _ _ _ _ _ c.min-room.ensures (omega arith) _ _ _ c.in_ok-closed.ensures

pub returns-in_err-closed : goal.returns-in_err-closed
returns-in_err-closed c =
    let p = err_from_is_err_and c.from_residual.result c.from_residual.ensures.1 in
    rw (p.1, p.2) (closed_refused _ _ _ _ _ c.min-room.ensures (omega arith) _ _ _ c.in_err-closed.ensures)

pub returns : goal.returns
returns c = closed_is _ _ _ _ _ c.min-room.ensures (omega arith) _ _ _ c.in_ok-closed.ensures _ c.put_numbers.ensures
