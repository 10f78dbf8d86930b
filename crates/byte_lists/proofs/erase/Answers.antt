-- `byte_lists::erase` meets its contract: the call below is lent room for the one number that it can name.
use mathlib.Core.List.{[], ◌∷◌}
use native.Mathlib.Omega.{arith}
use Rattle.plans.specs.Change.{erase}
use Rattle.byte_lists.proofs.Lent.{lent_long, back_long}
use Rattle.byte_lists.proofs.Bounds.{named_room, changing_is, changing_refused}
use Rattle.std.proofs.lemmas.Result.{err_from_is_err_and}
use Rattle.byte_lists.proofs.erase.Goals as goal

pub slice_bounds-erase-end : goal.slice_bounds-erase-end
slice_bounds-erase-end c = lent_long _ _ _ c.min-room.ensures

pub slice_bounds-put_numbers-end : goal.slice_bounds-put_numbers-end
slice_bounds-put_numbers-end c = back_long (0 ∷ []) c.erase.new.list c.min-room.result c.erase.auto.list

pub put_numbers-requires : goal.put_numbers-requires
put_numbers-requires c = named_room (erase _) _ _ _ _ c.min-room.ensures (omega arith) _ _ _ c.in_ok-erased.ensures

pub returns-in_err-erased : goal.returns-in_err-erased
returns-in_err-erased c =
    let p = err_from_is_err_and c.from_residual.result c.from_residual.ensures.1 in
    rw (p.1, p.2) (changing_refused (erase _) _ _ _ _ c.min-room.ensures (omega arith) _ _ _ c.in_err-erased.ensures)

pub returns : goal.returns
returns c = changing_is (erase _) _ _ _ _ c.min-room.ensures (omega arith) _ _ _ c.in_ok-erased.ensures _ c.put_numbers.ensures
