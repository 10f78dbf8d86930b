-- `byte_lists::erase_many` meets its contract: the call below is lent room for as many numbers as a directory can have sectors.
use Prim.Native.Nat.{ℕ}
use mathlib.Core.List.{List}
use mathlib.Core.Path.{◌≡◌, sym, ◌∙◌}
use native.Mathlib.Omega.{arith}
use lib.ListN.{length, replicate, length-replicate}
use Rattle.byte_lists.proofs.Lent.{lent_long, lent_of, back_long}
use Rattle.byte_lists.proofs.EraseMany.{erasing_room, erasing_is, erasing_refused}
use Rattle.std.proofs.lemmas.Result.{err_from_is_err_and}
use Rattle.byte_lists.proofs.erase_many.Goals as goal

-- the numbers lent: each 0
abbrev none : List ℕ
none = replicate 389 0

none_long : length none ≡ 389
none_long = length-replicate {A = ℕ} 389 0

pub slice_bounds-erase_many-end : goal.slice_bounds-erase_many-end
slice_bounds-erase_many-end c = lent_long _ _ _ (lent_of none _ _ _ c.min-room.ensures none_long)

pub slice_bounds-put_numbers-end : goal.slice_bounds-put_numbers-end
slice_bounds-put_numbers-end c = sym none_long ∙ back_long none c.erase_many.new.list c.min-room.result c.erase_many.auto.list

pub put_numbers-requires : goal.put_numbers-requires
put_numbers-requires c =
    erasing_room _ _ _ _ _ _ (lent_of none _ _ _ c.min-room.ensures none_long) (omega (arith, none_long)) _ _ _ _ c.in_ok-emptied.ensures

pub returns-in_err-emptied : goal.returns-in_err-emptied
returns-in_err-emptied c =
    let p = err_from_is_err_and c.from_residual.result c.from_residual.ensures.1 in
    rw (p.1, p.2) (erasing_refused _ _ _ _ _ _ (lent_of none _ _ _ c.min-room.ensures none_long) (omega (arith, none_long)) _ _ _ _ c.in_err-emptied.ensures)

pub returns : goal.returns
returns c =
    erasing_is _ _ _ _ _ _ (lent_of none _ _ _ c.min-room.ensures none_long) (omega (arith, none_long)) _ _ _ _ c.in_ok-emptied.ensures _ c.put_numbers.ensures
