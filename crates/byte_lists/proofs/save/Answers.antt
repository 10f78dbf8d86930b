-- `byte_lists::save` meets its contract: the call below is lent room for as many numbers as a save can name.
use Prim.Native.Nat.{ℕ}
use mathlib.Core.List.{List}
use mathlib.Core.Path.{◌≡◌, sym, ◌∙◌}
use native.Mathlib.Omega.{arith}
use lib.ListN.{length, replicate, length-replicate}
use Rattle.plans.specs.Change.{save}
use Rattle.byte_lists.proofs.Lent.{lent_long, lent_of, back_long}
use Rattle.byte_lists.proofs.Bounds.{named_room, changing_is, changing_refused}
use Rattle.std.proofs.lemmas.Result.{err_from_is_err_and}
use Rattle.byte_lists.proofs.save.Goals as goal

-- the numbers lent: each 0
abbrev none : List ℕ
none = replicate 1562 0

none_long : length none ≡ 1562
none_long = length-replicate {A = ℕ} 1562 0

pub slice_bounds-save-end : goal.slice_bounds-save-end
slice_bounds-save-end c = lent_long _ _ _ (lent_of none _ _ _ c.min-room.ensures none_long)

pub slice_bounds-put_numbers-end : goal.slice_bounds-put_numbers-end
slice_bounds-put_numbers-end c =
    sym none_long
    ∙ back_long none c.save.new.list c.min-room.result c.save.auto.list

pub put_numbers-requires : goal.put_numbers-requires
put_numbers-requires c =
    named_room (save _) _ _ _ _ (lent_of none _ _ _ c.min-room.ensures none_long) (omega (arith, none_long)) _ _ _ c.in_ok-saved.ensures

pub returns-in_err-saved : goal.returns-in_err-saved
returns-in_err-saved c =
    let p = err_from_is_err_and c.from_residual.result c.from_residual.ensures.1 in
    rw (p.1, p.2) (changing_refused (save _) _ _ _ _ (lent_of none _ _ _ c.min-room.ensures none_long) (omega (arith, none_long)) _ _ _ c.in_err-saved.ensures)

pub returns : goal.returns
returns c =
    changing_is (save _) _ _ _ _ (lent_of none _ _ _ c.min-room.ensures none_long) (omega (arith, none_long)) _ _ _ c.in_ok-saved.ensures
    _ c.put_numbers.ensures
