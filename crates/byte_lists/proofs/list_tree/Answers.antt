-- `byte_lists::list_tree` meets its contract: the call below is lent room for as many numbers as there can be slots.
use Prim.Native.Nat.{ℕ}
use mathlib.Core.List.{List}
use mathlib.Core.Path.{◌≡◌, sym, ◌∙◌}
use native.Mathlib.Omega.{arith}
use lib.ListN.{length, replicate, length-replicate}
use Rattle.byte_lists.proofs.Lent.{lent_long, lent_of, back_long}
use Rattle.byte_lists.proofs.Trees.{tree_room, tree-bytes, tree_refused}
use Rattle.std.proofs.lemmas.Result.{err_from_is_err_and}
use Rattle.byte_lists.proofs.list_tree.Goals as goal

-- the numbers lent: each 0
abbrev none : List ℕ
none = replicate 778 0

none_long : length none ≡ 778
none_long = length-replicate {A = ℕ} 778 0

pub slice_bounds-list_tree-end : goal.slice_bounds-list_tree-end
slice_bounds-list_tree-end c = lent_long _ _ _ (lent_of none _ _ _ c.min-room.ensures none_long)

pub slice_bounds-put_numbers-end : goal.slice_bounds-put_numbers-end
slice_bounds-put_numbers-end c =
    sym none_long ∙ back_long none c.list_tree.new.list c.min-room.result c.list_tree.auto.list

pub put_numbers-requires : goal.put_numbers-requires
put_numbers-requires c =
    tree_room _ _ _ _ _ (lent_of none _ _ _ c.min-room.ensures none_long) (omega (arith, none_long)) _ _ c.in_ok-listed.ensures

pub returns-in_err-listed : goal.returns-in_err-listed
returns-in_err-listed c =
    let p = err_from_is_err_and c.from_residual.result c.from_residual.ensures.1 in
    rw (p.1, p.2) (tree_refused _ _ _ _ _ (lent_of none _ _ _ c.min-room.ensures none_long) (omega (arith, none_long)) _ _ c.in_err-listed.ensures)

pub returns : goal.returns
returns c =
    tree-bytes _ _ _ _ _ (lent_of none _ _ _ c.min-room.ensures none_long) (omega (arith, none_long)) _ _ c.in_ok-listed.ensures _ c.put_numbers.ensures
