-- `byte_lists::add_piece` meets its contract: the call below is lent room for as many numbers as a piece can name.
use Prim.Native.Nat.{ℕ}
use mathlib.Core.List.{List}
use mathlib.Core.Path.{◌≡◌, sym, ◌∙◌}
use native.Mathlib.Omega.{arith}
use lib.ListN.{length, replicate, length-replicate}
use Rattle.byte_lists.proofs.Lent.{lent_long, lent_of, back_long}
use Rattle.byte_lists.proofs.Records.{added_record_lem, added_room, added_is, added_refused}
use Rattle.std.proofs.lemmas.Result.{err_from_is_err_and}
use Rattle.byte_lists.proofs.add_piece.Goals as goal

-- the numbers lent: each 0
abbrev none : List ℕ
none = replicate 1558 0

none_long : length none ≡ 1558
none_long = length-replicate {A = ℕ} 1558 0

pub slice_bounds-add-end : goal.slice_bounds-add-end
slice_bounds-add-end c = lent_long _ _ _ (lent_of none _ _ _ c.min-room.ensures none_long)

pub slice_bounds-put_numbers-end : goal.slice_bounds-put_numbers-end
slice_bounds-put_numbers-end c =
    sym none_long ∙ back_long none c.add.new.list c.min-room.result c.add.auto.list

pub put_numbers-requires : goal.put_numbers-requires
put_numbers-requires c =
    added_room _ _ _ _ _ _ (lent_of none _ _ _ c.min-room.ensures none_long) (omega (arith, none_long)) _ _ _ c.in_ok-added.ensures.0

pub returns-in_err-added : goal.returns-in_err-added
returns-in_err-added c =
    let p = err_from_is_err_and c.from_residual.result c.from_residual.ensures.1 in
    rw (p.1, p.2) (
      added_refused _ _ _ _ _ _ (lent_of none _ _ _ c.min-room.ensures none_long) (omega (arith, none_long)) _ _ _ c.in_err-added.ensures.0,
      added_record_lem _ _ _ _ _ _ (lent_of none _ _ _ c.min-room.ensures none_long) (omega (arith, none_long)) _ c.in_err-added.ensures.1,
    )

pub returns : goal.returns
returns c = (
  added_is _ _ _ _ _ _ (lent_of none _ _ _ c.min-room.ensures none_long) (omega (arith, none_long)) _ _ _ c.in_ok-added.ensures.0 _ c.put_numbers.ensures,
  added_record_lem _ _ _ _ _ _ (lent_of none _ _ _ c.min-room.ensures none_long) (omega (arith, none_long)) _ c.in_ok-added.ensures.1,
)
