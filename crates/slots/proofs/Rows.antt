-- The reply of rows 2 and 4 to 7 by the kind, and the order of the rows.
use Prim.Native.Nat.{ℕ}
use mathlib.Core.Path.{◌≡◌, refl}
use mathlib.Core.Bool.{Bool, true, false, cond}
use mathlib.Core.List.{List}
use Rattle.refusals.specs.Order.{rises}
use Rattle.slots.specs.Slot.{SlotFields, slot_fields, map_of, directory_kind, is_directory}
use Rattle.slots.specs.Tracks.{data_count, in_directory}
use Rattle.slots.specs.Rows.{directory_rows, file_rows, own, directory_reply, file_reply_by, own_reply_by, own_reply}

module _ (most : ℕ) (inside : Bool) (i : ℕ) (s : List ℕ) where
  pub own-directory : is_directory s ≡ true → directory_reply i s ≡ own_reply_by most inside i s
  unfolding is_directory directory_reply own_reply_by slot_fields
  own-directory e = rw e

  pub own-file : is_directory s ≡ false → file_reply_by most inside i s ≡ own_reply_by most inside i s
  unfolding is_directory file_reply_by own_reply_by slot_fields
  own-file e = rw e

-- with n directory tracks beyond four
pub own_by_lem : (n i : ℕ) (s : List ℕ) → own_reply_by (data_count n) (in_directory n (map_of s)) i s ≡ own_reply n i s
unfolding own_reply_by own_reply slot_fields
own_by_lem n i s = refl

-- "at a slot the lowest number": the rows stand in the order of their numbers
pub own-rises : (n : ℕ) (x : SlotFields) → rises (own n x) ≡ true
own-rises n x = by (directory_kind x.kind)
  where
    by : (t : Bool) → rises (cond t (directory_rows x) (file_rows (data_count n) (in_directory n x.map) x)) ≡ true
    by true = refl
    by false = refl
