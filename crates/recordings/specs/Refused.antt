-- When a call of a recording is refused: "A number is given when its row holds and nothing before it in the order does, and only then."
use Rattle.std.specs.Prelude.{ℕ, ◌+◌, ◌-◌, cond, List, [], ◌∷◌, ◌++◌, ltb, length}
use Rattle.refusals.specs.Order.{SlotRow, row_at}
use Rattle.disk.specs.View.{View, view}
use Rattle.files.specs.Refused.{row12, row20}
use Rattle.plans.specs.Change.{SaveRequest, usable}
use Rattle.plans.specs.Plan.{old_name, dir_sectors}
use Rattle.plans.specs.Allowed.{sectors_taken}
use Rattle.plans.specs.Refused.{row13, row14, row16, row18, row19}
use Rattle.recordings.specs.Recording.{Recording, with_body, with_piece, inner_sectors, disk_moved, close_slot}

-- "a save's but 20"
unfoldable pub save_rows : View → SaveRequest → List SlotRow
save_rows l w = row12 (usable w.name) ∷ row13 w ∷ row14 w ∷ row16 l w.name ∷ row18 l ∷ row19 l w ∷ []

-- "at opening with an empty body"
abbrev pub recording_rows : View → SaveRequest → List SlotRow
recording_rows l w = save_rows l (with_body w [])

-- "30, the used map or n is not what it was at opening or a sector that its pieces listed lacks its link"
abbrev pub row30 : List ℕ → Recording → SlotRow
row30 d r = row_at 30 0 (disk_moved d r)

-- "at a piece the disk check's, 30, 19 where it doesn't fit, 20": a number for each sector that it completes
unfoldable pub piece_rows : List ℕ → Recording → List ℕ → ℕ → List SlotRow
piece_rows d r x room =
    row30 d r ∷ row19 (view d) (with_piece r x).request ∷ row20 room (inner_sectors (sectors_taken (with_piece r x).request) - inner_sectors (sectors_taken r.request)) ∷ []

-- how many numbers a close names: "the last, then the first if it is another, then the save's directory sectors"
unfoldable pub close_list_length : List ℕ → Recording → ℕ
close_list_length d r = cond (ltb 1 (sectors_taken r.request)) 2 1 + length (dir_sectors (old_name d (close_slot d)) (close_slot d))

-- "at close all of these; 30, .., before 12"
unfoldable pub close_rows : List ℕ → Recording → ℕ → List SlotRow
close_rows d r room = row30 d r ∷ (save_rows (view d) r.request ++ (row20 room (close_list_length d r) ∷ []))
