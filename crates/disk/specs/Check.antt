-- The disk check and the release check beside it: the first refusal of the table in its order. The words of documents 01 and 02
-- stand above what they define.
use Rattle.std.specs.Prelude.{ℕ, suc, Bool, true, false, not, List, eqb, Result}
use Rattle.std.proofs.Math.Option.{none}
use Rattle.refusals.specs.Order.{Reply, ◌else◌, row, scan}
use Rattle.refusals.specs.declared.Refused.{Refused}
use Rattle.geometry.specs.Disk.{image_size}
use Rattle.headers.specs.Header.{chain_pass_reply}
use Rattle.slots.specs.Tracks.{bad_tracks}
use Rattle.directory.specs.Places.{slots}
use Rattle.directory.specs.Directory.{fold_option}
use Rattle.surveys.specs.Survey.{survey_by}
use Rattle.surveys.specs.Steps.{Surveyed}
use Rattle.surveys.specs.declared.Survey.{Survey}
use Rattle.disk.specs.View.{View, view, view_slots, view_tracks}

-- rows 10, 11 and 25 at slot i
unfoldable pub chain_at : View → ℕ → Reply
chain_at l i = fold_option none (chain_pass_reply (suc i)) (l.files i)

-- "Order: 1; then all slots for 2 to 9, lowest slot first, at a slot the lowest number; then all slots for 10, 11 likewise;"
-- with "24, n of 36 to 254 .., slot 0, after 1", 22 after 7 where it is the release check, and 25 "in the chain pass after 11"
unfoldable pub check_by : Bool → View → Reply
check_by release l =
    row 1 0 (not (eqb l.long image_size)) else row 24 0 (bad_tracks (l.label 255))
    else survey_by release (view_tracks l) (view_slots l) else scan slots (chain_at l)

abbrev pub check_view : View → Reply
check_view l = check_by false l

unfoldable pub check_disk : List ℕ → Reply
check_disk d = check_view (view d)

-- "A second check, beside the first, also refuses a carried kind whose count is above the least that its length needs."
unfoldable pub check_release : List ℕ → Reply
check_release d = check_by true (view d)

-- the check's reply, and the used map and the number of files of a disk that is not refused
abbrev pub Examined : List ℕ → Result Survey Refused → Type 0
Examined d r = Surveyed (check_disk d) d r
