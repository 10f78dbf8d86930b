-- What is shown of reports over lists of disks.
use Rattle.std.specs.Prelude.{ℕ, suc, ◌+◌, ◌≤◌, ◌≡◌, List, [], ◌∷◌, length}
use Rattle.buffers.specs.Sums.{sum}
use Rattle.refusals.specs.Answers.{refused}
use Rattle.slots.specs.Tracks.{data_count}
use Rattle.directory.specs.Places.{slots}
use Rattle.directory.specs.Directory.{fold_option, live_among}
use Rattle.disk.specs.View.{View, view, view_slots, view_tracks}
use Rattle.disk.specs.Check.{check_disk}
use Rattle.reports.specs.Numbers.{Numbers, over, report_numbers}

abbrev pub Disks : Type 0
Disks = List (List ℕ)

-- the same disks in another order
pub data Reordered : Disks → Disks → Type 0 where
  none_left : Reordered [] []
  same_first : (d : List ℕ) (ds es : Disks) → Reordered ds es → Reordered (d ∷ ds) (d ∷ es)
  swapped : (d e : List ℕ) (ds : Disks) → Reordered (d ∷ e ∷ ds) (e ∷ d ∷ ds)
  then_again : (ds es fs : Disks) → Reordered ds es → Reordered es fs → Reordered ds fs

-- a number of every accepted disk, in all
abbrev pub of_accepted : (View → ℕ) → List ℕ → ℕ
of_accepted f d = fold_option (f (view d)) (λ r. 0) (check_disk d)

unfoldable pub total_over : (List ℕ → ℕ) → Disks → ℕ
total_over f [] = 0
total_over f (d ∷ ds) = f d + total_over f ds

-- the live files of a disk, and its data sectors
abbrev pub files_of : View → ℕ
files_of l = live_among (view_slots l) slots

abbrev pub data_sectors_of : View → ℕ
data_sectors_of l = data_count (view_tracks l)

-- "The classes add up to the files.", and so do the kinds; accepted and refused add up to the disks; file and free sectors add up
-- to the data sectors
pub record AddsUp (ds : Disks) (r : Numbers) : Type 0 where
  pub disks : r.accepted + sum 32 (λ n. r.refused (suc n)) ≡ length ds
  pub classes : sum 12 r.classes ≡ total_over (of_accepted files_of) ds
  pub kinds : sum 64 r.kinds ≡ total_over (of_accepted files_of) ds
  pub sectors : r.sectors + r.free ≡ total_over (of_accepted data_sectors_of) ds

-- a report that our calls made of these disks
pub record ReportMade (ds : Disks) (r : List ℕ) : Type 0 where
  pub few : length ds ≤ 65535
  pub is : r ≡ report_numbers (over ds)
