-- The numbers of a report, of one disk and over a list of disks. The words of document 02 stand above what they define.
use Rattle.std.specs.Prelude.{ℕ, zero, suc, ◌+◌, ◌-◌, ◌^◌, Bool, false, cond, ◌&&◌, ◌||◌, List, [], ◌∷◌, eqb, leb, ltb}
use Rattle.buffers.specs.Bytes.{count, tab}
use Rattle.buffers.specs.Sums.{sum}
use Rattle.refusals.specs.Order.{Refusal}
use Rattle.slots.specs.Slot.{kind_of, count_of}
use Rattle.directory.specs.Places.{slots}
use Rattle.directory.specs.Directory.{fold_option, Directory}
use Rattle.surveys.specs.Survey.{free}
use Rattle.disk.specs.View.{View, view, view_slots, view_tracks}
use Rattle.disk.specs.Check.{check_view}

-- "accepted, refused by number and, over the accepted, live files by kind, file and free sectors, and files by sector count in classes"
pub record Numbers : Type 0 where
  pub accepted : ℕ
  pub refused : ℕ → ℕ
  pub kinds : ℕ → ℕ
  pub sectors : ℕ
  pub free : ℕ
  pub classes : ℕ → ℕ

-- ---- "classes 0, 1, 2 to 3, 4 to 7 and so on to 1,024 and more"

-- the least sector count of a class: 0, 1, 2, 4, .., 1,024
unfoldable pub least_of : ℕ → ℕ
least_of zero = 0
least_of (suc c) = 2 ^ c

-- a class goes up to the least of the next; the last, 11, has no end
unfoldable pub in_class : ℕ → ℕ → Bool
in_class c n = leb (least_of c) n && (eqb c 11 || ltb n (least_of (suc c)))

-- ---- one disk

-- how many of the first k slots are live and pass a test
unfoldable pub files_among : Directory → ℕ → (List ℕ → Bool) → ℕ
files_among v k p = count k (λ i. fold_option false p (v i))

-- the sector counts of the live ones among them, in all
unfoldable pub sectors_among : Directory → ℕ → ℕ
sectors_among v k = sum k (λ i. fold_option 0 count_of (v i))

-- files by kind and by class, of the first k slots
unfoldable pub files_report : Directory → ℕ → Numbers
files_report v k = record {
  accepted = 0;
  refused = λ r. 0;
  kinds = λ kind. files_among v k (λ s. eqb kind (kind_of s));
  sectors = 0;
  free = 0;
  classes = λ c. files_among v k (λ s. in_class c (count_of s));
}

-- an accepted disk, with n directory tracks beyond the four
unfoldable pub accepted_report : ℕ → Directory → Numbers
accepted_report n v = record {
  accepted = 1;
  refused = λ r. 0;
  kinds = (files_report v slots).kinds;
  sectors = sectors_among v slots;
  free = free n v;
  classes = (files_report v slots).classes;
}

-- a refused one counts under its number and nowhere else
unfoldable pub refused_report : Refusal → Numbers
refused_report r = record {
  accepted = 0;
  refused = λ n. cond (eqb n r.number) 1 0;
  kinds = λ kind. 0;
  sectors = 0;
  free = 0;
  classes = λ c. 0;
}

-- the report looks at a disk by the check
unfoldable pub report_of : View → Numbers
report_of l = fold_option (accepted_report (view_tracks l) (view_slots l)) refused_report (check_view l)

-- ---- a list of disks

unfoldable pub empty : Numbers
empty = record { accepted = 0; refused = λ r. 0; kinds = λ kind. 0; sectors = 0; free = 0; classes = λ c. 0 }

unfoldable pub plus : Numbers → Numbers → Numbers
plus a b = record {
  accepted = a.accepted + b.accepted;
  refused = λ r. a.refused r + b.refused r;
  kinds = λ kind. a.kinds kind + b.kinds kind;
  sectors = a.sectors + b.sectors;
  free = a.free + b.free;
  classes = λ c. a.classes c + b.classes c;
}

-- "the report over" a list of disks
unfoldable pub over : List (List ℕ) → Numbers
over [] = empty
over (d ∷ ds) = plus (report_of (view d)) (over ds)

-- ---- where each number stands: 0 accepted disks; 1 to 32 refused by that number; 33 to 96 live files of kind 0 to 63;
-- 97 file sectors; 98 free sectors; 99 to 110 files by class

unfoldable pub number_at : Numbers → ℕ → ℕ
number_at r k =
    cond (ltb k 1) r.accepted
    (cond (ltb k 33) (r.refused k) (cond (ltb k 97) (r.kinds (k - 33)) (cond (ltb k 98) r.sectors (cond (ltb k 99) r.free (r.classes (k - 99))))))

unfoldable pub report_numbers : Numbers → List ℕ
report_numbers r = tab 111 (number_at r)
