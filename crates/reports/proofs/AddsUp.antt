-- The numbers of a report add up: classes and kinds to the files, accepted and refused to the disks, sectors to the data sectors.
use Prim.Native.Nat.{ℕ, zero, suc, ◌+◌, ◌-◌, ◌≤◌, ◌<◌}
use mathlib.Core.Path.{◌≡◌, refl, sym, ap, ap₂, ◌∙◌}
use mathlib.Core.Bool.{Bool, true, false, cond, ◌&&◌}
use mathlib.Core.List.{List, [], ◌∷◌}
use mathlib.Core.Logic.{◌≢◌, ⊎_elim}
use mathlib.Core.Option.{Option, none, some}
use native.Mathlib.Omega.{arith}
use borrow.Author.Tests.{leb-true, eq-eqb, ne_eqb}
use lib.Dec.{eqb, leb}
use Rattle.buffers.specs.Bytes.{count}
use Rattle.buffers.specs.Sums.{sum}
use Rattle.buffers.proofs.Tests.{and_both}
use Rattle.buffers.proofs.Sums.{sum_cong, sum-plus, sum-zero, sum_single}
use Rattle.maps.proofs.Laws.{bits_le}
use Rattle.refusals.specs.Order.{Refusal, Reply, Row, FirstRow}
use Rattle.slots.specs.Slot.{kind_of, count_of}
use Rattle.slots.proofs.Tracks.{tracks-few}
use Rattle.directory.specs.Places.{slots}
use Rattle.directory.specs.Directory.{fold_option, Directory, live_among}
use Rattle.surveys.specs.Survey.{union, used_map, counted, free, free_of}
use Rattle.surveys.proofs.Pass.{used-few}
use Rattle.disk.specs.View.{View, view, view_slots, view_tracks}
use Rattle.disk.specs.Check.{check_view, check_disk}
use Rattle.disk.specs.Given.{rows9, rows11, CheckGives, by_length, by_tracks, by_slot, by_chain}
use Rattle.disk.proofs.Order.{check_given, rows_by-kind, chain_by_kind, check_positive}
use Rattle.reports.specs.Numbers.{Numbers, in_class, files_among, files_report, accepted_report, refused_report, empty, plus, over, report_of}
use Rattle.reports.specs.Totals.{Disks, of_accepted, total_over, files_of, data_sectors_of, AddsUp}
use Rattle.reports.proofs.Classes.{class_only, class_some}
use Rattle.reports.proofs.Places.{only_from}
use Rattle.reports.proofs.Disk.{used-sectors, survey-accepts, report_accepted, report_refused}

-- ---- the files of a disk, by a test of which each file passes one

module _ (v : Directory) (m : ℕ) (p : ℕ → List ℕ → Bool) (one : (s : List ℕ) → sum m (λ k. cond (p k s) 1 0) ≡ 1) where
  parted : (i : ℕ) → sum m (λ k. files_among v i (p k)) ≡ live_among v i
  unfolding files_among live_among count
  parted zero = sum-zero m
  parted (suc i) =
      sum-plus m (λ k. count i (λ j. fold_option false (p k) (v j))) (λ k. cond (fold_option false (p k) (v i)) 1 0) ∙ ap₂ ◌+◌ (parted i) (by (v i))
    where
      by : (o : Option (List ℕ)) → sum m (λ k. cond (fold_option false (p k) o) 1 0) ≡ cond (fold_option false (λ s. true) o) 1 0
      by none = sum-zero m
      by (some s) = one s

one_class : (s : List ℕ) → sum 12 (λ c. cond (in_class c (count_of s)) 1 0) ≡ 1
one_class s =
    let w = class_some (count_of s) in
    sum_cong 12 _ (λ c. cond (eqb c w.0) 1 0) (λ c l. ap (λ (t : Bool). cond t 1 0) (class_only w.0 c (count_of s) w.1 l w.2)) ∙ sum_single 12 w.0 w.1

one_kind : (s : List ℕ) → sum 64 (λ k. cond (eqb k (kind_of s)) 1 0) ≡ 1
one_kind s = sum_single 64 (kind_of s) (omega arith)

-- ---- the number of a refusal is 1 to 32

low : List Row → Bool
low [] = true
low (r ∷ rs) = leb r.number 32 && low rs

first-low : (rs : List Row) (n : ℕ) → low rs ≡ true → FirstRow n rs → n ≤ 32
unfolding low
first-low [] n e f = absurd f
first-low (r ∷ rs) n e f =
    let w = and_both (leb r.number 32) (low rs) e in
    ⊎_elim (λ a. let z : r.number ≡ n = a.1 in omega (arith, leb-true r.number 32 w.0)) (λ a. first-low rs n w.1 a.1) f

check_low : (l : View) (r : Refusal) → check_view l ≡ some r → r.number ≤ 32
unfolding low
check_low l r e = by (check_given l r e)
  where
    by : CheckGives l r → r.number ≤ 32
    by (by_length n q) = omega (arith, ap (λ (x : Refusal). x.number) q)
    by (by_tracks n a b q) = omega (arith, ap (λ (x : Refusal). x.number) q)
    by (by_slot n t w) = first-low (rows9 l w.at w.file) r.number (rows_by-kind (λ rs. low rs ≡ true) false l w.at w.file refl refl) w.number
    by (by_chain n t c w) = first-low (rows11 l w.at w.file) r.number (chain_by_kind (λ rs. low rs ≡ true) l w.at w.file refl refl) w.number

one_refused : (x : ℕ) → x ≢ 0 → x ≤ 32 → sum 32 (λ n. cond (eqb (suc n) x) 1 0) ≡ 1
one_refused x h l =
    let e : 1 + (x - 1) ≡ x = omega arith in
    sum_cong 32 _ (λ n. cond (eqb n (x - 1)) 1 0) (λ n k. ap (λ (y : ℕ). cond (eqb (suc n) y) 1 0) (sym e) ∙ sym (only_from 1 (x - 1) (suc n) (omega arith) (ap (λ (y : ℕ). eqb y (x - 1)) (less n))))
    ∙ sum_single 32 (x - 1) (omega arith)
  where
    less : (n : ℕ) → n ≡ suc n - 1
    less n = omega arith

-- ---- one disk

record One (d : List ℕ) (r : Numbers) : Type 0 where
  disks : r.accepted + sum 32 (λ n. r.refused (suc n)) ≡ 1
  classes : sum 12 r.classes ≡ of_accepted files_of d
  kinds : sum 64 r.kinds ≡ of_accepted files_of d
  sectors : r.sectors + r.free ≡ of_accepted data_sectors_of d

-- "file and free sectors": of an accepted disk they add up to its data sectors
pub sectors_data : (l : View) → check_view l ≡ none → (report_of l).sectors + (report_of l).free ≡ data_sectors_of l
unfolding accepted_report free free_of used_map counted view_tracks
sectors_data l e =
    ap (λ (r : Numbers). r.sectors + r.free) (report_accepted l e)
    ∙ omega (arith, used-sectors (view_tracks l) (view_slots l) (survey-accepts l e) slots (omega arith), used-few (view_tracks l) (view_slots l) (tracks-few (l.label 255)) (survey-accepts l e))

one : (d : List ℕ) → One d (report_of (view d))
unfolding check_disk accepted_report files_report refused_report
one d = by (check_view (view d)) refl
  where
    l : View
    l = view d

    v : Directory
    v = view_slots l

    by : (q : Reply) → check_view l ≡ q → One d (report_of l)
    by none e =
        let a = report_accepted l e in
        record {
          disks = ap (λ (r : Numbers). r.accepted + sum 32 (λ n. r.refused (suc n))) a ∙ ap (λ (n : ℕ). 1 + n) (sum-zero 32);
          classes = ap (λ (r : Numbers). sum 12 r.classes) a ∙ parted v 12 (λ c s. in_class c (count_of s)) one_class slots ∙ sym (ap (fold_option (files_of l) (λ r. 0)) e);
          kinds = ap (λ (r : Numbers). sum 64 r.kinds) a ∙ parted v 64 (λ k s. eqb k (kind_of s)) one_kind slots ∙ sym (ap (fold_option (files_of l) (λ r. 0)) e);
          sectors = sectors_data l e ∙ sym (ap (fold_option (data_sectors_of l) (λ r. 0)) e);
        }
    by (some r) e =
        let a = report_refused l r e in
        record {
          disks = ap (λ (r : Numbers). r.accepted + sum 32 (λ n. r.refused (suc n))) a ∙ ap (λ (n : ℕ). 0 + n) (one_refused r.number (check_positive d r e) (check_low l r e));
          classes = ap (λ (r : Numbers). sum 12 r.classes) a ∙ sum-zero 12 ∙ sym (ap (fold_option (files_of l) (λ r. 0)) e);
          kinds = ap (λ (r : Numbers). sum 64 r.kinds) a ∙ sum-zero 64 ∙ sym (ap (fold_option (files_of l) (λ r. 0)) e);
          sectors = ap (λ (r : Numbers). r.sectors + r.free) a ∙ sym (ap (fold_option (data_sectors_of l) (λ r. 0)) e);
        }

-- ---- a list of disks

pub adds_up : (ds : Disks) → AddsUp ds (over ds)
unfolding over empty plus total_over
adds_up [] = record { disks = omega (arith, sum-zero 32); classes = sum-zero 12; kinds = sum-zero 64; sectors = refl }
adds_up (d ∷ ds) =
    let a = one d in
    let b = adds_up ds in
    let x = report_of (view d) in
    let y = over ds in
    record {
      disks = omega (arith, sum-plus 32 (λ n. x.refused (suc n)) (λ n. y.refused (suc n)), a.disks, b.disks);
      classes = sum-plus 12 x.classes y.classes ∙ ap₂ ◌+◌ a.classes b.classes;
      kinds = sum-plus 64 x.kinds y.kinds ∙ ap₂ ◌+◌ a.kinds b.kinds;
      sectors = omega (arith, a.sectors, b.sectors);
    }
