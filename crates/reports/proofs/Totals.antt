-- The calls over lists of disks: a disk added gives the report over one disk more, and a join the report over both lists.
use Prim.Native.Nat.{ℕ, suc, ◌+◌, ◌*◌, ◌%◌, ◌^◌, ◌-◌, ◌≤◌, ◌<◌}
use mathlib.Core.Path.{◌≡◌, refl, sym, ap, ap₂, ◌∙◌}
use mathlib.Core.Bool.{Bool, true, false, cond}
use mathlib.Core.List.{List, [], ◌∷◌, ◌++◌}
use mathlib.Core.Logic.{⊎_elim}
use mathlib.Core.Option.{none, some}
use native.Mathlib.Omega.{arith}
use borrow.Author.Tests.{ltb-true}
use lib.Dec.{eqb, ltb}
use lib.ListN.{length, get_or, replicate}
use Rattle.buffers.specs.Bytes.{tab}
use Rattle.buffers.proofs.Lists.{below_or_not, past_end, length-tab, get_or-tab, tab_cong}
use Rattle.buffers.proofs.Counts.{count_le}
use Rattle.buffers.proofs.Sums.{sum_cong, sum_first}
use Rattle.refusals.specs.Order.{Refusal, Reply, refuse, row}
use Rattle.refusals.specs.Answers.{Outcome, done, refused, out, filled}
use Rattle.slots.specs.Slot.{kind_of, count_of}
use Rattle.slots.proofs.Tracks.{data_few}
use Rattle.directory.specs.Places.{slots}
use Rattle.directory.specs.Directory.{fold_option}
use Rattle.disk.specs.View.{View, view, view_slots, view_tracks}
use Rattle.disk.specs.Check.{check_view}
use Rattle.reports.specs.Numbers.{Numbers, in_class, files_among, files_report, accepted_report, refused_report, report_of, empty, plus, over, number_at, report_numbers}
use Rattle.reports.specs.Calls.{disks_in, raised, report_full, add_disk, join_reports}
use Rattle.reports.specs.Totals.{Disks, ReportMade, data_sectors_of}
use Rattle.reports.proofs.Places.{NumberPlace, at-accepted, at-refused, at-kind, at-sectors, at-free, at_class, place_of_number, number-accepted, number-refused, number-kind, number-sectors, number-free, number_class, number-plus}
use Rattle.reports.proofs.Disk.{report_accepted, report_refused}
use Rattle.reports.proofs.Called.{full_refused, full_done}
use Rattle.reports.proofs.Sums.{over-both, over_one}
use Rattle.reports.proofs.AddsUp.{adds_up, sectors_data}

number-empty : (k : ℕ) → number_at empty k ≡ 0
unfolding empty
number-empty k = by (place_of_number k)
  where
    by : NumberPlace k → number_at empty k ≡ 0
    by (at-accepted h) = number-accepted empty k h
    by (at-refused h l) = number-refused empty k h l
    by (at-kind h l) = number-kind empty k h l
    by (at-sectors h) = number-sectors empty k h
    by (at-free h) = number-free empty k h
    by (at_class h) = number_class empty k h

abbrev pick : Outcome → ℕ
pick (done v f) = 0
pick (refused x) = 1

-- ---- no number of a report of 65,535 disks reaches 2^32

one_or_none : (t : Bool) → cond {A = ℕ} t 1 0 ≤ 65535
one_or_none true = omega arith
one_or_none false = omega arith

data_small : (l : View) → data_sectors_of l ≤ 65535
data_small l = omega (arith, data_few (view_tracks l))

small-accepted : (l : View) → check_view l ≡ none → (k : ℕ) → number_at (report_of l) k ≤ 65535
unfolding accepted_report files_report files_among
small-accepted l e k = at (place_of_number k)
  where
    r : Numbers
    r = report_of l

    a : Numbers
    a = accepted_report (view_tracks l) (view_slots l)

    is : number_at r k ≡ number_at a k
    is = ap (λ (x : Numbers). number_at x k) (report_accepted l e)

    at : NumberPlace k → number_at r k ≤ 65535
    at (at-accepted h) = omega (arith, is, number-accepted a k h)
    at (at-refused h m) = omega (arith, is, number-refused a k h m)
    at (at-kind h m) = omega (arith, is, number-kind a k h m, count_le slots (λ i. fold_option false (λ s. eqb (k - 33) (kind_of s)) (view_slots l i)))
    at (at-sectors h) = omega (arith, number-sectors r k h, sectors_data l e, data_small l)
    at (at-free h) = omega (arith, number-free r k h, sectors_data l e, data_small l)
    at (at_class h) = omega (arith, is, number_class a k h, count_le slots (λ i. fold_option false (λ s. in_class (k - 99) (count_of s)) (view_slots l i)))

small-refused : (l : View) (r : Refusal) → check_view l ≡ some r → (k : ℕ) → number_at (report_of l) k ≤ 65535
unfolding refused_report
small-refused l r e k = at (place_of_number k)
  where
    a : Numbers
    a = refused_report r

    is : number_at (report_of l) k ≡ number_at a k
    is = ap (λ (x : Numbers). number_at x k) (report_refused l r e)

    at : NumberPlace k → number_at (report_of l) k ≤ 65535
    at (at-accepted h) = omega (arith, is, number-accepted a k h)
    at (at-refused h m) = omega (arith, is, number-refused a k h m, one_or_none (eqb k r.number))
    at (at-kind h m) = omega (arith, is, number-kind a k h m)
    at (at-sectors h) = omega (arith, is, number-sectors a k h)
    at (at-free h) = omega (arith, is, number-free a k h)
    at (at_class h) = omega (arith, is, number_class a k h)

small-disk : (l : View) (k : ℕ) → number_at (report_of l) k ≤ 65535
small-disk l k = by (check_view l) refl
  where
    by : (q : Reply) → check_view l ≡ q → number_at (report_of l) k ≤ 65535
    by none e = small-accepted l e k
    by (some r) e = small-refused l r e k

small-over : (ds : Disks) (k : ℕ) → number_at (over ds) k ≤ length ds * 65535
unfolding over
small-over [] k = omega (arith, number-empty k)
small-over (d ∷ ds) k = omega (arith, number-plus (report_of (view d)) (over ds) k, small-disk (view d) k, small-over ds k)

-- ---- the numbers of two reports in one, without a remainder

raised_listed : (a b : Numbers) → ((k : ℕ) → number_at (plus a b) k < 2 ^ 32) → raised (report_numbers a) (number_at b) ≡ report_numbers (plus a b)
unfolding raised report_numbers
raised_listed a b h =
    tab_cong 111 _ (number_at (plus a b))
    (λ k m. let z = h k in let e : get_or (tab 111 (number_at a)) k 0 ≡ number_at a k = get_or-tab 111 (number_at a) k m in omega (arith, number-plus a b k))

raised_cong : (r : List ℕ) (f g : ℕ → ℕ) → ((k : ℕ) → k < 111 → f k ≡ g k) → raised r f ≡ raised r g
unfolding raised
raised_cong r f g h = tab_cong 111 _ _ (λ k m. ap (λ (x : ℕ). (get_or r k 0 + x) % 2 ^ 32) (h k m))

pub length_listed : (a : Numbers) → length (report_numbers a) ≡ 111
unfolding report_numbers
length_listed a = length-tab 111 (number_at a)

listed_at : (a : Numbers) (k : ℕ) → k < 111 → get_or (report_numbers a) k 0 ≡ number_at a k
unfolding report_numbers
listed_at a k h = get_or-tab 111 (number_at a) k h

-- accepted and refused are all the disks
disks_listed : (ds : Disks) → disks_in (report_numbers (over ds)) ≡ length ds
unfolding disks_in
disks_listed ds =
    let r = over ds in
    sum_cong 33 (λ k. get_or (report_numbers r) k 0) (number_at r) (λ k h. listed_at r k (omega arith))
    ∙ sum_first 32 (number_at r)
    ∙ ap₂ ◌+◌ (number-accepted r 0 refl) (sum_cong 32 (λ k. number_at r (suc k)) (λ k. r.refused (suc k)) (λ k h. number-refused r (suc k) (omega arith) (omega arith)))
    ∙ (adds_up ds).disks

-- ---- the empty report, and all zero

pub made_none : ReportMade [] (replicate 111 0)
unfolding report_numbers over tab number_at empty
made_none = record { few = omega arith; is = refl }

refused_by : (r : List ℕ) (n : ℕ) (y : List ℕ) (x : Refusal) → (filled (report_full n) (done n 0) y r).outcome ≡ refused x
    → (x ≡ refuse 31 0) × (65535 < n) × ((filled (report_full n) (done n 0) y r).buffer ≡ r)
refused_by r n y x e = by (ltb 65535 n) refl e
  where
    by : (t : Bool) → ltb 65535 n ≡ t → (filled (row 31 0 t) (done n 0) y r).outcome ≡ refused x
        → (x ≡ refuse 31 0) × (65535 < n) × ((filled (report_full n) (done n 0) y r).buffer ≡ r)
    by true q w = (cc, ltb-true 65535 n q, rw q)
    by false q w = absurd (never w)
      where
        never : done n 0 ≡ refused x → ⊥
        never z = let y : ◌≡◌ {A = ℕ} 0 1 = ap pick z in omega arith

-- ---- "Add disks one at a time to a report"

module _ (ds : Disks) (d r : List ℕ) (w : ReportMade ds r) where
  disks_are : disks_in r ≡ length ds
  disks_are = ap disks_in w.is ∙ disks_listed ds

  pub add-over : length ds < 65535 → add_disk r d ≡ out (done (length ds + 1) 0) (report_numbers (over (ds ++ (d ∷ []))))
  unfolding add_disk
  add-over h =
      let e = disks_are in
      sym (full_done r (disks_in r + 1) (number_at (report_of (view d))) (omega arith) (ap length w.is ∙ length_listed (over ds)) refl)
      ∙ ap₂ (λ (n : ℕ) (l : List ℕ). out (done (n + 1) 0) l) e
      (ap (λ (r : List ℕ). raised r (number_at (report_of (view d)))) w.is ∙ raised_listed (over ds) (report_of (view d)) small ∙ ap report_numbers (sym (over_one ds d)))
    where
      small : (k : ℕ) → number_at (plus (over ds) (report_of (view d))) k < 2 ^ 32
      small k = omega (arith, number-plus (over ds) (report_of (view d)) k, small-over ds k, small-disk (view d) k)

  -- "31, a disk .. that would pass 65,535 disks, the report unchanged."
  pub add_full : length ds ≡ 65535 → add_disk r d ≡ out (refused (refuse 31 0)) r
  unfolding add_disk
  add_full h = let e = disks_are in sym (full_refused r (disks_in r + 1) (number_at (report_of (view d))) (omega arith) refl)

-- "Two reports join, and the join is the report over both lists"
module _ (ds es : Disks) (r s : List ℕ) (v : ReportMade ds r) (w : ReportMade es s) where
  pub join-over : length ds + length es ≤ 65535 → join_reports r s ≡ out (done (length ds + length es) 0) (report_numbers (over (ds ++ es)))
  unfolding join_reports
  join-over h =
      let e = disks_are ds [] r v in
      let f = disks_are es [] s w in
      sym (full_done r (disks_in r + disks_in s) (λ k. get_or s k 0) (omega arith) (ap length v.is ∙ length_listed (over ds)) refl)
      ∙ ap₂ out (ap₂ (λ (a b : ℕ). done (a + b) 0) e f) numbers
    where
      small : (k : ℕ) → number_at (plus (over ds) (over es)) k < 2 ^ 32
      small k = omega (arith, number-plus (over ds) (over es) k, small-over ds k, small-over es k)

      same : raised r (λ k. get_or s k 0) ≡ raised r (number_at (over es))
      same = raised_cong r _ _ (λ k m. ap (λ (s : List ℕ). get_or s k 0) w.is ∙ listed_at (over es) k m)

      numbers : raised r (λ k. get_or s k 0) ≡ report_numbers (over (ds ++ es))
      numbers = same ∙ ap (λ (r : List ℕ). raised r (number_at (over es))) v.is ∙ raised_listed (over ds) (over es) small ∙ ap report_numbers (sym (over-both ds es))

  -- "31, a .. join that would pass 65,535 disks, the report unchanged."
  pub join_full : 65535 < length ds + length es → join_reports r s ≡ out (refused (refuse 31 0)) r
  unfolding join_reports
  join_full h =
      let e = disks_are ds [] r v in
      let f = disks_are es [] s w in
      sym (full_refused r (disks_in r + disks_in s) (λ k. get_or s k 0) (omega arith) refl)

-- ---- a refused call gives 31 and leaves the report, and nothing else is refused

pub add-refused : (r d : List ℕ) (x : Refusal) → (add_disk r d).outcome ≡ refused x → (x ≡ refuse 31 0) × (65535 < disks_in r + 1) × ((add_disk r d).buffer ≡ r)
unfolding add_disk
add-refused r d x e = refused_by r (disks_in r + 1) _ x e

pub join-refused : (r s : List ℕ) (x : Refusal) → (join_reports r s).outcome ≡ refused x → (x ≡ refuse 31 0) × (65535 < disks_in r + disks_in s) × ((join_reports r s).buffer ≡ r)
unfolding join_reports
join-refused r s x e = refused_by r (disks_in r + disks_in s) _ x e

-- two disks with one view get one answer
pub same_view_report : (r d e : List ℕ) → view d ≡ view e → add_disk r d ≡ add_disk r e
unfolding add_disk
same_view_report r d e q = ap (λ (l : View). filled (report_full (disks_in r + 1)) (done (disks_in r + 1) 0) (raised r (number_at (report_of l))) r) q

-- its numbers, as they are kept
pub listed_small : (ds : Disks) → length ds ≤ 65535 → (k : ℕ) → get_or (report_numbers (over ds)) k 0 < 2 ^ 32
listed_small ds h k =
    ⊎_elim (λ (m : k < 111). omega (arith, listed_at (over ds) k m, small-over ds k))
    (λ (m : 111 ≤ k). omega (arith, past_end (report_numbers (over ds)) k (omega (arith, length_listed (over ds))))) (below_or_not k 111)
