-- The numbers of one disk, as its check gives them.
use Prim.Native.Nat.{ℕ, zero, suc, ◌+◌, ◌^◌, ◌≤◌, ◌<◌}
use mathlib.Core.Path.{◌≡◌, refl, sym, ap, ap₂, ◌∙◌}
use mathlib.Core.Bool.{not}
use mathlib.Core.List.{List}
use mathlib.Core.Logic.{◌≢◌}
use mathlib.Core.Option.{Option, none, some}
use Rattle.std.specs.Prelude.{Result, Ok, Err}
use native.Mathlib.Omega.{arith}
use lib.Dec.{eqb}
use lib.ListN.{length, get_or}
use Rattle.geometry.specs.Disk.{image_size}
use Rattle.maps.specs.Bits.{bits_of, join}
use Rattle.maps.proofs.Laws.{bits_clear, bits_le, bits-join}
use Rattle.buffers.specs.Sums.{sum}
use Rattle.refusals.specs.Order.{Refusal, ◌else◌, row, scan}
use Rattle.refusals.specs.Answers.{refusal_number, last_number, refusal_of}
use Rattle.refusals.specs.declared.Refused.{Refused}
use Rattle.refusals.proofs.First.{else_none}
use Rattle.refusals.proofs.Lowest.{positive}
use Rattle.slots.specs.Tracks.{bad_tracks}
use Rattle.slots.proofs.Tracks.{data_few}
use Rattle.slots.specs.Slot.{count_of, map_of}
use Rattle.directory.specs.Places.{slots}
use Rattle.directory.specs.Directory.{tracks_of, fold_option, Directory, directory, live_among}
use Rattle.surveys.specs.Survey.{survey, union, counted, used_map, free_of, free}
use Rattle.surveys.specs.declared.Survey.{Survey}
use Rattle.surveys.specs.declared.UsedMap.{UsedMap}
use Rattle.surveys.proofs.Union.{length_union, share-union}
use Rattle.surveys.proofs.Pass.{survey_passed}
use Rattle.disk.specs.View.{View, view, view_slots, view_tracks}
use Rattle.disk.specs.Check.{chain_at, check_by, check_view, check_disk, Examined}
use Rattle.disk.proofs.View.{view-slots, view_extra}
use Rattle.disk.proofs.Examined.{examined_ok, examined_err}
use Rattle.reports.specs.Numbers.{Numbers, sectors_among, files_report, accepted_report, refused_report, report_of, number_at}
use Rattle.reports.specs.Calls.{raised_at, raised}
use Rattle.reports.proofs.Places.{NumberPlace, at-accepted, at-refused, at-kind, at-sectors, at-free, at_class, place_of_number, number-accepted, number-refused, number-kind, number-sectors, number-free, number_class, only, only-there, only-elsewhere}
use Rattle.reports.proofs.Raised.{Raised, raised-none, raised-more, raised-same, raised_is, raised-twice}

-- ---- file sectors: no two files share one, so the used map has as many as the counts add up to

pub used-sectors : (n : ℕ) (v : Directory) → survey n v ≡ none → (k : ℕ) → k ≤ slots → bits_of (union v k) ≡ sectors_among v k
unfolding union sectors_among sum
used-sectors n v e zero h = bits_clear
used-sectors n v e (suc k) h = by (v k) refl (used-sectors n v e k (omega arith))
  where
    by : (o : Option (List ℕ)) → v k ≡ o → bits_of (union v k) ≡ sum k (λ i. fold_option 0 count_of (v i))
        → bits_of (fold_option (union v k) (λ s. join (union v k) (map_of s)) o) ≡ sum k (λ i. fold_option 0 count_of (v i)) + fold_option 0 count_of o
    by none p q = q ∙ omega arith
    by (some s) p q =
        let w = survey_passed n v e k s (omega arith) p in
        bits-join (union v k) (map_of s) (length_union v k) (share-union v k (map_of s) ∙ w.unshared) ∙ ap₂ ◌+◌ q w.bits

-- what the check says where it accepts a view
pub survey-accepts : (l : View) → check_view l ≡ none → survey (view_tracks l) (view_slots l) ≡ none
unfolding check_by
survey-accepts l e =
    let a = else_none (row 1 0 (not (eqb l.long image_size))) (row 24 0 (bad_tracks (l.label 255)) else survey (view_tracks l) (view_slots l) else scan slots (chain_at l)) e in
    let b = else_none (row 24 0 (bad_tracks (l.label 255))) (survey (view_tracks l) (view_slots l) else scan slots (chain_at l)) a.1 in
    (else_none (survey (view_tracks l) (view_slots l)) (scan slots (chain_at l)) b.1).0

pub report_accepted : (l : View) → check_view l ≡ none → report_of l ≡ accepted_report (view_tracks l) (view_slots l)
unfolding report_of
report_accepted l e = ap (fold_option (accepted_report (view_tracks l) (view_slots l)) refused_report) e

pub report_refused : (l : View) (r : Refusal) → check_view l ≡ some r → report_of l ≡ refused_report r
unfolding report_of
report_refused l r e = ap (fold_option (accepted_report (view_tracks l) (view_slots l)) refused_report) e

-- the numbers that are raised fit
pub free-fits : (u : UsedMap) {f : ℕ} → f ≡ free_of u → f < 2 ^ 32
unfolding free_of
free-fits u e = omega (arith, data_few u.tracks)

-- ---- a refused disk is one number more

number_of_refused : (r : Refusal) → r.number ≢ 0 → r.number ≤ 32 → (k : ℕ) → only r.number 1 k ≡ number_at (refused_report r) k
unfolding refused_report
number_of_refused r p h k = by (place_of_number k)
  where
    a : Numbers
    a = refused_report r

    by : NumberPlace k → only r.number 1 k ≡ number_at a k
    by (at-accepted x) = only-elsewhere r.number 1 k (λ q. p (omega arith)) ∙ sym (number-accepted a k x)
    by (at-refused x y) = sym (number-refused a k x y)
    by (at-kind x y) = only-elsewhere r.number 1 k (λ q. omega arith) ∙ sym (number-kind a k x y)
    by (at-sectors x) = only-elsewhere r.number 1 k (λ q. omega arith) ∙ sym (number-sectors a k x)
    by (at-free x) = only-elsewhere r.number 1 k (λ q. omega arith) ∙ sym (number-free a k x)
    by (at_class x) = only-elsewhere r.number 1 k (λ q. omega arith) ∙ sym (number_class a k x)

-- ---- an accepted one: itself, its sectors, and its files

number-of_accepted : (n : ℕ) (v : Directory) (k : ℕ)
    → only 0 1 k + only 97 (sectors_among v slots) k + only 98 (free n v) k + number_at (files_report v slots) k ≡ number_at (accepted_report n v) k
unfolding accepted_report files_report
number-of_accepted n v k = by (place_of_number k)
  where
    a : Numbers
    a = accepted_report n v

    b : Numbers
    b = files_report v slots

    sectors : ℕ
    sectors = sectors_among v slots

    no0 : (k ≡ 0 → ⊥) → only 0 1 k ≡ 0
    no0 h = only-elsewhere 0 1 k h

    no97 : (k ≡ 97 → ⊥) → only 97 sectors k ≡ 0
    no97 h = only-elsewhere 97 sectors k h

    no98 : (k ≡ 98 → ⊥) → only 98 (free n v) k ≡ 0
    no98 h = only-elsewhere 98 (free n v) k h

    by : NumberPlace k → only 0 1 k + only 97 sectors k + only 98 (free n v) k + number_at b k ≡ number_at a k
    by (at-accepted x) = rw (only-there 0 1 k x, no97 (λ q. omega arith), no98 (λ q. omega arith), number-accepted b k x, number-accepted a k x)
    by (at-refused x y) = rw (no0 (λ q. omega arith), no97 (λ q. omega arith), no98 (λ q. omega arith), number-refused b k x y, number-refused a k x y)
    by (at-kind x y) = rw (no0 (λ q. omega arith), no97 (λ q. omega arith), no98 (λ q. omega arith), number-kind b k x y, number-kind a k x y) (omega arith)
    by (at-sectors x) = rw (no0 (λ q. omega arith), only-there 97 sectors k x, no98 (λ q. omega arith), number-sectors b k x, number-sectors a k x) (omega arith)
    by (at-free x) = rw (no0 (λ q. omega arith), no97 (λ q. omega arith), only-there 98 (free n v) k x, number-free b k x, number-free a k x) (omega arith)
    by (at_class x) = rw (no0 (λ q. omega arith), no97 (λ q. omega arith), no98 (λ q. omega arith), number_class b k x, number_class a k x) (omega arith)

-- ---- as the code meets them: x is what the check answers

-- what is known of an accepted disk and its survey
pub record Taken (d : List ℕ) (s : Survey) : Type 0 where
  pub fine : check_view (view d) ≡ none
  pub sectors : s.used.count ≡ sectors_among (directory d) slots
  pub few : s.used.count ≤ 1560
  pub files : s.files ≡ live_among (directory d) slots
  pub used : s.used ≡ used_map (tracks_of d) (directory d)

module _ (d : List ℕ) (x : Result Survey Refused) (w : Examined d x) where
  pub taken : (s : Survey) → x ≡ Ok s → Taken d s
  unfolding check_disk used_map counted
  taken s e =
      let z = examined_ok d x s w e in
      let b : s.used.count ≡ bits_of (union (directory d) slots) = ap (λ (m : UsedMap). m.count) z.1 in
      let a : survey (tracks_of d) (directory d) ≡ none = ap₂ survey (sym (view_extra d)) (sym (view-slots d)) ∙ survey-accepts (view d) z.0 in
      record {
        fine = z.0;
        sectors = b ∙ used-sectors (tracks_of d) (directory d) a slots (omega arith);
        few = omega (arith, bits_le (union (directory d) slots));
        files = z.2;
        used = z.1;
      }

  module _ (l : List ℕ) (long : length l ≡ 111) (bound : (k : ℕ) → get_or l k 0 < 2 ^ 32) where
    pub counts_refused : (r : Refused) → x ≡ Err r → {n : ℕ} → n ≡ refusal_number r.reason → n ≤ last_number
        → {l' : List ℕ} → l' ≡ raised_at l n 1 → l' ≡ raised l (number_at (report_of (view d)))
    unfolding check_disk
    counts_refused r e {n} p h {l'} q =
        let z : check_view (view d) ≡ some (refusal_of r) = examined_err d x r w e in
        let one = raised-more l (λ k. 0) l (raised-none l long bound) (refusal_number r.reason) 1 (omega arith) (q ∙ ap (λ (j : ℕ). raised_at l j 1) p) in
        raised_is l (number_at (report_of (view d))) l'
        (raised-same l (λ k. 0 + only (refusal_number r.reason) 1 k) (number_at (report_of (view d))) l' one
        (λ k m. zero-plus _ ∙ number_of_refused (refusal_of r) (positive r.reason) (omega arith) k ∙ ap (λ (a : Numbers). number_at a k) (sym (report_refused (view d) (refusal_of r) z))))
      where
        zero-plus : (a : ℕ) → 0 + a ≡ a
        zero-plus a = omega arith

    pub counts_accepted : (s : Survey) → Taken d s → {f : ℕ} → f ≡ free_of s.used → {l' l'' : List ℕ}
        → l' ≡ raised_at (raised_at (raised_at l 0 1) 97 s.used.count) 98 f → l'' ≡ raised l' (number_at (files_report (directory d) slots)) → l'' ≡ raised l (number_at (report_of (view d)))
    unfolding free
    counts_accepted s t {f} p {l'} {l''} q o =
        raised_is l (number_at (report_of (view d))) l'' (raised-same l _ (number_at (report_of (view d))) l'' (raised-twice l _ _ l' l'' third o) same)
      where
        v : Directory
        v = directory d

        sectors : ℕ
        sectors = s.used.count

        first : Raised l (λ k. 0 + only 0 1 k) (raised_at l 0 1)
        first = raised-more l (λ k. 0) l (raised-none l long bound) 0 1 (omega arith) refl

        second : Raised l (λ k. 0 + only 0 1 k + only 97 sectors k) (raised_at (raised_at l 0 1) 97 sectors)
        second = raised-more l (λ k. 0 + only 0 1 k) _ first 97 sectors (omega arith) refl

        third : Raised l (λ k. 0 + only 0 1 k + only 97 sectors k + only 98 f k) l'
        third = raised-more l (λ k. 0 + only 0 1 k + only 97 sectors k) _ second 98 f (omega arith) q

        is_free_lem : f ≡ free (tracks_of d) v
        is_free_lem = p ∙ ap free_of t.used

        same : (k : ℕ) → k < 111 → 0 + only 0 1 k + only 97 sectors k + only 98 f k + number_at (files_report v slots) k ≡ number_at (report_of (view d)) k
        same k m =
            ap (λ (a : ℕ). a + only 97 sectors k + only 98 f k + number_at (files_report v slots) k) (zero-plus (only 0 1 k))
            ∙ ap₂ (λ (a b : ℕ). only 0 1 k + only 97 a k + only 98 b k + number_at (files_report v slots) k) t.sectors is_free_lem
            ∙ number-of_accepted (tracks_of d) v k
            ∙ ap₂ (λ (n : ℕ) (v : Directory). number_at (accepted_report n v) k) (sym (view_extra d)) (sym (view-slots d))
            ∙ ap (λ (a : Numbers). number_at a k) (sym (report_accepted (view d) t.fine))
          where
            zero-plus : (a : ℕ) → 0 + a ≡ a
            zero-plus a = omega arith
