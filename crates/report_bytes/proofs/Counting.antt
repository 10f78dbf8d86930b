-- Numbers raised one after the other in a report's bytes, and what the calls then leave.
use Rattle.std.proofs.Common.{◌≡◌, ℕ, ◌+◌, ◌<◌, ◌≤◌, true, List, get_or, ap, ◌∙◌}
use mathlib.Core.Option.{none, some}
use Rattle.slots.specs.Slot.{kind_of, count_of}
use Rattle.directory.specs.Places.{slots}
use Rattle.directory.specs.Directory.{Directory, live_among}
use Rattle.reports.specs.Numbers.{in_class, files_report, number_at}
use Rattle.reports.specs.Calls.{raised_at, raised}
use Rattle.reports.proofs.Raised.{AddLoop, added_none, added_more, added_all}
use Rattle.reports.proofs.Files.{FilesLoop, tallied_none, tallied_dead, tallied_live, tallied_all}
use Rattle.report_bytes.specs.Bytes.{report_numbers_in, SameRest, Numbered}
use Rattle.report_bytes.proofs.Fours.{length-numbers, numbers-small}
use Rattle.report_bytes.proofs.Raising.{rest-none, rest_then}

-- three raises
pub three : (b : List ℕ) (x y : ℕ) {b' b'' b''' : List ℕ} → Numbered b b' (raised_at (report_numbers_in b) 0 1) → Numbered b' b'' (raised_at (report_numbers_in b') 97 x)
    → Numbered b'' b''' (raised_at (report_numbers_in b'') 98 y) → Numbered b b''' (raised_at (raised_at (raised_at (report_numbers_in b) 0 1) 97 x) 98 y)
three b x y p q r = record {
  same = rest_then (rest_then p.same q.same) r.same;
  numbers = r.numbers ∙ ap (λ (l : List ℕ). raised_at l 98 y) (q.numbers ∙ ap (λ (l : List ℕ). raised_at l 97 x) p.numbers);
}

-- ---- the files of the first i slots are counted

pub record CountLoop (v : Directory) (b b' : List ℕ) (seen i : ℕ) : Type 0 where
  pub files : FilesLoop v (report_numbers_in b) (report_numbers_in b') seen i
  pub same : SameRest b b'

pub counting_none : (v : Directory) (b : List ℕ) → ((k : ℕ) → get_or b k 0 < 256) → CountLoop v b b 0 0
counting_none v b h = record { files = tallied_none v (report_numbers_in b) (length-numbers b) (numbers-small b h); same = rest-none b }

module _ (v : Directory) (b b' : List ℕ) (seen i : ℕ) (w : CountLoop v b b' seen i) (more : i < slots) where
  pub counting_dead : v i ≡ none → CountLoop v b b' seen (i + 1)
  counting_dead e = record { files = tallied_dead v _ _ seen i w.files more e; same = w.same }

  pub counting_live : (s : List ℕ) → v i ≡ some s → {kind n c : ℕ} → kind ≡ kind_of s → n ≡ count_of s → in_class c n ≡ true → c < 12 → {b'' b''' : List ℕ}
      → Numbered b' b'' (raised_at (report_numbers_in b') (33 + kind) 1) → Numbered b'' b''' (raised_at (report_numbers_in b'') (99 + c) 1) → CountLoop v b b''' (seen + 1) (i + 1)
  counting_live s e p q t h x y = record {
    files = tallied_live v _ _ seen i w.files more s e p q t h x.numbers y.numbers;
    same = rest_then w.same (rest_then x.same y.same);
  }

pub counting_all : (v : Directory) (b b' : List ℕ) (seen i files : ℕ) → CountLoop v b b' seen i → files ≡ live_among v slots → files ≤ seen
    → Numbered b b' (raised (report_numbers_in b) (number_at (files_report v slots)))
counting_all v b b' seen i files w e h = record { same = w.same; numbers = tallied_all v _ _ seen i files w.files e h }

-- ---- the first k numbers of another report are added

pub record JoinLoop (b other b' : List ℕ) (k : ℕ) : Type 0 where
  pub added : AddLoop (report_numbers_in b) (report_numbers_in other) (report_numbers_in b') k
  pub same : SameRest b b'

pub joining_none : (b other : List ℕ) → ((k : ℕ) → get_or b k 0 < 256) → JoinLoop b other b 0
joining_none b other h = record { added = added_none (report_numbers_in b) (report_numbers_in other) (length-numbers b) (numbers-small b h); same = rest-none b }

pub joining_more : (b other b' : List ℕ) (k : ℕ) → JoinLoop b other b' k → k < 111 → {x : ℕ} → x ≡ get_or (report_numbers_in other) k 0
    → {b'' : List ℕ} → Numbered b' b'' (raised_at (report_numbers_in b') k x) → JoinLoop b other b'' (k + 1)
joining_more b other b' k w h e p = record { added = added_more _ _ _ k w.added h e p.numbers; same = rest_then w.same p.same }

pub joining_all : (b other b' : List ℕ) (k : ℕ) → JoinLoop b other b' k → 111 ≤ k → Numbered b b' (raised (report_numbers_in b) (λ j. get_or (report_numbers_in other) j 0))
joining_all b other b' k w h = record { same = w.same; numbers = added_all _ _ _ k w.added h }
