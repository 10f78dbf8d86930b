-- The files of a disk, counted slot by slot.
use Prim.Native.Nat.{ℕ, zero, suc, ◌+◌, ◌-◌, ◌^◌, ◌≤◌, ◌<◌}
use mathlib.Core.Path.{◌≡◌, refl, sym, ap, ap₂, ◌∙◌}
use mathlib.Core.Bool.{Bool, true, false, cond}
use mathlib.Core.List.{List}
use mathlib.Core.Option.{none, some}
use native.Mathlib.Nat.{add-zero, add-suc}
use native.Mathlib.Numerals.{add-one}
use native.Mathlib.Omega.{arith}
use lib.Dec.{eqb}
use lib.ListN.{length, get_or}
use Rattle.buffers.specs.Bytes.{count}
use Rattle.buffers.proofs.Counts.{count-more}
use Rattle.slots.specs.Slot.{kind_of, count_of}
use Rattle.directory.specs.Places.{slots}
use Rattle.directory.specs.Directory.{fold_option, Directory, live_among}
use Rattle.directory.proofs.Live.{among_none, among_dead, among_live, among_rest}
use Rattle.reports.specs.Numbers.{in_class, files_among, files_report, Numbers, number_at}
use Rattle.reports.proofs.Classes.{class_only}
use Rattle.reports.proofs.Places.{NumberPlace, at-accepted, at-refused, at-kind, at-sectors, at-free, at_class, place_of_number, number-accepted, number-refused, number-kind, number-sectors, number-free, number_class, only, only-elsewhere, only_from}
use Rattle.reports.specs.Calls.{raised_at, raised}
use Rattle.reports.proofs.Raised.{Raised, raised-none, raised-more, raised-same, raised_is}

module _ (v : Directory) (i : ℕ) where
  pub files-none : (p : List ℕ → Bool) → v i ≡ none → files_among v (i + 1) p ≡ files_among v i p
  unfolding files_among
  files-none p e = count-more i (λ i. fold_option false p (v i)) ∙ rw e (omega arith)

  pub files_one : (p : List ℕ → Bool) (s : List ℕ) → v i ≡ some s → files_among v (i + 1) p ≡ files_among v i p + cond (p s) 1 0
  unfolding files_among
  files_one p s e = count-more i (λ i. fold_option false p (v i)) ∙ rw e

  -- a slot that holds no file changes no number
  pub number_dead : v i ≡ none → (k : ℕ) → number_at (files_report v (i + 1)) k ≡ number_at (files_report v i) k
  unfolding files_report
  number_dead e k = by (place_of_number k)
    where
      a : Numbers
      a = files_report v (i + 1)

      b : Numbers
      b = files_report v i

      by : NumberPlace k → number_at a k ≡ number_at b k
      by (at-accepted h) = number-accepted a k h ∙ sym (number-accepted b k h)
      by (at-refused h l) = number-refused a k h l ∙ sym (number-refused b k h l)
      by (at-kind h l) = number-kind a k h l ∙ files-none (λ s. eqb (k - 33) (kind_of s)) e ∙ sym (number-kind b k h l)
      by (at-sectors h) = number-sectors a k h ∙ sym (number-sectors b k h)
      by (at-free h) = number-free a k h ∙ sym (number-free b k h)
      by (at_class h) = number_class a k h ∙ files-none (λ s. in_class (k - 99) (count_of s)) e ∙ sym (number_class b k h)

  -- a file counts once by its kind and once by its class
  pub number-live : (s : List ℕ) → v i ≡ some s → (c : ℕ) → in_class c (count_of s) ≡ true → c < 12 → (k : ℕ) → k < 111
      → number_at (files_report v (i + 1)) k ≡ number_at (files_report v i) k + only (33 + kind_of s) 1 k + only (99 + c) 1 k
  unfolding files_report
  number-live s e c p h k m = by (place_of_number k)
    where
      a : Numbers
      a = files_report v (i + 1)

      b : Numbers
      b = files_report v i

      kind : ℕ
      kind = kind_of s

      few : kind < 64
      few = omega arith

      -- at a place of neither
      other : number_at a k ≡ number_at b k → (k ≡ 33 + kind → ⊥) → (k ≡ 99 + c → ⊥) → number_at a k ≡ number_at b k + only (33 + kind) 1 k + only (99 + c) 1 k
      other w x y = rw (only-elsewhere (33 + kind) 1 k x, only-elsewhere (99 + c) 1 k y) (omega arith)

      by : NumberPlace k → number_at a k ≡ number_at b k + only (33 + kind) 1 k + only (99 + c) 1 k
      by (at-accepted x) = other (number-accepted a k x ∙ sym (number-accepted b k x)) (λ q. omega arith) (λ q. omega arith)
      by (at-refused x y) = other (number-refused a k x y ∙ sym (number-refused b k x y)) (λ q. omega arith) (λ q. omega arith)
      by (at-sectors x) = other (number-sectors a k x ∙ sym (number-sectors b k x)) (λ q. omega (arith, few)) (λ q. omega arith)
      by (at-free x) = other (number-free a k x ∙ sym (number-free b k x)) (λ q. omega (arith, few)) (λ q. omega arith)
      by (at-kind x y) =
          let w : number_at a k ≡ number_at b k + only (33 + kind) 1 k =
          number-kind a k x y ∙ files_one (λ s. eqb (k - 33) (kind_of s)) s e
          ∙ ap₂ ◌+◌ (sym (number-kind b k x y)) (only_from 33 kind k x refl) in
          w ∙ rw (only-elsewhere (99 + c) 1 k (λ q. omega arith)) (omega arith)
      by (at_class x) =
          let w : number_at a k ≡ number_at b k + only (99 + c) 1 k =
          number_class a k x ∙ files_one (λ s. in_class (k - 99) (count_of s)) s e
          ∙ ap₂ ◌+◌ (sym (number_class b k x)) (only_from 99 c k x (class_only c (k - 99) (count_of s) h (omega arith) p)) in
          w ∙ rw (only-elsewhere (33 + kind) 1 k (λ q. omega (arith, few))) (omega arith)

-- ---- as the code counts them: l is the report r with the files of the first i slots

pub record FilesLoop (v : Directory) (r l : List ℕ) (seen i : ℕ) : Type 0 where
  pub few : i ≤ slots
  pub live : seen ≡ live_among v i
  pub numbers : Raised r (number_at (files_report v i)) l

number-none : (v : Directory) (k : ℕ) → number_at (files_report v 0) k ≡ 0
unfolding files_report files_among count
number-none v k = by (place_of_number k)
  where
    a : Numbers
    a = files_report v 0

    by : NumberPlace k → number_at a k ≡ 0
    by (at-accepted h) = number-accepted a k h
    by (at-refused h l) = number-refused a k h l
    by (at-kind h l) = number-kind a k h l
    by (at-sectors h) = number-sectors a k h
    by (at-free h) = number-free a k h
    by (at_class h) = number_class a k h

pub tallied_none : (v : Directory) (r : List ℕ) → length r ≡ 111 → ((k : ℕ) → get_or r k 0 < 2 ^ 32) → FilesLoop v r r 0 0
tallied_none v r l h = record {
  few = omega arith;
  live = sym (among_none v);
  numbers = raised-same r (λ k. 0) (number_at (files_report v 0)) r (raised-none r l h) (λ k m. sym (number-none v k));
}

module _ (v : Directory) (r l : List ℕ) (seen i : ℕ) (w : FilesLoop v r l seen i) (more : i < slots) where
  pub tallied_dead : v i ≡ none → FilesLoop v r l seen (i + 1)
  tallied_dead e = record {
    few = omega arith;
    live = w.live ∙ sym (among_dead v i e);
    numbers = raised-same r (number_at (files_report v i)) (number_at (files_report v (i + 1))) l w.numbers (λ k m. sym (number_dead v i e k));
  }

  pub tallied_live : (s : List ℕ) → v i ≡ some s → {kind n c : ℕ} → kind ≡ kind_of s → n ≡ count_of s → in_class c n ≡ true → c < 12
      → {l' l'' : List ℕ} → l' ≡ raised_at l (33 + kind) 1 → l'' ≡ raised_at l' (99 + c) 1 → FilesLoop v r l'' (seen + 1) (i + 1)
  tallied_live s e {kind} {n} {c} p q t h {l'} {l''} x y = record {
    few = omega arith;
    live = ap (λ (n : ℕ). n + 1) w.live ∙ sym (among_live v i s e);
    numbers = raised-same r _ (number_at (files_report v (i + 1))) l'' second (λ k m. sym (number-live v i s e c (ap (in_class c) (sym q) ∙ t) h k m));
  }
    where
      f : ℕ → ℕ
      f = number_at (files_report v i)

      first : Raised r (λ k. f k + only (33 + kind_of s) 1 k) l'
      first = raised-more r f l w.numbers (33 + kind_of s) 1 (omega arith) (x ∙ ap (λ (j : ℕ). raised_at l (33 + j) 1) p)

      second : Raised r (λ k. f k + only (33 + kind_of s) 1 k + only (99 + c) 1 k) l''
      second = raised-more r (λ k. f k + only (33 + kind_of s) 1 k) l' first (99 + c) 1 (omega arith) y

-- past the last file there is none to count
files-rest : (v : Directory) (p : List ℕ → Bool) (i m : ℕ) → ((j : ℕ) → i ≤ j → j < i + m → v j ≡ none) → files_among v (i + m) p ≡ files_among v i p
files-rest v p i zero h = rw (add-zero i)
files-rest v p i (suc m) h =
    ap (λ (n : ℕ). files_among v n p) (add-suc i m ∙ sym (add-one (i + m))) ∙ files-none v (i + m) p (h (i + m) (omega arith) (omega arith))
    ∙ files-rest v p i m (λ j a b. h j a (omega arith))

report_rest : (v : Directory) (i : ℕ) → i ≤ slots → ((j : ℕ) → i ≤ j → j < slots → v j ≡ none) → files_report v i ≡ files_report v slots
unfolding files_report
report_rest v i h dead =
    λ q. record {
      accepted = 0;
      refused = λ r. 0;
      kinds = λ kind. same (λ s. eqb kind (kind_of s)) q;
      sectors = 0;
      free = 0;
      classes = λ c. same (λ s. in_class c (count_of s)) q;
    }
  where
    same : (p : List ℕ → Bool) → files_among v i p ≡ files_among v slots p
    same p =
        let e : i + (slots - i) ≡ slots = omega arith in
        sym (files-rest v p i (slots - i) (λ j a b. dead j a (omega arith))) ∙ ap (λ (n : ℕ). files_among v n p) e

pub tallied_all : (v : Directory) (r l : List ℕ) (seen i files : ℕ) → FilesLoop v r l seen i → files ≡ live_among v slots → files ≤ seen
    → l ≡ raised r (number_at (files_report v slots))
tallied_all v r l seen i files w e h =
    raised_is r (number_at (files_report v i)) l w.numbers
    ∙ ap (λ (n : Numbers). raised r (number_at n)) (report_rest v i w.few (λ j a b. among_rest v i slots w.few (omega (arith, w.live)) j a b))
