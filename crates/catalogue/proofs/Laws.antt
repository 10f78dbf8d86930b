-- Laws of the text: the lines of the slots one after another, the text as a whole, and what the call gives.
use Prim.Native.Nat.{ℕ, zero, suc, ◌+◌, ◌-◌, ◌*◌, ◌≤◌, ◌<◌}
use mathlib.Core.Path.{◌≡◌, refl, sym, ap, ◌∙◌}
use mathlib.Core.Bool.{Bool, true, false, cond, not, ◌||◌, true≢false}
use mathlib.Core.List.{List, [], ◌∷◌, ◌++◌, append-nil}
use mathlib.Core.Logic.{⊎_elim}
use mathlib.Core.Option.{Option, none, some}
use Rattle.std.specs.Prelude.{Result, Ok, Err}
use native.Mathlib.Nat.{add-zero, add-suc}
use native.Mathlib.Numerals.{add-one}
use native.Mathlib.Omega.{arith}
use borrow.Author.Tests.{eqb-true, eq-eqb, ne_eqb, lt-ltb, le-ltb}
use lib.Dec.{eqb, leb, ltb}
use lib.ListN.{length, get_or, take, length-append}
use Rattle.buffers.specs.Bytes.{part, put}
use Rattle.buffers.proofs.Lists.{below_or_not, part-whole, part-long, part-put}
use Rattle.refusals.specs.Order.{refuse, Reply, ◌else◌, ◌when◌, row}
use Rattle.refusals.specs.Answers.{Outcome, refused, done, refusal_of, reply_of, outcome_of, Out, out, filled}
use Rattle.refusals.specs.declared.Reason.TheVariants.{NotAnImage, TracksOutOfRange}
use Rattle.refusals.specs.declared.Refused.{Refused}
use Rattle.refusals.proofs.First.{else_none, rows_clear}
use Rattle.slots.specs.Slot.{is_live, hidden, count_of}
use Rattle.slots.specs.Tracks.{tracks_by}
use Rattle.slots.proofs.Tracks.{data_few}
use Rattle.text_lines.specs.Lines.{line, slot_line, free_line, refusal_line}
use Rattle.text_lines.specs.Written.{Wrote}
use Rattle.text_lines.proofs.Laws.{wrote_then, line-most, length-free, decimal-most, refusal-most}
use Rattle.directory.specs.Places.{slot_count, slots}
use Rattle.directory.specs.Directory.{fold_option, Directory, label_of, tracks_of, slots_read, directory, slot_or}
use Rattle.surveys.specs.Survey.{survey, counted, used_map, free_of, free}
use Rattle.surveys.specs.Steps.{Surveyed}
use Rattle.surveys.specs.declared.Survey.{Survey}
use Rattle.directory.proofs.Ends.{read-most}
use Rattle.directory.proofs.Live.{label-front, directory_base, directory-front, directory-read, directory-unread}
use Rattle.directory.proofs.Label.{label-byte}
use Rattle.surveys.proofs.Pass.{survey_passed, surveyed_ok, surveyed_err}
use Rattle.catalogue.specs.Text.{lines, more_tracks, reply_to, text_by, text, catalogue_of}

-- of the lines of the first k slots, the last is that of the bytes read there
pub lines_more : (d : List ℕ) (k : ℕ) → k < slots_read d → lines (directory d) (k + 1) ≡ lines (directory d) k ++ slot_line (k + 1) (slot_or d k)
unfolding lines slot_line
lines_more d k h = rw (add-one, directory-read d k h) (ap (λ (l : List ℕ). lines (directory d) k ++ l) (by (is_live (slot_or d k)) (slot_or d k)))
  where
    by : (t : Bool) (s : List ℕ) → fold_option [] (λ s. cond (hidden s) [] (line (suc k) s)) (cond t (some s) none) ≡ cond t (cond (hidden s) [] (line (suc k) s)) []
    by true s = refl
    by false s = refl

-- after the slots that are read there is no line
lines_rest : (v : Directory) (i m : ℕ) → ((j : ℕ) → i ≤ j → v j ≡ none) → lines v (i + m) ≡ lines v i
unfolding lines
lines_rest v i zero h = rw add-zero
lines_rest v i (suc m) h = rw (add-suc i m, h (i + m) (omega arith), append-nil) (lines_rest v i m h)

pub lines-read : (d : List ℕ) → lines (directory d) (slots_read d) ≡ lines (directory d) slots
lines-read d =
    let e : slots_read d + (slots - slots_read d) ≡ slots = omega (arith, read-most d) in
    sym (ap (lines (directory d)) (sym e) ∙ lines_rest (directory d) (slots_read d) (slots - slots_read d) (directory-unread d))

-- with no track beyond four those of 80 slots are all
lines_base : (d : List ℕ) → tracks_of d ≡ 0 → lines (directory d) slots ≡ lines (directory d) (slot_count 0)
unfolding slot_count
lines_base d z = lines_rest (directory d) 80 698 (directory_base d z)

pub lines_turn : (d : List ℕ) (k : ℕ) {s p e f : List ℕ} {a b : ℕ} → k < slots_read d → s ≡ slot_or d k → Wrote p 0 (lines (directory d) k) e a
    → Wrote e a (slot_line (k + 1) s) f b → Wrote p 0 (lines (directory d) (k + 1)) f b
lines_turn d k h q w x = rw (lines_more d k h, ← q) (wrote_then w x)

pub lines_none : (v : Directory) → lines v 0 ≡ []
unfolding lines
lines_none v = refl

pub lines-most : (v : Directory) (k : ℕ) → k ≤ 80 → length (lines v k) ≤ 24 * k
unfolding lines
lines-most v zero h = omega arith
lines-most v (suc k) h =
    omega (arith, lines-most v k (omega arith), length-append (lines v k) (fold_option [] (λ s. cond (hidden s) [] (line (suc k) s)) (v k)), by (v k))
  where
    one : (t : Bool) (s : List ℕ) → length (cond t [] (line (suc k) s)) ≤ 24
    one true s = omega arith
    one false s = line-most (suc k) s (omega arith)

    by : (o : Option (List ℕ)) → length (fold_option [] (λ s. cond (hidden s) [] (line (suc k) s)) o) ≤ 24
    by none = omega arith
    by (some s) = one (hidden s) s

-- ---- the whole text

pub text-most : (d : List ℕ) → length (text d) ≤ 1930
unfolding text slot_count
text-most d = by (reply_to d)
  where
    by : (o : Reply) → length (text_by o (directory d)) ≤ 1930
    by (some r) = omega (arith, refusal-most r)
    by none =
        let n = free 0 (directory d) in
        omega (arith, length-append (lines (directory d) 80) (free_line n), lines-most (directory d) 80 (omega arith), length-free n, decimal-most n)

-- ---- the number of tracks, as the code meets byte 255

pub no_byte : (d : List ℕ) {n : ℕ} → n ≡ get_or d 255 0 → n ≡ 0 → false ≡ more_tracks (label_of d 255)
unfolding more_tracks
no_byte d {n} e h = sym (ap more_tracks (label-byte d ∙ sym e) ∙ rw (eq-eqb n 0 h))

pub more_byte : (d : List ℕ) {n : ℕ} → n ≡ get_or d 255 0 → (n ≡ 0 → ⊥) → not (eqb n 255) ≡ more_tracks (label_of d 255)
unfolding more_tracks
more_byte d {n} e h = sym (ap more_tracks (label-byte d ∙ sym e) ∙ rw (ne_eqb n 0 h))

no_tracks : (d : List ℕ) → more_tracks (label_of d 255) ≡ false → tracks_of d ≡ 0
unfolding more_tracks tracks_of tracks_by
no_tracks d e = by (eqb (label_of d 255) 0) refl (eqb (label_of d 255) 255) refl e
  where
    by : (t : Bool) → eqb (label_of d 255) 0 ≡ t → (u : Bool) → eqb (label_of d 255) 255 ≡ u → not (t || u) ≡ false
        → cond (leb (label_of d 255) 35) (label_of d 255) 0 ≡ 0
    by true p u q w = rw (eqb-true (label_of d 255) 0 p)
    by false p true q w = rw (eqb-true (label_of d 255) 255 q)
    by false p false q w = absurd (true≢false w)

-- where the directory is accepted there are none
plain_tracks : (d : List ℕ) → reply_to d ≡ none → tracks_of d ≡ 0
unfolding reply_to
plain_tracks d e =
    let a = else_none (row 1 0 (ltb (length d) 40960)) _ e in
    let b = else_none (row 24 0 (more_tracks (label_of d 255))) (survey 0 (directory d)) a.1 in
    no_tracks d (rows_clear 0 ((24 when more_tracks (label_of d 255)) ∷ []) b.0).0

-- ---- what the directory is refused for, or its survey

module _ (d : List ℕ) (r : Result Survey Refused) where
  pub surveyed-short : length d < 40960 → r ≡ Err (record { reason = NotAnImage; slot = 0 }) → Surveyed (reply_to d) d r
  unfolding reply_to
  surveyed-short h e = rw e (record { reply = rw (lt-ltb (length d) 40960 h); used = tt; files = tt })

  pub surveyed-tracks : 40960 ≤ length d → more_tracks (label_of d 255) ≡ true → r ≡ Err (record { reason = TracksOutOfRange; slot = 0 }) → Surveyed (reply_to d) d r
  unfolding reply_to
  surveyed-tracks h t e = rw e (record { reply = rw (le-ltb (length d) 40960 h, t); used = tt; files = tt })

  pub surveyed-slots : 40960 ≤ length d → more_tracks (label_of d 255) ≡ false → Surveyed (survey (tracks_of d) (directory d)) d r → Surveyed (reply_to d) d r
  unfolding reply_to
  surveyed-slots h t w = record { reply = rw (le-ltb (length d) 40960 h, t) (w.reply ∙ ap (λ (n : ℕ). survey n (directory d)) (no_tracks d t)); used = w.used; files = w.files }

  pub text-refused : Surveyed (reply_to d) d r → (f : Refused) → r ≡ Err f → refusal_line (refusal_of f) ≡ text d
  unfolding text
  text-refused w f e = rw (surveyed_err (reply_to d) d r f w e)

  pub text-accepted : Surveyed (reply_to d) d r → (s : Survey) → r ≡ Ok s → (n : ℕ) → n ≡ free_of s.used → lines (directory d) slots ++ free_line n ≡ text d
  unfolding text free
  text-accepted w s e n q =
      let z = surveyed_ok (reply_to d) d r s w e in
      let t = plain_tracks d z.0 in
      let f : n ≡ free_of (used_map 0 (directory d)) = q ∙ ap free_of (z.1 ∙ ap (λ (n : ℕ). used_map n (directory d)) t) in
      rw (z.0, f, lines_base d t)

text-long : (d : List ℕ) → 40960 ≤ length d → text d ≡ text (part 0 40960 d)
unfolding text reply_to
text-long d h = by (more_tracks (label_of d 255)) refl
  where
    l : length (part 0 40960 d) ≡ 40960
    l = part-long 0 40960 d (omega arith)

    b : label_of (part 0 40960 d) 255 ≡ label_of d 255
    b = ap (λ (f : ℕ → ℕ). f 255) (label-front d)

    by : (t : Bool) → more_tracks (label_of d 255) ≡ t → text d ≡ text (part 0 40960 d)
    by true e = rw (le-ltb (length d) 40960 h, l, b, e)
    by false e = rw (le-ltb (length d) 40960 h, l, b, e, ← (directory-front d (no_tracks d e)))

-- "later bytes ignored"
pub text-front : (d : List ℕ) → text d ≡ text (part 0 40960 d)
text-front d = ⊎_elim (λ (h : length d < 40960). sym (ap text (part-whole d 40960 (omega arith)))) (λ h. text-long d h) (below_or_not (length d) 40960)

-- the sector counts and the free count of a listing: none has more than four digits
pub count_most : (v : Directory) → survey 0 v ≡ none → (i : ℕ) (s : List ℕ) → i < slots → v i ≡ some s → count_of s ≤ 1560
count_most v e i s h q = omega (arith, (survey_passed 0 v e i s h q).most, data_few 0)

pub free-most : (v : Directory) → free 0 v ≤ 1560
unfolding free free_of used_map counted
free-most v = omega (arith, data_few 0)

-- ---- the call

pub catalogue_short : (d buf : List ℕ) → length buf < length (text d) → (o : Outcome) → o ≡ refused (refuse 20 0) → out o buf ≡ catalogue_of d buf
unfolding catalogue_of
catalogue_short d buf h o e = rw (e, lt-ltb (length buf) (length (text d)) h)

-- the call goes by the first 40,960 bytes alone
pub catalogue_front : (d buf : List ℕ) → catalogue_of d buf ≡ catalogue_of (part 0 40960 d) buf
unfolding catalogue_of
catalogue_front d buf = ap (λ (t : List ℕ). filled (row 20 0 (ltb (length buf) (length t))) (done (length t) 0) t buf) (text-front d)

-- the text as it stands at the front of a page
pub page-text : (d : List ℕ) {p e : List ℕ} {n : ℕ} → Wrote p 0 (text d) e n → 1930 ≤ length p → take n e ≡ text d
unfolding part
page-text d {p} {e} {n} w h =
    let q : n ≡ length (text d) = omega (arith, w.next, text-most d) in
    rw (q, w.page) (part-put p 0 (text d) (omega (arith, text-most d)))

pub catalogue_done : (d : List ℕ) {p e : List ℕ} {n : ℕ} (buf b : List ℕ) → Wrote p 0 (text d) e n → 1930 ≤ length p → n ≤ length buf → b ≡ put buf 0 (take n e)
    → out (done n 0) b ≡ catalogue_of d buf
unfolding catalogue_of
catalogue_done d {p} {e} {n} buf b w h k q =
    let l : n ≡ length (text d) = omega (arith, w.next, text-most d) in
    let t = page-text d w h in
    rw (le-ltb (length buf) (length (text d)) (omega arith), q, t, l)

pub catalogue_full : (d buf : List ℕ) → length (text d) ≤ length buf → catalogue_of d buf ≡ out (done (length (text d)) 0) (put buf 0 (text d))
unfolding catalogue_of
catalogue_full d buf h = rw (le-ltb (length buf) (length (text d)) h)

-- a buffer of 1,930 bytes is always long enough
pub catalogue_fits : (d buf : List ℕ) → 1930 ≤ length buf → catalogue_of d buf ≡ out (done (length (text d)) 0) (put buf 0 (text d))
catalogue_fits d buf h = catalogue_full d buf (omega (arith, text-most d))

done_within : (d buf b : List ℕ) (n f : ℕ) → out (done n f) b ≡ catalogue_of d buf → n ≤ length buf
done_within d buf b n f e =
    ⊎_elim
    (λ (h : length buf < length (text d)).
    let q : done n f ≡ refused (refuse 20 0) = ap (λ (o : Out). o.outcome) (e ∙ sym (catalogue_short d buf h (refused (refuse 20 0)) refl)) in
    let z : ◌≡◌ {A = ℕ} 0 1 = cc in
    absurd (omega arith))
    (λ (h : length (text d) ≤ length buf).
    let q : done n f ≡ done (length (text d)) 0 = ap (λ (o : Out). o.outcome) (e ∙ catalogue_full d buf h) in
    let l : n ≡ length (text d) = cc in
    omega arith)
    (below_or_not (length buf) (length (text d)))

-- a length that is answered lies within the buffer
pub answer_within : (d buf b : List ℕ) (r : Result ℕ Refused) (n : ℕ) → r ≡ Ok n → out (outcome_of r) b ≡ catalogue_of d buf → n ≤ length buf
answer_within d buf b r n p e = done_within d buf b n 0 (ap (λ (a : Result ℕ Refused). out (outcome_of a) b) (sym p) ∙ e)
