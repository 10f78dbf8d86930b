-- Each check gives a refusal exactly when its row holds and none before it in the order does.
use Prim.Native.Nat.{ℕ, suc, ◌≤◌}
use mathlib.Core.Path.{◌≡◌, refl, sym, ap, ◌∙◌}
use mathlib.Core.Bool.{Bool, true, false, not, cond}
use mathlib.Core.List.{List, [], ◌++◌}
use mathlib.Core.Logic.{◌⊎◌, ◌≢◌, ⊎_elim}
use mathlib.Core.Option.{Option, none, some, some-ne-none}
use native.Mathlib.Omega.{arith}
use borrow.Author.Tests.{eqb-true, eqb-false, eq-eqb, ne_eqb}
use lib.Dec.{eqb}
use Rattle.refusals.specs.Order.{Refusal, refuse, Reply, ◌else◌, row, rows, scan, Row, RowsClear, FirstAt, LowestRow}
use Rattle.refusals.proofs.First.{else_none, else_some, rows_clear, clear_rows, rows-first, first_rows, scan-none, none-scan, scan_cong, scan-first, first-scan}
use Rattle.refusals.proofs.Lowest.{lacks, lowest-first, first_lacks}
use Rattle.geometry.specs.Disk.{image_size}
use Rattle.slots.specs.Slot.{directory_kind, slot_fields}
use Rattle.slots.specs.Rows.{directory_rows, file_rows, release_rows}
use Rattle.slots.specs.Tracks.{bad_tracks, data_count, in_directory}
use Rattle.slots.proofs.Tracks.{tracks-accepted, accepted-tracks, tracks_bad, bad_tracks_lem}
use Rattle.chains.specs.File.{File}
use Rattle.headers.specs.Header.{chain_pass_reply, chain_rows}
use Rattle.headers.proofs.Rows.{later-rises}
use Rattle.directory.specs.Places.{slots}
use Rattle.directory.specs.Directory.{fold_option}
use Rattle.surveys.specs.Survey.{shared_rows, rows_at, survey_at, survey_by}
use Rattle.surveys.proofs.Pass.{survey-rises}
use Rattle.disk.specs.View.{View, view, view_slots, view_tracks}
use Rattle.disk.specs.Check.{chain_at, check_by, check_view, check_disk}
use Rattle.disk.specs.Given.{TracksInRange, rows_by, rows9, rows11, AllClear, FirstRowAt, CheckGivesBy, CheckGives, by_length, by_tracks, by_slot, by_chain}

-- a pass over the live slots of a view
abbrev pub pass_at : View → (ℕ → File → List Row) → ℕ → Reply
pass_at l rs i = fold_option none (λ f. rows (suc i) (rs i f)) (l.files i)

abbrev pub pass : View → (ℕ → File → List Row) → Reply
pass l rs = scan slots (pass_at l rs)

module _ (l : View) (rs : ℕ → File → List Row) where
  pass_here : (i : ℕ) (f : File) → l.files i ≡ some f → pass_at l rs i ≡ rows (suc i) (rs i f)
  pass_here i f q = ap (fold_option none (λ f. rows (suc i) (rs i f))) q

  clear_at_lem : (i : ℕ) → ((f : File) → l.files i ≡ some f → RowsClear (rs i f)) → pass_at l rs i ≡ none
  clear_at_lem i h = by (l.files i) refl
    where
      by : (o : Option File) → l.files i ≡ o → fold_option none (λ f. rows (suc i) (rs i f)) o ≡ none
      by none q = refl
      by (some f) q = clear_rows (suc i) (rs i f) (h f q)

  pub pass_clear : pass l rs ≡ none → AllClear l rs slots
  pass_clear e j g h q = rows_clear (suc j) (rs j g) (sym (pass_here j g q) ∙ scan-none slots (pass_at l rs) e j h)

  pub clear_pass : AllClear l rs slots → pass l rs ≡ none
  clear_pass c = none-scan slots (pass_at l rs) (λ j h. clear_at_lem j (λ f q. c j f h q))

  pub pass_first : (r : Refusal) → pass l rs ≡ some r → FirstRowAt l rs r
  pass_first r e = by (l.files w.at) refl
    where
      w : FirstAt slots (pass_at l rs) r
      w = scan-first slots (pass_at l rs) r e

      by : (o : Option File) → l.files w.at ≡ o → FirstRowAt l rs r
      by none q = absurd (some-ne-none r (sym (sym (ap (fold_option none (λ f. rows (suc w.at) (rs w.at f))) q) ∙ w.here)))
      by (some f) q =
          let c = rows-first (suc w.at) (rs w.at f) r (sym (pass_here w.at f q) ∙ w.here) in
          record {
            at = w.at;
            below = w.below;
            file = f;
            here = q;
            slot = c.1;
            number = c.0;
            before = λ j g h p. rows_clear (suc j) (rs j g) (sym (pass_here j g p) ∙ w.before j h);
          }

  pub first_pass : (r : Refusal) → FirstRowAt l rs r → pass l rs ≡ some r
  first_pass r w =
      first-scan slots (pass_at l rs) r
      (record {
        at = w.at;
        below = w.below;
        before = λ k h. clear_at_lem k (λ f q. w.before k f h q);
        here = pass_here w.at w.file w.here ∙ first_rows (suc w.at) (rs w.at w.file) r.number w.number ∙ ap some (named r (suc w.at) w.slot);
      })
    where
      named : (r : Refusal) (s : ℕ) → r.slot ≡ s → ◌≡◌ {A = Refusal} (refuse r.number s) r
      named r s e = ap (refuse r.number) (sym e)

-- ---- a check as the passes over its rows

survey_pass : (release : Bool) (l : View) → survey_by release (view_tracks l) (view_slots l) ≡ pass l (rows_by release l)
unfolding survey_by survey_at view_slots
survey_pass release l = scan_cong slots (survey_at release (view_tracks l) (view_slots l)) (pass_at l (rows_by release l)) (λ j h. by j (l.files j))
  where
    by : (j : ℕ) (o : Option File)
        → fold_option none (λ s. rows (suc j) (rows_at release (view_tracks l) (view_slots l) j s)) (fold_option none (λ f. some f.bytes) o)
        ≡ fold_option none (λ f. rows (suc j) (rows_by release l j f)) o
    by j none = refl
    by j (some f) = refl

chain_pass : (l : View) → scan slots (chain_at l) ≡ pass l (rows11 l)
unfolding chain_at chain_pass_reply
chain_pass l = refl

pub check_passes : (release : Bool) (l : View) → check_by release l ≡ row 1 0 (not (eqb l.long image_size)) else row 24 0 (bad_tracks (l.label 255)) else pass l (rows_by release l) else pass l (rows11 l)
unfolding check_by
check_passes release l = rw (survey_pass release l, chain_pass l)

length_none : (l : View) → row 1 0 (not (eqb l.long image_size)) ≡ none → l.long ≡ image_size
length_none l e = by (eqb l.long image_size) refl e
  where
    by : (t : Bool) → eqb l.long image_size ≡ t → row 1 0 (not t) ≡ none → l.long ≡ image_size
    by true q w = eqb-true l.long image_size q
    by false q w = absurd (some-ne-none (refuse 1 0) w)

length_some : (l : View) (r : Refusal) → row 1 0 (not (eqb l.long image_size)) ≡ some r → (l.long ≡ image_size → ⊥) × (r ≡ refuse 1 0)
length_some l r e = by (eqb l.long image_size) refl e
  where
    by : (t : Bool) → eqb l.long image_size ≡ t → row 1 0 (not t) ≡ some r → (l.long ≡ image_size → ⊥) × (r ≡ refuse 1 0)
    by true q w = absurd (some-ne-none r (sym w))
    by false q w = (eqb-false l.long image_size q, cc)

tracks-none : (l : View) → row 24 0 (bad_tracks (l.label 255)) ≡ none → TracksInRange l
tracks-none l e = tracks-accepted (l.label 255) (by (bad_tracks (l.label 255)) e)
  where
    by : (t : Bool) → row 24 0 t ≡ none → t ≡ false
    by true w = absurd (some-ne-none (refuse 24 0) w)
    by false w = refl

tracks-some : (l : View) (r : Refusal) → row 24 0 (bad_tracks (l.label 255)) ≡ some r → (36 ≤ l.label 255) × (l.label 255 ≡ 255 → ⊥) × (r ≡ refuse 24 0)
tracks-some l r e = by (bad_tracks (l.label 255)) refl e
  where
    by : (t : Bool) → bad_tracks (l.label 255) ≡ t → row 24 0 t ≡ some r → (36 ≤ l.label 255) × (l.label 255 ≡ 255 → ⊥) × (r ≡ refuse 24 0)
    by true q w = let c = tracks_bad (l.label 255) q in (c.0, c.1, cc)
    by false q w = absurd (some-ne-none r (sym w))

pub record NoRowHolds (release : Bool) (l : View) : Type 0 where
  pub long : l.long ≡ image_size
  pub tracks : TracksInRange l
  pub survey : AllClear l (rows_by release l) slots
  pub chains : AllClear l (rows11 l) slots

module _ (release : Bool) (l : View) where
  -- the rows after 24, and after 1
  abbrev after24 : Reply
  after24 = pass l (rows_by release l) else pass l (rows11 l)

  abbrev after1 : Reply
  after1 = row 24 0 (bad_tracks (l.label 255)) else after24

  -- no row holds
  pub accepted_by : check_by release l ≡ none → NoRowHolds release l
  accepted_by e =
      let a = else_none (row 1 0 (not (eqb l.long image_size))) after1 (sym (check_passes release l) ∙ e) in
      let c = else_none (row 24 0 (bad_tracks (l.label 255))) after24 a.1 in
      let b = else_none (pass l (rows_by release l)) (pass l (rows11 l)) c.1 in
      record {
        long = length_none l a.0;
        tracks = tracks-none l c.0;
        survey = pass_clear l (rows_by release l) b.0;
        chains = pass_clear l (rows11 l) b.1;
      }

  pub accepted_by_only : NoRowHolds release l → check_by release l ≡ none
  accepted_by_only w =
      check_passes release l
      ∙ rw (eq-eqb l.long image_size w.long, accepted-tracks (l.label 255) w.tracks, clear_pass l (rows_by release l) w.survey, clear_pass l (rows11 l) w.chains)

  -- a refusal is the first in the order
  pub given_by : (r : Refusal) → check_by release l ≡ some r → CheckGivesBy release l r
  given_by r e =
      ⊎_elim (λ a. let c = length_some l r a in by_length c.0 c.1)
      (λ a.
      ⊎_elim (λ c. let t = tracks-some l r c in by_tracks (length_none l a.0) t.0 t.1 t.2)
      (λ c.
      ⊎_elim (λ b. by_slot (length_none l a.0) (tracks-none l c.0) (pass_first l (rows_by release l) r b))
      (λ b. by_chain (length_none l a.0) (tracks-none l c.0) (pass_clear l (rows_by release l) b.0) (pass_first l (rows11 l) r b.1))
      (else_some (pass l (rows_by release l)) (pass l (rows11 l)) r c.1))
      (else_some (row 24 0 (bad_tracks (l.label 255))) after24 r a.1))
      (else_some (row 1 0 (not (eqb l.long image_size))) after1 r (sym (check_passes release l) ∙ e))

  pub given_by_only : (r : Refusal) → CheckGivesBy release l r → check_by release l ≡ some r
  given_by_only r (by_length n e) = check_passes release l ∙ rw (ne_eqb l.long image_size n) (ap some (sym e))
  given_by_only r (by_tracks n a b e) = check_passes release l ∙ rw (eq-eqb l.long image_size n, bad_tracks_lem (l.label 255) a b) (ap some (sym e))
  given_by_only r (by_slot n t w) = check_passes release l ∙ rw (eq-eqb l.long image_size n, accepted-tracks (l.label 255) t, first_pass l (rows_by release l) r w)
  given_by_only r (by_chain n t c w) =
      check_passes release l
      ∙ rw (eq-eqb l.long image_size n, accepted-tracks (l.label 255) t, clear_pass l (rows_by release l) c, first_pass l (rows11 l) r w)

-- of the check
pub accepted : (l : View) → check_view l ≡ none → NoRowHolds false l
accepted l = accepted_by false l

pub accepted-only : (l : View) → NoRowHolds false l → check_view l ≡ none
accepted-only l = accepted_by_only false l

pub check_given : (l : View) (r : Refusal) → check_view l ≡ some r → CheckGives l r
check_given l = given_by false l

pub given-only : (l : View) (r : Refusal) → CheckGives l r → check_view l ≡ some r
given-only l = given_by_only false l

-- ---- the lowest number, and none is 0

-- "at a slot the lowest number"
pub row-lowest : (l : View) (r : Refusal) (w : FirstRowAt l (rows9 l) r) → LowestRow r.number (rows9 l w.at w.file)
row-lowest l r w =
    (lowest-first (rows9 l w.at w.file) r.number (survey-rises (view_tracks l) (view_slots l) w.at w.file.bytes)).0 w.number

-- "likewise"
pub chain-lowest : (l : View) (r : Refusal) (w : FirstRowAt l (rows11 l) r) → LowestRow r.number (rows11 l w.at w.file)
chain-lowest l r w = (lowest-first (rows11 l w.at w.file) r.number (later-rises (slot_fields w.file.bytes) w.file.sectors)).0 w.number

-- what holds of a directory's rows and of any other file's holds of every file's
module _ (P : List Row → Type 0) where
  pub rows_by-kind : (release : Bool) (l : View) (i : ℕ) (f : File)
      → P (directory_rows (slot_fields f.bytes) ++ (release_rows release (slot_fields f.bytes) ++ shared_rows (view_slots l) i f.bytes))
      → P (file_rows (data_count (view_tracks l)) (in_directory (view_tracks l) (slot_fields f.bytes).map) (slot_fields f.bytes) ++ (release_rows release (slot_fields f.bytes) ++ shared_rows (view_slots l) i f.bytes))
      → P (rows_by release l i f)
  rows_by-kind release l i f p q = by (directory_kind (slot_fields f.bytes).kind)
    where
      by : (t : Bool)
          → P (cond t (directory_rows (slot_fields f.bytes)) (file_rows (data_count (view_tracks l)) (in_directory (view_tracks l) (slot_fields f.bytes).map) (slot_fields f.bytes))
          ++ (release_rows release (slot_fields f.bytes) ++ shared_rows (view_slots l) i f.bytes))
      by true = p
      by false = q

  pub chain_by_kind : (l : View) (i : ℕ) (f : File) → P [] → P (chain_rows (slot_fields f.bytes) f.sectors) → P (rows11 l i f)
  chain_by_kind l i f p q = by (directory_kind (slot_fields f.bytes).kind)
    where
      by : (t : Bool) → P (cond t [] (chain_rows (slot_fields f.bytes) f.sectors))
      by true = p
      by false = q

pub positive_by : (release : Bool) (l : View) (r : Refusal) → check_by release l ≡ some r → r.number ≢ 0
positive_by release l r e = by (given_by release l r e)
  where
    some_number : (release : Bool) (i : ℕ) (f : File) → lacks 0 (rows_by release l i f) ≡ true
    some_number true i f = rows_by-kind (λ rs. lacks 0 rs ≡ true) true l i f refl refl
    some_number false i f = rows_by-kind (λ rs. lacks 0 rs ≡ true) false l i f refl refl

    by : CheckGivesBy release l r → r.number ≢ 0
    by (by_length n q) = λ z. omega (arith, ap (λ (x : Refusal). x.number) q)
    by (by_tracks n a b q) = λ z. omega (arith, ap (λ (x : Refusal). x.number) q)
    by (by_slot n t w) = first_lacks 0 (rows_by release l w.at w.file) r.number (some_number release w.at w.file) w.number
    by (by_chain n t c w) = first_lacks 0 (rows11 l w.at w.file) r.number (chain_by_kind (λ rs. lacks 0 rs ≡ true) l w.at w.file refl refl) w.number

pub check_positive : (d : List ℕ) (r : Refusal) → check_disk d ≡ some r → r.number ≢ 0
unfolding check_disk
check_positive d = positive_by false (view d)
