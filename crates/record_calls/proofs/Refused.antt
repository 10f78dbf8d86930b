-- A refused call changes no byte that is lent, whatever bytes the record has; and it is refused exactly when the check refuses the
-- disk or a row holds that has none before it.
use Prim.Native.Nat.{ℕ, ◌/◌}
use mathlib.Core.Path.{◌≡◌, refl, sym, ap, ◌∙◌, subst}
use mathlib.Core.Bool.{Bool, true, false, cond}
use mathlib.Core.List.{List, ◌∷◌, [], ◌++◌}
use mathlib.Core.Logic.{◌↔◌}
use mathlib.Core.Option.{none, some, some-injective, some-ne-none}
use native.Mathlib.Omega.{arith}
use lib.Dec.{ltb}
use lib.ListN.{length}
use Rattle.refusals.specs.Order.{Refusal, refuse, Reply, ◌else◌, SlotRow, FirstSlotRow}
use Rattle.refusals.specs.Answers.{Outcome, done, refused, filled}
use Rattle.refusals.proofs.First.{else_none, first_row, row_first, first-row}
use Rattle.disk.specs.View.{view}
use Rattle.disk.specs.Check.{check_disk}
use Rattle.files.specs.Refused.{RefusesBy, by_check, by_row}
use Rattle.plans.specs.Change.{SaveRequest}
use Rattle.plans.specs.Plan.{Result, refused_result, new_disk, checked_result, Changed}
use Rattle.recordings.specs.Recording.{refused_recording, recording_unless, fresh_recording, recording_reply, open_recording, add_piece, close_recording}
use Rattle.recordings.specs.Record.{recording_of, fresh_record}
use Rattle.recordings.specs.Refused.{recording_rows, piece_rows, close_rows}
use Rattle.recordings.specs.Calls.{open_recording_reply}
use Rattle.recordings.proofs.Refused.{first-join, open_refused, piece-refused, close_refused}
use Rattle.record_bytes.specs.Layout.{record_bytes, record_in, bytes_of}
use Rattle.byte_lists.specs.Lists.{change_bytes_by}
use Rattle.record_calls.specs.Calls.{record_too_short, opening_bytes, lent_result, piece_by, add_piece_bytes, close_bytes}
use Rattle.record_calls.specs.RecordedBytes.{row_short}

-- ---- nothing lent changes

pub open_leaves : (w : SaveRequest) (d b : List ℕ) (n : Refusal) → (opening_bytes w d b).outcome ≡ refused n → (opening_bytes w d b).buffer ≡ b
unfolding opening_bytes
open_leaves w d b n e = by (open_recording_reply w d else record_too_short b) e
  where
    by : (q : Reply) → (filled q (done 0 0) (bytes_of (fresh_record w (view d))) b).outcome ≡ refused n → (filled q (done 0 0) (bytes_of (fresh_record w (view d))) b).buffer ≡ b
    by none e = let z : ◌≡◌ {A = ℕ} 0 1 = cc in absurd (omega arith)
    by (some r) e = refl

pub piece_leaves : (x d b l : List ℕ) (n : Refusal) → (add_piece_bytes x d b l).outcome ≡ refused n
    → ((add_piece_bytes x d b l).image ≡ d) × ((add_piece_bytes x d b l).kept ≡ b) × ((add_piece_bytes x d b l).list ≡ l)
unfolding add_piece_bytes
piece_leaves x d b l n e = by (lent_result d b (add_piece (recording_of (record_in b)) x d (length l / 2))) e
  where
    by : (y : Result) → (piece_by y x d b l).outcome ≡ refused n → ((piece_by y x d b l).image ≡ d) × ((piece_by y x d b l).kept ≡ b) × ((piece_by y x d b l).list ≡ l)
    by (refused_result r) e = (refl, refl, refl)
    by (new_disk new ss) e = let z : ◌≡◌ {A = ℕ} 0 1 = cc in absurd (omega arith)

pub close_leaves : (d b l : List ℕ) (n : Refusal) → (close_bytes d b l).outcome ≡ refused n → ((close_bytes d b l).image ≡ d) × ((close_bytes d b l).list ≡ l)
unfolding close_bytes
close_leaves d b l n e = by (lent_result d b (close_recording (recording_of (record_in b)) d (length l / 2))) e
  where
    by : (y : Result) → (change_bytes_by y d l).outcome ≡ refused n → ((change_bytes_by y d l).image ≡ d) × ((change_bytes_by y d l).list ≡ l)
    by (refused_result r) e = (refl, refl)
    by (new_disk new ss) e = let z : ◌≡◌ {A = ℕ} 0 1 = cc in absurd (omega arith)

-- ---- exactly when

-- a call on a record that can be too short
module _ (d b : List ℕ) (y : Result) (rs : List SlotRow) (h : (n : Refusal) → (y ≡ refused_result n) ↔ RefusesBy d rs n) where
  pub lent_refused : (n : Refusal) → (lent_result d b y ≡ refused_result n) ↔ RefusesBy d (row_short b ∷ rs) n
  lent_refused n = (λ e. to (check_disk d) refl (ltb (length b) record_bytes) refl e, from)
    where
      to : (q : Reply) → check_disk d ≡ q → (t : Bool) → ltb (length b) record_bytes ≡ t → checked_result (q else cond t (some (refuse 20 0)) none) y ≡ refused_result n
          → RefusesBy d (row_short b ∷ rs) n
      to (some r) c t s e = let z : r ≡ n = cc in by_check (c ∙ ap some z)
      to none c true s e = let z : refuse 20 0 ≡ n = cc in by_row c (row_first (row_short b ∷ rs) n (rw s (ap some z)))
      to none c false s e = under ((h n).0 e)
        where
          under : RefusesBy d rs n → RefusesBy d (row_short b ∷ rs) n
          under (by_check c) = by_check c
          under (by_row c f) = by_row c (row_first (row_short b ∷ rs) n (rw s (first-row rs n f)))

      from : RefusesBy d (row_short b ∷ rs) n → lent_result d b y ≡ refused_result n
      from (by_check c) = rw c refl
      from (by_row c f) = rw c (by (ltb (length b) record_bytes) (first-row (row_short b ∷ rs) n f))
        where
          by : (t : Bool) → cond t (some (refuse 20 0)) (first_row rs) ≡ some n → checked_result (cond t (some (refuse 20 0)) none) y ≡ refused_result n
          by true e = ap refused_result (some-injective (refuse 20 0) n e)
          by false e = (h n).1 (by_row c (row_first rs n e))

-- opening
pub opening_refused : (w : SaveRequest) (d b : List ℕ) (n : Refusal) → ((opening_bytes w d b).outcome ≡ refused n) ↔ RefusesBy d (recording_rows (view d) w ++ (row_short b ∷ [])) n
unfolding opening_bytes open_recording
opening_refused w d b n = (λ e. to (open_recording_reply w d) refl (ltb (length b) record_bytes) refl (replied (open_recording_reply w d else record_too_short b) e), from)
  where
    rs : List SlotRow
    rs = recording_rows (view d) w

    replied : (q : Reply) → (filled q (done 0 0) (bytes_of (fresh_record w (view d))) b).outcome ≡ refused n → q ≡ some n
    replied none e = let z : ◌≡◌ {A = ℕ} 0 1 = cc in absurd (omega arith)
    replied (some r) e = let z : r ≡ n = cc in ap some z

    -- what the rows of opening say of its reply
    named : (m : Refusal) → open_recording_reply w d ≡ some m → RefusesBy d rs m
    named m e = (open_refused w d m).0 (ap (λ (q : Reply). recording_unless q (fresh_recording w (view d))) e)

    is_named_lem : (m : Refusal) → RefusesBy d rs m → open_recording_reply w d ≡ some m
    is_named_lem m f = by (open_recording_reply w d) ((open_refused w d m).1 f)
      where
        by : (q : Reply) → recording_unless q (fresh_recording w (view d)) ≡ refused_recording m → q ≡ some m
        by none e = let z : ◌≡◌ {A = ℕ} 0 1 = cc in absurd (omega arith)
        by (some r) e = let z : r ≡ m = cc in ap some z

    more : (m : Refusal) → FirstSlotRow m rs → FirstSlotRow m (rs ++ (row_short b ∷ []))
    more m f = row_first (rs ++ (row_short b ∷ [])) m (first-join rs (row_short b ∷ []) ∙ ap (λ (q : Reply). q else first_row (row_short b ∷ [])) (first-row rs m f))

    to : (q : Reply) → open_recording_reply w d ≡ q → (t : Bool) → ltb (length b) record_bytes ≡ t → (q else cond t (some (refuse 20 0)) none) ≡ some n
        → RefusesBy d (rs ++ (row_short b ∷ [])) n
    to (some r) q t s e = under (named n (q ∙ e))
      where
        under : RefusesBy d rs n → RefusesBy d (rs ++ (row_short b ∷ [])) n
        under (by_check c) = by_check c
        under (by_row c f) = by_row c (more n f)
    to none q false s e = absurd (some-ne-none n (sym e))
    to none q true s e =
        let c = else_none (check_disk d) (recording_reply w (view d)) q in
        by_row c.0 (row_first (rs ++ (row_short b ∷ [])) n (first-join rs (row_short b ∷ []) ∙ none_of (first_row rs) refl c.0 ∙ rw s e))
      where
        none_of : (p : Reply) → first_row rs ≡ p → check_disk d ≡ none → (p else first_row (row_short b ∷ [])) ≡ first_row (row_short b ∷ [])
        none_of none f c = refl
        none_of (some m) f c = absurd (some-ne-none m (sym (is_named_lem m (by_row c (row_first rs m f))) ∙ q))

    from : RefusesBy d (rs ++ (row_short b ∷ [])) n → (filled (open_recording_reply w d else record_too_short b) (done 0 0) (bytes_of (fresh_record w (view d))) b).outcome ≡ refused n
    from (by_check c) = rw (is_named_lem n (by_check c)) refl
    from (by_row c f) = by (first_row rs) refl (sym (first-join rs (row_short b ∷ [])) ∙ first-row (rs ++ (row_short b ∷ [])) n f)
      where
        late : (q : Reply) → open_recording_reply w d ≡ q → first_row rs ≡ none → (t : Bool) → cond t (some (refuse 20 0)) none ≡ some n
            → (filled (q else cond t (some (refuse 20 0)) none) (done 0 0) (bytes_of (fresh_record w (view d))) b).outcome ≡ refused n
        late (some m) q g t e = absurd (gone (named m q))
          where
            gone : RefusesBy d rs m → ⊥
            gone (by_check k) = some-ne-none m (sym k ∙ c)
            gone (by_row k f) = some-ne-none m (sym (first-row rs m f) ∙ g)
        late none q g true e = ap refused (some-injective (refuse 20 0) n e)
        late none q g false e = absurd (some-ne-none n (sym e))

        by : (p : Reply) → first_row rs ≡ p → (p else first_row (row_short b ∷ [])) ≡ some n
            → (filled (open_recording_reply w d else record_too_short b) (done 0 0) (bytes_of (fresh_record w (view d))) b).outcome ≡ refused n
        by (some m) g e = rw (is_named_lem n (by_row c (row_first rs n (g ∙ e)))) refl
        by none g e = late (open_recording_reply w d) refl g (ltb (length b) record_bytes) e

-- a piece
pub piece_bytes_refused : (x d b l : List ℕ) (n : Refusal)
    → ((add_piece_bytes x d b l).outcome ≡ refused n) ↔ RefusesBy d (row_short b ∷ piece_rows d (recording_of (record_in b)) x (length l / 2)) n
unfolding add_piece_bytes
piece_bytes_refused x d b l n = (λ e. r.0 (to y e), λ f. ap (λ (y : Result). (piece_by y x d b l).outcome) (r.1 f))
  where
    y : Result
    y = lent_result d b (add_piece (recording_of (record_in b)) x d (length l / 2))

    to : (y : Result) → (piece_by y x d b l).outcome ≡ refused n → y ≡ refused_result n
    to (refused_result m) e = let z : m ≡ n = cc in ap refused_result z
    to (new_disk new ss) e = let z : ◌≡◌ {A = ℕ} 0 1 = cc in absurd (omega arith)

    r : (y ≡ refused_result n) ↔ RefusesBy d (row_short b ∷ piece_rows d (recording_of (record_in b)) x (length l / 2)) n
    r = lent_refused d b (add_piece (recording_of (record_in b)) x d (length l / 2)) (piece_rows d (recording_of (record_in b)) x (length l / 2)) (piece-refused (recording_of (record_in b)) x d (length l / 2)) n

-- the close
pub close_bytes-refused : (d b l : List ℕ) (n : Refusal)
    → ((close_bytes d b l).outcome ≡ refused n) ↔ RefusesBy d (row_short b ∷ close_rows d (recording_of (record_in b)) (length l / 2)) n
unfolding close_bytes
close_bytes-refused d b l n = (λ e. r.0 (to y e), λ f. ap (λ (y : Result). (change_bytes_by y d l).outcome) (r.1 f))
  where
    y : Result
    y = lent_result d b (close_recording (recording_of (record_in b)) d (length l / 2))

    to : (y : Result) → (change_bytes_by y d l).outcome ≡ refused n → y ≡ refused_result n
    to (refused_result m) e = let z : m ≡ n = cc in ap refused_result z
    to (new_disk new ss) e = let z : ◌≡◌ {A = ℕ} 0 1 = cc in absurd (omega arith)

    r : (y ≡ refused_result n) ↔ RefusesBy d (row_short b ∷ close_rows d (recording_of (record_in b)) (length l / 2)) n
    r = lent_refused d b (close_recording (recording_of (record_in b)) d (length l / 2)) (close_rows d (recording_of (record_in b)) (length l / 2)) (close_refused (recording_of (record_in b)) d (length l / 2)) n
