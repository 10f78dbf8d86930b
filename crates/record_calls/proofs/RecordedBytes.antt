-- The calls with lent bytes do for the recording that the bytes hold what document 02 asks, and what they leave holds it again.
use Prim.Native.Nat.{ℕ, ◌+◌, ◌/◌, ◌≤◌}
use mathlib.Core.Path.{◌≡◌, refl, sym, ap, ◌∙◌, subst}
use mathlib.Core.List.{List}
use mathlib.Core.Option.{none, some}
use native.Mathlib.Omega.{arith}
use borrow.Author.Tests.{le-ltb, ltb-false}
use lib.Dec.{ltb}
use lib.ListN.{length, get_or, take}
use Rattle.buffers.specs.Bytes.{put}
use Rattle.buffers.proofs.Lists.{length-put}
use Rattle.refusals.specs.Order.{Refusal, Reply, ◌else◌}
use Rattle.refusals.specs.Answers.{Outcome, done, refused, Out, filled}
use Rattle.refusals.proofs.First.{else_none}
use Rattle.disk.specs.View.{view, view_slots, view_tracks}
use Rattle.disk.specs.Check.{check_disk}
use Rattle.steps.specs.Steps.{put_all}
use Rattle.plans.specs.Change.{SaveRequest}
use Rattle.plans.proofs.SafeSteps.{row-none}
use Rattle.plans.specs.Plan.{Result, refused_result, new_disk, checked_result, Changed, changed}
use Rattle.recordings.specs.Recording.{Recording, with_piece, fresh_recording, opened_recording, recording_unless, open_recording, add_piece, close_recording, Recorded, Uninterrupted}
use Rattle.recordings.specs.Recording as recorded
use Rattle.recordings.specs.Record.{recording_of, fresh_record, record_with, RecordOf}
use Rattle.recordings.specs.Calls.{open_recording_reply}
use Rattle.recordings.specs.declared.Record.{Record}
use Rattle.recordings.proofs.Piece.{piece-unseen}
use Rattle.recordings.proofs.Closing.{close_closes}
use Rattle.recordings.proofs.Whole.{follow, straight}
use Rattle.recordings.proofs.Kept.{held_adds, held_closes, held_more, opened_held}
use Rattle.operations.specs.Operations.{record_piece, record_close}
use Rattle.record_bytes.specs.Layout.{record_bytes, record_in, bytes_of, record_bytes_with, RestStays}
use Rattle.record_bytes.proofs.Back.{opened-back, opened-rest, grown_back, grown_rest}
use Rattle.record_bytes.proofs.Fits.{fresh-fits, opened-name, piece-few}
use Rattle.byte_lists.specs.Lists.{numbers_in, change_bytes_by, change_bytes}
use Rattle.byte_lists.specs.EraseMany.{operation_bytes}
use Rattle.byte_lists.proofs.Safe.{call_of}
use Rattle.record_calls.specs.Calls.{record_too_short, opening_bytes, lent_result, Pieced, pieced, piece_by, add_piece_bytes, close_bytes}
use Rattle.record_calls.specs.RecordedBytes.{HoldsRecording, OpensBytes, AddsBytes, ClosesBytes, RecordedBytes, bytes_opened, bytes_added, UninterruptedBytes, bytes_from_opening, bytes_then_piece, OneSave}

-- ---- a record that is long enough

not_short : (b : List ℕ) → record_bytes ≤ length b → record_too_short b ≡ none
not_short b h = rw (le-ltb (length b) 2048 h)

pub lent_is : (d b : List ℕ) (y : Result) → record_bytes ≤ length b → lent_result d b (checked_result (check_disk d) y) ≡ checked_result (check_disk d) y
lent_is d b y h = ap (λ (s : Reply). checked_result (check_disk d else s) (checked_result (check_disk d) y)) (not_short b h) ∙ by (check_disk d)
  where
    by : (q : Reply) → checked_result (q else none) (checked_result q y) ≡ checked_result q y
    by none = refl
    by (some r) = refl

-- ---- the calls, for the recording that the bytes hold

abbrev pub returned : Pieced → Changed
returned p = changed p.outcome p.image p.list

module _ (r : Recording) (d b l : List ℕ) (h : HoldsRecording b r) where
  pub piece_held : (x : List ℕ) → add_piece_bytes x d b l ≡ piece_by (add_piece r x d (length l / 2)) x d b l
  unfolding add_piece_bytes add_piece
  piece_held x =
      ap (λ (y : Result). piece_by y x d b l)
      (lent_is d b _ h.long ∙ held_adds (record_in b) r h.stands x d (length l / 2))

  pub close_held : close_bytes d b l ≡ operation_bytes (record_close r) d l
  unfolding close_bytes close_recording
  close_held = ap (λ (y : Result). change_bytes_by y d l) (lent_is d b _ h.long ∙ held_closes (record_in b) r h.stands d (length l / 2))

  pub piece-asked : (x : List ℕ) → returned (add_piece_bytes x d b l) ≡ operation_bytes (record_piece r x) d l
  piece-asked x = ap returned (piece_held x) ∙ by (add_piece r x d (length l / 2))
    where
      by : (y : Result) → returned (piece_by y x d b l) ≡ change_bytes_by y d l
      by (refused_result n) = refl
      by (new_disk new ss) = refl

-- ---- opening

filled_none : (q : Reply) (x b : List ℕ) (n f : ℕ) → (filled q (done 0 0) x b).outcome ≡ done n f → q ≡ none
filled_none none x b n f e = refl
filled_none (some r) x b n f e = let z : ◌≡◌ {A = ℕ} 0 1 = cc in absurd (omega arith)

pub opens : (w : SaveRequest) (d b : List ℕ) (n f : ℕ) → (opening_bytes w d b).outcome ≡ done n f → OpensBytes w d b
unfolding opening_bytes open_recording
opens w d b n f e =
    let k = fresh_record w (view d) in
    let q = filled_none (open_recording_reply w d else record_too_short b) (bytes_of k) b n f e in
    let t = else_none (open_recording_reply w d) (record_too_short b) q in
    let l : record_bytes ≤ length b = ltb-false (length b) 2048 (row-none 20 0 (ltb (length b) 2048) t.1) in
    let s : (opening_bytes w d b).buffer ≡ put b 0 (bytes_of k) = ap (λ (q : Reply). (filled q (done 0 0) (bytes_of k) b).buffer) q in
    record {
      opened = ap (λ (q : Reply). recording_unless q (fresh_recording w (view d))) t.0;
      holds = subst (λ (c : List ℕ). HoldsRecording c (fresh_recording w (view d))) (sym s)
          (record {
            long = omega (arith, length-put b 0 (bytes_of k));
            stands = subst (λ (k : Record). RecordOf k (fresh_recording w (view d))) (sym (opened-back b k l (fresh-fits w d t.0))) (opened_held w d (opened-name w d t.0));
          });
      rest = subst (RestStays b) (sym s) (opened-rest b k);
    }

-- ---- a piece

module _ (r : Recording) (x d b l : List ℕ) (h : HoldsRecording b r) (n f : ℕ) (e : (add_piece_bytes x d b l).outcome ≡ done n f) where
  -- what the list names, and the disk
  piece-accepted : add_piece r x d (length l / 2) ≡ new_disk (add_piece_bytes x d b l).image (take n (numbers_in (add_piece_bytes x d b l).list))
  piece-accepted =
      let s = piece-asked r d b l h x in
      subst (λ (c : Changed). add_piece r x d (length l / 2) ≡ new_disk c.image (take n (numbers_in c.list))) (sym s)
      (call_of (record_piece r x) d l (λ (new ss : List ℕ). add_piece r x d (length l / 2) ≡ new_disk new ss) (λ new ss q. q) n f (sym (ap (λ (c : Changed). c.outcome) s) ∙ e))

  -- the record's bytes
  piece-kept : (add_piece_bytes x d b l).kept ≡ record_bytes_with b (record_with (record_in b) x)
  piece-kept = ap (λ (p : Pieced). p.kept) (piece_held r d b l h x) ∙ ap (λ (y : Result). (piece_by y x d b l).kept) piece-accepted

  pub adds : AddsBytes r x d b l n
  adds =
      let few = piece-few (record_in b) x d (length l / 2) _ _ (held_adds (record_in b) r h.stands x d (length l / 2) ∙ piece-accepted) in
      record {
        accepted = piece-accepted;
        unseen = piece-unseen r x d (length l / 2) _ _ piece-accepted;
        holds = subst (λ (c : List ℕ). HoldsRecording c (with_piece r x)) (sym piece-kept)
            (record {
              long = omega (arith, (grown_rest b x).long, h.long);
              stands = subst (λ (k : Record). RecordOf k (with_piece r x)) (sym (grown_back b x h.long (omega arith))) (held_more (record_in b) r h.stands x);
            });
        rest = subst (RestStays b) (sym piece-kept) (grown_rest b x);
      }

-- ---- the close

pub ends : (r : Recording) (d b l : List ℕ) → HoldsRecording b r → (n f : ℕ) → (close_bytes d b l).outcome ≡ done n f → ClosesBytes r d b l n
ends r d b l h n f e =
    let s = close_held r d b l h in
    let a : close_recording r d (length l / 2) ≡ new_disk (close_bytes d b l).image (take n (numbers_in (close_bytes d b l).list)) =
    subst (λ (c : Changed). close_recording r d (length l / 2) ≡ new_disk c.image (take n (numbers_in c.list))) (sym s)
    (call_of (record_close r) d l (λ (new ss : List ℕ). close_recording r d (length l / 2) ≡ new_disk new ss) (λ new ss q. q) n f (sym (ap (λ (c : Changed). c.outcome) s) ∙ e)) in
    record { accepted = a; closes = close_closes r d (length l / 2) _ _ a }

-- ---- the bytes of our calls

pub ours : (b : List ℕ) (r : Recording) → RecordedBytes b r → Recorded r × HoldsRecording b r
ours _ _ (bytes_opened w d b n f e) = let t = opens w d b n f e in (recorded.by_opening w d (fresh_recording w (view d)) t.opened, t.holds)
ours _ _ (bytes_added r x d b l n f o e) =
    let p = ours b r o in
    let t = adds r x d b l p.1 n f e in
    (recorded.by_piece r x d (length l / 2) _ _ p.0 t.accepted, t.holds)

pub unbroken : (w : SaveRequest) (d b now : List ℕ) (r : Recording) → UninterruptedBytes w d b now r → Uninterrupted w d r now × HoldsRecording b r
unbroken w d _ _ _ (bytes_from_opening b n f e) = let t = opens w d b n f e in (recorded.from_opening (fresh_recording w (view d)) t.opened, t.holds)
unbroken w d _ _ _ (bytes_then_piece r x now b l n f u e) =
    let p = unbroken w d b now r u in
    let t = adds r x now b l p.1 n f e in
    (recorded.then_piece r x now (length l / 2) _ _ p.0 t.accepted, t.holds)

pub one_save : (w : SaveRequest) (d b now : List ℕ) (r : Recording) → UninterruptedBytes w d b now r → OneSave w d b now r
unfolding change_bytes
one_save w d b now r u =
    let p = unbroken w d b now r u in
    let s = straight w d r now p.0 in
    record {
      joined = (follow w d r now p.0).request;
      new = s.new;
      of_save = s.of_save;
      of_close = s.of_close;
      saves = λ l. ap (λ (y : Result). change_bytes_by y d l) (s.saves (length l / 2));
      closes = λ l. close_held r now b l p.1 ∙ ap (λ (y : Result). change_bytes_by y now l) (s.closes (length l / 2));
    }
