-- What an accepted disk answers through the C layer is what its ledger answers.
use Prim.Native.Nat.{ℕ, ◌/◌}
use mathlib.Core.Path.{◌≡◌, refl, sym, ap, ◌∙◌, subst}
use mathlib.Core.Bool.{Bool, true, false}
use mathlib.Core.List.{List, []}
use mathlib.Core.Option.{none, some, some-injective, some-ne-none}
use native.Mathlib.Omega.{arith}
use lib.Dec.{ltb}
use lib.ListN.{length}
use Rattle.buffers.specs.Bytes.{tab, put}
use Rattle.buffers.proofs.Lists.{tab_cong}
use Rattle.refusals.specs.Order.{refuse, Reply, ◌else◌, row}
use Rattle.refusals.specs.Answers.{Outcome, done, refused, filled}
use Rattle.packing.specs.Packed.{check_outcome}
use Rattle.directory.specs.Directory.{Directory}
use Rattle.surveys.specs.Survey.{free}
use Rattle.disk.specs.View.{view}
use Rattle.disk.specs.Check.{check_disk}
use Rattle.trees.specs.Tree.{tree_reply, tree}
use Rattle.tree_lists.specs.Call.{name_reply, asked_code}
use Rattle.plans.specs.Change.{SaveRequest, Change}
use Rattle.plans.specs.Plan.{Result, refused_result, new_disk, run_change, Changed}
use Rattle.plans.specs.Allowed.{sectors_taken}
use Rattle.recordings.specs.Recording.{Recording, with_body, with_piece, disk_moved, recording_unless, fresh_recording, open_recording, add_piece, close_recording}
use Rattle.recordings.specs.Record.{fresh_record}
use Rattle.recordings.specs.Calls.{open_recording_reply}
use Rattle.erase_many.specs.EraseMany.{name_at, how_many, answer_at, answers_to, not_tens, run_many}
use Rattle.journeys.specs.Ledger.{Ledger, ledger_tracks, ledger_slots}
use Rattle.journeys.specs.Entered.{save_refuses, ledger_refuses, answer_to}
use Rattle.journeys.specs.Journey.{ledger_of}
use Rattle.journeys.specs.Answers.{But20, opening_of, LedgerAnswers}
use Rattle.journeys.proofs.Alike.{slots_in_lem}
use Rattle.byte_lists.specs.Lists.{change_bytes_by, change_bytes}
use Rattle.byte_lists.specs.Trees.{tree_listing_bytes}
use Rattle.byte_lists.specs.EraseMany.{erase_many_bytes_by, erase_many_bytes}
use Rattle.record_bytes.specs.Layout.{record_bytes, bytes_of}
use Rattle.record_calls.specs.Calls.{opening_bytes, add_piece_bytes, close_bytes}
use Rattle.record_calls.specs.RecordedBytes.{HoldsRecording}
use Rattle.record_calls.proofs.RecordedBytes.{piece-asked, close_held}
use Rattle.journey_bytes.specs.Got.{GotBut20, fill_bytes, trees_bytes, ReadsBytes, BytesAnswer}
use Rattle.journey_bytes.proofs.Reading.{reads_bytes}

-- ---- but 20, of what the app gets

abbrev outcome_by : Result → Outcome
outcome_by (refused_result r) = refused r
outcome_by (new_disk new ss) = done (length ss) 0

got_but : (o : Outcome) (y : Result) (q : Reply) → o ≡ outcome_by y → But20 y q → GotBut20 o q
got_but o y q e h = subst (λ (o : Outcome). GotBut20 o q) (sym e) (by y h)
  where
    by : (y : Result) → But20 y q → GotBut20 (outcome_by y) q
    by (refused_result s) h = record {
      given = λ r e. let z : refused_result s ≡ refused_result r = h.given r e in let t : s ≡ r = cc in ap refused t;
      only = λ r e n. let z : s ≡ r = cc in h.only r (ap refused_result z) n;
    }
    by (new_disk new ss) h = record {
      given = λ r e. let w : new_disk new ss ≡ refused_result r = h.given r e in let z : ◌≡◌ {A = ℕ} 0 1 = cc in absurd (omega arith);
      only = λ r e n. let z : ◌≡◌ {A = ℕ} 0 1 = cc in absurd (omega arith);
    }

changed-outcome : (y : Result) (d l : List ℕ) → (change_bytes_by y d l).outcome ≡ outcome_by y
changed-outcome (refused_result r) d l = refl
changed-outcome (new_disk new ss) d l = refl

erased-outcome : (y : Result) (d ns abuf l : List ℕ) → (erase_many_bytes_by y d ns abuf l).outcome ≡ outcome_by y
erased-outcome (refused_result r) d ns abuf l = refl
erased-outcome (new_disk new ss) d ns abuf l = refl

-- rows, and then 20
filled_but : (q : Reply) (t : Bool) (x buf : List ℕ) → GotBut20 (filled (q else row 20 0 t) (done 0 0) x buf).outcome q
filled_but (some s) t x buf = record {
  given = λ r e. ap refused (some-injective s r e);
  only = λ r e n. let z : s ≡ r = cc in ap some z;
}
filled_but none true x buf = record { given = λ r e. absurd (some-ne-none r (sym e)); only = λ r e n. absurd (n (let z : refuse 20 0 ≡ r = cc in sym z)) }
filled_but none false x buf = record {
  given = λ r e. absurd (some-ne-none r (sym e));
  only = λ r e n. let z : ◌≡◌ {A = ℕ} 0 1 = cc in absurd (omega arith);
}

-- ---- what lies beneath a directory

trees_are : (d n l : List ℕ) → check_disk d ≡ none → tree_listing_bytes d n l ≡ trees_bytes (ledger_of (view d)) n l
unfolding tree_listing_bytes trees_bytes check_disk
trees_are d n l ok =
    rw ok (ap (λ (v : Directory). fill_bytes (tree v (asked_code v n)) (tree_reply v else name_reply v n) l) (sym (slots_in_lem (view d))))

-- ---- opening

opening_is : (w : SaveRequest) (d : List ℕ) → opening_of (open_recording w d) ≡ open_recording_reply w d
unfolding open_recording
opening_is w d = by (open_recording_reply w d)
  where
    by : (q : Reply) → opening_of (recording_unless q (fresh_recording w (view d))) ≡ q
    by none = refl
    by (some r) = refl

-- ---- all that it answers

module _ (d : List ℕ) (b : Ledger) (a : LedgerAnswers d b) where
  refusals_got : (c : Change) (l : List ℕ) → GotBut20 (change_bytes c d l).outcome (ledger_refuses c b)
  unfolding change_bytes
  refusals_got c l = let y = run_change c d (length l / 2) in got_but _ y _ (changed-outcome y d l) (a.refusals c (length l / 2))

  whole_got : (ns abuf l : List ℕ) → GotBut20 (erase_many_bytes d ns abuf l).outcome (row 23 0 (not_tens ns))
  unfolding erase_many_bytes
  whole_got ns abuf l =
      let y = run_many ns d (length abuf) (length l / 2) in
      got_but _ y _ (erased-outcome y d ns abuf l) (a.many ns (length abuf) (length l / 2))

  each_got : (ns abuf l : List ℕ) (n f : ℕ) → (erase_many_bytes d ns abuf l).outcome ≡ done n f
      → (erase_many_bytes d ns abuf l).answers ≡ put abuf 0 (tab (how_many ns) (answer_to b (name_at ns)))
  unfolding erase_many_bytes
  each_got ns abuf l n f e =
      by (run_many ns d (length abuf) (length l / 2)) e
      ∙ ap (put abuf 0) (tab_cong (how_many ns) (answer_at d ns) (answer_to b (name_at ns)) (λ k h. a.answers ns k))
    where
      by : (y : Result) → (erase_many_bytes_by y d ns abuf l).outcome ≡ done n f → (erase_many_bytes_by y d ns abuf l).answers ≡ put abuf 0 (answers_to d ns)
      by (refused_result r) w = let z : ◌≡◌ {A = ℕ} 0 1 = cc in absurd (omega arith)
      by (new_disk new ss) w = refl

  openings_got : (w : SaveRequest) (k : List ℕ) → GotBut20 (opening_bytes w d k).outcome (save_refuses (with_body w []) b)
  unfolding opening_bytes
  openings_got w k =
      subst (GotBut20 (opening_bytes w d k).outcome) (sym (opening_is w d) ∙ a.openings w)
      (filled_but (open_recording_reply w d) (ltb (length k) record_bytes) (bytes_of (fresh_record w (view d))) k)

  -- of the recording that the record's bytes hold
  module _ (r : Recording) (k l : List ℕ) (h : HoldsRecording k r) (m : disk_moved d r ≡ false) where
    adds_got : (x : List ℕ) → GotBut20 (add_piece_bytes x d k l).outcome (row 19 0 (ltb (free (ledger_tracks b) (ledger_slots b)) (sectors_taken (with_piece r x).request)))
    adds_got x =
        let y = add_piece r x d (length l / 2) in
        got_but _ y _ (ap (λ (c : Changed). c.outcome) (piece-asked r d k l h x) ∙ changed-outcome y d l) (a.adds r x (length l / 2) m)

    closed_got : GotBut20 (close_bytes d k l).outcome (save_refuses r.request b)
    closed_got =
        let y = close_recording r d (length l / 2) in
        got_but _ y _ (ap (λ (c : Changed). c.outcome) (close_held r d k l h) ∙ changed-outcome y d l) (a.closed r (length l / 2) m)

  pub bytes_answer : b ≡ ledger_of (view d) → BytesAnswer d b
  bytes_answer e = record {
    answers = a;
    pieces = λ n. subst (λ (c : Ledger). ReadsBytes d c n) (sym e) (reads_bytes d a.checks n);
    checks = ap check_outcome a.checks;
    release = ap check_outcome a.release;
    treed = λ n l. trees_are d n l a.checks ∙ ap (λ (c : Ledger). trees_bytes c n l) (sym e);
    refusals = refusals_got;
    whole = whole_got;
    each = each_got;
    openings = openings_got;
    adds = λ r x k l h m. adds_got r k l h m x;
    closed = closed_got;
  }
