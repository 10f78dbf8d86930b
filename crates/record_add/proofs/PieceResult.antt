-- What adding a piece comes to, by the tests that led there.
use Prim.Native.Nat.{ℕ, ◌+◌, ◌-◌, ◌≤◌, ◌<◌, min}
use Rattle.std.specs.Prelude.{None, Some}
use mathlib.Core.Path.{◌≡◌, sym, ap, ap₂, ◌∙◌, subst}
use mathlib.Core.Bool.{true, false}
use mathlib.Core.List.{List}
use mathlib.Core.Option.{none, some}
use native.Mathlib.Nat.{add-zero}
use native.Mathlib.Omega.{arith}
use borrow.Author.Tests.{lt-ltb, le-ltb}
use lib.ListN.{length, get_or, length-take}
use Rattle.refusals.specs.Order.{Refusal, refuse}
use Rattle.refusals.specs.Answers.{Outcome, done, refused}
use Rattle.slots.specs.Slot.{sectors_for}
use Rattle.surveys.specs.Survey.{free, free_of}
use Rattle.surveys.specs.declared.UsedMap.{UsedMap}
use Rattle.disk.specs.View.{view, view_slots, view_tracks}
use Rattle.disk.specs.Check.{check_disk}
use Rattle.disk.proofs.View.{view-slots, view_extra}
use Rattle.files.specs.Steps.{CheckedDisk}
use Rattle.steps.specs.Steps.{numbers}
use Rattle.plans.specs.Plan.{Plan, refused_plan, planned_steps, plan_unless, plan_result}
use Rattle.plans.specs.Allowed.{sectors_taken}
use Rattle.changes.specs.ChangeCalls.{plan_call, Applied}
use Rattle.changes.proofs.Laws.{settled_no, settled_short, settled_done}
use Rattle.allocation.specs.Taken.{unavailable_map, lowest_clear_bits}
use Rattle.allocation.proofs.Next.{clear_bits}
use Rattle.allocation.proofs.Unavailable.{free_le}
use Rattle.recordings.specs.declared.Record.{Record}
use Rattle.recordings.specs.Recording.{Recording, with_piece, chain_of, inner_sectors, disk_moved, piece_steps, piece_reply, piece_plan, add_piece}
use Rattle.recordings.specs.Record.{recording_of, record_with, record_by}
use Rattle.recordings.specs.Calls.{add_piece_call, added_record}
use Rattle.recordings.proofs.Refused.{chain_fits, piece-long}
use Rattle.recording_links.specs.LinkedSectors.{continuation_in}
use Rattle.recording_links.proofs.FollowLaws.{chain-is, lost_moved, on_still}
use Rattle.record_add.specs.Adding.{sectors_capped, Completes, PieceReady, AddsPiece}
use Rattle.record_add.proofs.Blocks.{was_many, now-many}
use Rattle.record_add.proofs.Longer.{capped_few, capped_is, capped_le, capped_min, sectors_rise}

module _ (k : Record) (x d buf : List ℕ) where
  abbrev r : Recording
  r = recording_of k

  -- ---- the call, by what is planned

  pub add_err : (q : Refusal) → check_disk d ≡ some q → AddsPiece k x d buf (refused q) k d buf
  unfolding add_piece_call added_record add_piece
  add_err q e = (rw e, rw e)

  module _ (ok : check_disk d ≡ none) where
    add_planned : (p : Plan) → piece_plan d r x ≡ p → (plan_call p d buf ≡ add_piece_call k x d buf) × (record_by k x (plan_result d (length buf) p) ≡ added_record k x d (length buf))
    unfolding add_piece_call added_record add_piece plan_call
    add_planned p e = (rw (ok, e), rw (ok, e))

    add_refused_answer : (q : Refusal) → piece_reply d r x ≡ some q → (o : Outcome) → o ≡ refused q → AddsPiece k x d buf o k d buf
    unfolding piece_plan
    add_refused_answer q e o eo =
        let p = add_planned (refused_plan q) (ap (λ (y : _). plan_unless y (planned_steps (piece_steps r x))) e) in
        (settled_no d buf q o eo ∙ p.0, p.1)

    pub add_lost : disk_moved d r ≡ true → (o : Outcome) → o ≡ refused (refuse 30 0) → AddsPiece k x d buf o k d buf
    add_lost e = add_refused_answer (refuse 30 0) (rw e)

    module _ (still : disk_moved d r ≡ false) where
      pub add-few : free (view_tracks (view d)) (view_slots (view d)) < sectors_taken (with_piece r x).request → (o : Outcome) → o ≡ refused (refuse 19 0) → AddsPiece k x d buf o k d buf
      add-few h = add_refused_answer (refuse 19 0) (rw (still, lt-ltb (free (view_tracks (view d)) (view_slots (view d))) (sectors_taken (with_piece r x).request) h))

      module _ (fits : sectors_taken (with_piece r x).request ≤ free (view_tracks (view d)) (view_slots (view d))) where
        none_left : piece_reply d r x ≡ none
        none_left = rw (still, le-ltb (free (view_tracks (view d)) (view_slots (view d))) (sectors_taken (with_piece r x).request) fits)

        goes : piece_plan d r x ≡ planned_steps (piece_steps r x)
        unfolding piece_plan
        goes = rw none_left

        long : length (numbers (piece_steps r x)) ≡ inner_sectors (sectors_taken (with_piece r x).request) - inner_sectors (sectors_taken r.request)
        long = piece-long r x d ok none_left

        pub add-short : length buf < inner_sectors (sectors_taken (with_piece r x).request) - inner_sectors (sectors_taken r.request) → (o : Outcome) → o ≡ refused (refuse 20 0) → AddsPiece k x d buf o k d buf
        add-short h o eo =
            let p = add_planned (planned_steps (piece_steps r x)) goes in
            (settled_short (piece_steps r x) d buf (omega (arith, long)) o eo ∙ p.0, sym (rw (lt-ltb (length buf) (length (numbers (piece_steps r x))) (omega (arith, long)))) ∙ p.1)

        pub add_done : (c : ℕ) → c ≤ length buf → (d' buf' : List ℕ) → Applied (piece_steps r x) d buf d' buf' c → (k' : Record) → k' ≡ record_with k x → AddsPiece k x d buf (done c 0) k' d' buf'
        add_done c h d' buf' w k' ek =
            let p = add_planned (planned_steps (piece_steps r x)) goes in
            (settled_done (piece_steps r x) d buf (omega (arith, w.many)) d' buf' c w ∙ p.0, ek ∙ sym (rw (le-ltb (length buf) (length (numbers (piece_steps r x))) (omega (arith, w.many)))) ∙ p.1)

-- ---- as the code has it

free-is : (d : List ℕ) (u : UsedMap) → CheckedDisk d u → free (view_tracks (view d)) (view_slots (view d)) ≡ free_of u
unfolding free
free-is d u a = ap₂ free (view_extra d) (view-slots d) ∙ sym (ap free_of a.used)

-- f: the free sectors, n: those of the body with the piece
module _ (d : List ℕ) (u : UsedMap) (b : ℕ) (k : Record) (x buf : List ℕ) (o : PieceReady d u k b) (f : ℕ) (ef : f ≡ free_of u) (n : ℕ) (en : n ≡ sectors_capped (k.long + length x)) where
  abbrev ok : check_disk d ≡ none
  ok = o.disk.accepted

  pub at-few : f < n → (a : Outcome) → a ≡ refused (refuse 19 0) → AddsPiece k x d buf a k d buf
  at-few h = add-few k x d buf ok o.still (omega (arith, ef, free-is d u o.disk, now-many k x, capped_le (k.long + length x) n en))

  -- n₀: those of the body without it
  module _ (h : n ≤ f) (n₀ : ℕ) (e₀ : n₀ ≡ sectors_capped (k.long + 0)) (i i₀ : ℕ) (ei : i ≡ inner_sectors n) (ei₀ : i₀ ≡ inner_sectors n₀) where
    is : (k.long + length x ≤ 795591) × (n ≡ sectors_for (k.long + length x))
    is = capped_is (k.long + length x) n en (omega (arith, ef, free_le u))

    pub at-fits : k.long + length x ≤ 795591
    at-fits = is.0

    was : n₀ ≡ sectors_for k.long
    was =
        let z : sectors_capped (k.long + 0) ≡ sectors_capped k.long = ap sectors_capped (add-zero k.long) in
        e₀ ∙ z ∙ sym (capped_few k.long (omega (arith, at-fits)))

    pub inner_rise : i₀ ≤ i
    inner_rise = omega (arith, ei, ei₀, is.1, was, sectors_rise k.long (length x))

    fits : sectors_taken (with_piece (recording_of k) x).request ≤ free (view_tracks (view d)) (view_slots (view d))
    fits = omega (arith, h, ef, free-is d u o.disk, now-many k x, is.1)

    count-is : inner_sectors (sectors_taken (with_piece (recording_of k) x).request) - inner_sectors (sectors_taken (recording_of k).request) ≡ i - i₀
    count-is = omega (arith, ei, ei₀, is.1, was, now-many k x, was_many k)

    pub at-short : length buf < i - i₀ → (a : Outcome) → a ≡ refused (refuse 20 0) → AddsPiece k x d buf a k d buf
    at-short l = add-short k x d buf ok o.still fits (omega (arith, count-is))

    pub at_done : i - i₀ ≤ length buf → (d' buf' : List ℕ) → Applied (piece_steps (recording_of k) x) d buf d' buf' (i - i₀) → (k' : Record) → k' ≡ record_with k x
        → AddsPiece k x d buf (done (i - i₀) 0) k' d' buf'
    at_done l = add_done k x d buf ok o.still fits (i - i₀) l

    chain : chain_of (with_piece (recording_of k) x) ≡ lowest_clear_bits (unavailable_map u) (sectors_for (k.long + length x))
    unfolding recording_of
    chain = chain-is d u o.disk (with_piece (recording_of k) x) (sectors_for (k.long + length x)) (ap (λ (n : ℕ). min n 1560) (sym (now-many k x))) o.used o.tracks

    there : sectors_for (k.long + length x) ≤ length (clear_bits (unavailable_map u))
    unfolding lowest_clear_bits
    there =
        let e : length (lowest_clear_bits (unavailable_map u) (sectors_for (k.long + length x))) ≡ sectors_for (k.long + length x) =
        sym (ap length chain) ∙ chain_fits d (recording_of k) ok o.still x fits ∙ now-many k x in
        omega (arith, e, length-take (sectors_for (k.long + length x)) (clear_bits (unavailable_map u)))

    -- m: the map of the bits that cannot be taken, as the code has it
    pub at_completes : (m : List ℕ) → m ≡ unavailable_map u → i - i₀ ≤ length buf → Completes m b (i - i₀) k x buf
    at_completes m em l =
        subst (λ (m : List ℕ). Completes m b (i - i₀) k x buf) (sym em)
        (record {
          fits = at-fits;
          chain = chain;
          there = there;
          next = o.next ∙ ap (λ (n : ℕ). get_or (clear_bits (unavailable_map u)) (1 + inner_sectors n) 1560) (sym (capped_few k.long (omega (arith, at-fits))));
          many = omega (arith, ei, ei₀, is.1, was);
          room = l;
        })

-- ---- where the continuation leads

module _ (d : List ℕ) (u : UsedMap) (a : CheckedDisk d u) (k : Record) (n : ℕ) (en : n ≡ sectors_capped (k.long + 0)) where
  same : min n 1560 ≡ min (sectors_taken (recording_of k).request) 1560
  same = capped_min (k.long + 0) n en ∙ ap (λ (n : ℕ). min (sectors_for n) 1560) (add-zero k.long) ∙ ap (λ (n : ℕ). min n 1560) (sym (was_many k))

  pub trail_lost : (x buf : List ℕ) → continuation_in d u k.used k.tracks n ≡ None → (o : Outcome) → o ≡ refused (refuse 30 0) → AddsPiece k x d buf o k d buf
  unfolding recording_of
  trail_lost x buf e = add_lost k x d buf a.accepted (lost_moved d u a (recording_of k) n same e)

  pub trail_on : (b : ℕ) → continuation_in d u k.used k.tracks n ≡ Some b → PieceReady d u k b
  unfolding recording_of
  trail_on b e =
      let w = on_still d u a (recording_of k) n same b e in
      record {
        disk = a;
        still = w.still;
        used = w.used;
        tracks = w.tracks;
        next = w.next ∙ ap (λ (n : ℕ). get_or (clear_bits (unavailable_map u)) (1 + inner_sectors n) 1560) (en ∙ ap sectors_capped (add-zero k.long));
      }
