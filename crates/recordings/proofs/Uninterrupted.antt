-- What the pieces have written where nothing else touches the disk and nothing is cut: all but the first and the last sector of one save.
use Prim.Native.Nat.{ℕ, zero, suc, ◌+◌, ◌-◌, ◌*◌, ◌%◌, ◌≤◌, ◌<◌}
use mathlib.Core.Path.{◌≡◌, refl, sym, ap, ap₂, ◌∙◌, subst}
use mathlib.Core.Bool.{Bool, true, false, cond, not, ◌&&◌}
use mathlib.Core.List.{List, [], ◌∷◌, ◌++◌}
use mathlib.Core.Option.{none}
use native.Mathlib.Nat.{le_of_suc-le-suc, not-suc-le-zero}
use native.Mathlib.Omega.{arith}
use borrow.Author.Tests.{ltb-true}
use lib.Dec.{eqb, ltb}
use lib.ListN.{length, get_or, take, drop, length-append, length-drop, get_or-append}
use lib.Seq.{get_or-append-add, get_or-take, get_or-drop, take-add, drop-drop}
use Rattle.buffers.specs.Bytes.{part}
use Rattle.buffers.proofs.Lists.{tab_cong}
use Rattle.geometry.specs.Disk.{track_of, sector_of, bit_number, bit_place}
use Rattle.maps.specs.Bits.{has}
use Rattle.slots.specs.Slot.{sectors_for}
use Rattle.slots.specs.Tracks.{data_bit}
use Rattle.slots.proofs.Least.{sectors-least}
use Rattle.directory.specs.Places.{slot_bytes, dir_sector}
use Rattle.directory.specs.Directory.{slots_in}
use Rattle.surveys.specs.Survey.{free}
use Rattle.disk.specs.View.{View, view, view_slots, view_tracks}
use Rattle.disk.specs.Check.{check_disk}
use Rattle.disk.specs.Accepted.{AcceptedDisk}
use Rattle.steps.specs.Sectors.{is_listed}
use Rattle.steps.specs.Steps.{Step, apply, numbers, last_view, StepsHold}
use Rattle.steps.proofs.Steps.{numbers-take, apply-append, goes_take, goes_other, goes_view}
use Rattle.plans.specs.Change.{SaveRequest}
use Rattle.plans.specs.Saving.{satisfying, free_bit, stream, sector_bytes, next_track, next_sector}
use Rattle.plans.specs.Plan.{one_put, data_steps, new_disk}
use Rattle.plans.specs.Allowed.{sectors_taken}
use Rattle.plans.proofs.Frame.{slot_half, disk-accepted}
use Rattle.plans.proofs.Free.{Run, run_drop, taken_run, taken_long}
use Rattle.plans.proofs.NewFile.{next-first}
use Rattle.plans.proofs.Laid.{data_commits, laid_no_slot}
use Rattle.recordings.specs.Recording.{Recording, with_body, with_piece, chain_of, inner_sectors, used_of, recording_reply, piece_steps, piece_plan, add_piece}
use Rattle.recordings.proofs.Piece.{chain_taken, goes_from, unlisted_take, commits-none, piece_of, made_of}

-- ---- lists of data steps

pub drop_data : (st : List ℕ) (s f : ℕ) (bs : List ℕ) → drop s (data_steps st f bs) ≡ data_steps st (f + 510 * s) (drop s bs)
unfolding data_steps
drop_data st zero f bs = ap (λ (g : ℕ). data_steps st g bs) (omega arith)
drop_data st (suc s) f [] = refl
drop_data st (suc s) f (b ∷ bs) = drop_data st s (f + 510) bs ∙ ap (λ (g : ℕ). data_steps st g (drop s bs)) (omega arith)

-- blocks of two streams, from place f of the one and place g of the other on
pub block_shift : (st sw : List ℕ) (f g t s : ℕ) → ((k : ℕ) → k < 510 → get_or st (f + k) 0 ≡ get_or sw (g + k) 0) → sector_bytes st f t s ≡ sector_bytes sw g t s
unfolding sector_bytes
block_shift st sw f g t s h = tab_cong 512 (λ k. cond (ltb k 510) (get_or st (f + k) 0) (cond (eqb k 510) t s)) (λ k. cond (ltb k 510) (get_or sw (g + k) 0) (cond (eqb k 510) t s)) (λ k m. by k (ltb k 510) refl)
  where
    by : (k : ℕ) (u : Bool) → ltb k 510 ≡ u → cond u (get_or st (f + k) 0) (cond (eqb k 510) t s) ≡ cond u (get_or sw (g + k) 0) (cond (eqb k 510) t s)
    by k true q = h k (ltb-true k 510 q)
    by k false q = refl

pub block_alike : (st sw : List ℕ) (f t s : ℕ) → ((k : ℕ) → f ≤ k → k < f + 510 → get_or st k 0 ≡ get_or sw k 0) → sector_bytes st f t s ≡ sector_bytes sw f t s
block_alike st sw f t s h = block_shift st sw f f t s (λ k m. h (f + k) (omega arith) (omega arith))

-- one data sector
abbrev quiet : ℕ → List ℕ → Step View
quiet b x = record { at = bit_number b; puts = one_put (bit_place b) x; left = none }

-- the first b steps hang on the first b + 1 bits and on the stream's bytes from their place on
pub agree : (st sw : List ℕ) (b f g : ℕ) (bs cs : List ℕ) → b < length bs → b < length cs → ((k : ℕ) → k ≤ b → get_or bs k 0 ≡ get_or cs k 0)
    → ((k : ℕ) → k < 510 * b → get_or st (f + k) 0 ≡ get_or sw (g + k) 0) → take b (data_steps st f bs) ≡ take b (data_steps sw g cs)
unfolding data_steps
agree st sw zero f g bs cs h k e q = refl
agree st sw (suc b) f g [] cs h k e q = absurd (not-suc-le-zero h)
agree st sw (suc b) f g (x ∷ bs) [] h k e q = absurd (not-suc-le-zero k)
agree st sw (suc b) f g (x ∷ bs) (y ∷ cs) h k e q =
    let m : b < length bs = le_of_suc-le-suc h in
    let n : b < length cs = le_of_suc-le-suc k in
    let u = next-first bs (omega arith) in
    let v = next-first cs (omega arith) in
    let z : get_or bs 0 0 ≡ get_or cs 0 0 = e 1 (omega arith) in
    ap₂ {C = List (Step View)} ◌∷◌
    (head x y (e 0 (omega arith)) (next_track bs) (next_track cs) (u.0 ∙ ap track_of z ∙ sym v.0) (next_sector bs) (next_sector cs) (u.1 ∙ ap sector_of z ∙ sym v.1))
    (agree st sw b (f + 510) (g + 510) bs cs m n (λ j p. e (suc j) (omega arith)) later)
  where
    head : (x y : ℕ) → x ≡ y → (t t' : ℕ) → t ≡ t' → (s s' : ℕ) → s ≡ s' → quiet x (sector_bytes st f t s) ≡ quiet y (sector_bytes sw g t' s')
    head x y a t t' c s s' d = rw (a, c, d, block_shift st sw f g t' s' (λ j p. q j (omega arith)))

    later : (j : ℕ) → j < 510 * b → get_or st (f + 510 + j) 0 ≡ get_or sw (g + 510 + j) 0
    later j p =
        let a : f + 510 + j ≡ f + (510 + j) = omega arith in
        let c : g + 510 + j ≡ g + (510 + j) = omega arith in
        rw (a, c) (q (510 + j) (omega arith))

-- ---- what the pieces have written

-- of the sectors of a save of the pieces, all but the first and the last
abbrev pub written : Recording → List (Step View)
written r = take (inner_sectors (sectors_taken r.request)) (data_steps (stream r.request) 510 (drop 1 (chain_of r)))

-- behind the header, the stream is the body
pub stream-body : (w : SaveRequest) (k : ℕ) → 9 ≤ k → get_or (stream w) k 0 ≡ get_or w.body (k - 9) 0
unfolding stream
stream-body w k h = let e : k ≡ 9 + (k - 9) = omega arith in ap (λ (n : ℕ). get_or (stream w) n 0) e ∙ get_or-append-add (take 9 (stream w)) w.body (k - 9) 0

stream-more : (r : Recording) (x : List ℕ) (k : ℕ) → 9 ≤ k → k < 9 + length r.request.body → get_or (stream r.request) k 0 ≡ get_or (stream (with_piece r x).request) k 0
stream-more r x k a h =
    stream-body r.request k a ∙ sym (get_or-append r.request.body x 0 (k - 9) (omega arith)) ∙ sym (stream-body (with_piece r x).request k a)

many_more : (r : Recording) (x : List ℕ) → sectors_taken r.request ≤ sectors_taken (with_piece r x).request
unfolding sectors_for
many_more r x = omega (arith, length-append r.request.body x)

module _ (r : Recording) (x : List ℕ) (p : length (chain_of r) ≡ sectors_taken r.request) (q : length (chain_of (with_piece r x)) ≡ sectors_taken (with_piece r x).request) where
  abbrev before : ℕ
  before = sectors_taken r.request

  abbrev now : ℕ
  now = sectors_taken (with_piece r x).request

  bits_alike : (k : ℕ) → k < before → get_or (chain_of r) k 0 ≡ get_or (chain_of (with_piece r x)) k 0
  unfolding chain_of
  bits_alike k h =
      let m = many_more r x in
      get_or-take before (satisfying 1560 0 (λ b. data_bit r.tracks b && not (has r.used b))) k 0 h
      ∙ sym (get_or-take now (satisfying 1560 0 (λ b. data_bit r.tracks b && not (has r.used b))) k 0 (omega arith))

  front : (b : ℕ) → inner_sectors before ≡ b
      → take b (data_steps (stream (with_piece r x).request) 510 (drop 1 (chain_of (with_piece r x)))) ≡ take b (data_steps (stream r.request) 510 (drop 1 (chain_of r)))
  front zero e = refl
  front (suc b) e =
      let m = many_more r x in
      let l = sectors-least (length r.request.body) in
      agree (stream (with_piece r x).request) (stream r.request) (suc b) 510 510 (drop 1 (chain_of (with_piece r x))) (drop 1 (chain_of r))
      (omega (arith, length-drop 1 (chain_of (with_piece r x)))) (omega (arith, length-drop 1 (chain_of r)))
      (λ k h. get_or-drop 1 (chain_of (with_piece r x)) k 0 ∙ sym (bits_alike (1 + k) (omega arith)) ∙ sym (get_or-drop 1 (chain_of r) k 0))
      (λ k h. sym (stream-more r x (510 + k) (omega arith) (omega arith)))

  pub written-more : written (with_piece r x) ≡ written r ++ piece_steps r x
  written-more =
      let m = many_more r x in
      let e : inner_sectors now ≡ inner_sectors before + (inner_sectors now - inner_sectors before) = omega arith in
      ap (λ (n : ℕ). take n all) e ∙ take-add (inner_sectors before) (inner_sectors now - inner_sectors before) all
      ∙ ap₂ ◌++◌ (front (inner_sectors before) refl) (ap (take (inner_sectors now - inner_sectors before)) rest)
    where
      all : List (Step View)
      all = data_steps (stream (with_piece r x).request) 510 (drop 1 (chain_of (with_piece r x)))

      rest : drop (inner_sectors before) all ≡ data_steps (stream (with_piece r x).request) (510 * (1 + inner_sectors before)) (drop (1 + inner_sectors before) (chain_of (with_piece r x)))
      rest =
          drop_data (stream (with_piece r x).request) (inner_sectors before) 510 (drop 1 (chain_of (with_piece r x)))
          ∙ ap₂ (data_steps (stream (with_piece r x).request)) (omega arith) (drop-drop (inner_sectors before) 1 (chain_of (with_piece r x)))

-- ---- the disk that the pieces left

-- opened on d with these particulars, and every piece written since
pub record AllWritten (w : SaveRequest) (d : List ℕ) (r : Recording) (now : List ℕ) : Type 0 where
  pub accepted : check_disk d ≡ none
  pub opens : recording_reply w (view d) ≡ none
  pub request : r.request ≡ with_body w r.request.body
  pub used : used_of (view d) ≡ r.used
  pub tracks : view_tracks (view d) ≡ r.tracks
  pub fits : sectors_taken r.request ≤ free (view_tracks (view d)) (view_slots (view d))
  pub disk : now ≡ apply d (written r)

module _ (w : SaveRequest) (d : List ℕ) (r : Recording) (now : List ℕ) (f : AllWritten w d r now) where
  pub was : AcceptedDisk (view d)
  was = disk-accepted d f.accepted

  pub chain-long : length (chain_of r) ≡ sectors_taken r.request
  chain-long = ap length (chain_taken d r f.used f.tracks) ∙ taken_long (view d) was r.request f.fits

  pub chain_run : Run (free_bit (view_tracks (view d)) (view_slots (view d))) 0 (chain_of r)
  chain_run = rw (chain_taken d r f.used f.tracks) (taken_run (view_tracks (view d)) (view_slots (view d)) r.request)

  all_goes : StepsHold view AcceptedDisk d (data_steps (stream r.request) 510 (drop 1 (chain_of r)))
  all_goes = goes_from d was (stream r.request) 1 510 (chain_of r) chain_run

  pub written_goes : StepsHold view AcceptedDisk d (written r)
  written_goes = goes_take view AcceptedDisk (inner_sectors (sectors_taken r.request)) (data_steps (stream r.request) 510 (drop 1 (chain_of r))) d all_goes

  -- nothing is seen of them
  pub now-view : view now ≡ view d
  unfolding last_view
  now-view =
      ap view f.disk ∙ goes_view view AcceptedDisk (written r) d written_goes
      ∙ ap (last_view (view d))
      (commits-none (inner_sectors (sectors_taken r.request)) (data_steps (stream r.request) 510 (drop 1 (chain_of r))) (data_commits (stream r.request) 510 (drop 1 (chain_of r))))

  -- and the slots are as they were, read or not
  pub now-slots : (j : ℕ) → j < slots_in d → slot_bytes now j ≡ slot_bytes d j
  now-slots j h =
      ap (λ (x : List ℕ). slot_bytes x j) f.disk ∙ sym (slot_half (apply d (written r)) j)
      ∙ ap (part (256 * (j % 2)) 256)
      (goes_other view AcceptedDisk (written r) d written_goes (dir_sector j)
      (ap (is_listed (dir_sector j)) (numbers-take (inner_sectors (sectors_taken r.request)) (data_steps (stream r.request) 510 (drop 1 (chain_of r))))
      ∙ unlisted_take (dir_sector j) (inner_sectors (sectors_taken r.request)) (numbers (data_steps (stream r.request) 510 (drop 1 (chain_of r))))
      (laid_no_slot d was (stream r.request) (drop 1 (chain_of r)) (run_drop (free_bit (view_tracks (view d)) (view_slots (view d))) 1 0 (chain_of r) chain_run) 510 j h)))
      ∙ slot_half d j

pub follow_more : (w : SaveRequest) (d : List ℕ) (r : Recording) (x now : List ℕ) (room : ℕ) (new ss : List ℕ) → AllWritten w d r now → add_piece r x now room ≡ new_disk new ss → AllWritten w d (with_piece r x) new
unfolding add_piece
follow_more w d r x now room new ss f e =
    let m = made_of now (piece_plan now r x) room new ss e in
    let c = piece_of now r x m.steps m.planned in
    let l : view now ≡ view d = now-view w d r now f in
    let fit : sectors_taken (with_piece r x).request ≤ free (view_tracks (view d)) (view_slots (view d)) = subst (λ (l : View). sectors_taken (with_piece r x).request ≤ free (view_tracks l) (view_slots l)) l c.fits in
    let long : length (chain_of (with_piece r x)) ≡ sectors_taken (with_piece r x).request = ap length (chain_taken d (with_piece r x) f.used f.tracks) ∙ taken_long (view d) (was w d r now f) (with_piece r x).request fit in
    record {
      accepted = f.accepted;
      opens = f.opens;
      request = ap (λ (v : SaveRequest). with_body v (r.request.body ++ x)) f.request;
      used = f.used;
      tracks = f.tracks;
      fits = fit;
      disk = sym m.disk ∙ ap₂ apply f.disk (sym c.steps) ∙ sym (apply-append (written r) (piece_steps r x) d)
          ∙ ap (apply d) (sym (written-more r x (chain-long w d r now f) long));
    }
