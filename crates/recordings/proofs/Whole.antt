-- A recording that nothing disturbed: its close makes the disk that one save of the joined pieces makes.
use Prim.Native.Nat.{ℕ, zero, suc, ◌+◌, ◌*◌, ◌≤◌, ◌<◌}
use mathlib.Core.Path.{◌≡◌, refl, sym, ap, ap₂, ◌∙◌, subst}
use mathlib.Core.Bool.{Bool, true, false, cond, not, ◌&&◌}
use mathlib.Core.List.{List, [], ◌∷◌, ◌++◌}
use mathlib.Core.Option.{none, some}
use native.Mathlib.Nat.{le_of_suc-le-suc, not-suc-le-zero}
use native.Mathlib.Omega.{arith}
use borrow.Author.Tests.{ltb-true, le-ltb, eq-eqb}
use lib.Dec.{eqb, ltb}
use lib.ListN.{length, get_or, take, drop, length-drop, take-append-drop, drop_of_length-le}
use lib.Seq.{drop-cons, drop-drop, get_or-drop}
use Rattle.buffers.specs.Bytes.{put}
use Rattle.buffers.proofs.Counts.{none_any}
use Rattle.geometry.specs.Disk.{bit_number, bit_place}
use Rattle.refusals.specs.Order.{refuse, Reply, ◌else◌, row}
use Rattle.refusals.proofs.First.{else_none}
use Rattle.slots.specs.Slot.{sectors_for}
use Rattle.slots.proofs.Least.{sectors-some}
use Rattle.names.specs.Name.{same_bytes}
use Rattle.names.proofs.Names.{are_bytes}
use Rattle.chains.specs.File.{sector_at, sectors_of}
use Rattle.chains.specs.Whole.{LinksTo}
use Rattle.directory.specs.Places.{slot_at}
use Rattle.directory.specs.Directory.{tracks_of, slots_in, is_slot, is_nameless_at}
use Rattle.directory.proofs.Ends.{nameless_agree}
use Rattle.surveys.specs.Survey.{free}
use Rattle.disk.specs.View.{View, view, view_slots, view_tracks}
use Rattle.disk.specs.Check.{check_view, check_disk}
use Rattle.disk.specs.Accepted.{AcceptedDisk}
use Rattle.steps.specs.Sectors.{is_listed}
use Rattle.steps.specs.Steps.{Step, put_all, apply, numbers, StepsHold}
use Rattle.steps.proofs.Steps.{apply-append, apply_split, goes_other, goes_drop}
use Rattle.steps.proofs.Swap.{apply_swap}
use Rattle.plans.specs.Change.{SaveRequest, save}
use Rattle.plans.specs.Saving.{free_bit, taken_bits, taken_slot, stream, sector_bytes, next_track, next_sector, chain_sectors, new_slot}
use Rattle.plans.specs.Plan.{file_if_live, data_steps, old_name, without_next_name, slot_steps, save_steps, Plan, planned_steps, plan_unless, save_reply, plan_of, refused_result, new_disk, plan_result, checked_result, run_change}
use Rattle.plans.specs.Allowed.{sectors_taken}
use Rattle.plans.proofs.Frame.{inside_data}
use Rattle.plans.proofs.Kept.{tracks-view, accepted-long}
use Rattle.plans.proofs.Free.{Run, run-fresh, run_drop, run_at, FreeSlot, free-slot}
use Rattle.plans.proofs.NewFile.{listed_at, length_block, block_track, block_sector, chained_at}
use Rattle.plans.proofs.Ended.{free-there, end_apply}
use Rattle.plans.proofs.Blocks.{quiet, blocks}
use Rattle.plans.proofs.Laid.{data_listed, laid_in}
use Rattle.plans.proofs.SafeSteps.{SaveTested, save_tested}
use Rattle.plans.proofs.Exactly.{free-sectors}
use Rattle.recordings.specs.Recording.{Recording, with_body, with_piece, chain_of, inner_sectors, used_of, leads_to, lacks_link, disk_moved, fresh_recording, opened_recording, recording_unless, recording_reply, open_recording, piece_steps, piece_reply, piece_plan, close_data, close_steps, close_slot, close_reply, close_plan, close_recording, Uninterrupted, from_opening, then_piece}
use Rattle.recordings.specs.Closed.{SameAsSave}
use Rattle.recordings.proofs.Piece.{chain_taken, links_lead, goes_from}
use Rattle.recordings.proofs.Close.{block_at, two_sectors}
use Rattle.recordings.proofs.Uninterrupted.{drop_data, written, AllWritten, was, chain-long, chain_run, now-view, now-slots, follow_more}

-- ---- every recording so made follows its opening

pub open_of : (w : SaveRequest) (d : List ℕ) (r : Recording) → open_recording w d ≡ opened_recording r → (check_disk d ≡ none) × (recording_reply w (view d) ≡ none) × (fresh_recording w (view d) ≡ r)
unfolding open_recording
open_of w d r e = by (check_disk d else recording_reply w (view d)) refl e
  where
    by : (o : Reply) → (check_disk d else recording_reply w (view d)) ≡ o → recording_unless o (fresh_recording w (view d)) ≡ opened_recording r
        → (check_disk d ≡ none) × (recording_reply w (view d) ≡ none) × (fresh_recording w (view d) ≡ r)
    by (some x) q h = let z : ◌≡◌ {A = ℕ} 0 1 = cc in absurd (omega arith)
    by none q h = let a = else_none (check_disk d) (recording_reply w (view d)) q in (a.0, a.1, cc)

follow_start : (w : SaveRequest) (d : List ℕ) (r : Recording) → open_recording w d ≡ opened_recording r → AllWritten w d r d
unfolding apply sectors_for
follow_start w d r e =
    let o = open_of w d r e in
    let s = save_tested (view_tracks (view d)) (view_slots (view d)) (with_body w []) o.1 in
    subst (λ (r : Recording). AllWritten w d r d) o.2
    (record { accepted = o.0; opens = o.1; request = refl; used = refl; tracks = refl; fits = s.room; disk = refl })

pub follow : (w : SaveRequest) (d : List ℕ) (r : Recording) (now : List ℕ) → Uninterrupted w d r now → AllWritten w d r now
follow w d _ _ (from_opening r e) = follow_start w d r e
follow w d _ _ (then_piece q x mid room new ss s e) = follow_more w d q x mid room new ss (follow w d q mid s) e

-- ---- the data sectors: the pieces', the last and the first are those of a save

module _ (w : SaveRequest) (d : List ℕ) (s : AcceptedDisk (view d)) where
  abbrev is_free : ℕ → Bool
  is_free = free_bit (view_tracks (view d)) (view_slots (view d))

  one_same : (b m : ℕ) → inner_sectors m ≡ 0 → apply (apply d (take (inner_sectors m) (data_steps (stream w) 510 []))) (close_data w (b ∷ [])) ≡ apply d (data_steps (stream w) 0 (b ∷ []))
  unfolding data_steps apply
  one_same b m e = rw e refl

  module _ (b c : ℕ) (cs : List ℕ) (r : Run (free_bit (view_tracks (view d)) (view_slots (view d))) 0 (b ∷ c ∷ cs)) where
    abbrev rest : List (Step View)
    rest = data_steps (stream w) 510 (c ∷ cs)

    rest_goes : StepsHold view AcceptedDisk d rest
    rest_goes = goes_from d s (stream w) 1 510 (b ∷ c ∷ cs) r

    abbrev first_block : List ℕ
    first_block = sector_bytes (stream w) 0 (next_track (c ∷ cs)) (next_sector (c ∷ cs))

    -- the first after the others, or before them
    swapped : apply (put d (bit_place b) first_block) rest ≡ put (apply d rest) (bit_place b) first_block
    swapped =
        apply_swap view AcceptedDisk (bit_number b) (record { place = bit_place b; bytes = first_block }) rest d
        (inside_data d (accepted-long d s) b r.0.small first_block (length_block (stream w) 0 (next_track (c ∷ cs)) (next_sector (c ∷ cs)))) rest_goes
        (data_listed is_free (suc b) (stream w) 510 (c ∷ cs) r.1 b r.0.small ∙ run-fresh is_free b b (c ∷ cs) (omega arith) r.1)

    last_step : drop (length cs) rest ≡ quiet (block_at w (510 * suc (length cs)) (get_or (c ∷ cs) (length cs) 0) []) ∷ []
    unfolding data_steps
    last_step =
        drop_data (stream w) (length cs) 510 (c ∷ cs)
        ∙ ap₂ (data_steps (stream w)) (omega arith)
        (drop-cons (c ∷ cs) (length cs) 0 (omega arith) ∙ ap (λ (x : List ℕ). get_or (c ∷ cs) (length cs) 0 ∷ x) (drop_of_length-le cs {i = length cs} (omega arith)))

    two_same : (m : ℕ) → inner_sectors m ≡ length cs
        → apply (apply d (take (inner_sectors m) rest)) (close_data w (b ∷ c ∷ cs)) ≡ apply d (data_steps (stream w) 0 (b ∷ c ∷ cs))
    unfolding data_steps apply put_all blocks
    two_same m e =
        ap₂ (λ (k : ℕ) (x : List (Step View)). apply (apply d (take k rest)) x) e (two_sectors w b c cs)
        ∙ ap (λ (x : List ℕ). put x (bit_place b) first_block)
        (sym (apply-append (take (length cs) rest) (quiet (block_at w (510 * suc (length cs)) (get_or (c ∷ cs) (length cs) 0) []) ∷ []) d)
        ∙ ap (λ (x : List (Step View)). apply d (take (length cs) rest ++ x)) (sym last_step) ∙ ap (apply d) (take-append-drop (length cs) rest))
        ∙ sym swapped

  pub mid_same : (bs : List ℕ) (m : ℕ) → length bs ≡ m → 1 ≤ m → Run is_free 0 bs
      → apply (apply d (take (inner_sectors m) (data_steps (stream w) 510 (drop 1 bs)))) (close_data w bs) ≡ apply d (data_steps (stream w) 0 bs)
  mid_same [] m e h r = absurd (omega arith)
  mid_same (b ∷ []) m e h r = one_same b m (omega arith)
  mid_same (b ∷ c ∷ cs) m e h r = two_same b c cs r m (omega arith)

-- ---- the sectors that the pieces wrote have their links

-- a bit is not among those after it
later_not : (p : ℕ → Bool) (l : ℕ) (bs : List ℕ) → Run p l bs → (j s : ℕ) → j < s → j < length bs → is_listed (get_or bs j 0) (drop s bs) ≡ false
later_not p l bs r j zero h m = absurd (not-suc-le-zero h)
later_not p l [] r j (suc s) h m = absurd (not-suc-le-zero m)
later_not p l (b ∷ bs) r zero (suc s) h m = run-fresh p b b (drop s bs) (omega arith) (run_drop p s (suc b) bs r.1)
later_not p l (b ∷ bs) r (suc j) (suc s) h m = later_not p (suc b) bs r.1 j s (le_of_suc-le-suc h) (le_of_suc-le-suc m)

module _ (st : List ℕ) (d : List ℕ) (s : AcceptedDisk (view d)) (bs : List ℕ) (r : Run (free_bit (view_tracks (view d)) (view_slots (view d))) 0 bs) (b k : ℕ) (h : k < b) (m : suc k < length bs) where
  abbrev is_free' : ℕ → Bool
  is_free' = free_bit (view_tracks (view d)) (view_slots (view d))

  abbrev all : List (Step View)
  all = data_steps st 510 (drop 1 bs)

  it_is : get_or (drop 1 bs) k 0 ≡ get_or bs (suc k) 0
  it_is = get_or-drop 1 bs k 0 ∙ ap (λ (n : ℕ). get_or bs n 0) (omega arith)

  tail_run : Run is_free' 0 (drop 1 bs)
  tail_run = run_drop is_free' 1 0 bs r

  small : get_or bs (suc k) 0 < 1560
  small = (run_at is_free' 0 bs r (suc k) m).small

  -- the rest of the chain leaves it
  unlisted : is_listed (bit_number (get_or bs (suc k) 0)) (numbers (drop b all)) ≡ false
  unlisted =
      ap (λ (x : List (Step View)). is_listed (bit_number (get_or bs (suc k) 0)) (numbers x)) (drop_data st b 510 (drop 1 bs))
      ∙ data_listed is_free' 0 st (510 + 510 * b) (drop b (drop 1 bs)) (run_drop is_free' b 0 (drop 1 bs) tail_run) (get_or bs (suc k) 0) small
      ∙ ap (λ (c : ℕ). is_listed c (drop b (drop 1 bs))) (sym it_is)
      ∙ later_not is_free' 0 (drop 1 bs) tail_run k b h (omega (arith, length-drop 1 bs))

  pub wrote : sector_at (apply d (take b all)) (get_or bs (suc k) 0) ≡ sector_bytes st (510 + 510 * k) (next_track (drop (suc k) (drop 1 bs))) (next_sector (drop (suc k) (drop 1 bs)))
  wrote =
      let g = goes_from d s st 1 510 bs r in
      let q : k < length (drop 1 bs) = omega (arith, length-drop 1 bs) in
      sym (ap (λ (e : List ℕ). sector_at e (get_or bs (suc k) 0)) (apply_split b all d)
      ∙ goes_other view AcceptedDisk (drop b all) (apply d (take b all)) (goes_drop view AcceptedDisk b all d g) (bit_number (get_or bs (suc k) 0)) unlisted)
      ∙ ap (sector_at (apply d all)) (sym it_is)
      ∙ laid_in d s st (drop 1 bs) tail_run 510 (get_or (drop 1 bs) k 0) (listed_at (drop 1 bs) k q)
      ∙ chained_at st is_free' 0 510 (drop 1 bs) tail_run k q

  pub wrote_link : suc (suc k) < length bs → LinksTo (sector_at (apply d (take b all)) (get_or bs (suc k) 0)) (get_or bs (suc (suc k)) 0)
  wrote_link n =
      let a : 1 + suc k ≡ suc (suc k) = omega arith in
      let e : drop (suc k) (drop 1 bs) ≡ drop (suc (suc k)) bs = drop-drop (suc k) 1 bs ∙ ap (λ (n : ℕ). drop n bs) a in
      let c : drop (suc (suc k)) bs ≡ get_or bs (suc (suc k)) 0 ∷ drop (suc (suc (suc k))) bs = drop-cons bs (suc (suc k)) 0 n in
      rw (wrote, e, c) (record { track = block_track st _ _ _; sector = block_sector st _ _ _ })

-- ---- the close

module _ (w : SaveRequest) (d : List ℕ) (r : Recording) (now : List ℕ) (f : AllWritten w d r now) where
  sound : AcceptedDisk (view d)
  sound = was w d r now f

  l : view now ≡ view d
  l = now-view w d r now f

  pub opened : SaveTested (view_tracks (view d)) (view_slots (view d)) (with_body w [])
  opened = save_tested (view_tracks (view d)) (view_slots (view d)) (with_body w []) f.opens

  abbrev i : ℕ
  i = close_slot d

  at : FreeSlot (view d) i
  at = free-slot (view d) i opened.lowest

  -- the slots are as they were, read or not
  old-same : old_name now i ≡ old_name d i
  unfolding old_name is_slot
  old-same =
      rw (tracks-view now d l, nameless_agree d now i (now-slots w d r now f i (free-there d i at)))
      (ap (λ (t : Bool). is_nameless_at d i && t) (by (ltb (suc i) (slots_in d)) refl))
    where
      by : (t : Bool) → ltb (suc i) (slots_in d) ≡ t → (t && not (is_nameless_at now (suc i))) ≡ (t && not (is_nameless_at d (suc i)))
      by true q = ap not (nameless_agree d now (suc i) (now-slots w d r now f (suc i) (ltb-true (suc i) (slots_in d) q)))
      by false q = refl

  -- the disk that the close makes is the one that a save makes
  pub close_is_save : apply now (close_steps (old_name d i) now i r.request (chain_of r)) ≡ apply d (save_steps (old_name d i) (view d) i r.request (chain_of r))
  close_is_save =
      apply-append (close_data r.request (chain_of r)) (slot_steps (old_name d i) (view now) i (new_slot (view now).label i r.request (chain_of r)) closed) now
      ∙ end_apply (old_name d i) i (apply now (close_data r.request (chain_of r))) (view now) 0 (new_slot (view now).label i r.request (chain_of r))
      (file_if_live (new_slot (view now).label i r.request (chain_of r)) closed)
      ∙ ap₂ (λ (x : List ℕ) (l : View). put (without_next_name (old_name d i) i x) (slot_at i + 0) (new_slot l.label i r.request (chain_of r))) mid l
      ∙ sym
      (apply-append (data_steps (stream r.request) 0 (chain_of r)) (slot_steps (old_name d i) (view d) i slot saved) d
      ∙ end_apply (old_name d i) i (apply d (data_steps (stream r.request) 0 (chain_of r))) (view d) 0 slot (file_if_live slot saved))
    where
      slot : List ℕ
      slot = new_slot (view d).label i r.request (chain_of r)

      saved : ℕ → List ℕ
      saved = chain_sectors (stream r.request) 0 (chain_of r)

      closed : ℕ → List ℕ
      closed = sectors_of (apply now (close_data r.request (chain_of r))) (new_slot (view now).label i r.request (chain_of r))

      mid : apply now (close_data r.request (chain_of r)) ≡ apply d (data_steps (stream r.request) 0 (chain_of r))
      mid =
          ap (λ (x : List ℕ). apply x (close_data r.request (chain_of r))) f.disk
          ∙ mid_same r.request d sound (chain_of r) (sectors_taken r.request) (chain-long w d r now f) (sectors-some (length r.request.body)) (chain_run w d r now f)

  -- a save of the joined pieces is refused 19 alone, where they do not fit
  pub save_so : (x : List ℕ) → save_reply (view_tracks (view d)) (view_slots (view d)) (with_body w x)
      ≡ row 19 0 (ltb (free (view_tracks (view d)) (view_slots (view d))) (sectors_for (length x)))
  unfolding save_reply
  save_so x = rw (opened.usable-name, opened.carried-kind, opened.range, opened.fresh, opened.lowest)

  -- 30 does not hold
  pub unmoved : disk_moved now r ≡ false
  unfolding disk_moved lacks_link
  unmoved = rw (same, eq, none_any (inner_sectors (length (chain_of r))) unled linked)
    where
      same : same_bytes (used_of (view now)) r.used ≡ true
      same = are_bytes (used_of (view now)) r.used (ap used_of l ∙ f.used)

      eq : eqb (view_tracks (view now)) r.tracks ≡ true
      eq = eq-eqb (view_tracks (view now)) r.tracks (ap view_tracks l ∙ f.tracks)

      unled : ℕ → Bool
      unled k = not (leads_to (sector_at now (get_or (chain_of r) (suc k) 0)) (get_or (chain_of r) (suc (suc k)) 0))

      linked : (k : ℕ) → k < inner_sectors (length (chain_of r)) → unled k ≡ false
      linked k h =
          let e = chain-long w d r now f in
          let v = wrote_link (stream r.request) d sound (chain_of r) (chain_run w d r now f) (inner_sectors (sectors_taken r.request)) k (omega arith) (omega arith) (omega arith) in
          ap not (links_lead (sector_at now (get_or (chain_of r) (suc k) 0)) (get_or (chain_of r) (suc (suc k)) 0) (rw f.disk v))

  bits : chain_of r ≡ taken_bits (view_tracks (view d)) (view_slots (view d)) r.request
  bits = chain_taken d r f.used f.tracks

  -- the pieces so far are not refused, in a save and in the close
  fits_so : save_reply (view_tracks (view d)) (view_slots (view d)) r.request ≡ none
  fits_so =
      ap (save_reply (view_tracks (view d)) (view_slots (view d))) f.request ∙ save_so r.request.body
      ∙ ap (row 19 0) (le-ltb (free (view_tracks (view d)) (view_slots (view d))) (sectors_taken r.request) f.fits)

  pub saves_so : plan_of (old_name d) (save r.request) (view d) ≡ planned_steps (save_steps (old_name d i) (view d) i r.request (chain_of r))
  unfolding plan_of
  saves_so = rw (fits_so, bits)

  pub closes_so : close_plan now r ≡ planned_steps (close_steps (old_name d i) now i r.request (chain_of r))
  unfolding close_plan
  closes_so =
      ap₂ (λ (t : Bool) (l : View). plan_unless (row 30 0 t else save_reply (view_tracks l) (view_slots l) r.request) (planned_steps (steps (taken_slot (view_tracks l) (view_slots l))))) unmoved l
      ∙ rw (fits_so, old-same)
    where
      steps : ℕ → List (Step View)
      steps j = close_steps (old_name now j) now j r.request (chain_of r)

  -- a piece is refused as a save of all pieces with it is
  pub piece_alike : (x : List ℕ) → piece_reply now r x ≡ save_reply (view_tracks (view d)) (view_slots (view d)) (with_piece r x).request
  piece_alike x =
      ap₂ (λ (t : Bool) (l : View). row 30 0 t else row 19 0 (ltb (free (view_tracks l) (view_slots l)) (sectors_taken (with_piece r x).request))) unmoved l
      ∙ sym (ap (λ (v : SaveRequest). save_reply (view_tracks (view d)) (view_slots (view d)) (with_body v (r.request.body ++ x))) f.request ∙ save_so (r.request.body ++ x))

  pub now-accepted : check_disk now ≡ none
  unfolding check_disk
  now-accepted = ap check_view l ∙ f.accepted

  pub same_as_save : SameAsSave d r now
  unfolding run_change close_recording
  same_as_save = record {
    new = apply d (save_steps (old_name d i) (view d) i r.request (chain_of r));
    of_save = numbers (save_steps (old_name d i) (view d) i r.request (chain_of r));
    of_close = numbers (close_steps (old_name d i) now i r.request (chain_of r));
    saves = λ room. ap₂ (λ (o : Reply) (p : Plan). checked_result o (plan_result d room p)) f.accepted saves_so;
    closes = λ room.
        ap₂ (λ (o : Reply) (p : Plan). checked_result o (plan_result now room p)) now-accepted closes_so
        ∙ ap (λ (x : List ℕ).
        cond (ltb room (length (numbers (close_steps (old_name d i) now i r.request (chain_of r))))) (refused_result (refuse 20 0))
        (new_disk x (numbers (close_steps (old_name d i) now i r.request (chain_of r)))))
        close_is_save;
    pieces = piece_alike;
    fits = λ x.
        ap₂ (λ (t : Bool) (l : View). row 30 0 t else row 19 0 (ltb (free (view_tracks l) (view_slots l)) (sectors_taken (with_piece r x).request))) unmoved l
        ∙ ap (λ (n : ℕ). row 19 0 (ltb n (sectors_taken (with_piece r x).request))) (free-sectors d);
  }

-- M-109: nothing else touched the disk and nothing was cut
pub straight : (w : SaveRequest) (d : List ℕ) (r : Recording) (now : List ℕ) → Uninterrupted w d r now → SameAsSave d r now
straight w d r now s = same_as_save w d r now (follow w d r now s)

-- however the body is cut into pieces: the same bytes are one recording, and leave one disk
pub however_cut : (w : SaveRequest) (d : List ℕ) (r r' : Recording) (now now' : List ℕ) → Uninterrupted w d r now → Uninterrupted w d r' now' → r.request.body ≡ r'.request.body
    → (r ≡ r') × (now ≡ now')
however_cut w d r r' now now' s s' e =
    let f = follow w d r now s in
    let g = follow w d r' now' s' in
    let q : r ≡ r' = same_recording r r' (f.request ∙ ap (with_body w) e ∙ sym g.request) (sym f.used ∙ g.used) (sym f.tracks ∙ g.tracks) in
    (q, f.disk ∙ ap (λ (r : Recording). apply d (written r)) q ∙ sym g.disk)
  where
    same_recording : (r r' : Recording) → r.request ≡ r'.request → r.used ≡ r'.used → r.tracks ≡ r'.tracks → r ≡ r'
    same_recording r r' a b c =
        ap₂ {C = Recording} (λ (v : SaveRequest) (u : List ℕ). record { request = v; used = u; tracks = r.tracks }) a b
        ∙ ap {B = Recording} (λ (n : ℕ). record { request = r'.request; used = r'.used; tracks = n }) c
