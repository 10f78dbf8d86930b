-- An accepted piece is quiet: whichever number of its sectors is written, nothing is seen to change.
use Prim.Native.Nat.{ℕ, zero, suc, ◌+◌, ◌-◌, ◌*◌, ◌%◌, ◌≤◌, ◌<◌}
use mathlib.Core.Path.{◌≡◌, refl, sym, ap, ap₂, ◌∙◌, subst, subst₂}
use mathlib.Core.Bool.{Bool, true, false, cond, not, ◌&&◌, ◌||◌, true≢false}
use mathlib.Core.List.{List, [], ◌∷◌, map}
use mathlib.Core.Logic.{inr}
use mathlib.Core.Option.{none, some}
use native.Mathlib.Nat.{not-suc-le-zero}
use native.Mathlib.Omega.{arith}
use borrow.Author.Tests.{eqb-true, eq-eqb, not-false, ltb-false}
use lib.Dec.{eqb, ltb}
use lib.ListN.{length, get_or, take, drop}
use lib.Seq.{take-nil}
use Rattle.buffers.specs.Bytes.{any, part}
use Rattle.buffers.proofs.Counts.{any_none}
use Rattle.buffers.proofs.Tests.{and_both}
use Rattle.geometry.specs.Disk.{track_of, sector_of}
use Rattle.refusals.specs.Order.{refuse, Reply, ◌else◌, row}
use Rattle.refusals.proofs.First.{else_none}
use Rattle.maps.specs.Bits.{has}
use Rattle.slots.specs.Tracks.{data_bit}
use Rattle.names.specs.Name.{same_bytes}
use Rattle.names.proofs.Names.{bytes_are}
use Rattle.chains.specs.File.{File, sector_at}
use Rattle.chains.specs.Whole.{LinksTo}
use Rattle.directory.specs.Places.{dir_sector}
use Rattle.directory.specs.Directory.{label_of, slots_in, slots_read}
use Rattle.directory.proofs.Label.{tracks_agree}
use Rattle.directory.proofs.Ends.{unread-kept}
use Rattle.surveys.specs.Survey.{free}
use Rattle.disk.specs.View.{View, view, view_slots, view_tracks}
use Rattle.disk.specs.Check.{check_disk}
use Rattle.disk.specs.Accepted.{AcceptedDisk}
use Rattle.steps.specs.Sectors.{is_listed, Once}
use Rattle.steps.specs.Steps.{Step, apply, numbers, commits, last_view, StepsHold}
use Rattle.steps.proofs.Sectors.{listed_take}
use Rattle.steps.proofs.Steps.{numbers-take, commits-take, goes_take, goes_view, cut-sees}
use Rattle.plans.specs.Saving.{satisfying, free_bit, taken_bits, stream}
use Rattle.plans.specs.Plan.{data_steps, Plan, refused_plan, planned_steps, refused_result, new_disk, plan_result, checked_result}
use Rattle.plans.specs.Allowed.{sectors_taken}
use Rattle.plans.specs.Safe.{Safe}
use Rattle.plans.specs.Unread.{Unread}
use Rattle.plans.proofs.Frame.{disk-accepted, slot_half}
use Rattle.plans.proofs.Free.{Run, run_drop, taken_run}
use Rattle.plans.proofs.Blocks.{data_are, data_blocks, SpareBlocks, blocks_goes, blocks_once}
use Rattle.plans.proofs.Laid.{laid_from, laid_no_slot, data_commits}
use Rattle.plans.proofs.Crash.{SafeSteps, crash_of}
use Rattle.plans.proofs.SafeSteps.{or_none, row-none}
use Rattle.plans.proofs.Unread.{unread_of}
use Rattle.recordings.specs.Closed.{Unseen}
use Rattle.recordings.specs.Recording.{Recording, with_piece, chain_of, inner_sectors, used_of, leads_to, lacks_link, disk_moved, piece_steps, piece_reply, piece_plan, add_piece}

-- ---- 30

-- what holds where 30 does not
pub record NotMoved (d : List ℕ) (r : Recording) : Type 0 where
  pub used : used_of (view d) ≡ r.used
  pub tracks : view_tracks (view d) ≡ r.tracks
  pub links : (k : ℕ) → 1 ≤ k → suc k < length (chain_of r) → LinksTo (sector_at d (get_or (chain_of r) k 0)) (get_or (chain_of r) (suc k) 0)

not_or : (t u : Bool) → (t || u) ≡ false → (t ≡ false) × (u ≡ false)
not_or true u e = absurd (true≢false e)
not_or false u e = (refl, e)

pub leads_to_lem : (h : List ℕ) (b : ℕ) → leads_to h b ≡ true → LinksTo h b
leads_to_lem h b e =
    let c = and_both (eqb (get_or h 510 0) (track_of b)) (eqb (get_or h 511 0) (sector_of b)) e in
    record { track = eqb-true (get_or h 510 0) (track_of b) c.0; sector = eqb-true (get_or h 511 0) (sector_of b) c.1 }

pub links_lead : (h : List ℕ) (b : ℕ) → LinksTo h b → leads_to h b ≡ true
links_lead h b w = rw (eq-eqb (get_or h 510 0) (track_of b) w.track, eq-eqb (get_or h 511 0) (sector_of b) w.sector)

pub still : (d : List ℕ) (r : Recording) → disk_moved d r ≡ false → NotMoved d r
unfolding disk_moved lacks_link
still d r e =
    let o = not_or (not (same_bytes (used_of (view d)) r.used && eqb (view_tracks (view d)) r.tracks)) (any (inner_sectors (length (chain_of r))) unled) e in
    let a = and_both (same_bytes (used_of (view d)) r.used) (eqb (view_tracks (view d)) r.tracks) (not-false (same_bytes (used_of (view d)) r.used && eqb (view_tracks (view d)) r.tracks) o.0) in
    record {
      used = bytes_are (used_of (view d)) r.used a.0;
      tracks = eqb-true (view_tracks (view d)) r.tracks a.1;
      links = at o.1;
    }
  where
    unled : ℕ → Bool
    unled k = not (leads_to (sector_at d (get_or (chain_of r) (suc k) 0)) (get_or (chain_of r) (suc (suc k)) 0))

    at : any (inner_sectors (length (chain_of r))) unled ≡ false → (k : ℕ) → 1 ≤ k → suc k < length (chain_of r)
        → LinksTo (sector_at d (get_or (chain_of r) k 0)) (get_or (chain_of r) (suc k) 0)
    at q zero h m = absurd (not-suc-le-zero h)
    at q (suc k) h m =
        leads_to_lem (sector_at d (get_or (chain_of r) (suc k) 0)) (get_or (chain_of r) (suc (suc k)) 0)
        (not-false (leads_to (sector_at d (get_or (chain_of r) (suc k) 0)) (get_or (chain_of r) (suc (suc k)) 0)) (any_none (inner_sectors (length (chain_of r))) unled q k (omega arith)))

-- the chain is then the one that a save takes now
pub chain_taken : (d : List ℕ) (r : Recording) → used_of (view d) ≡ r.used → view_tracks (view d) ≡ r.tracks → chain_of r ≡ taken_bits (view_tracks (view d)) (view_slots (view d)) r.request
unfolding chain_of taken_bits
chain_taken d r u t =
    ap₂ (λ (m : List ℕ) (n : ℕ). take (sectors_taken r.request) (satisfying 1560 0 (λ b. data_bit n b && not (has m b)))) (sym u) (sym t)

-- ---- data sectors from the s-th bit of a run on

module _ (d : List ℕ) (w : AcceptedDisk (view d)) (st : List ℕ) (s f : ℕ) (bs : List ℕ) (r : Run (free_bit (view_tracks (view d)) (view_slots (view d))) 0 bs) where
  pub spare_drop : SpareBlocks d (data_blocks st f (drop s bs))
  spare_drop = laid_from d w st (drop s bs) (run_drop (free_bit (view_tracks (view d)) (view_slots (view d))) s 0 bs r) f

  pub goes_from : StepsHold view AcceptedDisk d (data_steps st f (drop s bs))
  goes_from = rw (data_are st f (drop s bs)) (blocks_goes d (data_blocks st f (drop s bs)) spare_drop)

  pub once_from : Once (numbers (data_steps st f (drop s bs)))
  once_from = rw (data_are st f (drop s bs)) (blocks_once d (data_blocks st f (drop s bs)) spare_drop)

-- ---- steps that commit nothing

pub unlisted_take : (a k : ℕ) (xs : List ℕ) → is_listed a xs ≡ false → is_listed a (take k xs) ≡ false
unlisted_take a k xs e = by (is_listed a (take k xs)) refl
  where
    by : (t : Bool) → is_listed a (take k xs) ≡ t → t ≡ false
    by true q = absurd (true≢false (sym (listed_take a k xs q) ∙ e))
    by false q = refl

once-take : (k : ℕ) (xs : List ℕ) → Once xs → Once (take k xs)
once-take zero xs o = tt
once-take (suc k) [] o = tt
once-take (suc k) (x ∷ xs) o = (unlisted_take x k xs o.0, once-take k xs o.1)

pub commits-none : {S : Type 0} (k : ℕ) (sts : List (Step S)) → commits sts ≡ [] → commits (take k sts) ≡ []
commits-none k sts e = commits-take k sts ∙ ap (take (length (commits (take k sts)))) e ∙ take-nil (length (commits (take k sts)))

-- quiet steps alter no file
pub quiet_safe : (d : List ℕ) (sts : List (Step View)) → StepsHold view AcceptedDisk d sts → Once (numbers sts) → commits sts ≡ [] → SafeSteps (λ f. false) d sts
unfolding last_view
quiet_safe d sts g o e = record {
  goes = g;
  once = o;
  quiet = λ k h. commits-none k sts e;
  label = ap (λ (ts : List View). (last_view (view d) ts).label) e;
  others = λ i f m q. ap (λ (ts : List View). (last_view (view d) ts).files i) e ∙ m;
}

-- ---- a piece

-- an accepted piece has passed these
pub record PieceTested (d : List ℕ) (r : Recording) (x : List ℕ) (sts : List (Step View)) : Type 0 where
  pub stays : NotMoved d r
  pub fits : sectors_taken (with_piece r x).request ≤ free (view_tracks (view d)) (view_slots (view d))
  pub steps : piece_steps r x ≡ sts

pub go_same : (q p : List (Step View)) → planned_steps q ≡ planned_steps p → q ≡ p
go_same q p e = cc

pub piece_of : (d : List ℕ) (r : Recording) (x : List ℕ) (sts : List (Step View)) → piece_plan d r x ≡ planned_steps sts → PieceTested d r x sts
unfolding piece_plan
piece_of d r x sts e =
    let n : ℕ = free (view_tracks (view d)) (view_slots (view d)) in
    let a = or_none (piece_reply d r x) (planned_steps (piece_steps r x)) sts e in
    let b = else_none (row 30 0 (disk_moved d r)) (row 19 0 (ltb (free (view_tracks (view d)) (view_slots (view d))) (sectors_taken (with_piece r x).request))) a.0 in
    record {
      stays = still d r (row-none 30 0 (disk_moved d r) b.0);
      fits = ltb-false n (sectors_taken (with_piece r x).request) (row-none 19 0 (ltb n (sectors_taken (with_piece r x).request)) b.1);
      steps = go_same (piece_steps r x) sts a.1;
    }

pub piece-safe : (d : List ℕ) (r : Recording) (x : List ℕ) (sts : List (Step View)) → AcceptedDisk (view d) → piece_plan d r x ≡ planned_steps sts
    → StepsHold view AcceptedDisk d sts × Once (numbers sts) × (commits sts ≡ [])
piece-safe d r x sts w e =
    let c = piece_of d r x sts e in
    let t = chain_taken d (with_piece r x) c.stays.used c.stays.tracks in
    let u : Run (free_bit (view_tracks (view d)) (view_slots (view d))) 0 (chain_of (with_piece r x)) = rw t (taken_run (view_tracks (view d)) (view_slots (view d)) (with_piece r x).request) in
    let s : ℕ = 1 + inner_sectors (sectors_taken r.request) in
    let k : ℕ = inner_sectors (sectors_taken (with_piece r x).request) - inner_sectors (sectors_taken r.request) in
    let all : List (Step View) = data_steps (stream (with_piece r x).request) (510 * s) (drop s (chain_of (with_piece r x))) in
    subst (λ (z : List (Step View)). StepsHold view AcceptedDisk d z × Once (numbers z) × (commits z ≡ [])) c.steps (
      goes_take view AcceptedDisk k all d (goes_from d w (stream (with_piece r x).request) s (510 * s) (chain_of (with_piece r x)) u),
      rw numbers-take (once-take k (numbers all) (once_from d w (stream (with_piece r x).request) s (510 * s) (chain_of (with_piece r x)) u)),
      commits-none k all (data_commits (stream (with_piece r x).request) (510 * s) (drop s (chain_of (with_piece r x)))),
    )

-- its sectors are none of the directory's
piece-apart : (d : List ℕ) (r : Recording) (x : List ℕ) (sts : List (Step View)) → AcceptedDisk (view d) → piece_plan d r x ≡ planned_steps sts
    → (j : ℕ) → j < slots_in d → is_listed (dir_sector j) (numbers sts) ≡ false
piece-apart d r x sts w e j h =
    let c = piece_of d r x sts e in
    let t = chain_taken d (with_piece r x) c.stays.used c.stays.tracks in
    let u : Run (free_bit (view_tracks (view d)) (view_slots (view d))) 0 (chain_of (with_piece r x)) = rw t (taken_run (view_tracks (view d)) (view_slots (view d)) (with_piece r x).request) in
    let s : ℕ = 1 + inner_sectors (sectors_taken r.request) in
    let k : ℕ = inner_sectors (sectors_taken (with_piece r x).request) - inner_sectors (sectors_taken r.request) in
    let all : List (Step View) = data_steps (stream (with_piece r x).request) (510 * s) (drop s (chain_of (with_piece r x))) in
    subst (λ (z : List (Step View)). is_listed (dir_sector j) (numbers z) ≡ false) c.steps
    (ap (is_listed (dir_sector j)) (numbers-take k all)
    ∙ unlisted_take (dir_sector j) k (numbers all)
    (laid_no_slot d w (stream (with_piece r x).request) (drop s (chain_of (with_piece r x))) (run_drop (free_bit (view_tracks (view d)) (view_slots (view d))) s 0 (chain_of (with_piece r x)) u) (510 * s) j h))

-- where no sector of the directory is written, the slots that were unread stay so
apart-unread : (d new ss : List ℕ) (finds : File → Bool) → Safe finds d new ss → ((j : ℕ) → j < slots_in d → is_listed (dir_sector j) ss ≡ false) → Unread (λ j. ⊥) d new ss
apart-unread d new ss finds s u =
    unread_of (λ j. ⊥) d new ss s.whole (λ k h l. unlisted_take (dir_sector (slots_read d)) k ss (u (slots_read d) l)) s.label
    (λ j q z.
    unread-kept d new (tracks_agree d new (sym (ap label_of s.whole) ∙ s.label (length ss) (omega arith)))
    (λ l.
    sym (slot_half new (slots_read d)) ∙ ap (part (256 * (slots_read d % 2)) 256) (s.unnamed (dir_sector (slots_read d)) (u (slots_read d) l)) ∙ slot_half d (slots_read d)) j q)
    (λ j. inr (λ x. x))

-- ---- from an accepted call to its steps

pub record PlanMade (d : List ℕ) (p : Plan) (room : ℕ) (new ss : List ℕ) : Type 0 where
  pub accepted : check_disk d ≡ none
  pub steps : List (Step View)
  pub planned : p ≡ planned_steps steps
  pub disk : apply d steps ≡ new
  pub named : numbers steps ≡ ss
  pub fits : length ss ≤ room

pub made_of : (d : List ℕ) (p : Plan) (room : ℕ) (new ss : List ℕ) → checked_result (check_disk d) (plan_result d room p) ≡ new_disk new ss → PlanMade d p room new ss
made_of d p room new ss e = by (check_disk d) refl e
  where
    fit : check_disk d ≡ none → (sts : List (Step View)) → p ≡ planned_steps sts → (t : Bool) → ltb room (length (numbers sts)) ≡ t
        → cond t (refused_result (refuse 20 0)) (new_disk (apply d sts) (numbers sts)) ≡ new_disk new ss → PlanMade d p room new ss
    fit ok sts q true h x = let z : ◌≡◌ {A = ℕ} 0 1 = cc in absurd (omega arith)
    fit ok sts q false h x =
        let z : numbers sts ≡ ss = cc in
        record {
          accepted = ok;
          steps = sts;
          planned = q;
          disk = cc;
          named = z;
          fits = subst (λ (l : List ℕ). length l ≤ room) z (ltb-false room (length (numbers sts)) h);
        }

    at : check_disk d ≡ none → (p' : Plan) → p ≡ p' → plan_result d room p' ≡ new_disk new ss → PlanMade d p room new ss
    at ok (refused_plan r) q x = let z : ◌≡◌ {A = ℕ} 0 1 = cc in absurd (omega arith)
    at ok (planned_steps sts) q x = fit ok sts q (ltb room (length (numbers sts))) refl x

    by : (o : Reply) → check_disk d ≡ o → checked_result o (plan_result d room p) ≡ new_disk new ss → PlanMade d p room new ss
    by (some r) q x = let z : ◌≡◌ {A = ℕ} 0 1 = cc in absurd (omega arith)
    by none q x = at q p refl x

-- M-109, a piece: on any accepted disk, whatever the recording, an accepted piece is seen at no cut, and demand 3 holds of it
pub piece-unseen : (r : Recording) (x d : List ℕ) (room : ℕ) (new ss : List ℕ) → add_piece r x d room ≡ new_disk new ss → Unseen d new ss
unfolding add_piece last_view
piece-unseen r x d room new ss e =
    let m = made_of d (piece_plan d r x) room new ss e in
    let w = disk-accepted d m.accepted in
    let s = piece-safe d r x m.steps w m.planned in
    let safe = crash_of (λ f. false) d m.accepted m.steps (quiet_safe d m.steps s.0 s.1 s.2) in
    subst₂ (Unseen d) m.disk m.named
    (record {
      unseen = λ k.
          (cut-sees view AcceptedDisk m.steps d k s.0 s.1 w).sees ∙ ap (last_view (view d)) (commits-none k m.steps s.2);
      after = goes_view view AcceptedDisk m.steps d s.0 ∙ ap (last_view (view d)) s.2;
      safe = safe;
      unread = apart-unread d (apply d m.steps) (numbers m.steps) (λ f. false) safe (piece-apart d r x m.steps w m.planned);
    })
