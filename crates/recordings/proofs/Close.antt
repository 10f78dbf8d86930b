-- An accepted close is safe on every accepted disk: its chain is whole, its header agrees, no other file is altered, and before its last sector nothing is seen to change.
use Prim.Native.Nat.{ℕ, zero, suc, ◌+◌, ◌-◌, ◌*◌, ◌≤◌, ◌<◌}
use mathlib.Core.Path.{◌≡◌, refl, sym, ap, ◌∙◌, subst}
use mathlib.Core.Bool.{Bool, true, false, ◌||◌, false≢true}
use mathlib.Core.List.{List, [], ◌∷◌, ◌++◌}
use mathlib.Core.Logic.{inl, inr}
use mathlib.Core.Option.{none, some}
use native.Mathlib.Nat.{not-suc-le-zero}
use native.Mathlib.Omega.{arith}
use borrow.Author.Tests.{eqb-true, ne_eqb}
use lib.Dec.{eqb}
use lib.ListN.{length, get_or, drop, length-drop, drop_of_length-le}
use lib.Seq.{drop-cons, get_or-drop}
use Rattle.buffers.specs.Bytes.{put}
use Rattle.geometry.specs.Disk.{track_of, sector_of}
use Rattle.slots.specs.Slot.{map_of}
use Rattle.chains.specs.File.{File, sector_at, sectors_of}
use Rattle.chains.specs.Whole.{LinksTo}
use Rattle.chains.proofs.Laws.{sectors-own}
use Rattle.directory.specs.Places.{slot_bytes, dir_sector}
use Rattle.directory.specs.Directory.{tracks_of, slots_in, is_nameless_at}
use Rattle.directory.specs.Find.{find}
use Rattle.directory.proofs.Label.{disk_tracks_few}
use Rattle.disk.specs.View.{View, view, view_slots, view_tracks}
use Rattle.disk.specs.Accepted.{AcceptedFile, AcceptedDisk}
use Rattle.steps.specs.Sectors.{is_listed, Once}
use Rattle.steps.specs.Steps.{Step, apply, numbers, commits, last_view, StepsHold}
use Rattle.steps.proofs.Sectors.{listed_head}
use Rattle.steps.proofs.Steps.{commits-append, goes_view}
use Rattle.plans.specs.Change.{SaveRequest}
use Rattle.plans.specs.Saving.{free_bit, stream, sector_bytes, next_track, next_sector, new_slot}
use Rattle.plans.specs.Plan.{with_slot, file_if_live, data_steps, old_name, end_steps, end_step, slot_steps}
use Rattle.plans.proofs.Frame.{entry-live}
use Rattle.plans.proofs.Kept.{DisjointFiles}
use Rattle.plans.proofs.Free.{FreeSlot, Run, run_at, run-rises}
use Rattle.plans.proofs.NewFile.{listed_at, next-first, length_block, block_byte, block_track, block_sector, live-is, Ready, filled}
use Rattle.plans.proofs.Ended.{reach_free, end_commits}
use Rattle.plans.proofs.AcceptedFile.{LinkedAlong, own-bit, accepted_of, slot-names, slot-fits, new_named}
use Rattle.plans.proofs.Blocks.{Block, blocks, bits_in, WholeBlock, SpareBlocks, blocks_view, blocks_commits, blocks_else, blocks_in, dir_unlisted, blocks_else_slot, blocks_next, blocks_then_slot}
use Rattle.plans.proofs.Laid.{laid_data, laid_unused}
use Rattle.plans.proofs.Saved.{there, slot_map, new_apart, whole-slot, kept, slot-fit}
use Rattle.recordings.specs.Recording.{close_data, close_steps}

-- ---- the data sectors of a close

-- the sector of bit b that holds the stream from f on and leads to the first of bs
abbrev pub block_at : SaveRequest → ℕ → ℕ → List ℕ → Block
block_at w f b bs = record { bit = b; bytes = sector_bytes (stream w) f (next_track bs) (next_sector bs) }

-- one sector alone, or the last and then the first
pub one_sector : (w : SaveRequest) (b : ℕ) → close_data w (b ∷ []) ≡ blocks (block_at w 0 b [] ∷ [])
unfolding data_steps blocks
one_sector w b = refl

pub two_sectors : (w : SaveRequest) (b c : ℕ) (cs : List ℕ)
    → close_data w (b ∷ c ∷ cs) ≡ blocks (block_at w (510 * suc (length cs)) (get_or (c ∷ cs) (length cs) 0) [] ∷ block_at w 0 b (c ∷ cs) ∷ [])
unfolding data_steps blocks
two_sectors w b c cs =
    let e : length (b ∷ c ∷ cs) - 1 ≡ suc (length cs) = omega arith in
    let l : drop (length cs) (c ∷ cs) ≡ get_or (c ∷ cs) (length cs) 0 ∷ [] =
    drop-cons (c ∷ cs) (length cs) 0 (omega arith) ∙ ap (λ (x : List ℕ). get_or (c ∷ cs) (length cs) 0 ∷ x) (drop_of_length-le cs {i = length cs} (omega arith)) in
    rw (e, l) refl

-- they are spare blocks, and what the chain's sectors hold after them
pub record ChainFilled (d : List ℕ) (w : SaveRequest) (bs : List ℕ) (sts : List (Step View)) : Type 0 where
  pub parts : List Block
  pub are : sts ≡ blocks parts
  pub spare : SpareBlocks d parts
  pub last : (k : ℕ) → suc k ≡ length bs → sector_at (apply d sts) (get_or bs k 0) ≡ sector_bytes (stream w) (510 * k) 0 0
  pub first : sector_at (apply d sts) (get_or bs 0 0) ≡ sector_bytes (stream w) 0 (next_track (drop 1 bs)) (next_sector (drop 1 bs))
  pub others : (k : ℕ) → 1 ≤ k → suc k < length bs → sector_at (apply d sts) (get_or bs k 0) ≡ sector_at d (get_or bs k 0)

fits-at : (w : SaveRequest) (f b : ℕ) (bs : List ℕ) → b < 1560 → WholeBlock (block_at w f b bs)
fits-at w f b bs h = record { small = h; long = length_block (stream w) f (next_track bs) (next_sector bs) }

module _ (d : List ℕ) (s : AcceptedDisk (view d)) (w : SaveRequest) where
  abbrev free : ℕ → Bool
  free = free_bit (view_tracks (view d)) (view_slots (view d))

  filled_one : (b : ℕ) → Run free 0 (b ∷ []) → ChainFilled d w (b ∷ []) (blocks (block_at w 0 b [] ∷ []))
  unfolding bits_in
  filled_one b r = record {
    parts = block_at w 0 b [] ∷ [];
    are = refl;
    spare = fr;
    last = at;
    first = blocks_in d (block_at w 0 b [] ∷ []) fr (block_at w 0 b []) (inl refl);
    others = λ k a q. absurd (omega arith);
  }
    where
      fr : SpareBlocks d (block_at w 0 b [] ∷ [])
      fr = record {
        accepted = s;
        fit = (fits-at w 0 b [] r.0.small, tt);
        once = (refl, tt);
        data_bits = laid_data d s (stream w) (b ∷ []) r;
        unused = laid_unused d s (stream w) (b ∷ []) r;
      }

      at : (k : ℕ) → suc k ≡ length (b ∷ []) → sector_at (apply d (blocks (block_at w 0 b [] ∷ []))) (get_or (b ∷ []) k 0) ≡ sector_bytes (stream w) (510 * k) 0 0
      at zero e = blocks_in d (block_at w 0 b [] ∷ []) fr (block_at w 0 b []) (inl refl)
      at (suc k) e = absurd (omega arith)

  module _ (b c : ℕ) (cs : List ℕ) (r : Run (free_bit (view_tracks (view d)) (view_slots (view d))) 0 (b ∷ c ∷ cs)) where
    abbrev bs : List ℕ
    bs = b ∷ c ∷ cs

    -- the last bit
    abbrev z : ℕ
    z = get_or (c ∷ cs) (length cs) 0

    abbrev last_block : Block
    last_block = block_at w (510 * suc (length cs)) z []

    abbrev first_block : Block
    first_block = block_at w 0 b (c ∷ cs)

    small : (k : ℕ) → k < length bs → get_or bs k 0 < 1560
    small k h = (run_at free 0 bs r k h).small

    apart : (j k : ℕ) → j < k → k < length bs → get_or bs j 0 ≡ get_or bs k 0 → ⊥
    apart j k h m e = absurd (omega (arith, run-rises free 0 bs r j k h m))

    differ : z ≡ b → ⊥
    differ e = apart 0 (suc (length cs)) (omega arith) (omega arith) (sym e)

    mine : (x : ℕ) → is_listed x (z ∷ b ∷ []) ≡ true → is_listed x bs ≡ true
    mine x m = by (eqb x z) refl (eqb x b) refl m
      where
        by : (t : Bool) → eqb x z ≡ t → (u : Bool) → eqb x b ≡ u → (t || (u || false)) ≡ true → is_listed x bs ≡ true
        by true q u v e = ap (λ (x : ℕ). is_listed x bs) (eqb-true x z q) ∙ listed_at bs (suc (length cs)) (omega arith)
        by false q true v e = ap (λ (x : ℕ). is_listed x bs) (eqb-true x b v) ∙ listed_head b (c ∷ cs)
        by false q false v e = absurd (false≢true e)

    both_spare : SpareBlocks d (last_block ∷ first_block ∷ [])
    unfolding bits_in
    both_spare = record {
      accepted = s;
      fit = (fits-at w (510 * suc (length cs)) z [] (small (suc (length cs)) (omega arith)), (fits-at w 0 b (c ∷ cs) (small 0 (omega arith)), tt));
      once = (rw (ne_eqb z b differ), (refl, tt));
      data_bits = λ x m. laid_data d s (stream w) bs r x (mine x m);
      unused = λ x j g m. laid_unused d s (stream w) bs r x j g (mine x m);
    }

    filled_two : ChainFilled d w bs (blocks (last_block ∷ first_block ∷ []))
    unfolding bits_in
    filled_two = record {
      parts = last_block ∷ first_block ∷ [];
      are = refl;
      spare = both_spare;
      last = λ k e.
          let q : k ≡ suc (length cs) = omega arith in
          subst (λ (k : ℕ). sector_at (apply d (blocks (last_block ∷ first_block ∷ []))) (get_or bs k 0) ≡ sector_bytes (stream w) (510 * k) 0 0) (sym q)
          (blocks_in d (last_block ∷ first_block ∷ []) both_spare last_block (inl refl));
      first = blocks_in d (last_block ∷ first_block ∷ []) both_spare first_block (inr (inl refl));
      others = λ k a q.
          blocks_else d (last_block ∷ first_block ∷ []) both_spare (get_or bs k 0) (small k (omega arith))
          (rw (ne_eqb (get_or bs k 0) z (apart k (suc (length cs)) (omega arith) (omega arith)), ne_eqb (get_or bs k 0) b (λ e. apart 0 k a (omega arith) (sym e))));
    }

  pub filled_by : (bs : List ℕ) → 1 ≤ length bs → Run free 0 bs → ChainFilled d w bs (close_data w bs)
  filled_by [] h r = absurd (not-suc-le-zero h)
  filled_by (b ∷ []) h r = rw (one_sector w b) (filled_one b r)
  filled_by (b ∷ c ∷ cs) h r = rw (two_sectors w b c cs) (filled_two b c cs r)

-- nothing of them is seen, and nothing committed
pub filled-view : (d : List ℕ) (w : SaveRequest) (bs : List ℕ) (sts : List (Step View)) → ChainFilled d w bs sts → view (apply d sts) ≡ view d
filled-view d w bs sts f = ap (λ (x : List (Step View)). view (apply d x)) f.are ∙ blocks_view d f.parts f.spare

pub filled_quiet : (d : List ℕ) (w : SaveRequest) (bs : List ℕ) (sts : List (Step View)) → ChainFilled d w bs sts → commits sts ≡ []
filled_quiet d w bs sts f = ap commits f.are ∙ blocks_commits f.parts

-- ---- the file

-- the closed file: what its sectors then hold
abbrev pub closed_file : List ℕ → ℕ → SaveRequest → List ℕ → File
closed_file d i w bs = record { bytes = new_slot (view d).label i w bs; sectors = sectors_of (apply d (close_data w bs)) (new_slot (view d).label i w bs) }

module _ (d : List ℕ) (s : AcceptedDisk (view d)) (i : ℕ) (at : FreeSlot (view d) i) (w : SaveRequest) (bs : List ℕ)
    (r : Ready (view_tracks (view d)) (free_bit (view_tracks (view d)) (view_slots (view d))) w bs)
    (led : (k : ℕ) → 1 ≤ k → suc k < length bs → LinksTo (sector_at d (get_or bs k 0)) (get_or bs (suc k) 0)) where
  abbrev n : ℕ
  n = view_tracks (view d)

  abbrev slot : List ℕ
  slot = new_slot (view d).label i w bs

  abbrev mid : List ℕ
  mid = apply d (close_data w bs)

  some_bits : 1 ≤ length bs
  some_bits = filled (view d).label i n (free d s w) w bs r

  put_in_place : ChainFilled d w bs (close_data w bs)
  put_in_place = filled_by d s w bs some_bits r.run

  sector_of_lem : (k : ℕ) → k < length bs → sectors_of mid slot (get_or bs k 0) ≡ sector_at mid (get_or bs k 0)
  sector_of_lem k q = sectors-own mid slot (get_or bs k 0) (own-bit (free d s w) slot bs r.run some_bits (slot-names (view d).label i w bs) k q)

  first_link : 1 < length bs → LinksTo (sector_at mid (get_or bs 0 0)) (get_or bs 1 0)
  first_link q =
      let n = next-first (drop 1 bs) (omega (arith, length-drop 1 bs)) in
      let e : get_or (drop 1 bs) 0 0 ≡ get_or bs 1 0 = get_or-drop 1 bs 0 0 in
      rw put_in_place.first
      (record {
        track = block_track (stream w) 0 (next_track (drop 1 bs)) (next_sector (drop 1 bs)) ∙ n.0 ∙ ap track_of e;
        sector = block_sector (stream w) 0 (next_track (drop 1 bs)) (next_sector (drop 1 bs)) ∙ n.1 ∙ ap sector_of e;
      })

  links : (k : ℕ) → suc k < length bs → LinksTo (sector_at mid (get_or bs k 0)) (get_or bs (suc k) 0)
  links zero q = first_link q
  links (suc k) q = rw (put_in_place.others (suc k) (omega arith) q) (led (suc k) (omega arith) q)

  pub along : LinkedAlong (sectors_of mid slot) bs
  along = record {
    links = λ k q. rw (sector_of_lem k (omega arith)) (links k q);
    last = λ k q.
        rw (sector_of_lem k (omega arith), put_in_place.last k q)
        (record { track = block_track (stream w) (510 * k) 0 0; sector = block_sector (stream w) (510 * k) 0 0 });
  }

  header : (k : ℕ) → k < 9 → get_or (sectors_of mid slot (get_or bs 0 0)) k 0 ≡ get_or (stream w) k 0
  header k q =
      rw (sector_of_lem 0 some_bits, put_in_place.first)
      (block_byte (stream w) 0 (next_track (drop 1 bs)) (next_sector (drop 1 bs)) k (omega arith) ∙ ap (λ (n : ℕ). get_or (stream w) n 0) (omega arith))

  pub closed-accepted : AcceptedFile (view_tracks (view d)) (closed_file d i w bs)
  closed-accepted =
      accepted_of (free d s w) slot bs r.run some_bits (slot-names (view d).label i w bs) n r.inside (sectors_of mid slot) along
      (slot-fits (view d).label i w bs n (free d s w) r (sectors_of mid slot (get_or bs 0 0)) header)

  -- whether an old name stands behind the slot
  abbrev old : Bool
  old = old_name d i

  -- what is written after the data sectors
  abbrev end : List (Step View) → List (Step View)
  end x = slot_steps old (view d) i slot (sectors_of (apply d x) slot)

  pub close_goes : find (view_slots (view d)) w.name ≡ none
      → StepsHold view AcceptedDisk d (close_steps (old_name d i) d i w bs) × Once (numbers (close_steps (old_name d i) d i w bs))
  close_goes f =
      subst (λ (x : List (Step View)). StepsHold view AcceptedDisk d (x ++ end x) × Once (numbers (x ++ end x))) (sym put_in_place.are)
      (blocks_then_slot d put_in_place.parts put_in_place.spare i (there d s i at w bs r) old (reach_free d i at) 0 slot (slot-fit d s i at w bs r) slot
      (whole-slot d s i at w bs r) (new_named (view d).label i n (free d s w) w bs r) (kept d s i at w bs r)
      (λ b m. laid_data d s (stream w) bs r.run b (sym (slot_map d s i at w bs r b) ∙ m))
      (λ a. subst (λ (x : List (Step View)). AcceptedFile (view_tracks (view d)) (file x)) put_in_place.are closed-accepted)
      (λ a j g k n q. new_apart d s i at w bs r f (sectors_of (apply d (blocks put_in_place.parts)) slot) j g k q))
    where
      file : List (Step View) → File
      file x = record { bytes = slot; sectors = sectors_of (apply d x) slot }

  -- the other slots are as they were, but for the name behind the directory's end
  pub close_slots : (j : ℕ) → j < slots_in d → (j ≡ i → ⊥) → (old_name d i ≡ true → j ≡ suc i → ⊥)
      → slot_bytes (apply d (close_steps (old_name d i) d i w bs)) j ≡ slot_bytes d j
  close_slots =
      subst
      (λ (x : List (Step View)). (j : ℕ) → j < slots_in d → (j ≡ i → ⊥) → (old ≡ true → j ≡ suc i → ⊥) → slot_bytes (apply d (x ++ end x)) j ≡ slot_bytes d j)
      (sym put_in_place.are)
      (blocks_else_slot d put_in_place.parts put_in_place.spare i (there d s i at w bs r) old (reach_free d i at) 0 slot (slot-fit d s i at w bs r) _)

  pub close_next : is_nameless_at d i ≡ true → suc i < slots_in d → is_nameless_at (apply d (close_steps (old_name d i) d i w bs)) (suc i) ≡ true
  close_next =
      subst (λ (x : List (Step View)). is_nameless_at d i ≡ true → suc i < slots_in d → is_nameless_at (apply d (x ++ end x)) (suc i) ≡ true) (sym put_in_place.are)
      (blocks_next d put_in_place.parts put_in_place.spare i (there d s i at w bs r) old (reach_free d i at) 0 slot (slot-fit d s i at w bs r) _)

  -- its data sectors are none of the directory's
  pub close_apart : (j : ℕ) → j < slots_in d → is_listed (dir_sector j) (numbers (close_data w bs)) ≡ false
  close_apart j h = rw put_in_place.are (dir_unlisted (tracks_of d) (disk_tracks_few d) put_in_place.parts put_in_place.spare.data_bits j h)

  -- what is seen then: the slot holds the recording, as its sectors read
  pub close_view : find (view_slots (view d)) w.name ≡ none → view (apply d (close_steps (old_name d i) d i w bs)) ≡ with_slot (view d) i (some (closed_file d i w bs))
  unfolding commits last_view
  close_view f =
      goes_view view AcceptedDisk (close_steps old d i w bs) d (close_goes f).0
      ∙ ap (last_view (view d))
      (commits-append (close_data w bs) (slot_steps old (view d) i slot (sectors_of mid slot)) (filled_quiet d w bs (close_data w bs) put_in_place)
      ∙ commits-append (end_steps old i) (end_step old (view d) i 0 slot (file_if_live slot (sectors_of mid slot)) ∷ []) (end_commits old i))
      ∙ ap (with_slot (view d) i) (entry-live slot (sectors_of mid slot) (live-is (view d).label i w bs (omega (arith, r.kind))))
