-- The sectors of a stream, laid on free bits: for a save, a gather and a recording's close alike.
use Prim.Native.Nat.{ℕ, suc, ◌+◌, ◌<◌}
use mathlib.Core.Path.{◌≡◌, refl, sym, ap, ◌∙◌, subst, fun_ext}
use mathlib.Core.Bool.{Bool, true, false, cond, ◌||◌, false≢true}
use mathlib.Core.List.{List, [], ◌∷◌, map}
use mathlib.Core.Logic.{inl, inr}
use mathlib.Core.Option.{some}
use borrow.Author.Tests.{eqb-true, eqb-false}
use lib.Dec.{eqb}
use Rattle.geometry.specs.Disk.{bit_number}
use Rattle.maps.specs.Bits.{has}
use Rattle.slots.specs.Slot.{map_of}
use Rattle.slots.specs.Tracks.{data_bit}
use Rattle.chains.specs.File.{File, sector_at, sectors_of}
use Rattle.directory.specs.Places.{dir_sector}
use Rattle.directory.specs.Directory.{tracks_of, slots_in}
use Rattle.directory.proofs.Label.{disk_tracks_few}
use Rattle.disk.specs.View.{View, view, view_slots, view_tracks}
use Rattle.disk.specs.Accepted.{AcceptedDisk}
use Rattle.disk.proofs.View.{view_extra}
use Rattle.steps.specs.Sectors.{is_listed}
use Rattle.steps.specs.Steps.{Step, apply, numbers, commits, StepsHold}
use Rattle.plans.specs.Saving.{free_bit, next_track, next_sector, chain_sectors, map_with}
use Rattle.plans.specs.Plan.{data_steps}
use Rattle.plans.proofs.Free.{Run, run_listed, run-once, free_data, free-unused}
use Rattle.plans.proofs.NewFile.{has-map_with, length_block, chained_here, chained_later, chained_else}
use Rattle.plans.proofs.Blocks.{blocks, bits_in, data_blocks, data_are, AllFit, SpareBlocks, number_of, dir_unlisted, blocks_goes, blocks_commits, Among, blocks_in}

pub data_numbers : (st : List ℕ) (f : ℕ) (bs : List ℕ) → numbers (data_steps st f bs) ≡ map bit_number bs
unfolding data_steps numbers
data_numbers st f [] = refl
data_numbers st f (b ∷ bs) = ap (λ (l : List ℕ). bit_number b ∷ l) (data_numbers st (f + 510) bs)

pub data_commits : (st : List ℕ) (f : ℕ) (bs : List ℕ) → commits (data_steps st f bs) ≡ []
data_commits st f bs = rw (data_are st f bs) (blocks_commits (data_blocks st f bs))

-- ---- as blocks

bits_are : (st : List ℕ) (f : ℕ) (bs : List ℕ) → bits_in (data_blocks st f bs) ≡ bs
unfolding data_blocks bits_in
bits_are st f [] = refl
bits_are st f (b ∷ bs) = ap (λ (l : List ℕ). b ∷ l) (bits_are st (f + 510) bs)

module _ (p : ℕ → Bool) (st : List ℕ) where
  blocks_fit : (l f : ℕ) (bs : List ℕ) → Run p l bs → AllFit (data_blocks st f bs)
  unfolding data_blocks
  blocks_fit l f [] r = tt
  blocks_fit l f (b ∷ bs) r =
      (record { small = r.0.small; long = length_block st f (next_track bs) (next_sector bs) }, blocks_fit (suc b) (f + 510) bs r.1)

  -- the sector of each bit is among them
  block_among : (l f : ℕ) (bs : List ℕ) → Run p l bs → (c : ℕ) → is_listed c bs ≡ true → Among (record { bit = c; bytes = chain_sectors st f bs c }) (data_blocks st f bs)
  unfolding data_blocks
  block_among l f [] r c e = absurd (false≢true e)
  block_among l f (b ∷ bs) r c e = by (eqb c b) refl e (block_among (suc b) (f + 510) bs r.1 c)
    where
      by : (t : Bool) → eqb c b ≡ t → (t || is_listed c bs) ≡ true
          → (is_listed c bs ≡ true → Among (record { bit = c; bytes = chain_sectors st (f + 510) bs c }) (data_blocks st (f + 510) bs))
          → Among (record { bit = c; bytes = chain_sectors st f (b ∷ bs) c }) (data_blocks st f (b ∷ bs))
      by true q m k = inl (λ z. record { bit = eqb-true c b q z; bytes = (ap (chain_sectors st f (b ∷ bs)) (eqb-true c b q) ∙ chained_here st f b bs) z })
      by false q m k =
          inr (subst (λ (x : List ℕ). Among (record { bit = c; bytes = x }) (data_blocks st (f + 510) bs)) (sym (chained_later st f b c bs (eqb-false c b q))) (k m))

-- the sector of a bit is written where the bit is among them
pub data_listed : (p : ℕ → Bool) (l : ℕ) (st : List ℕ) (f : ℕ) (bs : List ℕ) → Run p l bs → (c : ℕ) → c < 1560
    → is_listed (bit_number c) (numbers (data_steps st f bs)) ≡ is_listed c bs
data_listed p l st f bs r c h =
    ap (λ (x : List (Step View)). is_listed (bit_number c) (numbers x)) (data_are st f bs)
    ∙ number_of (data_blocks st f bs) (blocks_fit p st l f bs r) c h ∙ ap (is_listed c) (bits_are st f bs)

-- ---- on bits that are free

module _ (d : List ℕ) (s : AcceptedDisk (view d)) (st bs : List ℕ) (r : Run (free_bit (view_tracks (view d)) (view_slots (view d))) 0 bs) where
  abbrev free : ℕ → Bool
  free = free_bit (view_tracks (view d)) (view_slots (view d))

  -- they are data sectors', and no file's
  pub laid_data : (c : ℕ) → is_listed c bs ≡ true → data_bit (tracks_of d) c ≡ true
  laid_data c m = rw (← view_extra d) (free_data (view_tracks (view d)) (view_slots (view d)) c (run_listed free 0 bs r c m).passes)

  pub laid_unused : (c j : ℕ) (g : File) → is_listed c bs ≡ true → (view d).files j ≡ some g → has (map_of g.bytes) c ≡ true → ⊥
  laid_unused c j g m = free-unused d c (run_listed free 0 bs r c m).passes j g

  -- from place f of the stream on
  pub laid_from : (f : ℕ) → SpareBlocks d (data_blocks st f bs)
  laid_from f = record {
    accepted = s;
    fit = blocks_fit free st 0 f bs r;
    once = rw (bits_are st f bs) (run-once free 0 bs r);
    data_bits = λ c m. laid_data c (rw (bits_are st f bs) at m);
    unused = λ c j g m. laid_unused c j g (rw (bits_are st f bs) at m);
  }

  -- what they then hold, and no slot is among them
  pub laid_in : (f c : ℕ) → is_listed c bs ≡ true → sector_at (apply d (data_steps st f bs)) c ≡ chain_sectors st f bs c
  laid_in f c q =
      rw (data_are st f bs)
      (blocks_in d (data_blocks st f bs) (laid_from f) (record { bit = c; bytes = chain_sectors st f bs c }) (block_among free st 0 f bs r c q))

  pub laid_no_slot : (f j : ℕ) → j < slots_in d → is_listed (dir_sector j) (numbers (data_steps st f bs)) ≡ false
  laid_no_slot f j h = rw (data_are st f bs) (dir_unlisted (tracks_of d) (disk_tracks_few d) (data_blocks st f bs) (laid_from f).data_bits j h)

  pub laid_spare : SpareBlocks d (data_blocks st 0 bs)
  laid_spare = laid_from 0

  pub laid_goes : StepsHold view AcceptedDisk d (data_steps st 0 bs)
  laid_goes = rw (data_are st 0 bs) (blocks_goes d (data_blocks st 0 bs) laid_spare)

  -- a slot with their map: the sectors of its map are then in place
  module _ (x : List ℕ) (m : map_of x ≡ map_with bs) where
    pub laid_map : (c : ℕ) → has (map_of x) c ≡ is_listed c bs
    laid_map c = rw m (has-map_with free 0 bs r c)

    pub laid_sectors : sectors_of (apply d (blocks (data_blocks st 0 bs))) x ≡ chain_sectors st 0 bs
    unfolding sectors_of
    laid_sectors = fun_ext (λ c. rw (laid_map c) (by c (is_listed c bs) refl))
      where
        by : (c : ℕ) (t : Bool) → is_listed c bs ≡ t → cond t (sector_at (apply d (blocks (data_blocks st 0 bs))) c) [] ≡ chain_sectors st 0 bs c
        by c true q = rw (← data_are st 0 bs) (laid_in 0 c q)
        by c false q = sym (chained_else st 0 c bs q)
