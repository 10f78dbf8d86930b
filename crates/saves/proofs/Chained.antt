-- The data sectors written so far, and those that are left of a chain.
use Prim.Native.Nat.{ℕ, ◌+◌, ◌*◌, ◌≤◌, ◌<◌}
use mathlib.Core.Path.{◌≡◌, refl, ap, ap₂, ◌∙◌}
use mathlib.Core.List.{List}
use native.Mathlib.Omega.{arith}
use lib.ListN.{length, get_or, drop, drop_of_length-le}
use Rattle.buffers.specs.Bytes.{put}
use Rattle.buffers.proofs.Lists.{length-put}
use Rattle.geometry.specs.Disk.{bit_place, place_or_end}
use Rattle.geometry.proofs.Laws.{place_or_end_lem}
use Rattle.steps.specs.Steps.{put_all, apply}
use Rattle.plans.specs.Saving.{sector_bytes, next_track, next_sector}
use Rattle.plans.specs.Plan.{data_steps}
use Rattle.sector_writes.specs.declared.Link.{Link}
use Rattle.sector_writes.specs.Sector.{link_to_next}
use Rattle.sector_writes.proofs.Links.{from}

-- j of the sectors are written: e is the image then, d as it was
pub record WriteChainLoop (d st bs e : List ℕ) (j : ℕ) : Type 0 where
  pub far : j ≤ length bs
  pub long : length e ≡ length d
  pub left : apply e (data_steps st (510 * j) (drop j bs)) ≡ apply d (data_steps st 0 bs)

pub write_chain_none : (d st bs : List ℕ) → WriteChainLoop d st bs d 0
write_chain_none d st bs = record { far = omega arith; long = refl; left = refl }

module _ (d st bs e : List ℕ) (j : ℕ) (w : WriteChainLoop d st bs e j) where
  pub chain_more : j < length bs → get_or bs j 0 < 1560 → (link : Link) → link ≡ link_to_next (drop (j + 1) bs) → (next : List ℕ)
      → next ≡ put e (place_or_end (get_or bs j 0)) (sector_bytes st (510 * j) link.track link.sector) → WriteChainLoop d st bs next (j + 1)
  unfolding apply put_all data_steps link_to_next
  chain_more h l link p next q =
      let f : 510 * (j + 1) ≡ 510 * j + 510 = omega arith in
      let n : next ≡ put e (bit_place (get_or bs j 0)) (sector_bytes st (510 * j) (next_track (drop (j + 1) bs)) (next_sector (drop (j + 1) bs))) =
      q ∙ ap₂ (λ (a : ℕ) (k : Link). put e a (sector_bytes st (510 * j) k.track k.sector)) (place_or_end_lem (get_or bs j 0) l) p in
      record {
        far = omega arith;
        long = ap length n ∙ length-put e (bit_place (get_or bs j 0)) (sector_bytes st (510 * j) (next_track (drop (j + 1) bs)) (next_sector (drop (j + 1) bs))) ∙ w.long;
        left = rw (n, f) (rw (from bs j h) at w.left);
      }

  pub chain_all : length bs ≤ j → e ≡ apply d (data_steps st 0 bs)
  unfolding apply data_steps
  chain_all h = rw (drop_of_length-le bs h) at w.left
