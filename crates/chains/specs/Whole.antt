-- What a whole chain is, without the walk that finds it.
use Rattle.std.specs.Prelude.{ℕ, suc, ◌<◌, true, List, ◌≡◌, length, get_or}
use Rattle.geometry.specs.Disk.{track_of, sector_of}
use Rattle.maps.specs.Bits.{has}
use Rattle.slots.specs.Slot.{SlotFields}

-- a sector's last two bytes are the track and the sector of map bit b
pub record LinksTo (h : List ℕ) (b : ℕ) : Type 0 where
  pub track : get_or h 510 0 ≡ track_of b
  pub sector : get_or h 511 0 ≡ sector_of b

-- they are 0, 0
pub record LastLink (h : List ℕ) : Type 0 where
  pub track : get_or h 510 0 ≡ 0
  pub sector : get_or h 511 0 ≡ 0

-- count distinct bits of the slot's own map, the first address first, each sector linked to the next, the last to 0, 0
pub record WholeChain (x : SlotFields) (sec : ℕ → List ℕ) : Type 0 where
  pub chain : List ℕ
  pub long : length chain ≡ x.count
  pub own : (k : ℕ) → k < length chain → has x.map (get_or chain k 0) ≡ true
  pub distinct : (j k : ℕ) → j < k → k < length chain → get_or chain j 0 ≡ get_or chain k 0 → ⊥
  pub starts : get_or chain 0 0 ≡ x.first
  pub links : (k : ℕ) → suc k < length chain → LinksTo (sec (get_or chain k 0)) (get_or chain (suc k) 0)
  pub last : (k : ℕ) → suc k ≡ length chain → LastLink (sec (get_or chain k 0))
