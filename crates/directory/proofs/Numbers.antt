-- The number of slots and of data sectors, counted over the 1,600 sectors of the disk for each of the 36 numbers of tracks.
use Prim.Native.Nat.{ℕ, ◌+◌, ◌-◌, ◌*◌, ◌/◌, ◌%◌}
use mathlib.Core.Path.{◌≡◌, refl}
use mathlib.Core.Bool.{Bool, false, not, ◌&&◌}
use lib.Dec.{eqb, ltb}
use Rattle.buffers.specs.Bytes.{count, any}
use Rattle.slots.specs.Tracks.{data_count}
use Rattle.directory.specs.Places.{slot_count}

-- sector s, ten to a track and side, is one of the directory's: on the first side in one of 4 + n tracks, and not track 4 sector 1
abbrev pub in_dir : ℕ → ℕ → Bool
in_dir n s = ltb (s % 20) 10 && (ltb (s / 20) (4 + n) && not (eqb s 80))

-- two slots to a sector of the directory, and the other sectors are data
abbrev pub right : ℕ → Bool
right n = eqb (slot_count n) (2 * count 1600 (in_dir n)) && eqb (data_count n) (1600 - count 1600 (in_dir n))

pub numbers : any 36 (λ n. not (right n)) ≡ false
unfolding slot_count data_count count any
numbers = refl
