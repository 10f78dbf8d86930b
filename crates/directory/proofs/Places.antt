-- Where the slots lie: inside the image, apart from each other, and apart from every data sector.
use Prim.Native.Nat.{ℕ, ◌+◌, ◌*◌, ◌/◌, ◌%◌, ◌≤◌, ◌<◌}
use mathlib.Core.Path.{◌≡◌, refl, sym, ◌∙◌}
use mathlib.Core.Bool.{Bool, true, false, cond}
use mathlib.Core.Logic.{◌⊎◌, inl, inr, ⊎_elim}
use native.Mathlib.Omega.{arith}
use borrow.Author.Tests.{lt-ltb, le-ltb, eqb-false}
use lib.Dec.{eqb}
use Rattle.geometry.specs.Disk.{image_size, bit_number, bit_place}
use Rattle.geometry.proofs.Laws.{number-first, number-second, number_from}
use Rattle.buffers.proofs.Lists.{below_or_not}
use Rattle.slots.specs.Tracks.{data_bit}
use Rattle.slots.proofs.Tracks.{data_is}
use Rattle.directory.specs.Places.{slot_count, slots, past_gap, slot_at, slot_place, dir_sector, dir_sector_or}

-- the most are those of 39 tracks
pub slots-count : slots ≡ slot_count 35
unfolding slot_count
slots-count = refl

pub gap_is : (i : ℕ) → ((i < 80) × (past_gap i ≡ i)) ⊎ ((80 ≤ i) × (past_gap i ≡ i + 2))
unfolding past_gap
gap_is i = ⊎_elim (λ h. inl (h, rw (lt-ltb i 80 h))) (λ h. inr (h, rw (le-ltb i 80 h))) (below_or_not i 80)

-- a slot that there is
pub slot-few : (n i : ℕ) → n ≤ 35 → i < slot_count n → (i < slots) × (past_gap i < 80 + 20 * n)
unfolding slot_count
slot-few n i h l = by (eqb n 0) refl l
  where
    by : (t : Bool) → eqb n 0 ≡ t → i < cond t 80 (78 + 20 * n) → (i < slots) × (past_gap i < 80 + 20 * n)
    by true q k = (omega arith, ⊎_elim (λ c. omega arith) (λ c. absurd (omega arith)) (gap_is i))
    by false q k = (omega arith, ⊎_elim (λ c. omega arith) (λ c. omega arith) (gap_is i))

-- the first slots are there on every disk
pub slot-first : (n i : ℕ) → i < 80 → i < slot_count n
unfolding slot_count
slot-first n i h = by (eqb n 0) refl
  where
    by : (t : Bool) → eqb n 0 ≡ t → i < cond t 80 (78 + 20 * n)
    by true q = h
    by false q = omega (arith, eqb-false n 0 q)

-- and no more than these where no track is added to the four
pub slot_base : slot_count 0 ≡ 80
unfolding slot_count
slot_base = refl

pub slot_within : (i : ℕ) → i < slots → slot_at i + 256 ≤ image_size
unfolding slot_at
slot_within i h = ⊎_elim (λ c. omega arith) (λ c. omega arith) (gap_is i)

pub slot-inside : (n i : ℕ) → n ≤ 35 → i < slot_count n → slot_at i + 256 ≤ image_size
slot-inside n i h l = slot_within i (slot-few n i h l).0

-- the first 80 slots lie in the first 40,960 bytes
pub slot-front : (i : ℕ) → i < 80 → slot_at i + 256 ≤ 40960
unfolding slot_at
slot-front i h = ⊎_elim (λ c. let q : i / 20 ≤ 3 = omega arith in omega arith) (λ c. absurd (omega arith)) (gap_is i)

-- two slots to a sector
pub slot-sector : (i : ℕ) → slot_at i ≡ 512 * dir_sector i + 256 * (i % 2)
unfolding slot_at dir_sector
slot-sector i = ⊎_elim (λ c. omega arith) (λ c. omega arith) (gap_is i)

-- the places for a number of any size
pub slot_placed : (i : ℕ) → i < slots → slot_place i ≡ slot_at i
unfolding slot_place
slot_placed i h = rw (lt-ltb i slots h)

-- before the gap
pub slot-low : (i : ℕ) → i < 80 → i / 20 * 10240 + i % 20 * 256 ≡ slot_place i
unfolding slot_at past_gap
slot-low i h = sym (slot_placed i (omega arith) ∙ rw (lt-ltb i 80 h))

pub dir_placed : (i : ℕ) → i < slots → dir_sector_or i ≡ dir_sector i
unfolding dir_sector_or
dir_placed i h = rw (lt-ltb i slots h)

pub slots_apart : (i j : ℕ) → i < j → slot_at i + 256 ≤ slot_at j
unfolding slot_at
slots_apart i j h =
    ⊎_elim (λ c. ⊎_elim (λ e. omega arith) (λ e. omega arith) (gap_is j))
    (λ c. ⊎_elim (λ e. absurd (omega arith)) (λ e. omega arith) (gap_is j)) (gap_is i)

-- no slot's sector is a data sector: on the first side those lie behind, but track 4 sector 1, which no slot has, and the
-- second side has other remainders by 20
pub dir_not_data : (n b i : ℕ) → n ≤ 35 → data_bit n b ≡ true → i < slot_count n → bit_number b ≡ dir_sector i → ⊥
unfolding dir_sector
dir_not_data n b i h e l q =
    let s = slot-few n i h l in
    let c = data_is n b e in
    ⊎_elim
    (λ (k : b < 760).
    ⊎_elim (λ (z : b ≡ 0). ⊎_elim (λ g. omega (arith, number-first b k)) (λ g. omega (arith, number-first b k)) (gap_is i))
    (λ (m : 10 * n ≤ b). omega (arith, s.1, number_from (4 + n) b (omega arith) k (omega arith))) c.1)
    (λ (k : 760 ≤ b). omega (arith, number-second b k c.0))
    (below_or_not b 760)

pub slot_data_apart : (n b i : ℕ) → n ≤ 35 → data_bit n b ≡ true → i < slot_count n → (slot_at i + 256 ≤ bit_place b) ⊎ (bit_place b + 512 ≤ slot_at i)
slot_data_apart n b i h e l =
    ⊎_elim (λ (k : dir_sector i < bit_number b). inl (omega (arith, slot-sector i)))
    (λ (k : bit_number b ≤ dir_sector i). inr (omega (arith, slot-sector i, apart))) (below_or_not (dir_sector i) (bit_number b))
  where
    apart : bit_number b ≡ dir_sector i → ⊥
    apart q = dir_not_data n b i h e l q
