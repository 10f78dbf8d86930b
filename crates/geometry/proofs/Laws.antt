-- The laws of the sector arithmetic, for the crates above.
-- Assumes nothing.
use mathlib.Core.Path.{◌≡◌, refl, ◌∙◌, sym, ap}
use mathlib.Core.Bool.{true, false, cond}
use mathlib.Core.Logic.{◌⊎◌, inl, inr, ⊎_elim}
use Prim.Native.Nat.{ℕ, suc, ◌+◌, ◌-◌, ◌*◌, ◌/◌, ◌%◌, ◌≤◌, ◌<◌}
use native.Mathlib.Omega.{arith}
use borrow.Author.Tests.{lt-ltb, le-ltb, ltb-true}
use lib.Dec.{ltb}
use Rattle.std.specs.Prelude.{Option, Some, None}
use Rattle.geometry.specs.declared.Address.{Address}
use Rattle.geometry.specs.Disk.{image_size, is_sector, is_data, sector_number, sector_place, track_of, sector_of, bit_of, bit_number, bit_place, place_or_end, spot_of, spot_of_bit, map_bit_of, address_of}
use Rattle.geometry.proofs.Tests.{true_or_false, split, picked, DataBounds, sector_bounds, data_bounds, bounds_data, data_sector}

-- A map bit's track, on each side.
pub track-first : (b : ℕ) → b < 760 → track_of b ≡ 4 + b / 10
unfolding track_of
track-first b h = rw (lt-ltb b 760 h)

pub track-second : (b : ℕ) → 760 ≤ b → track_of b ≡ 128 + (b - 760) / 10
unfolding track_of
track-second b h = rw (le-ltb b 760 h)

-- A data sector's map bit, on each side; 1,560 for all else.
pub bit-first : (t s : ℕ) → is_data t s ≡ true → t < 128 → bit_of t s ≡ (t - 4) * 10 + s - 1
unfolding bit_of
bit-first t s e h = rw (e, lt-ltb t 128 h)

pub bit-second : (t s : ℕ) → is_data t s ≡ true → 128 ≤ t → bit_of t s ≡ 760 + (t - 128) * 10 + s - 1
unfolding bit_of
bit-second t s e h = rw (e, le-ltb t 128 h)

pub bit-none : (t s : ℕ) → is_data t s ≡ false → bit_of t s ≡ 1560
unfolding bit_of
bit-none t s e = rw e

-- Sector 0 of track 0, which ends a chain, is no data sector.
pub bit_end : bit_of 0 0 ≡ 1560
unfolding bit_of is_data is_sector
bit_end = refl

-- A data sector has a map bit, and the bit says its track and its sector.
pub record HasBit (t s b : ℕ) : Type 0 where
  pub small : b < 1560
  pub track : track_of b ≡ t
  pub sector : sector_of b ≡ s

pub data_bit_lem : (t s : ℕ) → is_data t s ≡ true → HasBit t s (bit_of t s)
data_bit_lem t s e = ⊎_elim first second b.side
  where
    b : DataBounds t s
    b = data_bounds t s e

    first : t < 80 → HasBit t s (bit_of t s)
    first h =
        let p = b in
        rw (bit-first t s e (omega arith))
        (record { small = omega arith; track = omega (arith, track-first ((t - 4) * 10 + s - 1) (omega arith)); sector = omega arith })

    second : (128 ≤ t) × (t < 208) → HasBit t s (bit_of t s)
    second h =
        let p = b in
        rw (bit-second t s e (omega arith))
        (record { small = omega arith; track = omega (arith, track-second (760 + (t - 128) * 10 + s - 1) (omega arith)); sector = omega arith })

pub bit-small : (t s : ℕ) → bit_of t s ≤ 1560
bit-small t s = ⊎_elim (λ (e : is_data t s ≡ true). omega (arith, data_bit_lem t s e)) (λ (e : is_data t s ≡ false). omega (arith, bit-none t s e)) (true_or_false (is_data t s))

pub bit_data : (t s : ℕ) → bit_of t s < 1560 → is_data t s ≡ true
bit_data t s h = ⊎_elim (λ e. e) (λ (e : is_data t s ≡ false). absurd (omega (arith, bit-none t s e))) (true_or_false (is_data t s))

pub bit_not_data : (t s : ℕ) → 1560 ≤ bit_of t s → is_data t s ≡ false
bit_not_data t s h = ⊎_elim (λ (e : is_data t s ≡ true). absurd (omega (arith, data_bit_lem t s e))) (λ e. e) (true_or_false (is_data t s))

-- A map bit is a data sector, and the sector says the bit.
pub address_data : (b : ℕ) → b < 1560 → is_data (track_of b) (sector_of b) ≡ true
address_data b h = ⊎_elim first second (split b 760)
  where
    first : b < 760 → is_data (track_of b) (sector_of b) ≡ true
    first l =
        let t = track-first b l in
        bounds_data (track_of b) (sector_of b) (omega arith) (omega arith) (omega arith) (inl (omega arith))

    second : 760 ≤ b → is_data (track_of b) (sector_of b) ≡ true
    second l =
        let t = track-second b l in
        bounds_data (track_of b) (sector_of b) (omega arith) (omega arith) (omega arith) (inr (omega arith, omega arith))

pub address-bit : (b : ℕ) → b < 1560 → bit_of (track_of b) (sector_of b) ≡ b
address-bit b h = ⊎_elim first second (split b 760)
  where
    held : is_data (track_of b) (sector_of b) ≡ true
    held = address_data b h

    first : b < 760 → bit_of (track_of b) (sector_of b) ≡ b
    first l =
        let t = track-first b l in
        omega (arith, bit-first (track_of b) (sector_of b) held (omega arith))

    second : 760 ≤ b → bit_of (track_of b) (sector_of b) ≡ b
    second l =
        let t = track-second b l in
        omega (arith, bit-second (track_of b) (sector_of b) held (omega arith))

-- A sector's number and its place.
pub sector-number : (t s : ℕ) → is_sector t s ≡ true → sector_number t s < 1600
sector-number t s e = let b = sector_bounds t s e in ⊎_elim (λ l. omega arith) (λ l. omega arith) b.side

pub sector-inside : (t s : ℕ) → is_sector t s ≡ true → sector_place t s + 512 ≤ image_size
sector-inside t s e = omega (arith, sector-number t s e)

-- A map bit's sector number, on each side.
pub number-first : (b : ℕ) → b < 760 → bit_number b ≡ 20 * (4 + b / 10) + b % 10
unfolding bit_number
number-first b h = rw (track-first b h) (let q : (4 + b / 10) / 128 ≡ 0 = omega arith in omega arith)

pub number-second : (b : ℕ) → 760 ≤ b → b < 1560 → bit_number b ≡ 20 * ((b - 760) / 10) + 10 + b % 10
unfolding bit_number
number-second b l h = rw (track-second b l) (let q : (128 + (b - 760) / 10) / 128 ≡ 1 = omega arith in omega arith)

pub number_small : (b : ℕ) → b < 1560 → bit_number b < 1600
number_small b h =
    ⊎_elim (λ (l : b < 760). omega (arith, number-first b l)) (λ (l : 760 ≤ b). omega (arith, number-second b l h)) (split b 760)

-- A sector number says its map bit, so that no two bits have the same.
bit_at : ℕ → ℕ
bit_at n = cond (ltb (n % 20) 10) (n / 20 * 10 + n % 10 - 40) (760 + n / 20 * 10 + n % 10)

number_bit : (b : ℕ) → b < 1560 → bit_at (bit_number b) ≡ b
unfolding bit_at
number_bit b h = ⊎_elim first second (split b 760)
  where
    first : b < 760 → bit_at (bit_number b) ≡ b
    first l = rw (number-first b l, lt-ltb ((20 * (4 + b / 10) + b % 10) % 20) 10 (omega arith)) (omega arith)

    second : 760 ≤ b → bit_at (bit_number b) ≡ b
    second l = rw (number-second b l h, le-ltb ((20 * ((b - 760) / 10) + 10 + b % 10) % 20) 10 (omega arith)) (omega arith)

pub number_injective : (a b : ℕ) → a < 1560 → b < 1560 → bit_number a ≡ bit_number b → a ≡ b
number_injective a b ha hb e = sym (number_bit a ha) ∙ ap bit_at e ∙ number_bit b hb

-- No map bit's sector is on tracks 0 to 3 of the first side: these have the numbers below 80 whose remainder by 20 is below 10.
pub number_data : (b : ℕ) → b < 1560 → (80 ≤ bit_number b) ⊎ (10 ≤ bit_number b % 20)
number_data b h =
    ⊎_elim (λ (l : b < 760). inl (omega (arith, number-first b l))) (λ (l : 760 ≤ b). inr (omega (arith, number-second b l h)))
    (split b 760)

-- The bits of the first side from track k on have numbers from that track's first on.
pub number_from : (k b : ℕ) → 4 ≤ k → b < 760 → 10 * (k - 4) ≤ b → 20 * k ≤ bit_number b
number_from k b h l m = omega (arith, number-first b l)

-- A data sector's number and place, by its map bit.
pub data_number : (t s : ℕ) → is_data t s ≡ true → bit_number (bit_of t s) ≡ sector_number t s
unfolding bit_number
data_number t s e = let h = data_bit_lem t s e in rw (h.track, h.sector)

pub data_place : (t s : ℕ) → is_data t s ≡ true → bit_place (bit_of t s) ≡ sector_place t s
data_place t s e = rw (data_number t s e)

-- A map bit's place: inside the image, a multiple of 512, and 512 bytes from any other's.
pub place_inside : (b : ℕ) → b < 1560 → bit_place b + 512 ≤ image_size
place_inside b h = omega (arith, number_small b h)

pub place_multiple : (b : ℕ) → bit_place b % 512 ≡ 0
place_multiple b = omega arith

pub places_apart : (a b : ℕ) → a < 1560 → b < 1560 → (a ≡ b → ⊥) → (bit_place a + 512 ≤ bit_place b) ⊎ (bit_place b + 512 ≤ bit_place a)
places_apart a b ha hb ne = ⊎_elim (λ l. inl (omega arith)) above (split (bit_number a) (bit_number b))
  where
    differ : bit_number a ≡ bit_number b → ⊥
    differ e = ne (number_injective a b ha hb e)

    above : bit_number b ≤ bit_number a → (bit_place a + 512 ≤ bit_place b) ⊎ (bit_place b + 512 ≤ bit_place a)
    above l = let d = differ in inr (omega arith)

pub place_or_end_lem : (b : ℕ) → b < 1560 → place_or_end b ≡ bit_place b
unfolding place_or_end
place_or_end_lem b h = rw (lt-ltb b 1560 h)

pub place_end : (b : ℕ) → 1560 ≤ b → place_or_end b ≡ image_size
unfolding place_or_end
place_end b h = rw (le-ltb b 1560 h)

-- The next bit's place, where it is not the first of a track.
pub place-next : (b : ℕ) → suc b < 1560 → 1 ≤ suc b % 10 → bit_place (suc b) ≡ bit_place b + 512
place-next b h m =
    ⊎_elim (λ (l : suc b < 760). omega (arith, number-first b (omega arith), number-first (suc b) l))
    (λ (l : 760 ≤ suc b). omega (arith, number-second b (omega arith) (omega arith), number-second (suc b) l h)) (split (suc b) 760)

-- The same from the track and the sector.
pub data_or_end : (t s : ℕ) → is_data t s ≡ true → place_or_end (bit_of t s) ≡ sector_place t s
data_or_end t s e = place_or_end_lem (bit_of t s) (data_bit_lem t s e).small ∙ data_place t s e

pub none_or_end : (t s : ℕ) → is_data t s ≡ false → place_or_end (bit_of t s) ≡ image_size
none_or_end t s e = place_end (bit_of t s) (omega (arith, bit-none t s e))

-- What an answer says.
pub record SectorAt (t s p : ℕ) : Type 0 where
  pub sector : is_sector t s ≡ true
  pub place : p ≡ sector_place t s
  pub inside : p + 512 ≤ image_size

pub spot_at : (t s p : ℕ) → spot_of t s ≡ Some p → SectorAt t s p
unfolding spot_of
spot_at t s p e = ⊎_elim yes no (picked (is_sector t s) e)
  where
    yes : (is_sector t s ≡ true) × (Some (sector_place t s) ≡ Some p) → SectorAt t s p
    yes h =
        let q : p ≡ sector_place t s = cc in
        record { sector = h.0; place = q; inside = omega (arith, sector-inside t s h.0) }

    no : (is_sector t s ≡ false) × (None ≡ Some p) → SectorAt t s p
    no h = let z : ◌≡◌ {A = ℕ} 0 1 = cc in absurd (omega arith)

pub spot_none : (t s : ℕ) → spot_of t s ≡ None → is_sector t s ≡ false
unfolding spot_of
spot_none t s e = ⊎_elim yes (λ h. h.0) (picked (is_sector t s) e)
  where
    yes : (is_sector t s ≡ true) × (Some (sector_place t s) ≡ None) → is_sector t s ≡ false
    yes h = let z : ◌≡◌ {A = ℕ} 0 1 = cc in absurd (omega arith)

pub record BitAt (b p : ℕ) : Type 0 where
  pub small : b < 1560
  pub place : p ≡ bit_place b
  pub inside : p + 512 ≤ image_size

pub bit_spot_at : (b p : ℕ) → spot_of_bit b ≡ Some p → BitAt b p
unfolding spot_of_bit
bit_spot_at b p e = ⊎_elim yes no (picked (ltb b 1560) e)
  where
    yes : (ltb b 1560 ≡ true) × (Some (bit_place b) ≡ Some p) → BitAt b p
    yes h =
        let l = ltb-true b 1560 h.0 in
        let q : p ≡ bit_place b = cc in
        record { small = l; place = q; inside = omega (arith, place_inside b l) }

    no : (ltb b 1560 ≡ false) × (None ≡ Some p) → BitAt b p
    no h = let z : ◌≡◌ {A = ℕ} 0 1 = cc in absurd (omega arith)

-- The table's answer is that of the track and the sector.
pub bit_spot : (b : ℕ) → b < 1560 → spot_of_bit b ≡ spot_of (track_of b) (sector_of b)
unfolding spot_of_bit spot_of bit_number
bit_spot b h = rw (lt-ltb b 1560 h, data_sector (track_of b) (sector_of b) (address_data b h))

pub map-bit : (t s b : ℕ) → map_bit_of t s ≡ Some b → (is_data t s ≡ true) × (bit_of t s ≡ b)
unfolding map_bit_of
map-bit t s b e = ⊎_elim yes no (picked (is_data t s) e)
  where
    yes : (is_data t s ≡ true) × (Some (bit_of t s) ≡ Some b) → (is_data t s ≡ true) × (bit_of t s ≡ b)
    yes h = (h.0, cc)

    no : (is_data t s ≡ false) × (None ≡ Some b) → (is_data t s ≡ true) × (bit_of t s ≡ b)
    no h = let z : ◌≡◌ {A = ℕ} 0 1 = cc in absurd (omega arith)

pub map_bit_none : (t s : ℕ) → map_bit_of t s ≡ None → is_data t s ≡ false
unfolding map_bit_of
map_bit_none t s e = ⊎_elim yes (λ h. h.0) (picked (is_data t s) e)
  where
    yes : (is_data t s ≡ true) × (Some (bit_of t s) ≡ None) → is_data t s ≡ false
    yes h = let z : ◌≡◌ {A = ℕ} 0 1 = cc in absurd (omega arith)

pub address-sector : (t s b : ℕ) → address_of b ≡ Some (record { track = t; sector = s }) → HasBit t s b
unfolding address_of
address-sector t s b e = ⊎_elim yes no (picked (ltb b 1560) e)
  where
    spoken : Address
    spoken = record { track = track_of b; sector = sector_of b }

    asked : Address
    asked = record { track = t; sector = s }

    yes : (ltb b 1560 ≡ true) × (Some spoken ≡ Some asked) → HasBit t s b
    yes h =
        let z : spoken ≡ asked = cc in
        record { small = ltb-true b 1560 h.0; track = ap (λ (a : Address). a.track) z; sector = ap (λ (a : Address). a.sector) z }

    no : (ltb b 1560 ≡ false) × (◌≡◌ {A = Option Address} None (Some asked)) → HasBit t s b
    no h = let z : ◌≡◌ {A = ℕ} 0 1 = cc in absurd (omega arith)

-- The answers on map bits and on addresses are inverse.
pub map_bit_address : (t s b : ℕ) → map_bit_of t s ≡ Some b → address_of b ≡ Some (record { track = t; sector = s })
unfolding address_of
map_bit_address t s b e =
    let m = map-bit t s b e in
    let h = rw m.1 at (data_bit_lem t s m.0) in
    rw (lt-ltb b 1560 h.small) (cc (h.track, h.sector))

pub address_map_bit : (t s b : ℕ) → address_of b ≡ Some (record { track = t; sector = s }) → map_bit_of t s ≡ Some b
unfolding map_bit_of
address_map_bit t s b e =
    let h = address-sector t s b e in
    rw (← h.track, ← h.sector, address_data b h.small) (ap Some (address-bit b h.small))

-- what each function's proof cites
pub ruleset bits = (data_bounds, bit-first, bit-second, bit-none, bit-small)

pub ruleset bit_tests = (bit_data, bit_not_data)

pub ruleset bit_places = (number-first, number-second, place_or_end_lem, place_end)

pub ruleset data_places = (data_bounds, data_or_end, none_or_end)
