-- The tests of specs/Disk.antt as bounds on the track and the sector, and back.
-- Assumes nothing.
use mathlib.Core.Path.{◌≡◌, refl}
use mathlib.Core.Bool.{Bool, true, false, cond, ◌&&◌, ◌||◌, and-eq-true_iff}
use mathlib.Core.Logic.{◌⊎◌, inl, inr, ⊎_elim}
use Prim.Native.Nat.{ℕ, ◌≤◌, ◌<◌}
use native.Mathlib.Omega.{arith}
use borrow.Author.Tests.{ltb-true, ltb-false, leb-true, le-leb, lt-ltb, le-ltb}
use lib.Dec.{ltb, leb}
use Rattle.geometry.specs.Disk.{is_sector, is_data}

-- a test holds or it does not
pub true_or_false : (b : Bool) → (b ≡ true) ⊎ (b ≡ false)
true_or_false true = inl refl
true_or_false false = inr refl

-- a number is below another or it is not
pub split : (a n : ℕ) → (a < n) ⊎ (n ≤ a)
split a n = ⊎_elim (λ e. inl (ltb-true a n e)) (λ e. inr (ltb-false a n e)) (true_or_false (ltb a n))

-- an answer picked by a test says how the test went
pub picked : {A : Type 0} {a b r : A} (x : Bool) → cond x a b ≡ r → ((x ≡ true) × (a ≡ r)) ⊎ ((x ≡ false) × (b ≡ r))
picked true e = inl (refl, e)
picked false e = inr (refl, e)

or_true_elim : (a b : Bool) → (a || b) ≡ true → (a ≡ true) ⊎ (b ≡ true)
or_true_elim true b e = inl refl
or_true_elim false b e = inr e

-- a track of the first side or of the second
abbrev pub OnSide : ℕ → Type 0
OnSide t = (t < 80) ⊎ ((128 ≤ t) × (t < 208))

pub record SectorBounds (t s : ℕ) : Type 0 where
  pub first : 1 ≤ s
  pub last : s ≤ 10
  pub side : OnSide t
  pub below : t < 208

pub record DataBounds (t s : ℕ) : Type 0 where
  pub from : 4 ≤ t
  pub first : 1 ≤ s
  pub last : s ≤ 10
  pub side : OnSide t
  pub below : t < 208

pub sector_bounds : (t s : ℕ) → is_sector t s ≡ true → SectorBounds t s
unfolding is_sector
sector_bounds t s e =
    record {
      first = leb-true 1 s numbers.0;
      last = leb-true s 10 numbers.1;
      side = side;
      below = ⊎_elim (λ h. omega arith) (λ h. h.1) side;
    }
  where
    parts : ((leb 1 s && leb s 10) ≡ true) × ((ltb t 80 || leb 128 t && ltb t 208) ≡ true)
    parts = (and-eq-true_iff _ _).0 e

    numbers : (leb 1 s ≡ true) × (leb s 10 ≡ true)
    numbers = (and-eq-true_iff _ _).0 parts.0

    second : (leb 128 t && ltb t 208) ≡ true → (128 ≤ t) × (t < 208)
    second h = let p = (and-eq-true_iff (leb 128 t) (ltb t 208)).0 h in (leb-true 128 t p.0, ltb-true t 208 p.1)

    side : OnSide t
    side = ⊎_elim (λ h. inl (ltb-true t 80 h)) (λ h. inr (second h)) (or_true_elim _ _ parts.1)

pub bounds_sector : (t s : ℕ) → 1 ≤ s → s ≤ 10 → OnSide t → is_sector t s ≡ true
unfolding is_sector
bounds_sector t s l h d =
    rw (le-leb 1 s l, le-leb s 10 h)
    (⊎_elim (λ k. rw (lt-ltb t 80 k)) (λ k. rw (le-ltb t 80 (omega arith), le-leb 128 t k.0, lt-ltb t 208 k.1)) d)

pub data_sector : (t s : ℕ) → is_data t s ≡ true → is_sector t s ≡ true
unfolding is_data
data_sector t s e = ((and-eq-true_iff (leb 4 t) (is_sector t s)).0 e).1

pub data_bounds : (t s : ℕ) → is_data t s ≡ true → DataBounds t s
unfolding is_data
data_bounds t s e =
    let b = sector_bounds t s (data_sector t s e) in
    record {
      from = leb-true 4 t ((and-eq-true_iff (leb 4 t) (is_sector t s)).0 e).0;
      first = b.first;
      last = b.last;
      side = b.side;
      below = b.below;
    }

pub bounds_data : (t s : ℕ) → 4 ≤ t → 1 ≤ s → s ≤ 10 → OnSide t → is_data t s ≡ true
unfolding is_data
bounds_data t s f l h d = rw (le-leb 4 t f) (bounds_sector t s l h d)
