-- An answer that fits is its four parts, and each can be read back from it.
use Prim.Native.Nat.{ℕ, ◌+◌, ◌*◌, ◌/◌, ◌%◌, ◌^◌, ◌<◌}
use mathlib.Core.Path.{◌≡◌, refl}
use native.Mathlib.Omega.{arith}
use Rattle.refusals.specs.Answers.{Outcome, done, refused}
use Rattle.packing.specs.Packed.{packed, clipped, packed_at, clipped_at, outcome_refusal, outcome_slot, outcome_value, outcome_free, Within, FitsAnswer, PlaceFitsAnswer, Unpacked, UnpackedAt}

pub packed-is : (o : Outcome) → packed o ≡ outcome_refusal o + 256 * outcome_slot o + 2 ^ 24 * outcome_value o + 2 ^ 48 * outcome_free o
packed-is (done v f) = omega arith
packed-is (refused r) = omega arith

-- four numbers below their places' sizes
parts : (a b c d x : ℕ) → a < 256 → b < 2 ^ 16 → c < 2 ^ 24 → x ≡ a + 256 * b + 2 ^ 24 * c + 2 ^ 48 * d
    → (x % 256 ≡ a) × (x / 256 % 2 ^ 16 ≡ b) × (x / 2 ^ 24 % 2 ^ 24 ≡ c) × (x / 2 ^ 48 ≡ d)
parts a b c d x p q r e =
    let m : x / 256 ≡ b + 2 ^ 16 * c + 2 ^ 40 * d = omega arith in
    let n : x / 2 ^ 24 ≡ c + 2 ^ 24 * d = omega arith in
    (omega arith, omega arith, omega arith, omega arith)

-- refusal, slot, value and free sectors are told apart
pub unpacked : (o : Outcome) → FitsAnswer o → Unpacked o (packed o)
unpacked o w =
    let t = parts (outcome_refusal o) (outcome_slot o) (outcome_value o) (outcome_free o) (packed o) (omega arith) (omega arith) (omega arith) (packed-is o) in
    record { refusal = t.0; slot = t.1; value = t.2; free = t.3 }

-- what fits below smaller bounds fits
pub within_fits : (o : Outcome) (v f : ℕ) → v < 2 ^ 24 → f < 2 ^ 16 → Within o v f → FitsAnswer o
within_fits o v f p q w = record { refusal = w.refusal; slot = w.slot; value = omega (arith, w.value); free = omega (arith, w.free) }

pub reported_at : (sector value offset : ℕ) → PlaceFitsAnswer sector value offset → UnpackedAt sector value offset (packed_at sector value offset)
reported_at sector value offset w =
    let t = parts 0 sector value offset (packed_at sector value offset) (omega arith) w.sector-small w.value-small (omega arith) in
    record { refusal = t.0; sector-is = t.1; value-is = t.2; offset-is = t.3 }

-- nothing of what fits is too much
pub clipped-is : (o : Outcome) → FitsAnswer o → clipped o ≡ packed o
unfolding clipped
clipped-is (done v f) w = omega arith
clipped-is (refused r) w = omega arith

pub clipped_at-is : (sector value offset : ℕ) → PlaceFitsAnswer sector value offset → clipped_at sector value offset ≡ packed_at sector value offset
unfolding clipped_at
clipped_at-is sector value offset w =
    let a : sector % 2 ^ 16 ≡ sector = omega (arith, w.sector-small) in
    let b : value % 2 ^ 24 ≡ value = omega (arith, w.value-small) in
    let c : offset % 2 ^ 16 ≡ offset = omega (arith, w.offset-small) in
    rw (a, b, c) refl
