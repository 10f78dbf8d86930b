-- The sectors that a length needs are the least that hold it.
use Prim.Native.Nat.{ℕ, ◌+◌, ◌-◌, ◌*◌, ◌≤◌, ◌<◌}
use native.Mathlib.Omega.{arith}
use Rattle.slots.specs.Slot.{sectors_for}

pub sectors-least : (n : ℕ) → (9 + n ≤ 510 * sectors_for n) × (510 * (sectors_for n - 1) < 9 + n)
unfolding sectors_for
sectors-least n = (omega arith, omega arith)

pub sectors-some : (n : ℕ) → 1 ≤ sectors_for n
unfolding sectors_for
sectors-some n = omega arith

-- no more than any number of sectors that holds the length
pub sectors-few : (n k : ℕ) → 9 + n ≤ 510 * k → sectors_for n ≤ k
unfolding sectors_for
sectors-few n k h = omega arith
