-- The runs of clear bits of a map.
use Rattle.std.specs.Prelude.{ℕ, ◌/◌, ◌%◌, Bool, cond, not, ◌&&◌, ◌||◌, List, eqb, ltb, get_or}
use Rattle.std.proofs.Math.Option.{Option, none, some}
use Rattle.maps.specs.Bits.{has}
use Rattle.refusals.specs.Order.{scan}
use Rattle.plans.specs.Gathering.{run_at}

-- one of the 1,560 bits of a map, and clear
abbrev pub clear_bit : List ℕ → ℕ → Bool
clear_bit m b = ltb b 1560 && not (has m b)

-- the lowest bit from which on so many are clear
unfoldable pub lowest_clear : List ℕ → ℕ → Option ℕ
lowest_clear m count = scan 1560 (λ b. cond (run_at (clear_bit m) count b) (some b) none)

-- a byte is full or empty
abbrev pub uniform_byte : ℕ → Bool
uniform_byte x = eqb x 0 || eqb x 255

-- eight where such a byte begins at bit b, else one
unfoldable pub stretch : List ℕ → ℕ → ℕ
stretch m b = cond (eqb (b % 8) 0 && uniform_byte (get_or m (b / 8) 0)) 8 1
