-- A map: 195 bytes, a bit for each data sector of the disk.
use Rattle.std.specs.Prelude.{ℕ, ◌/◌, ◌%◌, ◌^◌, List, Bool, ◌&&◌, eqb, length, get_or, set, replicate}
use Rattle.std.specs.Int.Bits.{bit_or}
use Rattle.buffers.specs.Bytes.{tab, count, any}

-- "Bit b is bit b mod 8 of map byte b div 8."
unfoldable pub has : List ℕ → ℕ → Bool
has m b = eqb (get_or m (b / 8) 0 / 2 ^ (b % 8) % 2) 1

-- the number of a map's set bits
unfoldable pub bits_of : List ℕ → ℕ
bits_of m = count 1560 (has m)

-- whether two maps share a bit
unfoldable pub share : List ℕ → List ℕ → Bool
share m d = any 1560 (λ b. has m b && has d b)

-- "a map with all 195 bytes clear"
abbrev pub clear_map : List ℕ
clear_map = replicate 195 0

-- the bitwise or of two maps, as long as the first
unfoldable pub join : List ℕ → List ℕ → List ℕ
join m d = tab (length m) (λ k. bit_or (get_or m k 0) (get_or d k 0))

-- a map with bit b set as well
unfoldable pub with_bit : List ℕ → ℕ → List ℕ
with_bit m b = set m (b / 8) (bit_or (get_or m (b / 8) 0) (2 ^ (b % 8)))
