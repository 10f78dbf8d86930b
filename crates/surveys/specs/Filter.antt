-- The filter of row 9: 8,192 bits, of which each live slot's name sets four, the same for all its spellings. A name that finds
-- one of its four clear is no earlier live slot's.
use Rattle.std.specs.Prelude.{ℕ, zero, suc, ◌+◌, ◌%◌, ◌<◌, ◌≡◌, Bool, true, not, List, [], ◌∷◌, length}
use Rattle.std.proofs.Math.Option.{some}
use Rattle.buffers.specs.Bytes.{any}
use Rattle.maps.specs.Bits.{has, with_bit}
use Rattle.slots.specs.Slot.{name_of}
use Rattle.names.specs.Name.{key_of}
use Rattle.directory.specs.Directory.{directory}

-- the bits of a key: the first is its remainder by a prime, and from each to the next it is its remainder by another. Both
-- scatter names which differ in few bytes.
unfoldable pub key_step : ℕ → ℕ
key_step key = key % 7741

unfoldable pub key_bit : ℕ → ℕ → ℕ
key_bit key zero = key % 8147
key_bit key (suc j) = (key_bit key j + key_step key) % 8192

-- the four of a key
abbrev pub key_bits : ℕ → List ℕ
key_bits key = key_bit key 0 ∷ key_bit key 1 ∷ key_bit key 2 ∷ key_bit key 3 ∷ []

-- one of the first n bits of a key is clear; none of its four is
unfoldable pub lacks_bit : List ℕ → ℕ → ℕ → Bool
lacks_bit f key n = any n (λ j. not (has f (key_bit key j)))

unfoldable pub may_contain : List ℕ → ℕ → Bool
may_contain f key = not (lacks_bit f key 4)

-- the filter with the first n bits of a key set as well; with all four
unfoldable pub inserted_to : List ℕ → ℕ → ℕ → List ℕ
inserted_to f key zero = f
inserted_to f key (suc j) = with_bit (inserted_to f key j) (key_bit key j)

abbrev pub inserted : List ℕ → ℕ → List ℕ
inserted f key = inserted_to f key 4

-- the bits of the live slots before slot i are set
pub record Filtered (d : List ℕ) (i : ℕ) (f : List ℕ) : Type 0 where
  pub long : length f ≡ 1024
  pub bits : (j : ℕ) (t : List ℕ) → j < i → directory d j ≡ some t → may_contain f (key_of (name_of t)) ≡ true
