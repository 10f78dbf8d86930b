-- A file's chain of sectors. The words of document 01 stand above what they define.
use Rattle.std.specs.Prelude.{ℕ, zero, suc, ◌-◌, Bool, true, false, not, cond, ◌&&◌, ◌||◌, List, eqb, get_or}
use Rattle.geometry.specs.Disk.{bit_of}
use Rattle.maps.specs.Bits.{has}
use Rattle.slots.specs.Slot.{SlotFields}

-- "Bytes 511 and 512 of a data sector, counted from one, are the next track and sector." The map bit that a sector's
-- bytes lead to; 1,560, which no map has, where they name no data sector.
unfoldable pub linked_bit : List ℕ → ℕ
linked_bit h = bit_of (get_or h 510 0) (get_or h 511 0)

-- "The last sector has 0, 0"
unfoldable pub is_last : List ℕ → Bool
is_last h = eqb (get_or h 510 0) 0 && eqb (get_or h 511 0) 0

-- with bit b passed as well
abbrev pub with_visited : (ℕ → Bool) → ℕ → ℕ → Bool
with_visited passed b c = eqb c b || passed c

-- From bit b on, with n links to follow before the last: "a link before the last is no data sector of the slot's own map
-- or repeats a sector already passed, or the last link is not 0, 0."
unfoldable pub leaves_map : List ℕ → (ℕ → List ℕ) → ℕ → ℕ → (ℕ → Bool) → Bool
leaves_map map sec zero b passed = not (is_last (sec b))
leaves_map map sec (suc n) b passed =
    cond (has map (linked_bit (sec b)) && not (with_visited passed b (linked_bit (sec b)))) (leaves_map map sec n (linked_bit (sec b)) (with_visited passed b))
    true

-- "Refusal 10: following exactly count sectors from the first, .." A first sector outside the map is no chain either.
unfoldable pub broken : SlotFields → (ℕ → List ℕ) → Bool
broken x sec = cond (has x.map x.first) (leaves_map x.map sec (x.count - 1) x.first (λ c. false)) true

-- the bit that i links lead to from b
unfoldable pub chain_bit : (ℕ → List ℕ) → ℕ → ℕ → ℕ
chain_bit sec b zero = b
chain_bit sec b (suc i) = linked_bit (sec (chain_bit sec b i))
