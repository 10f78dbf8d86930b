-- Sectors of an image by their numbers, and a disk cut between two: the words of document 01 stand above what they define.
use Rattle.std.specs.Prelude.{ℕ, ◌*◌, ◌/◌, Bool, false, cond, ◌||◌, List, [], ◌∷◌, ◌≡◌, eqb, length, get_or, take}
use Rattle.buffers.specs.Bytes.{tab, part}

-- the 512 bytes of the sector with a number
abbrev pub sector : List ℕ → ℕ → List ℕ
sector d s = part (s * 512) 512 d

-- whether a number is listed
abbrev pub is_listed : ℕ → List ℕ → Bool
is_listed a [] = false
is_listed a (x ∷ xs) = eqb a x || is_listed a xs

-- "No number occurs twice"
abbrev pub Once : List ℕ → Type 0
Once [] = Unit {0}
Once (x ∷ xs) = (is_listed x xs ≡ false) × Once xs

-- "A disk cut after k writes .. is the old disk with the first k named sectors taken from the new one."
unfoldable pub cut : List ℕ → List ℕ → List ℕ → ℕ → List ℕ
cut old new named k = tab (length old) (λ i. cond (is_listed (i / 512) (take k named)) (get_or new i 0) (get_or old i 0))
