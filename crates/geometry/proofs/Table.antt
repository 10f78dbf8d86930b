-- The table of places: one test of a whole list, which antt computes, and what it says of each entry.
-- Assumes nothing.
use mathlib.Core.Path.{◌≡◌}
use mathlib.Core.Bool.{Bool, true, false, ◌&&◌}
use mathlib.Core.List.{List, [], ◌∷◌}
use Prim.Native.Nat.{ℕ, zero, suc, ◌+◌, ◌<◌}
use native.Mathlib.Omega.{arith}
use native.Mathlib.Nat.{add-zero, add-suc, suc-add, zero-add}
use lib.Dec.{T, eqb, eqb→eq}
use lib.ListN.{length, get_or}
use Rattle.geometry.specs.Disk.{bit_place}

-- each entry is the place of its map bit, the first entry being that of bit b
unfoldable pub places_from : ℕ → List ℕ → Bool
places_from b [] = true
places_from b (x ∷ xs) = eqb x (bit_place b) && places_from (suc b) xs

pub both_hold : (p q : Bool) → T (p && q) → T p × T q
both_hold true q t = (tt, t)
both_hold false q t = absurd t

entry_from : (b : ℕ) (xs : List ℕ) → T (places_from b xs) → (k : ℕ) → k < length xs → get_or xs k 0 ≡ bit_place (b + k)
unfolding places_from
entry_from b [] t k h = absurd (omega arith)
entry_from b (x ∷ xs) t zero h = rw add-zero (eqb→eq x (bit_place b) (both_hold (eqb x (bit_place b)) (places_from (suc b) xs) t).0)
entry_from b (x ∷ xs) t (suc k) h =
    rw (add-suc, ← suc-add) (entry_from (suc b) xs (both_hold (eqb x (bit_place b)) (places_from (suc b) xs) t).1 k (omega arith))

pub entry : (xs : List ℕ) → T (places_from 0 xs) → (k : ℕ) → k < length xs → get_or xs k 0 ≡ bit_place k
entry xs t k h = rw zero-add at (entry_from 0 xs t k h)
