-- Sums over the numbers below a bound, lists joined, and how often a number is in a list.
use Rattle.std.specs.Prelude.{ℕ, zero, suc, ◌+◌, cond, List, [], ◌∷◌, ◌++◌, eqb}

-- the sum f 0 + f 1 + .. + f (n - 1)
unfoldable pub sum : ℕ → (ℕ → ℕ) → ℕ
sum zero f = 0
sum (suc n) f = sum n f + f n

-- the lists f 0, f 1, .., f (n - 1), joined
unfoldable pub concat : ℕ → (ℕ → List ℕ) → List ℕ
concat zero f = []
concat (suc n) f = concat n f ++ f n

-- how often a number is in a list
unfoldable pub times : ℕ → List ℕ → ℕ
times x [] = 0
times x (y ∷ l) = cond (eqb x y) 1 0 + times x l
