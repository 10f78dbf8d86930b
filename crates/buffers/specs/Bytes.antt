-- Lists of bytes: made by a rule, a part read, a part put, a run read as one number.
use Rattle.std.specs.Prelude.{ℕ, zero, suc, ◌+◌, ◌-◌, ◌*◌, List, [], ◌∷◌, ◌++◌, Bool, false, cond, ◌&&◌, ◌||◌, leb, ltb, length, get_or, take, drop}

-- the list f 0, f 1, .., f (n - 1)
unfoldable pub tab : ℕ → (ℕ → ℕ) → List ℕ
tab zero f = []
tab (suc n) f = tab n f ++ (f n ∷ [])

-- the n bytes of d at a; fewer where d ends before
unfoldable pub part : ℕ → ℕ → List ℕ → List ℕ
part a n d = take n (drop a d)

-- d with the bytes x put at a; what would lie past the end of d is left out
unfoldable pub put : List ℕ → ℕ → List ℕ → List ℕ
put d a x =
    tab (length d) (λ k. cond (leb a k && ltb k (a + length x)) (get_or x (k - a) 0) (get_or d k 0))

-- how many of the numbers below n
unfoldable pub count : ℕ → (ℕ → Bool) → ℕ
count zero p = 0
count (suc n) p = count n p + cond (p n) 1 0

-- whether one of the numbers below n
unfoldable pub any : ℕ → (ℕ → Bool) → Bool
any zero p = false
any (suc n) p = any n p || p n

-- k bytes from place i + j on as one number, low byte first
unfoldable pub word : ℕ → List ℕ → ℕ → ℕ → ℕ
word zero m i j = 0
word (suc k) m i j = get_or m (i + j) 0 + 256 * word k m i (suc j)

-- the eight bytes from place i on; 0 where they are not all there
unfoldable pub word_or : List ℕ → ℕ → ℕ
word_or m i = cond (leb (i + 8) (length m)) (word 8 m i 0) 0
