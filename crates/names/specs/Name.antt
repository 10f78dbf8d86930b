-- Names: ten bytes in a slot, one to ten in a request.
use Rattle.std.specs.Prelude.{ℕ, ◌+◌, ◌-◌, ◌≤◌, ◌<◌, Bool, true, false, cond, not, ◌&&◌, List, [], ◌∷◌, ◌++◌, ◌⊎◌, ◌≡◌, eqb, leb, length, get_or, replicate}
use Rattle.std.specs.Int.Bits.{bit_or, bit_xor}
use Rattle.buffers.specs.Bytes.{word_or}

-- "a to z against A to Z": a capital as its small letter, every other byte as it is
unfoldable pub lower : ℕ → ℕ
lower b = cond (leb 65 b && leb b 90) (b + 32) b

unfoldable pub lowered : List ℕ → List ℕ
lowered [] = []
lowered (x ∷ xs) = lower x ∷ lowered xs

-- byte for byte: "equal to the stored bytes"
unfoldable pub same_bytes : List ℕ → List ℕ → Bool
same_bytes [] [] = true
same_bytes [] (y ∷ ys) = false
same_bytes (x ∷ xs) [] = false
same_bytes (x ∷ xs) (y ∷ ys) = eqb x y && same_bytes xs ys

-- "Names that differ only in a to z against A to Z are the same name wherever names are compared;"
unfoldable pub same_name : List ℕ → List ℕ → Bool
same_name a b = same_bytes (lowered a) (lowered b)

-- what theorems say of two names
abbrev pub Same : List ℕ → List ℕ → Type 0
Same a b = same_name a b ≡ true

-- The same once more, byte by byte and with no word of how names are compared (`same_exactly` in proofs/Names).
-- A to Z are 65 to 90, a to z stand 32 above: x is a capital and y its small letter
abbrev pub Cases : ℕ → ℕ → Type 0
Cases x y = (65 ≤ x) × (x ≤ 90) × (y ≡ x + 32)

-- two bytes that differ, if at all, "only in a to z against A to Z"
abbrev pub OneLetter : ℕ → ℕ → Type 0
OneLetter x y = (x ≡ y) ⊎ (Cases x y ⊎ Cases y x)

pub record SameLetters (a b : List ℕ) : Type 0 where
  pub long : length a ≡ length b
  pub letters : (i : ℕ) → i < length a → OneLetter (get_or a i 0) (get_or b i 0)

-- "A name asked for has 1 to 10 bytes, the first not 0;"
unfoldable pub askable : List ℕ → Bool
askable n = leb 1 (length n) && leb (length n) 10 && not (eqb (get_or n 0 0) 0)

-- "shorter names are filled with 32."
unfoldable pub padded : List ℕ → List ℕ
padded n = n ++ replicate (10 - length n) 32

-- eight bytes of bit 5 alone, in which the two cases of a letter differ
abbrev pub case_bits : ℕ
case_bits = 2314885530818453536

-- eight bytes of a name from place i on, small letters for capitals, each with bit 5 set
abbrev pub key_word : List ℕ → ℕ → ℕ
key_word n i = bit_or (word_or (lowered n) i) case_bits

-- a number that all spellings of a name share; it tells most other names apart
unfoldable pub key_of : List ℕ → ℕ
key_of n = bit_xor (key_word n 0) (key_word n 2)
