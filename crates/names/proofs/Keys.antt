-- Laws of keys: all spellings of a name have one key, so names with other keys are other names.
use Prim.Native.Nat.{ℕ, zero, suc, ◌+◌, ◌*◌, ◌^◌, ◌<◌}
use mathlib.Core.Path.{◌≡◌, refl, sym, ap, ap₂, ◌∙◌}
use mathlib.Core.Bool.{Bool, true, false, cond}
use mathlib.Core.List.{List}
use native.Mathlib.Omega.{arith}
use lib.Bits.{bit_or, bit_xor, or_block}
use lib.Dec.{leb}
use lib.ListN.{length, get_or}
use Rattle.buffers.specs.Bytes.{word, word_or}
use Rattle.names.specs.Name.{lowered, same_name, Same, case_bits, key_word, key_of}
use Rattle.names.proofs.Letters.{lower-small, lower-bit, length-lowered, lowered-at}
use Rattle.names.proofs.Names.{same-is, not_same}

-- bit 5 of each of k bytes
mask_of : ℕ → ℕ
mask_of zero = 0
mask_of (suc k) = 32 + 256 * mask_of k

or_byte : (a b m : ℕ) → a < 256 → bit_or (a + 256 * b) (32 + 256 * m) ≡ bit_or b m * 256 + bit_or a 32
or_byte a b m h =
    let p : a + 256 * b ≡ b * 2 ^ 8 + a = omega arith in
    let q : 32 + 256 * m ≡ m * 2 ^ 8 + 32 = omega arith in
    rw (p, q) (or_block 8 b m a 32 h (omega arith))

-- with bit 5 of each byte set, a word is that of the small letters
word-lowered : (n : List ℕ) (i : ℕ) → ((b : ℕ) → get_or n b 0 < 256) → (k j : ℕ) → bit_or (word k n i j) (mask_of k) ≡ bit_or (word k (lowered n) i j) (mask_of k)
unfolding word mask_of
word-lowered n i h zero j = refl
word-lowered n i h (suc k) j =
    or_byte (get_or n (i + j) 0) (word k n i (suc j)) (mask_of k) (h (i + j))
    ∙ ap₂ (λ (x y : ℕ). x * 256 + y) (word-lowered n i h k (suc j)) (sym (ap (λ (x : ℕ). bit_or x 32) (lowered-at n (i + j)) ∙ lower-bit (get_or n (i + j) 0)))
    ∙ sym (or_byte (get_or (lowered n) (i + j) 0) (word k (lowered n) i (suc j)) (mask_of k) (rw (lowered-at n (i + j)) (lower-small (get_or n (i + j) 0) (h (i + j)))))

key_word_lem : (n : List ℕ) (i a : ℕ) → ((b : ℕ) → get_or n b 0 < 256) → a ≡ word_or n i → bit_or a case_bits ≡ key_word n i
unfolding word_or mask_of
key_word_lem n i a h p = ap (λ (x : ℕ). bit_or x case_bits) p ∙ rw (length-lowered n) (by (leb (i + 8) (length n)))
  where
    by : (t : Bool) → bit_or (cond t (word 8 n i 0) 0) case_bits ≡ bit_or (cond t (word 8 (lowered n) i 0) 0) case_bits
    by true = word-lowered n i h 8 0
    by false = refl

pub key_is : (n : List ℕ) (a b : ℕ) → ((b : ℕ) → get_or n b 0 < 256) → a ≡ word_or n 0 → b ≡ word_or n 2 → bit_xor (bit_or a case_bits) (bit_or b case_bits) ≡ key_of n
unfolding key_of
key_is n a b h p q = ap₂ bit_xor (key_word_lem n 0 a h p) (key_word_lem n 2 b h q)

-- one name, one key
pub key_same : (xs ys : List ℕ) → Same xs ys → key_of xs ≡ key_of ys
unfolding key_of
key_same xs ys e = ap (λ (l : List ℕ). bit_xor (bit_or (word_or l 0) case_bits) (bit_or (word_or l 2) case_bits)) (same-is xs ys e)

-- other keys, other names
pub keys_differ : (xs ys : List ℕ) → (key_of xs ≡ key_of ys → ⊥) → same_name xs ys ≡ false
keys_differ xs ys h = not_same xs ys (λ e. h (key_same xs ys e))
