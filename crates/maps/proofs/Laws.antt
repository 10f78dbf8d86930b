-- Laws of maps: the bits of a byte, of a join and of a marked map, how many are set, and which two maps share.
use Prim.Native.Nat.{ℕ, zero, suc, ◌+◌, ◌-◌, ◌*◌, ◌/◌, ◌%◌, ◌^◌, ◌≤◌, ◌<◌, min}
use mathlib.Core.Path.{◌≡◌, refl, sym, ap, ap₂, ◌∙◌}
use mathlib.Core.List.{List, []}
use mathlib.Core.Bool.{Bool, true, false, cond, not, ◌&&◌, ◌||◌, and_comm, and-or_distrib_right, and-false, or_assoc, or-false, or-true, true≢false}
use mathlib.Core.Logic.{⊎_elim}
use native.Mathlib.Decide.{ℕ_discrete}
use native.Mathlib.Nat.{add-zero, zero-add, zero-mul, zero-div, div-one, div-eq_of_lt, div-div-eq-div-mul, mul-div-mul_right, mod-eq_of_lt, pow-suc, add-suc}
use native.Mathlib.Omega.{arith}
use borrow.Author.Tests.{eq-eqb, ne_eqb, eqb-false}
use lib.Bits.{bit_or, bit_and, or_shr, or_mod, and_shr, and_mod, or_zero_r}
use lib.Count.{ones, ones_step}
use lib.Dec.{eqb, lit<, eqb-suc-zero, eqb-zero-suc, eqb-suc-suc}
use lib.ListN.{length, get_or, set, take, drop, replicate, length-set, length-take, length-drop}
use lib.Pow.{pow_pos, mod-pow-add}
use lib.Seq.{get_or-set_same, get_or-set_other, get_or-take, get_or-drop, drop-drop}
use Rattle.std.specs.Simd.{first_chunks}
use Rattle.buffers.specs.Bytes.{part, count, any, word}
use Rattle.buffers.proofs.Lists.{below_or_not, past_end, length-tab, get_or-tab, tab_of, part-part, word_in}
use Rattle.buffers.proofs.Counts.{count_cong, count_le, count_add, count_none, any_cong, any_none, none_any}
use Rattle.maps.specs.Bits.{has, bits_of, share, clear_map, join, with_bit}

-- ---- a byte

-- bit j of a number
abbrev pub bit : ℕ → ℕ → Bool
bit x j = eqb (x / 2 ^ j % 2) 1

or_digit : (p q : ℕ) → p < 2 → q < 2 → eqb (bit_or p q) 1 ≡ (eqb p 1 || eqb q 1)
or_digit zero zero a b = refl
or_digit zero (suc zero) a b = refl
or_digit zero (suc (suc q)) a b = absurd (omega arith)
or_digit (suc zero) zero a b = refl
or_digit (suc zero) (suc zero) a b = refl
or_digit (suc zero) (suc (suc q)) a b = absurd (omega arith)
or_digit (suc (suc p)) q a b = absurd (omega arith)

and_digit : (p q : ℕ) → p < 2 → q < 2 → eqb (bit_and p q) 1 ≡ (eqb p 1 && eqb q 1)
and_digit zero q a b = refl
and_digit (suc zero) zero a b = refl
and_digit (suc zero) (suc zero) a b = refl
and_digit (suc zero) (suc (suc q)) a b = absurd (omega arith)
and_digit (suc (suc p)) q a b = absurd (omega arith)

bit_or_lem : (x y j : ℕ) → bit (bit_or x y) j ≡ (bit x j || bit y j)
bit_or_lem x y j =
    ap (λ (v : ℕ). eqb (v % 2) 1) (or_shr x y j) ∙ ap (λ (v : ℕ). eqb v 1) (or_mod (x / 2 ^ j) (y / 2 ^ j) 1)
    ∙ or_digit (x / 2 ^ j % 2) (y / 2 ^ j % 2) (omega arith) (omega arith)

bit_and_lem : (x y j : ℕ) → bit (bit_and x y) j ≡ (bit x j && bit y j)
bit_and_lem x y j =
    ap (λ (v : ℕ). eqb (v % 2) 1) (and_shr x y j) ∙ ap (λ (v : ℕ). eqb v 1) (and_mod (x / 2 ^ j) (y / 2 ^ j) 1)
    ∙ and_digit (x / 2 ^ j % 2) (y / 2 ^ j % 2) (omega arith) (omega arith)

bit-zero : (j : ℕ) → bit 0 j ≡ false
bit-zero j = rw zero-div

bit_pow : (j i : ℕ) → bit (2 ^ j) i ≡ eqb i j
bit_pow zero zero = refl
bit_pow zero (suc i) =
    let p : 1 < 2 ^ suc i = rw pow-suc (omega (arith, pow_pos i)) in
    rw (div-eq_of_lt p, eqb-suc-zero)
bit_pow (suc j) zero = let e : 2 ^ suc j / 2 ^ 0 % 2 ≡ 0 = rw pow-suc (omega arith) in rw e (sym (eqb-zero-suc j))
bit_pow (suc j) (suc i) = rw (eqb-suc-suc, pow-suc 2 j, pow-suc 2 i, mul-div-mul_right (2 ^ j) (2 ^ i) (lit< tt)) (bit_pow j i)

digit_is : (y : ℕ) → y < 2 → y ≡ cond (eqb y 1) 1 0
digit_is zero h = refl
digit_is (suc zero) h = refl
digit_is (suc (suc y)) h = absurd (omega arith)

-- the set bits of a number: those of its n lowest, and those above
ones_count : (n x : ℕ) → ones x ≡ count n (bit x) + ones (x / 2 ^ n)
unfolding count
ones_count zero x = rw (zero-add, div-one)
ones_count (suc n) x =
    let e : ones (x / 2 ^ n) ≡ x / 2 ^ n % 2 + ones (x / 2 ^ suc n) = rw (pow-suc, ← div-div-eq-div-mul) (ones_step (x / 2 ^ n)) in
    omega (arith, ones_count n x, digit_is (x / 2 ^ n % 2) (omega arith))

ones_byte : (x : ℕ) → x < 256 → ones x ≡ count 8 (bit x)
unfolding ones
ones_byte x h = ones_count 8 x ∙ rw (div-eq_of_lt h) (add-zero (count 8 (bit x)))

-- a number whose n lowest bits are clear
low_clear : (n x : ℕ) → ((j : ℕ) → j < n → bit x j ≡ false) → x % 2 ^ n ≡ 0
low_clear zero x h = omega arith
low_clear (suc n) x h =
    let e : x / 2 ^ n % 2 ≡ 0 = clear_digit (x / 2 ^ n % 2) (omega arith) (h n (omega arith)) in
    let l : x % 2 ^ n ≡ 0 = low_clear n x (λ j k. h j (omega arith)) in
    let s : suc n ≡ 1 + n = omega arith in
    rw s (mod-pow-add x 1 n ∙ rw (e, l, zero-mul))
  where
    clear_digit : (y : ℕ) → y < 2 → eqb y 1 ≡ false → y ≡ 0
    clear_digit y k e = omega (arith, eqb-false y 1 e)

-- a byte is not 0 where one of its bits is set
pub byte-set : (x : ℕ) → x < 256 → not (eqb x 0) ≡ any 8 (bit x)
byte-set x h = go (ℕ_discrete x 0) (any 8 (bit x)) refl
  where
    go : Dec (x ≡ 0) → (t : Bool) → any 8 (bit x) ≡ t → not (eqb x 0) ≡ any 8 (bit x)
    go (yes e) t p = rw e (sym (none_any 8 (bit 0) (λ j k. bit-zero j)))
    go (no e) true p = rw (p, ne_eqb x 0 e)
    go (no e) false p = absurd (e (sym (mod-eq_of_lt h) ∙ low_clear 8 x (any_none 8 (bit x) p)))

-- ---- counting and asking, eight bits at a time and past the end

or_swap : (a b c d : Bool) → ((a || b) || (c || d)) ≡ ((a || c) || (b || d))
or_swap true b c d = refl
or_swap false true true d = refl
or_swap false true false d = refl
or_swap false false c d = refl

any_or : (n : ℕ) (p q : ℕ → Bool) → any n (λ k. p k || q k) ≡ (any n p || any n q)
unfolding any
any_or zero p q = refl
any_or (suc n) p q = ap (λ (t : Bool). t || (p n || q n)) (any_or n p q) ∙ or_swap (any n p) (any n q) (p n) (q n)

any-add : (a n : ℕ) (p : ℕ → Bool) → any (a + n) p ≡ (any a p || any n (λ j. p (a + j)))
unfolding any
any-add a zero p = rw add-zero (sym (or-false (any a p)))
any-add a (suc n) p = rw add-suc (ap (λ (t : Bool). t || p (a + n)) (any-add a n p) ∙ or_assoc (any a p) (any n (λ j. p (a + j))) (p (a + n)))

-- no more of them from n on
count_stop : (n k : ℕ) (p : ℕ → Bool) → n ≤ k → ((j : ℕ) → n ≤ j → p j ≡ false) → count n p ≡ count k p
count_stop n k p h z =
    let e : k ≡ n + (k - n) = omega arith in
    let r : count (k - n) (λ j. p (n + j)) ≡ 0 = count_none (k - n) (λ j. p (n + j)) (λ j l. z (n + j) (omega arith)) in
    rw e (omega (arith, count_add n (k - n) p))

any_stop : (n k : ℕ) (p : ℕ → Bool) → n ≤ k → ((j : ℕ) → n ≤ j → p j ≡ false) → any n p ≡ any k p
any_stop n k p h z =
    let e : k ≡ n + (k - n) = omega arith in
    let r : any (k - n) (λ j. p (n + j)) ≡ false = none_any (k - n) (λ j. p (n + j)) (λ j l. z (n + j) (omega arith)) in
    sym (ap (λ (x : ℕ). any x p) e ∙ any-add n (k - n) p ∙ ap (λ (t : Bool). any n p || t) r ∙ or-false (any n p))

-- of two that never hold at once
count_or : (n : ℕ) (p q : ℕ → Bool) → ((k : ℕ) → k < n → (p k && q k) ≡ false) → count n (λ k. p k || q k) ≡ count n p + count n q
unfolding count
count_or zero p q h = refl
count_or (suc n) p q h = omega (arith, count_or n p q (λ k l. h k (omega arith)), either (p n) (q n) (h n (omega arith)))
  where
    either : (s t : Bool) → (s && t) ≡ false → cond {A = ℕ} (s || t) 1 0 ≡ cond s 1 0 + cond t 1 0
    either true true e = absurd (true≢false e)
    either true false e = refl
    either false t e = sym (zero-add (cond t 1 0))

eight_more : (i : ℕ) → 8 * (i + 1) ≡ 8 * i + 8
eight_more i = omega arith

count_eight : (i : ℕ) (p q : ℕ → Bool) → ((j : ℕ) → j < 8 → p (8 * i + j) ≡ q j) → count (8 * (i + 1)) p ≡ count (8 * i) p + count 8 q
count_eight i p q h = rw eight_more (count_add (8 * i) 8 p ∙ ap (λ (x : ℕ). count (8 * i) p + x) (count_cong 8 (λ j. p (8 * i + j)) q h))

any_eight : (i : ℕ) (p q : ℕ → Bool) → ((j : ℕ) → j < 8 → p (8 * i + j) ≡ q j) → any (8 * (i + 1)) p ≡ (any (8 * i) p || any 8 q)
any_eight i p q h = rw eight_more (any-add (8 * i) 8 p ∙ ap (λ (t : Bool). any (8 * i) p || t) (any_cong 8 (λ j. p (8 * i + j)) q h))

-- ---- a bit of a map

pub has-byte : (m : List ℕ) (i j : ℕ) → j < 8 → has m (8 * i + j) ≡ bit (get_or m i 0) j
unfolding has
has-byte m i j h =
    let q : (8 * i + j) / 8 ≡ i = omega arith in
    let r : (8 * i + j) % 8 ≡ j = omega arith in
    rw (q, r)

pub has_past : (m : List ℕ) (b : ℕ) → 8 * length m ≤ b → has m b ≡ false
unfolding has
has_past m b h = rw (past_end m (b / 8) (omega arith)) (bit-zero (b % 8))

zeros-at : (n k : ℕ) → ◌≡◌ {A = ℕ} (get_or (replicate n 0) k 0) 0
zeros-at zero k = refl
zeros-at (suc n) zero = refl
zeros-at (suc n) (suc k) = zeros-at n k

pub has_clear : (b : ℕ) → has clear_map b ≡ false
unfolding has
has_clear b = ap (λ (x : ℕ). bit x (b % 8)) (zeros-at 195 (b / 8)) ∙ bit-zero (b % 8)

-- ---- the set bits

pub bits_le : (m : List ℕ) → bits_of m ≤ 1560
unfolding bits_of
bits_le m = count_le 1560 (has m)

pub bits_clear : bits_of clear_map ≡ 0
unfolding bits_of
bits_clear = count_none 1560 (has clear_map) (λ b h. has_clear b)

-- one byte more
pub bits-more : (m : List ℕ) (i : ℕ) → get_or m i 0 < 256 → count (8 * (i + 1)) (has m) ≡ count (8 * i) (has m) + ones (get_or m i 0)
bits-more m i h = count_eight i (has m) (bit (get_or m i 0)) (has-byte m i) ∙ ap (λ (x : ℕ). count (8 * i) (has m) + x) (sym (ones_byte (get_or m i 0) h))

-- the bits of a byte that stands below others
low_digit : (a b j : ℕ) → a < 256 → j < 8 → (a + 256 * b) / 2 ^ j % 2 ≡ a / 2 ^ j % 2
low_digit a b zero h k = omega arith
low_digit a b (suc zero) h k = omega arith
low_digit a b (suc (suc zero)) h k = omega arith
low_digit a b (suc (suc (suc zero))) h k = omega arith
low_digit a b (suc (suc (suc (suc zero)))) h k = omega arith
low_digit a b (suc (suc (suc (suc (suc zero))))) h k = omega arith
low_digit a b (suc (suc (suc (suc (suc (suc zero)))))) h k = omega arith
low_digit a b (suc (suc (suc (suc (suc (suc (suc zero))))))) h k = omega arith
low_digit a b (suc (suc (suc (suc (suc (suc (suc (suc j)))))))) h k = absurd (omega arith)

ones_join : (a b : ℕ) → a < 256 → ones (a + 256 * b) ≡ ones a + ones b
ones_join a b h =
    let q : (a + 256 * b) / 2 ^ 8 ≡ b = omega arith in
    ones_count 8 (a + 256 * b) ∙ rw q (ap (λ (x : ℕ). x + ones b) (count_cong 8 (bit (a + 256 * b)) (bit a) (λ j k. ap (λ (x : ℕ). eqb x 1) (low_digit a b j h k)) ∙ sym (ones_byte a h)))

-- the set bits of k bytes are those of the word that they make
pub word_more : (m : List ℕ) (i : ℕ) → ((b : ℕ) → get_or m b 0 < 256) → (k j : ℕ) → count (8 * (i + j + k)) (has m) ≡ count (8 * (i + j)) (has m) + ones (word k m i j)
unfolding word ones
word_more m i h zero j = rw add-zero (sym (add-zero (count (8 * (i + j)) (has m))))
word_more m i h (suc k) j =
    let e : i + j + suc k ≡ i + suc j + k = omega arith in
    let f : i + suc j ≡ i + j + 1 = omega arith in
    let b : count (8 * (i + suc j)) (has m) ≡ count (8 * (i + j)) (has m) + ones (get_or m (i + j) 0) = rw f (bits-more m (i + j) (h (i + j))) in
    rw e (omega (arith, word_more m i h k (suc j), b, ones_join (get_or m (i + j) 0) (word k m i (suc j)) (h (i + j))))

-- eight bytes more
pub words_more : (m : List ℕ) → ((b : ℕ) → get_or m b 0 < 256) → (i s x y : ℕ) → s ≡ count (64 * i) (has m) → x ≡ word 8 m (8 * i) 0 → y ≡ ones x → s + y ≡ count (64 * (i + 1)) (has m)
words_more m h i s x y p q r =
    let a : 8 * (8 * i + 0 + 8) ≡ 64 * (i + 1) = omega arith in
    let b : 8 * (8 * i + 0) ≡ 64 * i = omega arith in
    let e : y ≡ ones (word 8 m (8 * i) 0) = r ∙ ap ones q in
    sym (ap (λ (n : ℕ). count n (has m)) (sym a) ∙ word_more m (8 * i) h 8 0 ∙ ap₂ ◌+◌ (ap (λ (n : ℕ). count n (has m)) b ∙ sym p) (sym e))

-- the chunks of eight bytes that a list begins with
chunk_at : (k : ℕ) (m : List ℕ) (i : ℕ) → i < k → get_or (first_chunks 8 k m) i [] ≡ part (8 * i) 8 m
unfolding part
chunk_at zero m i h = absurd (omega arith)
chunk_at (suc k) m zero h = refl
chunk_at (suc k) m (suc i) h =
    let e : 8 + 8 * i ≡ 8 * suc i = omega arith in
    chunk_at k (drop 8 m) i (omega arith) ∙ ap (take 8) (drop-drop (8 * i) 8 m ∙ ap (λ (x : ℕ). drop x m) e)

-- eight bytes more, where they are one of the chunks that the first n bytes begin with
pub chunk_more : (m : List ℕ) → ((b : ℕ) → get_or m b 0 < 256) → (n i s x : ℕ) (w : List (List ℕ)) → w ≡ first_chunks 8 (length (take n m) / 8) (take n m) → i < length (take n m) / 8
    → s ≡ count (64 * i) (has m) → x ≡ word 8 (get_or w i []) 0 0 → s + ones x ≡ count (64 * (i + 1)) (has m)
unfolding part
chunk_more m bytes n i s x w e h p q =
    let t : 8 * i + 8 ≤ n = omega (arith, length-take n m) in
    let z : 0 + 8 * i ≡ 8 * i = omega arith in
    let c : get_or w i [] ≡ part (8 * i) 8 m =
    ap (λ (y : List (List ℕ)). get_or y i []) e ∙ chunk_at (length (take n m) / 8) (take n m) i h ∙ part-part 0 n (8 * i) 8 m t ∙ ap (λ (a : ℕ). part a 8 m) z
    in
    words_more m bytes i s x (ones x) p (q ∙ ap (λ (l : List ℕ). word 8 l 0 0) c ∙ word_in 8 (8 * i) 8 m 0 (omega arith)) refl

-- one byte more of those that come after k chunks
pub rest_more : (m : List ℕ) → ((b : ℕ) → get_or m b 0 < 256) → (n k j s : ℕ) (r : List ℕ) → r ≡ drop (k * 8) (take n m) → j < length r → s ≡ count (8 * (8 * k + j)) (has m)
    → s + ones (get_or r j 0) ≡ count (8 * (8 * k + (j + 1))) (has m)
rest_more m bytes n k j s r e h p =
    let l : k * 8 + j < n = omega (arith, ap length e, length-drop (k * 8) (take n m), length-take n m) in
    let b : get_or r j 0 ≡ get_or m (8 * k + j) 0 =
    ap (λ (y : List ℕ). get_or y j 0) e ∙ get_or-drop (k * 8) (take n m) j 0 ∙ get_or-take n m (k * 8 + j) 0 l ∙ ap (λ (x : ℕ). get_or m x 0) (omega arith)
    in
    ap₂ (λ (x y : ℕ). x + ones y) p b ∙ sym (bits-more m (8 * k + j) (bytes (8 * k + j))) ∙ ap (λ (x : ℕ). count (8 * x) (has m)) (omega arith)

-- the bytes that a map has, of 195, hold all its bits
pub bits_all : (m : List ℕ) (n : ℕ) → n ≡ min 195 (length m) → count (8 * n) (has m) ≡ bits_of m
unfolding bits_of
bits_all m n e = ⊎_elim short full (below_or_not n 195)
  where
    short : n < 195 → count (8 * n) (has m) ≡ count 1560 (has m)
    short h = count_stop (8 * n) 1560 (has m) (omega arith) (λ b l. has_past m b (omega arith))

    full : 195 ≤ n → count (8 * n) (has m) ≡ count 1560 (has m)
    full h = let k : 8 * n ≡ 1560 = omega arith in rw k

-- ---- shared bits

abbrev pub in_both : List ℕ → List ℕ → ℕ → Bool
in_both m d b = has m b && has d b

pub share-none : (m d : List ℕ) → share m d ≡ false → (b : ℕ) → b < 1560 → has m b ≡ true → has d b ≡ true → ⊥
unfolding share
share-none m d e b h p q = true≢false (sym (rw (p, q)) ∙ any_none 1560 (in_both m d) e b h)

pub none-share : (m d : List ℕ) → ((b : ℕ) → b < 1560 → has m b ≡ true → has d b ≡ true → ⊥) → share m d ≡ false
unfolding share
none-share m d h = none_any 1560 (in_both m d) (λ b l. not_both (has m b) (has d b) (h b l))
  where
    not_both : (s t : Bool) → (s ≡ true → t ≡ true → ⊥) → (s && t) ≡ false
    not_both true true k = absurd (k refl refl)
    not_both true false k = refl
    not_both false t k = refl

pub share_comm : (m d : List ℕ) → share m d ≡ share d m
unfolding share
share_comm m d = any_cong 1560 (in_both m d) (in_both d m) (λ b h. and_comm (has m b) (has d b))

-- one byte more: its shared bits are or-ed to the others
pub share-more : (m d : List ℕ) (i a x z : ℕ) → x ≡ bit_and (get_or m i 0) (get_or d i 0) → z ≡ bit_or a x → any 8 (bit a) ≡ any (8 * i) (in_both m d)
    → any 8 (bit z) ≡ any (8 * (i + 1)) (in_both m d)
share-more m d i a x z e f h =
    ap (λ (v : ℕ). any 8 (bit v)) f ∙ any_cong 8 (bit (bit_or a x)) (λ j. bit a j || bit x j) (λ j l. bit_or_lem a x j) ∙ any_or 8 (bit a) (bit x)
    ∙ ap (λ (t : Bool). t || any 8 (bit x)) h
    ∙ sym (any_eight i (in_both m d) (bit x) (λ j l. ap₂ ◌&&◌ (has-byte m i j l) (has-byte d i j l) ∙ sym (bit_and_lem (get_or m i 0) (get_or d i 0) j) ∙ ap (λ (v : ℕ). bit v j) (sym e)))

-- the bytes that both maps have, of 195, hold all the bits that they can share
pub share_all : (m d : List ℕ) (n : ℕ) → n ≡ min 195 (min (length m) (length d)) → any (8 * n) (in_both m d) ≡ share m d
unfolding share
share_all m d n e = ⊎_elim short full (below_or_not n 195)
  where
    past : n < 195 → (b : ℕ) → 8 * n ≤ b → in_both m d b ≡ false
    past h b l =
        ⊎_elim (λ (k : length m < length d). rw (has_past m b (omega arith)))
        (λ (k : length d ≤ length m). rw (has_past d b (omega arith)) (and-false (has m b)))
        (below_or_not (length m) (length d))

    short : n < 195 → any (8 * n) (in_both m d) ≡ any 1560 (in_both m d)
    short h = any_stop (8 * n) 1560 (in_both m d) (omega arith) (past h)

    full : 195 ≤ n → any (8 * n) (in_both m d) ≡ any 1560 (in_both m d)
    full h = let k : 8 * n ≡ 1560 = omega arith in rw k

-- ---- a join

pub length-join : (m d : List ℕ) → length (join m d) ≡ length m
unfolding join
length-join m d = length-tab (length m) (λ k. bit_or (get_or m k 0) (get_or d k 0))

join-at : (m d : List ℕ) (k : ℕ) → k < length m → get_or (join m d) k 0 ≡ bit_or (get_or m k 0) (get_or d k 0)
unfolding join
join-at m d k h = get_or-tab (length m) (λ k. bit_or (get_or m k 0) (get_or d k 0)) k h

-- the list of these bytes is that join
join_is : (m d l : List ℕ) → length l ≡ length m → ((k : ℕ) → k < length m → get_or l k 0 ≡ bit_or (get_or m k 0) (get_or d k 0)) → l ≡ join m d
unfolding join
join_is m d l e h = tab_of (length m) (λ k. bit_or (get_or m k 0) (get_or d k 0)) l e h

pub has_join : (m d : List ℕ) (b : ℕ) → b < 8 * length m → has (join m d) b ≡ (has m b || has d b)
unfolding has
has_join m d b h = ap (λ (x : ℕ). bit x (b % 8)) (join-at m d (b / 8) (omega arith)) ∙ bit_or_lem (get_or m (b / 8) 0) (get_or d (b / 8) 0) (b % 8)

pub bits-join : (m d : List ℕ) → length m ≡ 195 → share m d ≡ false → bits_of (join m d) ≡ bits_of m + bits_of d
unfolding bits_of share
bits-join m d e h =
    count_cong 1560 (has (join m d)) (λ b. has m b || has d b) (λ b l. has_join m d b (omega arith))
    ∙ count_or 1560 (has m) (has d) (any_none 1560 (in_both m d) h)

pub share-join : (m d e : List ℕ) → length m ≡ 195 → share (join m d) e ≡ (share m e || share d e)
unfolding share
share-join m d e h =
    any_cong 1560 (in_both (join m d) e) (λ b. in_both m e b || in_both d e b)
    (λ b l. ap (λ (t : Bool). t && has e b) (has_join m d b (omega arith)) ∙ and-or_distrib_right (has m b) (has d b) (has e b))
    ∙ any_or 1560 (in_both m e) (in_both d e)

-- with none of d, with one byte more of it, and with all that m has room for
pub join-none : (m d : List ℕ) → m ≡ join m (take 0 d)
join-none m d = join_is m (take 0 d) m refl (λ k h. sym (or_zero_r (get_or m k 0)))

pub join_more : (m d l : List ℕ) (i v : ℕ) → i < length m → l ≡ join m (take i d) → v ≡ bit_or (get_or l i 0) (get_or d i 0) → set l i v ≡ join m (take (i + 1) d)
join_more m d l i v h e f =
    join_is m (take (i + 1) d) (set l i v) (length-set l i v ∙ ap length e ∙ length-join m (take i d))
    (λ k n. go k n (ℕ_discrete k i))
  where
    was : (k : ℕ) → k < length m → get_or l k 0 ≡ bit_or (get_or m k 0) (get_or (take i d) k 0)
    was k n = ap (λ (x : List ℕ). get_or x k 0) e ∙ join-at m (take i d) k n

    same : (k : ℕ) → (k ≡ i → ⊥) → get_or (take i d) k 0 ≡ get_or (take (i + 1) d) k 0
    same k n =
        ⊎_elim (λ (b : k < i). get_or-take i d k 0 b ∙ sym (get_or-take (i + 1) d k 0 (omega arith)))
        (λ (b : i ≤ k). past_end (take i d) k (omega (arith, length-take i d)) ∙ sym (past_end (take (i + 1) d) k (omega (arith, length-take (i + 1) d))))
        (below_or_not k i)

    fresh : get_or l i 0 ≡ get_or m i 0
    fresh = was i h ∙ rw (past_end (take i d) i (omega (arith, length-take i d))) (or_zero_r (get_or m i 0))

    here : bit_or (get_or l i 0) (get_or d i 0) ≡ bit_or (get_or m i 0) (get_or (take (i + 1) d) i 0)
    here = ap₂ bit_or fresh (sym (get_or-take (i + 1) d i 0 (omega arith)))

    go : (k : ℕ) → k < length m → Dec (k ≡ i) → get_or (set l i v) k 0 ≡ bit_or (get_or m k 0) (get_or (take (i + 1) d) k 0)
    go k n (yes q) = rw q (get_or-set_same l i v 0 (rw (e, length-join) h) ∙ f ∙ here)
    go k n (no q) = get_or-set_other l i k v 0 q ∙ was k n ∙ ap (bit_or (get_or m k 0)) (same k q)

pub join_all : (m d : List ℕ) (n : ℕ) → n ≡ min (length m) (length d) → join m (take n d) ≡ join m d
join_all m d n e = join_is m d (join m (take n d)) (length-join m (take n d)) (λ k h. join-at m (take n d) k h ∙ ap (bit_or (get_or m k 0)) (byte k h))
  where
    byte : (k : ℕ) → k < length m → get_or (take n d) k 0 ≡ get_or d k 0
    byte k h =
        ⊎_elim (λ (b : k < n). get_or-take n d k 0 b)
        (λ (b : n ≤ k). past_end (take n d) k (omega (arith, length-take n d)) ∙ sym (past_end d k (omega arith)))
        (below_or_not k n)

-- ---- a marked map

pub length_marked : (m : List ℕ) (b : ℕ) → length (with_bit m b) ≡ length m
unfolding with_bit
length_marked m b = length-set m (b / 8) (bit_or (get_or m (b / 8) 0) (2 ^ (b % 8)))

marked_same : (m : List ℕ) (b c : ℕ) → b < 8 * length m → c / 8 ≡ b / 8 → has (with_bit m b) c ≡ (has m c || eqb (c % 8) (b % 8))
unfolding has with_bit
marked_same m b c h e =
    rw (e, get_or-set_same m (b / 8) (bit_or (get_or m (b / 8) 0) (2 ^ (b % 8))) 0 (omega arith))
    (bit_or_lem (get_or m (b / 8) 0) (2 ^ (b % 8)) (c % 8) ∙ ap (λ (t : Bool). bit (get_or m (b / 8) 0) (c % 8) || t) (bit_pow (b % 8) (c % 8)))

marked_other : (m : List ℕ) (b c : ℕ) → (c / 8 ≡ b / 8 → ⊥) → has (with_bit m b) c ≡ has m c
unfolding has with_bit
marked_other m b c e = ap (λ (x : ℕ). bit x (c % 8)) (get_or-set_other m (b / 8) (c / 8) (bit_or (get_or m (b / 8) 0) (2 ^ (b % 8))) 0 e)

pub has_marked : (m : List ℕ) (b c : ℕ) → b < 8 * length m → has (with_bit m b) c ≡ (eqb c b || has m c)
has_marked m b c h = go (ℕ_discrete c b) (ℕ_discrete (c / 8) (b / 8))
  where
    go : Dec (c ≡ b) → Dec (c / 8 ≡ b / 8) → has (with_bit m b) c ≡ (eqb c b || has m c)
    go (yes e) y =
        marked_same m b c h (ap (λ (x : ℕ). x / 8) e)
        ∙ rw (eq-eqb c b e, eq-eqb (c % 8) (b % 8) (ap (λ (x : ℕ). x % 8) e)) (or-true (has m c))
    go (no e) (yes f) =
        marked_same m b c h f ∙ rw (ne_eqb c b e, ne_eqb (c % 8) (b % 8) (λ g. e (omega arith))) (or-false (has m c))
    go (no e) (no f) = marked_other m b c f ∙ rw (ne_eqb c b e)
