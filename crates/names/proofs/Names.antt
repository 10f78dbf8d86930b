-- Laws of names: when two are the same, as bytes and as names, and names filled to ten bytes.
use Prim.Native.Nat.{ℕ, zero, suc, ◌+◌, ◌-◌, ◌≤◌, ◌<◌}
use mathlib.Core.Path.{◌≡◌, refl, sym, ap, ap₂, ◌∙◌}
use mathlib.Core.Bool.{Bool, true, false, ◌&&◌, false≢true}
use mathlib.Core.List.{List, [], ◌∷◌, ◌++◌}
use mathlib.Core.Logic.{⊎_elim}
use native.Mathlib.Numerals.{add-one}
use native.Mathlib.Omega.{arith}
use borrow.Author.Tests.{eq-eqb, ne_eqb, eqb-true}
use lib.Dec.{eqb}
use lib.Pointwise.{pointwise}
use Rattle.std.specs.Prelude.{nat_eq}
use lib.ListN.{length, get_or, drop, replicate, length-append, length-replicate, get_or-replicate, drop_of_length-le, get_or-append}
use lib.Seq.{drop-cons, get_or-append-add, ext_get_or, take_all}
use Rattle.buffers.specs.Bytes.{part, put}
use Rattle.buffers.proofs.Lists.{length-put, length_part, part_at, put_in, put-after, below_or_not}
use Rattle.buffers.proofs.Tests.{and_both}
use Rattle.names.specs.Name.{lower, lowered, same_bytes, same_name, Same, SameLetters, askable, padded}
use Rattle.names.proofs.Letters.{lower-is, is-lower, lower-zero, length-lowered, lowered-at}

-- ---- byte for byte: the same exactly where they are equal

pub bytes_are : (xs ys : List ℕ) → same_bytes xs ys ≡ true → xs ≡ ys
unfolding same_bytes
bytes_are [] [] e = refl
bytes_are [] (y ∷ ys) e = absurd (false≢true e)
bytes_are (x ∷ xs) [] e = absurd (false≢true e)
bytes_are (x ∷ xs) (y ∷ ys) e =
    let c = and_both (eqb x y) (same_bytes xs ys) e in ap₂ {C = List ℕ} (λ a l. a ∷ l) (eqb-true x y c.0) (bytes_are xs ys c.1)

bytes_refl : (xs : List ℕ) → same_bytes xs xs ≡ true
unfolding same_bytes
bytes_refl [] = refl
bytes_refl (x ∷ xs) = rw (eq-eqb x x refl) (bytes_refl xs)

pub are_bytes : (xs ys : List ℕ) → xs ≡ ys → same_bytes xs ys ≡ true
are_bytes xs ys e = ap (same_bytes xs) (sym e) ∙ bytes_refl xs

pub not_bytes : (xs ys : List ℕ) → (xs ≡ ys → ⊥) → same_bytes xs ys ≡ false
not_bytes xs ys h = by (same_bytes xs ys) refl
  where
    by : (t : Bool) → same_bytes xs ys ≡ t → t ≡ false
    by true e = absurd (h (bytes_are xs ys e))
    by false e = refl

-- as slices are compared
pub pointwise_bytes : (xs ys : List ℕ) → pointwise nat_eq xs ys ≡ same_bytes xs ys
unfolding same_bytes
pointwise_bytes [] [] = refl
pointwise_bytes [] (y ∷ ys) = refl
pointwise_bytes (x ∷ xs) [] = refl
pointwise_bytes (x ∷ xs) (y ∷ ys) = ap (λ (t : Bool). eqb x y && t) (pointwise_bytes xs ys)

-- as a loop compares them, from i on
pub bytes-more : (xs ys : List ℕ) (i : ℕ) → i < length xs → i < length ys → get_or xs i 0 ≡ get_or ys i 0
    → same_bytes (drop i xs) (drop i ys) ≡ same_bytes (drop (i + 1) xs) (drop (i + 1) ys)
unfolding same_bytes
bytes-more xs ys i h k e = rw (drop-cons xs i 0 h, drop-cons ys i 0 k, eq-eqb (get_or xs i 0) (get_or ys i 0) e, add-one)

pub bytes_differ : (xs ys : List ℕ) (i : ℕ) → i < length xs → i < length ys → (get_or xs i 0 ≡ get_or ys i 0 → ⊥) → same_bytes (drop i xs) (drop i ys) ≡ false
unfolding same_bytes
bytes_differ xs ys i h k e = rw (drop-cons xs i 0 h, drop-cons ys i 0 k, ne_eqb (get_or xs i 0) (get_or ys i 0) e)

pub bytes_end : (xs ys : List ℕ) (i : ℕ) → length xs ≤ i → length ys ≤ i → same_bytes (drop i xs) (drop i ys) ≡ true
unfolding same_bytes
bytes_end xs ys i h k = rw (drop_of_length-le xs h, drop_of_length-le ys k)

-- ---- capitals or not: the same exactly where their bytes are equal in small letters

pub same-is : (xs ys : List ℕ) → Same xs ys → lowered xs ≡ lowered ys
unfolding same_name
same-is xs ys e = bytes_are (lowered xs) (lowered ys) e

pub is_same : (xs ys : List ℕ) → lowered xs ≡ lowered ys → Same xs ys
unfolding same_name
is_same xs ys e = are_bytes (lowered xs) (lowered ys) e

pub not_same : (xs ys : List ℕ) → (Same xs ys → ⊥) → same_name xs ys ≡ false
unfolding same_name
not_same xs ys h = not_bytes (lowered xs) (lowered ys) (λ e. h (are_bytes (lowered xs) (lowered ys) e))

pub same-long : (xs ys : List ℕ) → Same xs ys → length xs ≡ length ys
same-long xs ys e = sym (length-lowered xs) ∙ ap length (same-is xs ys e) ∙ length-lowered ys

-- "Names that differ only in a to z against A to Z are the same name", and no others
pub same_exactly : (a b : List ℕ) → (Same a b → SameLetters a b) × (SameLetters a b → Same a b)
same_exactly a b = (
  λ e. record { long = same-long a b e; letters = λ i h. lower-is (get_or a i 0) (get_or b i 0) (sym (lowered-at a i) ∙ ap (λ (l : List ℕ). get_or l i 0) (same-is a b e) ∙ lowered-at b i) },
  λ w.
      is_same a b
      (ext_get_or 0 (lowered a) (lowered b) (length-lowered a ∙ w.long ∙ sym (length-lowered b))
      (λ i h. lowered-at a i ∙ is-lower (get_or a i 0) (get_or b i 0) (w.letters i (omega (arith, length-lowered a))) ∙ sym (lowered-at b i))),
)

-- an equivalence
pub same_eq : (a b : List ℕ) → a ≡ b → Same a b
same_eq a b e = is_same a b (ap lowered e)

pub same_refl : (a : List ℕ) → Same a a
same_refl a = same_eq a a refl

pub same_sym : (a b : List ℕ) → Same a b → Same b a
same_sym a b e = is_same b a (sym (same-is a b e))

pub same_trans : (a b c : List ℕ) → Same a b → Same b c → Same a c
same_trans a b c e f = is_same a c (same-is a b e ∙ same-is b c f)

-- with an equal list in its place
pub same_of : {a b : List ℕ} → a ≡ b → (c : List ℕ) → Same b c → Same a c
same_of e c p = ap (λ (x : List ℕ). same_name x c) e ∙ p

pub same_to : (a : List ℕ) {b c : List ℕ} → b ≡ c → Same a b → Same a c
same_to a e p = ap (same_name a) (sym e) ∙ p

-- two names that are the same as a third
pub same-both : (a b c : List ℕ) → Same a c → Same b c → Same a b
same-both a b c e f = same_trans a c b e (same_sym b c f)

-- two names that a third is the same as
pub same_via : (x a b : List ℕ) → Same x a → Same x b → Same a b
same_via x a b e f = same_trans a x b (same_sym x a e) f

-- each spelling of a name is compared as every other
pub same_right : (a b c : List ℕ) → Same a b → same_name c a ≡ same_name c b
unfolding same_name
same_right a b c e = ap (same_bytes (lowered c)) (same-is a b e)

-- ---- as a loop compares names, from i on

pub same_lengths : (xs ys : List ℕ) → (length xs ≡ length ys → ⊥) → false ≡ same_name xs ys
same_lengths xs ys h = sym (not_same xs ys (λ e. h (same-long xs ys e)))

-- what is left to compare, in small letters
unfoldable pub same_from : ℕ → List ℕ → List ℕ → Bool
same_from i xs ys = same_bytes (drop i (lowered xs)) (drop i (lowered ys))

pub same_start : (xs ys : List ℕ) → same_name xs ys ≡ same_from 0 xs ys
unfolding same_from same_name
same_start xs ys = refl

module _ (xs ys : List ℕ) (i : ℕ) (h : i < length xs) (k : i < length ys) where
  pub same_more : lower (get_or xs i 0) ≡ lower (get_or ys i 0) → same_from i xs ys ≡ same_from (i + 1) xs ys
  unfolding same_from
  same_more e =
      bytes-more (lowered xs) (lowered ys) i (omega (arith, length-lowered xs)) (omega (arith, length-lowered ys)) (lowered-at xs i ∙ e ∙ sym (lowered-at ys i))

  pub same_differ : (lower (get_or xs i 0) ≡ lower (get_or ys i 0) → ⊥) → same_from i xs ys ≡ false
  unfolding same_from
  same_differ e =
      bytes_differ (lowered xs) (lowered ys) i (omega (arith, length-lowered xs)) (omega (arith, length-lowered ys))
      (λ z. e (sym (lowered-at xs i) ∙ z ∙ lowered-at ys i))

pub same_end : (xs ys : List ℕ) (i : ℕ) → length xs ≤ i → length ys ≤ i → same_from i xs ys ≡ true
unfolding same_from
same_end xs ys i h k = bytes_end (lowered xs) (lowered ys) i (omega (arith, length-lowered xs)) (omega (arith, length-lowered ys))

-- ---- names filled with spaces

pub length-padded : (n : List ℕ) → length n ≤ 10 → length (padded n) ≡ 10
unfolding padded
length-padded n h = length-append n (replicate (10 - length n) 32) ∙ ap (λ (k : ℕ). length n + k) (length-replicate (10 - length n) 32) ∙ omega arith

padded-front : (n : List ℕ) (i : ℕ) → i < length n → get_or (padded n) i 0 ≡ get_or n i 0
unfolding padded
padded-front n i h = get_or-append n (replicate (10 - length n) 32) 0 i h

padded-rest : (n : List ℕ) (i : ℕ) → length n ≤ i → i < 10 → get_or (padded n) i 0 ≡ 32
unfolding padded
padded-rest n i h k =
    let e : i ≡ length n + (i - length n) = omega arith in
    rw e (get_or-append-add n (replicate (10 - length n) 32) (i - length n) 0 ∙ get_or-replicate (10 - length n) (i - length n) 32 0 (omega arith))

padded-long : (n : List ℕ) → 10 ≤ length (padded n)
unfolding padded
padded-long n = omega (arith, length-append n (replicate (10 - length n) 32), length-replicate {A = ℕ} (10 - length n) 32)

-- ten spaces with the name put over them are the name filled to ten bytes
pub padded-put : (n : List ℕ) → put (replicate 10 32) 0 n ≡ part 0 10 (padded n)
padded-put n =
    ext_get_or 0 (put (replicate 10 32) 0 n) (part 0 10 (padded n))
    (length-put (replicate 10 32) 0 n ∙ omega (arith, length_part 0 10 (padded n), padded-long n))
    (λ i h.
    let m : i < 10 = omega (arith, length-put (replicate 10 32) 0 n) in
    ⊎_elim
    (λ (l : i < length n). one n i l m ∙ sym (part_at 0 10 (padded n) i m ∙ padded-front n (0 + i) (omega arith) ∙ ap (λ (k : ℕ). get_or n k 0) (omega arith)))
    (λ (l : length n ≤ i).
    put-after (replicate 10 32) 0 n i (omega arith) ∙ get_or-replicate 10 i 32 0 m
    ∙ sym (part_at 0 10 (padded n) i m ∙ padded-rest n (0 + i) (omega arith) (omega arith)))
    (below_or_not i (length n)))
  where
    one : (n : List ℕ) (i : ℕ) → i < length n → i < 10 → get_or (put (replicate 10 32) 0 n) i 0 ≡ get_or n i 0
    one n i h k =
        let e : 0 + i ≡ i = omega arith in
        ap (λ (k : ℕ). get_or (put (replicate 10 32) 0 n) k 0) (sym e) ∙ put_in (replicate 10 32) 0 n i h (omega arith)

pub padded-whole : (n : List ℕ) → length n ≤ 10 → part 0 10 (padded n) ≡ padded n
unfolding part
padded-whole n h = take_all 10 (padded n) (omega (arith, length-padded n h))

lowered-append : (xs ys : List ℕ) → lowered (xs ++ ys) ≡ lowered xs ++ lowered ys
unfolding lowered
lowered-append [] ys = refl
lowered-append (x ∷ xs) ys = ap (λ (l : List ℕ). lower x ∷ l) (lowered-append xs ys)

lowered_spaces : (k : ℕ) → lowered (replicate k 32) ≡ replicate k 32
unfolding lowered lower
lowered_spaces zero = refl
lowered_spaces (suc k) = ap (λ (l : List ℕ). 32 ∷ l) (lowered_spaces k)

lowered-padded : (n : List ℕ) → lowered (padded n) ≡ padded (lowered n)
unfolding padded
lowered-padded n =
    rw (length-lowered n) (lowered-append n (replicate (10 - length n) 32) ∙ ap (λ (l : List ℕ). lowered n ++ l) (lowered_spaces (10 - length n)))

-- two spellings of a name are two spellings of it where it is filled
pub same-padded : (m n : List ℕ) → Same m n → Same (padded m) (padded n)
same-padded m n e = is_same (padded m) (padded n) (lowered-padded m ∙ ap padded (same-is m n e) ∙ sym (lowered-padded n))

-- and can be asked for alike
askable-lowered : (n : List ℕ) → askable (lowered n) ≡ askable n
unfolding askable
askable-lowered n = rw (length-lowered n, lowered-at n 0, lower-zero (get_or n 0 0))

pub same-askable : (m n : List ℕ) → Same m n → askable m ≡ askable n
same-askable m n e = sym (askable-lowered m) ∙ ap askable (same-is m n e) ∙ askable-lowered n
