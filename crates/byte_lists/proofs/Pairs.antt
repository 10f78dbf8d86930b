-- Numbers as pairs of bytes: what a list has got after some of them, and the numbers read back.
use Prim.Native.Nat.{ℕ, ◌+◌, ◌*◌, ◌/◌, ◌%◌, ◌<◌}
use mathlib.Core.Path.{◌≡◌, refl, sym, ap, ap₂, ◌∙◌}
use mathlib.Core.List.{List, [], ◌∷◌, ◌++◌}
use native.Mathlib.Numerals.{add-one}
use native.Mathlib.Omega.{arith}
use lib.ListN.{length, get_or, take, set}
use lib.Seq.{length-take-le, take-suc}
use Rattle.buffers.specs.Bytes.{put}
use Rattle.buffers.proofs.Lists.{put-none, put_one, put-append}
use Rattle.byte_lists.specs.Lists.{in_bytes}

pub length_pairs : (ss : List ℕ) → length (in_bytes ss) ≡ 2 * length ss
unfolding in_bytes
length_pairs [] = refl
length_pairs (s ∷ ss) = omega (arith, length_pairs ss)

pairs-append : (xs ys : List ℕ) → in_bytes (xs ++ ys) ≡ in_bytes xs ++ in_bytes ys
unfolding in_bytes
pairs-append [] ys = refl
pairs-append (x ∷ xs) ys = ap (λ (r : List ℕ). x % 256 ∷ x / 256 ∷ r) (pairs-append xs ys)

-- two stores are one put
pub pair_put : (b : List ℕ) (j s : ℕ) {pair : List ℕ} → s < 65536 → pair ≡ s % 256 ∷ s / 256 % 256 ∷ []
    → set (set b (2 * j) (get_or pair 0 0)) (2 * j + 1) (get_or pair 1 0) ≡ put b (2 * j) (in_bytes (s ∷ []))
unfolding in_bytes
pair_put b j s {pair} h e =
    let q : s / 256 % 256 ≡ s / 256 = omega arith in
    ap (λ (l : List ℕ). set l (2 * j + 1) (get_or pair 1 0)) (put_one b (2 * j) (get_or pair 0 0))
    ∙ put_one (put b (2 * j) (get_or pair 0 0 ∷ [])) (2 * j + 1) (get_or pair 1 0)
    ∙ put-append b (2 * j) (get_or pair 0 0 ∷ []) (get_or pair 1 0 ∷ [])
    ∙ ap (λ (l : List ℕ). put b (2 * j) (get_or l 0 0 ∷ get_or l 1 0 ∷ [])) e
    ∙ ap (λ (n : ℕ). put b (2 * j) (s % 256 ∷ n ∷ [])) q

-- one number more, after j of them
pub pair_next : (b₀ ss : List ℕ) (j : ℕ) → length ss ≡ j → (b : List ℕ) → b ≡ put b₀ 0 (in_bytes ss) → (s : ℕ)
    → put b (2 * j) (in_bytes (s ∷ [])) ≡ put b₀ 0 (in_bytes (ss ++ (s ∷ [])))
pair_next b₀ ss j n b e s =
    let l : 2 * j ≡ 0 + length (in_bytes ss) = omega (arith, length_pairs ss) in
    ap₂ (λ (y : List ℕ) (a : ℕ). put y a (in_bytes (s ∷ []))) e l ∙ put-append b₀ 0 (in_bytes ss) (in_bytes (s ∷ [])) ∙ ap (put b₀ 0) (sym (pairs-append ss (s ∷ [])))

-- the list b with the pairs of the first j numbers, and with one more
pub paired_none : (b ss : List ℕ) → b ≡ put b 0 (in_bytes (take 0 ss))
unfolding in_bytes
paired_none b ss = put-none b 0 []

pub paired_more : (b₀ ss b : List ℕ) (j : ℕ) → j < length ss → b ≡ put b₀ 0 (in_bytes (take j ss)) → put b (2 * j) (in_bytes (get_or ss j 0 ∷ [])) ≡ put b₀ 0 (in_bytes (take (j + 1) ss))
paired_more b₀ ss b j h e =
    pair_next b₀ (take j ss) j (length-take-le j ss (omega arith)) b e (get_or ss j 0)
    ∙ ap (λ (x : List ℕ). put b₀ 0 (in_bytes x)) (sym (take-suc ss j 0 h) ∙ ap (λ (k : ℕ). take k ss) (sym (add-one j)))
