-- Numbers as four bytes each.
use Rattle.std.proofs.Common.{◌≡◌, ℕ, ◌+◌, ◌*◌, ◌^◌, ◌<◌, ◌≤◌, List, [], ◌∷◌, length, get_or, set, sym, refl, ap, ◌∙◌, ⊎_elim, arith}
use Rattle.buffers.specs.Bytes.{word, put}
use Rattle.buffers.proofs.Lists.{below_or_not, past_end, length-tab, get_or-tab, put_one, put-append}
use Rattle.report_bytes.specs.Bytes.{report_numbers_in, four_bytes_each}

pub length_fours : (ns : List ℕ) → length (four_bytes_each ns) ≡ 4 * length ns
unfolding four_bytes_each
length_fours [] = refl
length_fours (x ∷ ns) = omega (arith, length_fours ns)

-- ---- four stores are one put

pub four_put : (b : List ℕ) (at v w x y : ℕ) → set (set (set (set b at v) (at + 1) w) (at + 2) x) (at + 3) y ≡ put b at (v ∷ w ∷ x ∷ y ∷ [])
four_put b at v w x y =
    ap (λ (l : List ℕ). set (set (set l (at + 1) w) (at + 2) x) (at + 3) y) (put_one b at v)
    ∙ ap (λ (l : List ℕ). set (set l (at + 2) x) (at + 3) y) (put_one (put b at (v ∷ [])) (at + 1) w ∙ put-append b at (v ∷ []) (w ∷ []))
    ∙ ap (λ (l : List ℕ). set l (at + 3) y) (put_one (put b at (v ∷ w ∷ [])) (at + 2) x ∙ put-append b at (v ∷ w ∷ []) (x ∷ []))
    ∙ put_one (put b at (v ∷ w ∷ x ∷ [])) (at + 3) y ∙ put-append b at (v ∷ w ∷ x ∷ []) (y ∷ [])

-- ---- the numbers that bytes hold

pub length-numbers : (b : List ℕ) → length (report_numbers_in b) ≡ 111
unfolding report_numbers_in
length-numbers b = length-tab 111 _

pub number_is : (b : List ℕ) (k : ℕ) → k < 111 → get_or (report_numbers_in b) k 0 ≡ word 4 b (4 * k) 0
unfolding report_numbers_in
number_is b k h = get_or-tab 111 (λ j. word 4 b (4 * j) 0) k h

-- four bytes read as one number
pub four_is : (b : List ℕ) (k v w x y : ℕ) → k < 111 → v ≡ get_or b (4 * k) 0 → w ≡ get_or b (4 * k + 1) 0 → x ≡ get_or b (4 * k + 2) 0 → y ≡ get_or b (4 * k + 3) 0
    → v + 256 * w + 65536 * x + 16777216 * y ≡ get_or (report_numbers_in b) k 0
unfolding word
four_is b k v w x y h p q r s =
    let e : get_or b (4 * k + 0) 0 ≡ v = ap (λ (i : ℕ). get_or b i 0) (zero-after (4 * k)) ∙ sym p in
    omega (arith, number_is b k h)
  where
    zero-after : (n : ℕ) → n + 0 ≡ n
    zero-after n = omega arith

-- bytes make numbers of 32 bits
pub numbers-small : (b : List ℕ) → ((i : ℕ) → get_or b i 0 < 256) → (k : ℕ) → get_or (report_numbers_in b) k 0 < 2 ^ 32
unfolding word
numbers-small b h k = ⊎_elim here there (below_or_not k 111)
  where
    here : k < 111 → get_or (report_numbers_in b) k 0 < 2 ^ 32
    here l = omega (arith, number_is b k l, h (4 * k + 0), h (4 * k + 1), h (4 * k + 2), h (4 * k + 3))

    there : 111 ≤ k → get_or (report_numbers_in b) k 0 < 2 ^ 32
    there l = omega (arith, past_end (report_numbers_in b) k (omega (arith, length-numbers b)))
