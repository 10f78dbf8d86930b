-- The bytes of a report, of which numbers are raised where they lie.
use Rattle.std.proofs.Common.{◌≡◌, ℕ, zero, suc, ◌+◌, ◌*◌, ◌/◌, ◌%◌, ◌^◌, ◌<◌, ◌≤◌, List, [], ◌∷◌, length, get_or, set, sym, refl, ap, ◌∙◌, subst, ⊎_elim, arith, length-set, get_or-set_other, get_or-set_same, ext_get_or}
use Rattle.buffers.specs.Bytes.{word, put}
use Rattle.buffers.proofs.Lists.{below_or_not, length-put, put_in, put-before, put-after, put_is}
use Rattle.reports.specs.Calls.{raised_at}
use Rattle.report_bytes.specs.Bytes.{report_numbers_in, four_of, four_bytes_each, SameRest, Numbered}
use Rattle.report_bytes.proofs.Fours.{length_fours, length-numbers, number_is}

-- ---- the four bytes of number k

pub record FourAt (l : List ℕ) (i x : ℕ) : Type 0 where
  pub first : get_or l i 0 ≡ x % 256
  pub second : get_or l (i + 1) 0 ≡ x / 256 % 256
  pub third : get_or l (i + 2) 0 ≡ x / 65536 % 256
  pub fourth : get_or l (i + 3) 0 ≡ x / 16777216 % 256

pub four_at : (ns : List ℕ) (k : ℕ) → k < length ns → FourAt (four_bytes_each ns) (4 * k) (get_or ns k 0)
unfolding four_bytes_each
four_at [] k h = absurd (omega arith)
four_at (x ∷ ns) zero h = record { first = refl; second = refl; third = refl; fourth = refl }
four_at (x ∷ ns) (suc k) h =
    let w = four_at ns k (omega arith) in
    let at : (j : ℕ) → 4 * suc k + j ≡ suc (suc (suc (suc (4 * k + j)))) = λ j. omega arith in
    record {
      first = ap (λ (i : ℕ). get_or (four_bytes_each (x ∷ ns)) i 0) (at0 k) ∙ w.first;
      second = ap (λ (i : ℕ). get_or (four_bytes_each (x ∷ ns)) i 0) (at 1) ∙ w.second;
      third = ap (λ (i : ℕ). get_or (four_bytes_each (x ∷ ns)) i 0) (at 2) ∙ w.third;
      fourth = ap (λ (i : ℕ). get_or (four_bytes_each (x ∷ ns)) i 0) (at 3) ∙ w.fourth;
    }
  where
    at0 : (k : ℕ) → 4 * suc k ≡ suc (suc (suc (suc (4 * k))))
    at0 k = omega arith

-- a number below 2^32 is its four bytes
pub four_of_lem : (x : ℕ) → x < 2 ^ 32 → x ≡ x % 256 + 256 * (x / 256 % 256 + 256 * (x / 65536 % 256 + 256 * (x / 16777216 % 256 + 256 * 0)))
four_of_lem x h =
    let p : x / 65536 ≡ x / 256 / 256 = omega arith in
    let q : x / 16777216 ≡ x / 65536 / 256 = omega arith in
    let r : x / 16777216 < 256 = omega arith in
    let a : x ≡ x % 256 + 256 * (x / 256) = omega arith in
    let b : x / 256 ≡ x / 256 % 256 + 256 * (x / 65536) = omega arith in
    let c : x / 65536 ≡ x / 65536 % 256 + 256 * (x / 16777216) = omega arith in
    omega arith

four_same : {l l' : List ℕ} (i x : ℕ) → FourAt l i x → FourAt l' i x → (j : ℕ) → j < 4 → get_or l (i + j) 0 ≡ get_or l' (i + j) 0
four_same {l} {l'} i x v w zero h = ap (λ (n : ℕ). get_or l n 0) (plain i) ∙ v.first ∙ sym w.first ∙ ap (λ (n : ℕ). get_or l' n 0) (sym (plain i))
  where
    plain : (n : ℕ) → n + 0 ≡ n
    plain n = omega arith
four_same i x v w (suc zero) h = v.second ∙ sym w.second
four_same i x v w (suc (suc zero)) h = v.third ∙ sym w.third
four_same i x v w (suc (suc (suc zero))) h = v.fourth ∙ sym w.fourth
four_same i x v w (suc (suc (suc (suc j)))) h = absurd (omega arith)

-- bytes are those of the numbers that they hold
bytes_four : (b : List ℕ) → ((i : ℕ) → get_or b i 0 < 256) → (k : ℕ) → k < 111 → FourAt b (4 * k) (get_or (report_numbers_in b) k 0)
unfolding word
bytes_four b small k h =
    let e : get_or b (4 * k + 0) 0 ≡ get_or b (4 * k) 0 = ap (λ (i : ℕ). get_or b i 0) (plain (4 * k)) in
    let n = number_is b k h in
    let p = small (4 * k) in
    let q = small (4 * k + 1) in
    let r = small (4 * k + 2) in
    let s = small (4 * k + 3) in
    record { first = omega arith; second = omega arith; third = omega arith; fourth = omega arith }
  where
    plain : (n : ℕ) → n + 0 ≡ n
    plain n = omega arith

-- ---- one number is put

module _ (b : List ℕ) (k y : ℕ) (there : k < 111) (room : 444 ≤ length b) where
  at : (i : ℕ) → i < 4 → get_or (put b (4 * k) (four_of y)) (4 * k + i) 0 ≡ get_or (four_of y) i 0
  at i h = put_in b (4 * k) (four_of y) i (omega arith) (omega arith)

  -- it is read back
  word_same : y < 2 ^ 32 → word 4 (put b (4 * k) (four_of y)) (4 * k) 0 ≡ y
  unfolding word
  word_same h = rw (at 0 (omega arith), at 1 (omega arith), at 2 (omega arith), at 3 (omega arith)) (sym (four_of_lem y h))

  -- and the others stay
  byte-other : (j : ℕ) → (j ≡ k → ⊥) → (i : ℕ) → i < 4 → get_or (put b (4 * k) (four_of y)) (4 * j + i) 0 ≡ get_or b (4 * j + i) 0
  byte-other j q i h =
      ⊎_elim (λ (l : j < k). put-before b (4 * k) (four_of y) (4 * j + i) (omega arith))
      (λ (l : k ≤ j). ⊎_elim (λ (m : k < j). put-after b (4 * k) (four_of y) (4 * j + i) (omega arith)) (λ (m : j ≤ k). absurd (q (omega arith))) (below_or_not k j))
      (below_or_not j k)

  word-other : (j : ℕ) → (j ≡ k → ⊥) → word 4 (put b (4 * k) (four_of y)) (4 * j) 0 ≡ word 4 b (4 * j) 0
  unfolding word
  word-other j q = rw (byte-other j q 0 (omega arith), byte-other j q 1 (omega arith), byte-other j q 2 (omega arith), byte-other j q 3 (omega arith))

  numbers-set : y < 2 ^ 32 → report_numbers_in (put b (4 * k) (four_of y)) ≡ set (report_numbers_in b) k y
  numbers-set h =
      ext_get_or 0 (report_numbers_in (put b (4 * k) (four_of y))) (set (report_numbers_in b) k y) (length-numbers _ ∙ sym (length-numbers b) ∙ sym (length-set (report_numbers_in b) k y)) (λ j l. number j (rw (sym (length-numbers (put b (4 * k) (four_of y)))) l))
    where
      same : (j : ℕ) → j ≡ k → get_or (report_numbers_in (put b (4 * k) (four_of y))) j 0 ≡ get_or (set (report_numbers_in b) k y) j 0
      same j q =
          ap (λ (i : ℕ). get_or (report_numbers_in (put b (4 * k) (four_of y))) i 0) q ∙ number_is (put b (4 * k) (four_of y)) k there ∙ word_same h
          ∙ sym (get_or-set_same (report_numbers_in b) k y 0 (omega (arith, length-numbers b))) ∙ ap (λ (i : ℕ). get_or (set (report_numbers_in b) k y) i 0) (sym q)

      other : (j : ℕ) → j < 111 → (j ≡ k → ⊥) → get_or (report_numbers_in (put b (4 * k) (four_of y))) j 0 ≡ get_or (set (report_numbers_in b) k y) j 0
      other j l q = number_is (put b (4 * k) (four_of y)) j l ∙ word-other j q ∙ sym (number_is b j l) ∙ sym (get_or-set_other (report_numbers_in b) k j y 0 q)

      number : (j : ℕ) → j < 111 → get_or (report_numbers_in (put b (4 * k) (four_of y))) j 0 ≡ get_or (set (report_numbers_in b) k y) j 0
      number j l =
          ⊎_elim (λ (m : j < k). other j l (λ q. omega arith))
          (λ (m : k ≤ j). ⊎_elim (λ (n : k < j). other j l (λ q. omega arith)) (λ (n : j ≤ k). same j (omega arith)) (below_or_not k j)) (below_or_not j k)

  rest_put : SameRest b (put b (4 * k) (four_of y))
  rest_put = record { long = length-put b (4 * k) (four_of y); rest = λ i l. put-after b (4 * k) (four_of y) i (omega arith) }

-- ---- as the code raises them

pub raised-there : (b : List ℕ) (k x : ℕ) → k < 111 → 496 ≤ length b → {n y : ℕ} → n ≡ get_or (report_numbers_in b) k 0 → y ≡ (n + x) % 2 ^ 32
    → {b' : List ℕ} → b' ≡ put b (4 * k) (four_of y) → Numbered b b' (raised_at (report_numbers_in b) k x)
unfolding raised_at
raised-there b k x h l {n} {y} p q {b'} e =
    rw e
    (record {
      same = rest_put b k y h (omega arith);
      numbers = numbers-set b k y h (omega arith) (omega arith) ∙ ap (set (report_numbers_in b) k) (q ∙ ap (λ (m : ℕ). (m + x) % 2 ^ 32) p);
    })

pub rest-none : (b : List ℕ) → SameRest b b
rest-none b = record { long = refl; rest = λ i l. refl }

pub rest_then : {b b' b'' : List ℕ} → SameRest b b' → SameRest b' b'' → SameRest b b''
rest_then v w = record { long = w.long ∙ v.long; rest = λ i l. w.rest i l ∙ v.rest i l }

pub rest-room : {b b' : List ℕ} → SameRest b b' → 496 ≤ length b → 496 ≤ length b'
rest-room w h = omega (arith, w.long)

-- bytes are their numbers' bytes, and then the rest
pub numbered_is : (b b' r : List ℕ) → 496 ≤ length b → ((i : ℕ) → get_or b' i 0 < 256) → Numbered b b' r → b' ≡ put b 0 (four_bytes_each r)
numbered_is b b' r h small w = put_is b 0 (four_bytes_each r) b' w.same.long front (λ k l. absurd (omega arith)) (λ k l m. w.same.rest k (omega (arith, long)))
  where
    long : length (four_bytes_each r) ≡ 444
    long = length_fours r ∙ ap (λ (l : List ℕ). 4 * length l) (sym w.numbers) ∙ ap (λ (n : ℕ). 4 * n) (length-numbers b')

    each : (k i : ℕ) → k < 111 → i < 4 → get_or (four_bytes_each r) (4 * k + i) 0 ≡ get_or b' (4 * k + i) 0
    each k i l m =
        let z = ap (λ (l : List ℕ). length l) (sym w.numbers) ∙ length-numbers b' in
        let v : FourAt (four_bytes_each r) (4 * k) (get_or r k 0) = four_at r k (omega (arith, z)) in
        four_same (4 * k) (get_or r k 0) v (ap_four (bytes_four b' small k l)) i m
      where
        ap_four : FourAt b' (4 * k) (get_or (report_numbers_in b') k 0) → FourAt b' (4 * k) (get_or r k 0)
        ap_four = subst (λ (l : List ℕ). FourAt b' (4 * k) (get_or l k 0)) w.numbers

    front : (i : ℕ) → i < length (four_bytes_each r) → 0 + i < length b → get_or b' (0 + i) 0 ≡ get_or (four_bytes_each r) i 0
    front i l m =
        let q : 4 * (i / 4) + i % 4 ≡ i = omega arith in
        ap (λ (j : ℕ). get_or b' j 0) (omega arith) ∙ sym (each (i / 4) (i % 4) (omega (arith, long)) (omega arith)) ∙ ap (λ (j : ℕ). get_or (four_bytes_each r) j 0) q
