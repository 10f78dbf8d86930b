-- Directory tracks beyond four: how many there can be, which map bits are data, and how many those are.
use Prim.Native.Nat.{ℕ, zero, suc, ◌+◌, ◌-◌, ◌*◌, ◌/◌, ◌%◌, ◌^◌, ◌≤◌, ◌<◌, min}
use native.Mathlib.Nat.{zero-div, div-eq_of_lt, pow-suc}
use native.Mathlib.Numerals.{add-one}
use mathlib.Core.Path.{◌≡◌, refl, sym, ap, ◌∙◌}
use mathlib.Core.Bool.{Bool, true, false, cond, not, ◌&&◌, ◌||◌, and-eq-true_iff, and-false, true≢false}
use mathlib.Core.List.{List}
use mathlib.Core.Logic.{◌⊎◌, inl, inr, ⊎_elim}
use native.Mathlib.Omega.{arith}
use borrow.Author.Tests.{ltb-true, ltb-false, lt-ltb, le-ltb, not-true, leb-true, le-leb, lt-leb, eqb-true, eqb-false, eq-eqb, ne_eqb}
use lib.Dec.{eqb, leb, ltb}
use lib.Pow.{pow_pos}
use lib.ListN.{length, get_or, length-replicate}
use Rattle.buffers.specs.Bytes.{count, word, word_or}
use Rattle.buffers.proofs.Lists.{below_or_not, word-there}
use Rattle.buffers.proofs.Counts.{count_add, count_all, count_none, any_none, none_any, none-count, any_some}
use Rattle.maps.specs.Bits.{has, clear_map, with_bit, bits_of}
use Rattle.maps.proofs.Laws.{has_clear, length_marked, has_marked}
use Rattle.slots.specs.Tracks.{is_label, tracks_by, bad_tracks, data_count, data_bit, in_directory, clear_at, past_first, inner_to, inner_map}

pub tracks-few : (b : ℕ) → tracks_by b ≤ 35
unfolding tracks_by
tracks-few b = by (leb b 35) refl
  where
    by : (t : Bool) → leb b 35 ≡ t → cond t b 0 ≤ 35
    by true e = leb-true b 35 e
    by false e = omega arith

-- the name and the map of a slot are no such bytes
pub label_not : (k : ℕ) → k < 210 → is_label k ≡ false
unfolding is_label
label_not k h = rw (lt-leb 210 k h, ne_eqb k 252 (omega arith), ne_eqb k 253 (omega arith), ne_eqb k 255 (omega arith))

pub label-high : (k : ℕ) → is_label k ≡ true → 210 ≤ k
label-high k e = ⊎_elim (λ h. absurd (true≢false (sym e ∙ label_not k h))) (λ h. h) (below_or_not k 210)

pub label_small : (k : ℕ) → is_label k ≡ true → k < 256
unfolding is_label
label_small k e = ⊎_elim (λ h. h) (λ (h : 256 ≤ k). absurd (true≢false (sym e ∙ far h))) (below_or_not k 256)
  where
    by : (t : Bool) → (t && false || false) ≡ false
    by true = refl
    by false = refl

    far : 256 ≤ k → is_label k ≡ false
    far h = rw (lt-leb k 219 (omega arith), ne_eqb k 252 (omega arith), ne_eqb k 253 (omega arith), ne_eqb k 255 (omega arith)) (by (leb 210 k))

-- nor are those from its kind information on to its date
pub label_mid : (k : ℕ) → 220 ≤ k → k < 252 → is_label k ≡ false
unfolding is_label
label_mid k h l = rw (lt-leb k 219 h, ne_eqb k 252 (omega arith), ne_eqb k 253 (omega arith), ne_eqb k 255 (omega arith)) (by (leb 210 k))
  where
    by : (t : Bool) → (t && false || false) ≡ false
    by true = refl
    by false = refl

-- ---- data bits

pub data_is : (n b : ℕ) → data_bit n b ≡ true → (b < 1560) × ((b ≡ 0) ⊎ (10 * n ≤ b))
unfolding data_bit
data_is n b e =
    let c = (and-eq-true_iff (ltb b 1560) (eqb b 0 || leb (10 * n) b)).0 e in
    (ltb-true b 1560 c.0, by (eqb b 0) refl c.1)
  where
    by : (t : Bool) → eqb b 0 ≡ t → (t || leb (10 * n) b) ≡ true → (b ≡ 0) ⊎ (10 * n ≤ b)
    by true q w = inl (eqb-true b 0 q)
    by false q w = inr (leb-true (10 * n) b w)

is_data-first : (n b : ℕ) → b ≡ 0 → data_bit n b ≡ true
unfolding data_bit
is_data-first n b e = rw (lt-ltb b 1560 (omega arith), eq-eqb b 0 e)

is_data_from : (n b : ℕ) → b < 1560 → 10 * n ≤ b → data_bit n b ≡ true
unfolding data_bit
is_data_from n b h l = rw (lt-ltb b 1560 h, le-leb (10 * n) b l) (by (eqb b 0))
  where
    by : (t : Bool) → (t || true) ≡ true
    by true = refl
    by false = refl

not_data : (n b : ℕ) → 0 < b → b < 10 * n → data_bit n b ≡ false
unfolding data_bit
not_data n b h l = rw (ne_eqb b 0 (omega arith), lt-leb (10 * n) b l) (by (ltb b 1560))
  where
    by : (t : Bool) → (t && false) ≡ false
    by true = refl
    by false = refl

-- every map bit is data where no track is added to the four
pub data_all : (b : ℕ) → b < 1560 → data_bit 0 b ≡ true
data_all b h = is_data_from 0 b h (omega arith)

-- as many as are told
pub count_data : (n : ℕ) → n ≤ 35 → count 1560 (data_bit n) ≡ data_count n
unfolding data_count
count_data n h = by (eqb n 0) refl
  where
    by : (t : Bool) → eqb n 0 ≡ t → count 1560 (data_bit n) ≡ cond t 1560 (1561 - 10 * n)
    by true e = count_all 1560 (data_bit n) (λ b l. is_data_from n b l (omega (arith, eqb-true n 0 e)))
    by false e =
        let m : n ≡ 0 → ⊥ = eqb-false n 0 e in
        let s : 1560 ≡ 1 + (10 * n - 1 + (1560 - 10 * n)) = omega arith in
        let a : count 1 (data_bit n) ≡ 1 = count_all 1 (data_bit n) (λ b l. is_data-first n b (omega arith)) in
        let b : count (10 * n - 1) (λ j. data_bit n (1 + j)) ≡ 0 = count_none (10 * n - 1) (λ j. data_bit n (1 + j)) (λ j l. not_data n (1 + j) (omega arith) (omega arith)) in
        let c : count (1560 - 10 * n) (λ j. data_bit n (1 + (10 * n - 1 + j))) ≡ 1560 - 10 * n =
        count_all (1560 - 10 * n) (λ j. data_bit n (1 + (10 * n - 1 + j))) (λ j l. is_data_from n (1 + (10 * n - 1 + j)) (omega arith) (omega arith)) in
        ap (λ (k : ℕ). count k (data_bit n)) s
        ∙ omega (arith, count_add 1 (10 * n - 1 + (1560 - 10 * n)) (data_bit n), count_add (10 * n - 1) (1560 - 10 * n) (λ j. data_bit n (1 + j)))

-- no disk has more
pub data_few : (n : ℕ) → data_count n ≤ 1560
unfolding data_count
data_few n = by (eqb n 0) refl
  where
    by : (t : Bool) → eqb n 0 ≡ t → cond t 1560 (1561 - 10 * n) ≤ 1560
    by true e = omega arith
    by false e = let z : n ≡ 0 → ⊥ = eqb-false n 0 e in omega arith

-- ---- a map with no bit inside the directory

pub outside_data : (n : ℕ) (m : List ℕ) → in_directory n m ≡ false → (b : ℕ) → b < 1560 → has m b ≡ true → data_bit n b ≡ true
unfolding in_directory
outside_data n m e b h q = by (data_bit n b) refl
  where
    by : (t : Bool) → data_bit n b ≡ t → t ≡ true
    by true w = refl
    by false w = absurd (true≢false (sym (rw (q, w)) ∙ any_none 1560 (λ b. has m b && not (data_bit n b)) e b h))

pub data_outside : (n : ℕ) (m : List ℕ) → ((b : ℕ) → b < 1560 → has m b ≡ true → data_bit n b ≡ true) → in_directory n m ≡ false
unfolding in_directory
data_outside n m h = none_any 1560 (λ b. has m b && not (data_bit n b)) (λ b l. by b l (has m b) refl)
  where
    by : (b : ℕ) → b < 1560 → (t : Bool) → has m b ≡ t → (t && not (data_bit n b)) ≡ false
    by b l true q = rw (h b l q)
    by b l false q = refl

-- ---- as a loop looks for such a bit

-- none from 1 on and below b
abbrev pub NoneTo : List ℕ → ℕ → Type 0
NoneTo m b = (c : ℕ) → 1 ≤ c → c < b → has m c ≡ false

pub none_to : (m : List ℕ) → NoneTo m 1
none_to m c h l = absurd (omega arith)

pub none_more : (m : List ℕ) (b : ℕ) → NoneTo m b → has m b ≡ false → NoneTo m (b + 1)
none_more m b w e c h l = ⊎_elim (λ k. w c h k) (λ (k : b ≤ c). let z : c ≡ b = omega arith in ap (has m) z ∙ e) (below_or_not c b)

-- a bit of a byte that is 0, and one but the first of a byte that is 0 or 1
zero_bit : (m : List ℕ) (c : ℕ) → get_or m (c / 8) 0 ≡ 0 → has m c ≡ false
unfolding has
zero_bit m c e = ap (λ (x : ℕ). eqb (x / 2 ^ (c % 8) % 2) 1) e ∙ ap (λ (x : ℕ). eqb (x % 2) 1) (zero-div (2 ^ (c % 8)))

low_bit : (m : List ℕ) (c : ℕ) → 1 ≤ c → c < 8 → get_or m 0 0 ≤ 1 → has m c ≡ false
unfolding has
low_bit m zero h l e = absurd (omega arith)
low_bit m (suc c) h l e =
    let q : suc c / 8 ≡ 0 = omega arith in
    let r : suc c % 8 ≡ suc c = omega arith in
    let p : 1 < 2 ^ suc c = rw pow-suc (omega (arith, pow_pos c)) in
    let d : get_or m 0 0 < 2 ^ suc c = omega arith in
    rw (q, r, div-eq_of_lt d)

-- the bytes of a word that is 0
zero-bytes : (m : List ℕ) (i k j t : ℕ) → word k m i j ≡ 0 → t < k → get_or m (i + (j + t)) 0 ≡ 0
unfolding word
zero-bytes m i zero j t e h = absurd (omega arith)
zero-bytes m i (suc k) j zero e h =
    let z : i + (j + 0) ≡ i + j = omega arith in
    let s : get_or m (i + j) 0 + 256 * word k m i (suc j) ≡ 0 = e in
    ap (λ (x : ℕ). get_or m x 0) z ∙ omega arith
zero-bytes m i (suc k) j (suc t) e h =
    let z : i + (j + suc t) ≡ i + (suc j + t) = omega arith in
    let s : get_or m (i + j) 0 + 256 * word k m i (suc j) ≡ 0 = e in
    ap (λ (x : ℕ). get_or m x 0) z ∙ zero-bytes m i k (suc j) t (omega arith) (omega arith)

-- the bits of eight bytes that are clear
pub none-word : (m : List ℕ) (b : ℕ) → NoneTo m b → clear_at m b ≡ true → NoneTo m (b + 64)
unfolding clear_at
none-word m b w e c h l =
    let q = (and-eq-true_iff (eqb (b % 8) 0) (leb (b / 8 + 8) (length m) && eqb (word_or m (b / 8)) 0)).0 e in
    let p = (and-eq-true_iff (leb (b / 8 + 8) (length m)) (eqb (word_or m (b / 8)) 0)).0 q.1 in
    let r : b % 8 ≡ 0 = eqb-true (b % 8) 0 q.0 in
    let d : word 8 m (b / 8) 0 ≡ 0 = sym (word-there m (b / 8) (leb-true (b / 8 + 8) (length m) p.0)) ∙ eqb-true (word_or m (b / 8)) 0 p.1 in
    ⊎_elim (λ k. w c h k)
    (λ (k : b ≤ c).
    let z : c / 8 ≡ b / 8 + (0 + (c / 8 - b / 8)) = omega arith in
    zero_bit m c (ap (λ (j : ℕ). get_or m j 0) z ∙ zero-bytes m (b / 8) 8 0 (c / 8 - b / 8) d (omega arith)))
    (below_or_not c b)

-- and those before the bit that a loop begins with
past_first_lem : (m : List ℕ) → (1 ≤ past_first m) × NoneTo m (past_first m)
unfolding past_first word
past_first_lem m = by (leb 8 (length m) && leb (word_or m 0) 1) refl
  where
    bits : leb 8 (length m) ≡ true → leb (word_or m 0) 1 ≡ true → NoneTo m 64
    bits p q c h l =
        let d : word 8 m 0 0 ≤ 1 = omega (arith, word-there m 0 (leb-true 8 (length m) p), leb-true (word_or m 0) 1 q) in
        let s : get_or m 0 0 + 256 * word 7 m 0 1 ≤ 1 = d in
        ⊎_elim (λ k. low_bit m c h k (omega arith))
        (λ (k : 8 ≤ c).
        let z : c / 8 ≡ 0 + (1 + (c / 8 - 1)) = omega arith in
        zero_bit m c (ap (λ (j : ℕ). get_or m j 0) z ∙ zero-bytes m 0 7 1 (c / 8 - 1) (omega arith) (omega arith)))
        (below_or_not c 8)

    by : (t : Bool) → (leb 8 (length m) && leb (word_or m 0) 1) ≡ t → (1 ≤ cond t 64 1) × NoneTo m (cond t 64 1)
    by false e = (omega arith, none_to m)
    by true e = let p = (and-eq-true_iff (leb 8 (length m)) (leb (word_or m 0) 1)).0 e in (omega arith, bits p.0 p.1)

pub none_first : (m : List ℕ) (b : ℕ) → b ≡ past_first m → (1 ≤ b) × NoneTo m b
none_first m b e = let p = past_first_lem m in (omega (arith, p.0), λ c h l. p.1 c h (omega arith))

-- past the directory's bits there is none; and one that is met is one
pub inside_not : (n end b : ℕ) (m : List ℕ) → end ≡ 10 * min n 156 → end ≤ b → NoneTo m b → in_directory n m ≡ false
inside_not n end b m e h w =
    data_outside n m (λ c l q.
    ⊎_elim (λ (k : c < 1). is_data-first n c (omega arith))
    (λ (k : 1 ≤ c). ⊎_elim (λ (j : c < b). absurd (true≢false (sym q ∙ w c k j))) (λ (j : b ≤ c). is_data_from n c l (omega arith)) (below_or_not c b)) (below_or_not c 1))

pub inside_met : (n end b : ℕ) (m : List ℕ) → end ≡ 10 * min n 156 → 1 ≤ b → b < end → has m b ≡ true → in_directory n m ≡ true
unfolding in_directory
inside_met n end b m e h l q =
    any_some 1560 (λ b. has m b && not (data_bit n b)) b (omega arith) (rw (q, not_data n b (omega arith) (omega arith)))

-- ---- the map of the bits inside the directory

pub length_inner : (n k : ℕ) → length (inner_to n k) ≡ 195
unfolding inner_to
length_inner n zero = length-replicate {A = ℕ} 195 0
length_inner n (suc k) = by (data_bit n k) (length_inner n k)
  where
    by : (t : Bool) → length (inner_to n k) ≡ 195 → length (cond t (inner_to n k) (with_bit (inner_to n k) k)) ≡ 195
    by true h = h
    by false h = length_marked (inner_to n k) k ∙ h

inner_bits : (n b k : ℕ) → k ≤ 1560 → has (inner_to n k) b ≡ (ltb b k && not (data_bit n b))
unfolding inner_to
inner_bits n b zero h = has_clear b ∙ sym (rw (le-ltb b 0 (omega arith)))
inner_bits n b (suc k) h = by (inner_bits n b k (omega arith)) (data_bit n k) refl (eqb b k) refl
  where
    other : eqb b k ≡ false → ltb b k ≡ ltb b (suc k)
    other q =
        let z : b ≡ k → ⊥ = eqb-false b k q in
        ⊎_elim (λ (u : b < k). rw (lt-ltb b k u, lt-ltb b (suc k) (omega arith)))
        (λ (u : k ≤ b). rw (le-ltb b k u, le-ltb b (suc k) (omega arith))) (below_or_not b k)

    by : has (inner_to n k) b ≡ (ltb b k && not (data_bit n b)) → (t : Bool) → data_bit n k ≡ t → (u : Bool) → eqb b k ≡ u
        → has (cond t (inner_to n k) (with_bit (inner_to n k) k)) b ≡ (ltb b (suc k) && not (data_bit n b))
    by w true e true q =
        let z : b ≡ k = eqb-true b k q in
        w ∙ rw (le-ltb b k (omega arith), ap (data_bit n) z ∙ e) (sym (and-false (ltb b (suc k))))
    by w true e false q = w ∙ ap (λ (t : Bool). t && not (data_bit n b)) (other q)
    by w false e true q =
        let z : b ≡ k = eqb-true b k q in
        has_marked (inner_to n k) k b (omega (arith, length_inner n k))
        ∙ rw (q, lt-ltb b (suc k) (omega arith), ap (data_bit n) z ∙ e)
    by w false e false q =
        has_marked (inner_to n k) k b (omega (arith, length_inner n k))
        ∙ ap (λ (t : Bool). t || has (inner_to n k) b) q ∙ w ∙ ap (λ (t : Bool). t && not (data_bit n b)) (other q)

pub has_inner : (n b : ℕ) → b < 1560 → has (inner_map n) b ≡ not (data_bit n b)
has_inner n b h = inner_bits n b 1560 (omega arith) ∙ ap (λ (t : Bool). t && not (data_bit n b)) (lt-ltb b 1560 h)

-- as a loop makes it: bit 0 is data, the next are not, and those from its end on are
pub inner_first : (n : ℕ) → clear_map ≡ inner_to n 1
unfolding inner_to data_bit
inner_first n = refl

inner_far : (n b k : ℕ) → 1 ≤ b → 10 * n ≤ b → b + k ≤ 1560 → inner_to n b ≡ inner_to n (b + k)
unfolding inner_to
inner_far n b zero h l r = let e : b ≡ b + 0 = omega arith in ap (inner_to n) e
inner_far n b (suc k) h l r =
    let e : b + suc k ≡ suc (b + k) = omega arith in
    inner_far n b k h l (omega arith) ∙ sym (ap (inner_to n) e ∙ rw (is_data_from n (b + k) (omega arith) (omega arith)))

-- the loop's end is ten bits for each track, and no more than there are
pub record InnerLoop (n end b : ℕ) (m : List ℕ) : Type 0 where
  pub first : 1 ≤ b
  pub few : b ≤ 1560
  pub ends : end ≡ 10 * min n 156
  pub long : length m ≡ 195
  pub made : m ≡ inner_to n b

pub inner_turn : (n end b : ℕ) (m x : List ℕ) → InnerLoop n end b m → b < end → x ≡ with_bit m b → InnerLoop n end (b + 1) x
unfolding inner_to
inner_turn n end b m x w h q =
    let e = w.ends in
    let p : 1 ≤ b = w.first in
    record {
      first = omega arith;
      few = omega arith;
      ends = e;
      long = ap length q ∙ length_marked m b ∙ w.long;
      made = q ∙ rw (w.made, add-one b, not_data n b p (omega arith));
    }

pub inner_done : (n end b : ℕ) (m : List ℕ) → InnerLoop n end b m → end ≤ b → m ≡ inner_map n
inner_done n end b m w h =
    let e = w.ends in
    let p : 1 ≤ b = w.first in
    let l : b ≤ 1560 = w.few in
    let k : b + (1560 - b) ≡ 1560 = omega arith in
    w.made
    ∙ ⊎_elim (λ (g : 156 < n). let z : b ≡ 1560 = omega arith in ap (inner_to n) z)
    (λ (g : n ≤ 156). inner_far n b (1560 - b) p (omega arith) (omega arith) ∙ ap (inner_to n) k) (below_or_not 156 n)

-- ---- the byte

pub tracks-accepted : (b : ℕ) → bad_tracks b ≡ false → (b ≤ 35) ⊎ (b ≡ 255)
unfolding bad_tracks
tracks-accepted b e = by (ltb 35 b) refl (eqb b 255) refl e
  where
    by : (t : Bool) → ltb 35 b ≡ t → (u : Bool) → eqb b 255 ≡ u → (t && not u) ≡ false → (b ≤ 35) ⊎ (b ≡ 255)
    by false p u q w = inl (ltb-false 35 b p)
    by true p true q w = inr (eqb-true b 255 q)
    by true p false q w = absurd (true≢false w)

pub accepted-tracks : (b : ℕ) → (b ≤ 35) ⊎ (b ≡ 255) → bad_tracks b ≡ false
unfolding bad_tracks
accepted-tracks b h = ⊎_elim (λ l. rw (le-ltb 35 b l)) (λ e. rw (eq-eqb b 255 e) (by (ltb 35 b))) h
  where
    by : (t : Bool) → (t && false) ≡ false
    by true = refl
    by false = refl

pub tracks_bad : (b : ℕ) → bad_tracks b ≡ true → (36 ≤ b) × (b ≡ 255 → ⊥)
unfolding bad_tracks
tracks_bad b e =
    let c = (and-eq-true_iff (ltb 35 b) (not (eqb b 255))).0 e in
    (ltb-true 35 b c.0, eqb-false b 255 (not-true (eqb b 255) c.1))

pub bad_tracks_lem : (b : ℕ) → 36 ≤ b → (b ≡ 255 → ⊥) → bad_tracks b ≡ true
unfolding bad_tracks
bad_tracks_lem b h n = rw (lt-ltb 35 b h, ne_eqb b 255 n)

-- an empty map has no bit inside the directory
pub empty_outside : (n : ℕ) (m : List ℕ) → bits_of m ≡ 0 → in_directory n m ≡ false
unfolding in_directory bits_of
empty_outside n m e = none_any 1560 (λ b. has m b && not (data_bit n b)) (λ b l. rw (none-count 1560 (has m) e b l))
