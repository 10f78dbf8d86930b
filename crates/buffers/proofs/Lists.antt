-- Laws of lists made by a rule, of parts, of what is put, and of eight bytes as one number.
use Prim.Native.Nat.{ℕ, zero, suc, ◌+◌, ◌-◌, ◌≤◌, ◌<◌, min}
use mathlib.Core.Path.{◌≡◌, refl, sym, ap, ap₂, ◌∙◌}
use mathlib.Core.List.{List, [], ◌∷◌, ◌++◌, append_assoc, append-nil}
use mathlib.Core.Bool.{Bool, true, false, cond, ◌&&◌}
use mathlib.Core.Logic.{◌⊎◌, inl, inr, ⊎_elim}
use native.Mathlib.Nat.{add-zero, add-suc, eq-or-lt_of_le, le_of_suc-le-suc, not-suc-le-zero}
use native.Mathlib.Numerals.{add-one}
use native.Mathlib.Omega.{arith}
use borrow.Author.Tests.{ltb-true, ltb-false, lt-ltb, le-ltb, le-leb, lt-leb}
use lib.Dec.{leb, ltb}
use lib.ListN.{length, get_or, take, drop, set, length-append, length-take, length-drop, length-set, get_or-append, get_or-eq_default, drop_of_length-le}
use lib.Seq.{ext_get_or, get_or_at, get_or-append-add, get_or-take, get_or-drop, take-add, take-suc-set, take_all, take-nil, get_or-set_same, get_or-set_other}
use Rattle.buffers.specs.Bytes.{tab, part, put, word, word_or}

-- a number is below another or not
pub below_or_not : (a n : ℕ) → (a < n) ⊎ (n ≤ a)
below_or_not a n = go (ltb a n) refl
  where
    go : (t : Bool) → ltb a n ≡ t → (a < n) ⊎ (n ≤ a)
    go true e = inl (ltb-true a n e)
    go false e = inr (ltb-false a n e)

-- past the end of a list
pub past_end : (d : List ℕ) (k : ℕ) → length d ≤ k → get_or d k 0 ≡ 0
past_end d k h = get_or-eq_default d 0 h

-- ---- a list made by a rule

pub tab-more : (n : ℕ) (f : ℕ → ℕ) → tab (n + 1) f ≡ tab n f ++ (f n ∷ [])
unfolding tab
tab-more n f = rw add-one

pub length-tab : (n : ℕ) (f : ℕ → ℕ) → length (tab n f) ≡ n
unfolding tab
length-tab zero f = refl
length-tab (suc n) f = length-append (tab n f) (f n ∷ []) ∙ ap (λ (k : ℕ). k + 1) (length-tab n f) ∙ add-one n

pub get_or-tab : (n : ℕ) (f : ℕ → ℕ) (i : ℕ) → i < n → get_or (tab n f) i 0 ≡ f i
unfolding tab
get_or-tab zero f i h = absurd (not-suc-le-zero h)
get_or-tab (suc n) f i h =
    ⊎_elim
    (λ e. rw e (get_or_at (tab n f) (f n) [] 0 n (length-tab n f)))
    (λ l. get_or-append (tab n f) (f n ∷ []) 0 i (rw length-tab l) ∙ get_or-tab n f i l)
    (eq-or-lt_of_le (le_of_suc-le-suc h))

-- the first a + n: the first a, and n more
pub tab-add : (a n : ℕ) (f : ℕ → ℕ) → tab (a + n) f ≡ tab a f ++ tab n (λ j. f (a + j))
unfolding tab
tab-add a zero f = rw add-zero (sym (append-nil (tab a f)))
tab-add a (suc n) f =
    rw add-suc
    (ap (λ (l : List ℕ). l ++ (f (a + n) ∷ [])) (tab-add a n f) ∙ append_assoc (tab a f) (tab n (λ j. f (a + j))) (f (a + n) ∷ []))

pub tab_past : (n : ℕ) (f : ℕ → ℕ) (i : ℕ) → n ≤ i → get_or (tab n f) i 0 ≡ 0
tab_past n f i h = past_end (tab n f) i (rw length-tab h)

-- two rules that agree below n make one list
pub tab_cong : (n : ℕ) (f g : ℕ → ℕ) → ((k : ℕ) → k < n → f k ≡ g k) → tab n f ≡ tab n g
unfolding tab
tab_cong zero f g h = refl
tab_cong (suc n) f g h = ap₂ (λ (l : List ℕ) (x : ℕ). l ++ (x ∷ [])) (tab_cong n f g (λ k l. h k (omega arith))) (h n (omega arith))

-- a list of n elements is what its elements make
pub tab_of : (n : ℕ) (f : ℕ → ℕ) (l : List ℕ) → length l ≡ n → ((k : ℕ) → k < n → get_or l k 0 ≡ f k) → l ≡ tab n f
tab_of n f l e h =
    ext_get_or 0 l (tab n f) (e ∙ sym (length-tab n f))
    (λ i k. let m : i < n = omega arith in h i m ∙ sym (get_or-tab n f i m))

-- a list that is filled from the front, one store more
pub fill_more : (l : List ℕ) (i : ℕ) (f : ℕ → ℕ) (v : ℕ) → i < length l → take i l ≡ tab i f → v ≡ f i → take (i + 1) (set l i v) ≡ tab (i + 1) f
fill_more l i f v h e p = rw (tab-more, add-one) (take-suc-set l i v h ∙ ap₂ (λ (xs : List ℕ) (x : ℕ). xs ++ (x ∷ [])) e p)

pub fill_done : (l : List ℕ) (n : ℕ) (f : ℕ → ℕ) → length l ≡ n → take n l ≡ tab n f → l ≡ tab n f
fill_done l n f h e = sym (take_all n l (omega arith)) ∙ e

-- ---- a part

pub length_part : (a n : ℕ) (d : List ℕ) → length (part a n d) ≡ min n (length d - a)
unfolding part
length_part a n d = simp (length-take, length-drop)

pub part-long : (a n : ℕ) (d : List ℕ) → a + n ≤ length d → length (part a n d) ≡ n
part-long a n d h = omega (arith, length_part a n d)

pub part_at : (a n : ℕ) (d : List ℕ) (i : ℕ) → i < n → get_or (part a n d) i 0 ≡ get_or d (a + i) 0
unfolding part
part_at a n d i h = rw (get_or-take, get_or-drop)

-- parts of lists of one length are equal where their bytes are
pub part_ext : (a n : ℕ) (d e : List ℕ) → length d ≡ length e → ((i : ℕ) → i < n → get_or d (a + i) 0 ≡ get_or e (a + i) 0) → part a n d ≡ part a n e
part_ext a n d e l h =
    ext_get_or 0 (part a n d) (part a n e) (length_part a n d ∙ ap (λ (m : ℕ). min n (m - a)) l ∙ sym (length_part a n e))
    (λ i k.
    let m : i < n = omega (arith, length_part a n d) in
    part_at a n d i m ∙ h i m ∙ sym (part_at a n e i m))

pub part-part : (a n b m : ℕ) (d : List ℕ) → b + m ≤ n → part b m (part a n d) ≡ part (a + b) m d
part-part a n b m d h =
    ext_get_or 0 (part b m (part a n d)) (part (a + b) m d) (omega (arith, length_part b m (part a n d), length_part a n d, length_part (a + b) m d))
    (λ i k.
    let l : i < m = omega (arith, length_part b m (part a n d)) in
    part_at b m (part a n d) i l ∙ part_at a n d (b + i) (omega arith) ∙ ap (λ (t : ℕ). get_or d t 0) (omega arith)
    ∙ sym (part_at (a + b) m d i l))

pub part-whole : (d : List ℕ) (n : ℕ) → length d ≤ n → part 0 n d ≡ d
unfolding part
part-whole d n h = take_all n d h

pub part_none : (a n : ℕ) (d : List ℕ) → length d ≤ a → part a n d ≡ []
unfolding part
part_none a n d h = rw (drop_of_length-le d h) (take-nil n)

-- a part whose end is cut at the list's
pub part_cut : (a n m : ℕ) (d : List ℕ) → length d ≤ a + n → length d ≤ a + m → part a n d ≡ part a m d
unfolding part
part_cut a n m d h k =
    take_all n (drop a d) (omega (arith, length-drop a d)) ∙ sym (take_all m (drop a d) (omega (arith, length-drop a d)))

-- a part whose place and length are cut to the list
pub part-clipped : (a n k m : ℕ) (d : List ℕ) → k ≡ min a (length d) → m ≡ min n (length d - k) → part k m d ≡ part a n d
part-clipped a n k m d p q = ⊎_elim there past (below_or_not a (length d))
  where
    there : a < length d → part k m d ≡ part a n d
    there h =
        let e : k ≡ a = omega arith in
        ⊎_elim (λ (l : n < length d - a). let f : m ≡ n = omega arith in rw (e, f)) (λ (l : length d - a ≤ n). rw e (part_cut a m n d (omega arith) (omega arith)))
        (below_or_not n (length d - a))

    past : length d ≤ a → part k m d ≡ part a n d
    past h = part_none k m d (omega arith) ∙ sym (part_none a n d h)

-- ---- what is put

abbrev inside : ℕ → ℕ → List ℕ → Bool
inside a k x = leb a k && ltb k (a + length x)

put_byte : List ℕ → ℕ → List ℕ → ℕ → ℕ
put_byte d a x k = cond (inside a k x) (get_or x (k - a) 0) (get_or d k 0)

pub length-put : (d : List ℕ) (a : ℕ) (x : List ℕ) → length (put d a x) ≡ length d
unfolding put
length-put d a x = length-tab (length d) (λ k. cond (inside a k x) (get_or x (k - a) 0) (get_or d k 0))

put_byte_lem : (d : List ℕ) (a : ℕ) (x : List ℕ) (k : ℕ) → k < length d → get_or (put d a x) k 0 ≡ put_byte d a x k
unfolding put put_byte
put_byte_lem d a x k h = get_or-tab (length d) (λ k. cond (inside a k x) (get_or x (k - a) 0) (get_or d k 0)) k h

pub put_in : (d : List ℕ) (a : ℕ) (x : List ℕ) (i : ℕ) → i < length x → a + i < length d → get_or (put d a x) (a + i) 0 ≡ get_or x i 0
unfolding put_byte
put_in d a x i h k =
    put_byte_lem d a x (a + i) k
    ∙ rw (le-leb a (a + i) (omega arith), lt-ltb (a + i) (a + length x) (omega arith))
    (ap (λ (t : ℕ). get_or x t 0) (omega arith))

pub put-before : (d : List ℕ) (a : ℕ) (x : List ℕ) (k : ℕ) → k < a → get_or (put d a x) k 0 ≡ get_or d k 0
unfolding put_byte
put-before d a x k h =
    ⊎_elim (λ l. put_byte_lem d a x k l ∙ rw (lt-leb a k h))
    (λ l. past_end (put d a x) k (rw length-put l) ∙ sym (past_end d k l)) (below_or_not k (length d))

pub put-after : (d : List ℕ) (a : ℕ) (x : List ℕ) (k : ℕ) → a + length x ≤ k → get_or (put d a x) k 0 ≡ get_or d k 0
unfolding put_byte
put-after d a x k h =
    ⊎_elim (λ l. put_byte_lem d a x k l ∙ rw (le-leb a k (omega arith), le-ltb k (a + length x) h))
    (λ l. past_end (put d a x) k (rw length-put l) ∙ sym (past_end d k l)) (below_or_not k (length d))

-- what is put is read, and what lies before or after it stays
pub part-put : (d : List ℕ) (a : ℕ) (x : List ℕ) → a + length x ≤ length d → part a (length x) (put d a x) ≡ x
part-put d a x h =
    let l : length (part a (length x) (put d a x)) ≡ length x = part-long a (length x) (put d a x) (rw length-put h) in
    ext_get_or 0 (part a (length x) (put d a x)) x l
    (λ i k.
    let m : i < length x = omega arith in
    part_at a (length x) (put d a x) i m ∙ put_in d a x i m (omega arith))

pub part_put_before : (d : List ℕ) (a : ℕ) (x : List ℕ) (b n : ℕ) → b + n ≤ a → part b n (put d a x) ≡ part b n d
part_put_before d a x b n h = part_ext b n (put d a x) d (length-put d a x) (λ i k. put-before d a x (b + i) (omega arith))

pub part_put_after : (d : List ℕ) (a : ℕ) (x : List ℕ) (b n : ℕ) → a + length x ≤ b → part b n (put d a x) ≡ part b n d
part_put_after d a x b n h = part_ext b n (put d a x) d (length-put d a x) (λ i k. put-after d a x (b + i) (omega arith))

-- the list that has x at a, and d elsewhere, is that one
pub put_is : (d : List ℕ) (a : ℕ) (x e : List ℕ) → length e ≡ length d → ((i : ℕ) → i < length x → a + i < length d → get_or e (a + i) 0 ≡ get_or x i 0)
    → ((k : ℕ) → k < a → get_or e k 0 ≡ get_or d k 0) → ((k : ℕ) → a + length x ≤ k → k < length d → get_or e k 0 ≡ get_or d k 0) → e ≡ put d a x
put_is d a x e l p q r =
    ext_get_or 0 e (put d a x) (l ∙ sym (length-put d a x))
    (λ k h.
    let m : k < length d = omega arith in
    ⊎_elim (λ (b : k < a). q k b ∙ sym (put-before d a x k b))
    (λ (b : a ≤ k).
    ⊎_elim
    (λ (c : k < a + length x).
    let w : k ≡ a + (k - a) = omega arith in
    rw w (p (k - a) (omega arith) (omega arith) ∙ sym (put_in d a x (k - a) (omega arith) (omega arith))))
    (λ (c : a + length x ≤ k). r k c m ∙ sym (put-after d a x k c))
    (below_or_not k (a + length x)))
    (below_or_not k a))

-- nothing put, and one byte more of a run
pub put-none : (d : List ℕ) (a : ℕ) (x : List ℕ) → d ≡ put d a (take 0 x)
put-none d a x = put_is d a [] d refl (λ i h k. absurd (not-suc-le-zero h)) (λ k h. refl) (λ k h m. refl)

pub put-more : (d : List ℕ) (a : ℕ) (x : List ℕ) (j : ℕ) → j < length x → a + j < length d
    → set (put d a (take j x)) (a + j) (get_or x j 0) ≡ put d a (take (j + 1) x)
put-more d a x j h m =
    put_is d a (take (j + 1) x) (set (put d a (take j x)) (a + j) (get_or x j 0))
    (length-set (put d a (take j x)) (a + j) (get_or x j 0) ∙ length-put d a (take j x))
    (λ i k l.
    let k' : i < j + 1 = omega (arith, length-take (j + 1) x) in
    ⊎_elim
    (λ (e : i ≡ j). rw (e, get_or-take (j + 1) x j 0 (omega arith)) (get_or-set_same (put d a (take j x)) (a + j) (get_or x j 0) 0 (rw length-put m)))
    (λ (c : i < j).
    get_or-set_other (put d a (take j x)) (a + j) (a + i) (get_or x j 0) 0 (omega arith)
    ∙ put_in d a (take j x) i (omega (arith, length-take j x)) l ∙ get_or-take j x i 0 c ∙ sym (get_or-take (j + 1) x i 0 k'))
    (eq-or-lt_of_le (le_of_suc-le-suc (rw add-one at k'))))
    (λ k l. get_or-set_other (put d a (take j x)) (a + j) k (get_or x j 0) 0 (omega arith) ∙ put-before d a (take j x) k l)
    (λ k l n.
    let z : length (take (j + 1) x) ≡ j + 1 = omega (arith, length-take (j + 1) x) in
    let y : length (take j x) ≡ j = omega (arith, length-take j x) in
    get_or-set_other (put d a (take j x)) (a + j) k (get_or x j 0) 0 (omega arith) ∙ put-after d a (take j x) k (omega arith))

-- all of a run
pub put_all_lem : (d : List ℕ) (a : ℕ) (x : List ℕ) (j : ℕ) → length x ≤ j → put d a (take j x) ≡ put d a x
put_all_lem d a x j h = ap (put d a) (take_all j x h)

-- what lies past the end is left out
pub put_past : (d : List ℕ) (a : ℕ) (x : List ℕ) → length d ≤ a → d ≡ put d a x
put_past d a x h = put_is d a x d refl (λ i k l. absurd (omega arith)) (λ k l. refl) (λ k l m. refl)

pub put-cut : (d : List ℕ) (a : ℕ) (x : List ℕ) (j : ℕ) → length d ≤ a + j → j ≤ length x → put d a (take j x) ≡ put d a x
put-cut d a x j h m =
    let y : length (take j x) ≡ j = omega (arith, length-take j x) in
    put_is d a x (put d a (take j x)) (length-put d a (take j x))
    (λ i k l. put_in d a (take j x) i (omega arith) l ∙ get_or-take j x i 0 (omega arith))
    (λ k l. put-before d a (take j x) k l) (λ k l n. absurd (omega arith))

-- as much as there is room for
pub put_cut_to : (d : List ℕ) (a : ℕ) (x : List ℕ) (k : ℕ) → k ≡ min (length x) (length d - a) → a < length d → put d a (take k x) ≡ put d a x
put_cut_to d a x k e h =
    ⊎_elim (λ (l : k < length x). put-cut d a x k (omega arith) (omega arith)) (λ (l : length x ≤ k). put_all_lem d a x k l) (below_or_not k (length x))

-- one run put after another
pub put-append : (d : List ℕ) (a : ℕ) (x y : List ℕ) → put (put d a x) (a + length x) y ≡ put d a (x ++ y)
put-append d a x y =
    put_is d a (x ++ y) (put (put d a x) (a + length x) y) (length-put (put d a x) (a + length x) y ∙ length-put d a x)
    (λ i h l.
    ⊎_elim
    (λ (c : i < length x). put-before (put d a x) (a + length x) y (a + i) (omega arith) ∙ put_in d a x i c l ∙ sym (get_or-append x y 0 i c))
    (λ (c : length x ≤ i).
    let e : a + i ≡ a + length x + (i - length x) = omega arith in
    let f : i ≡ length x + (i - length x) = omega arith in
    ap (λ (k : ℕ). get_or (put (put d a x) (a + length x) y) k 0) e
    ∙ put_in (put d a x) (a + length x) y (i - length x) (omega (arith, length-append x y)) (omega (arith, length-put d a x))
    ∙ sym (ap (λ (k : ℕ). get_or (x ++ y) k 0) f ∙ get_or-append-add x y (i - length x) 0))
    (below_or_not i (length x)))
    (λ k h. put-before (put d a x) (a + length x) y k (omega arith) ∙ put-before d a x k h)
    (λ k h l. put-after (put d a x) (a + length x) y k (omega (arith, length-append x y)) ∙ put-after d a x k (omega (arith, length-append x y)))

-- the bytes from j to k put after those before j
pub put-run : (d : List ℕ) (a : ℕ) (x : List ℕ) (j k : ℕ) → j ≤ length x → j ≤ k → put (put d a (take j x)) (a + j) (take (k - j) (drop j x)) ≡ put d a (take k x)
put-run d a x j k h l =
    let e : a + j ≡ a + length (take j x) = omega (arith, length-take j x) in
    let f : k ≡ j + (k - j) = omega arith in
    ap (λ (b : ℕ). put (put d a (take j x)) b (take (k - j) (drop j x))) e ∙ put-append d a (take j x) (take (k - j) (drop j x))
    ∙ ap (put d a) (sym (ap (λ (b : ℕ). take b x) f ∙ take-add j (k - j) x))

-- what is put at the front is read from there
pub take_put : (d x e : List ℕ) → e ≡ put d 0 x → length x ≤ length d → take (length x) e ≡ x
unfolding part
take_put d x e p h = ap (take (length x)) p ∙ part-put d 0 x (omega arith)

-- one element stored is put
pub put_one : (d : List ℕ) (a v : ℕ) → set d a v ≡ put d a (v ∷ [])
put_one d a v =
    put_is d a (v ∷ []) (set d a v) (length-set d a v)
    (λ i h k. let z : i ≡ 0 = omega arith in let y : a + 0 ≡ a = omega arith in rw (z, y) (get_or-set_same d a v 0 (omega arith)))
    (λ k h. get_or-set_other d a k v 0 (omega arith)) (λ k h m. get_or-set_other d a k v 0 (omega arith))

-- what is put at the front, and one element after it
pub put_next : (d x : List ℕ) (a v : ℕ) → length x ≡ a → (e : List ℕ) → e ≡ put d 0 x → set e a v ≡ put d 0 (x ++ (v ∷ []))
put_next d x a v l e p =
    let z : a ≡ 0 + length x = omega arith in
    put_one e a v ∙ ap₂ (λ (y : List ℕ) (b : ℕ). put y b (v ∷ [])) p z ∙ put-append d 0 x (v ∷ [])

-- as many elements put over others
pub put-over : (d : List ℕ) (a : ℕ) (x y : List ℕ) → length x ≡ length y → put (put d a x) a y ≡ put d a y
put-over d a x y l =
    put_is d a y (put (put d a x) a y) (length-put (put d a x) a y ∙ length-put d a x)
    (λ i h k. put_in (put d a x) a y i h (omega (arith, length-put d a x)))
    (λ k h. put-before (put d a x) a y k h ∙ put-before d a x k h)
    (λ k h m. put-after (put d a x) a y k h ∙ put-after d a x k (omega arith))

-- ---- eight bytes at a place

pub word-there : (m : List ℕ) (i : ℕ) → i + 8 ≤ length m → word_or m i ≡ word 8 m i 0
unfolding word_or
word-there m i h = rw (le-leb (i + 8) (length m) h)

pub word_not : (m : List ℕ) (i : ℕ) → length m < i + 8 → word_or m i ≡ 0
unfolding word_or
word_not m i h = rw (lt-leb (i + 8) (length m) h)

-- the bytes of a part, as a number
pub word_in : (k a n : ℕ) (m : List ℕ) (j : ℕ) → j + k ≤ n → word k (part a n m) 0 j ≡ word k m a j
unfolding word
word_in zero a n m j h = refl
word_in (suc k) a n m j h =
    let e : 0 + j ≡ j = omega arith in
    rw (e, part_at a n m j (omega arith), word_in k a n m (suc j) (omega arith))
