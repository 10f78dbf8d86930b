-- Sums over the numbers below a bound, how often a number is in a list, and how long a list can be that has none twice.
use Prim.Native.Nat.{ℕ, zero, suc, ◌+◌, ◌-◌, ◌≤◌, ◌<◌}
use mathlib.Core.Path.{◌≡◌, refl, sym, ap, ap₂, ◌∙◌}
use mathlib.Core.Bool.{Bool, true, false, cond}
use mathlib.Core.List.{List, [], ◌∷◌, ◌++◌, append-nil, append_assoc}
use mathlib.Core.Logic.{◌⊎◌, inl, inr, ⊎_elim}
use native.Mathlib.Nat.{eq-or-lt_of_le, le_of_suc-le-suc, add-zero, add-suc}
use native.Mathlib.Numerals.{add-one}
use native.Mathlib.Omega.{arith}
use borrow.Author.Tests.{eqb-true, eqb-false, eq-eqb, ne_eqb}
use lib.Dec.{eqb}
use lib.ListN.{length, length-append}
use Rattle.buffers.specs.Bytes.{tab, count}
use Rattle.buffers.specs.Sums.{sum, concat, times}

pub sum_cong : (n : ℕ) (f g : ℕ → ℕ) → ((k : ℕ) → k < n → f k ≡ g k) → sum n f ≡ sum n g
unfolding sum
sum_cong zero f g h = refl
sum_cong (suc n) f g h = ap₂ ◌+◌ (sum_cong n f g (λ k l. h k (omega arith))) (h n (omega arith))

pub sum-plus : (n : ℕ) (f g : ℕ → ℕ) → sum n (λ k. f k + g k) ≡ sum n f + sum n g
unfolding sum
sum-plus zero f g = refl
sum-plus (suc n) f g = omega (arith, sum-plus n f g)

-- the first apart
pub sum_first : (n : ℕ) (f : ℕ → ℕ) → sum (suc n) f ≡ f 0 + sum n (λ k. f (suc k))
unfolding sum
sum_first zero f = omega arith
sum_first (suc n) f = ap (λ (a : ℕ). a + f (suc n)) (sum_first n f) ∙ omega arith

pub sum_le : (n : ℕ) (f g : ℕ → ℕ) → ((k : ℕ) → k < n → f k ≤ g k) → sum n f ≤ sum n g
unfolding sum
sum_le zero f g h = omega arith
sum_le (suc n) f g h = omega (arith, sum_le n f g (λ k l. h k (omega arith)), h n (omega arith))

pub sum-none : (n : ℕ) (f : ℕ → ℕ) → ((k : ℕ) → k < n → f k ≡ 0) → sum n f ≡ 0
unfolding sum
sum-none zero f h = refl
sum-none (suc n) f h = omega (arith, sum-none n f (λ k l. h k (omega arith)), h n (omega arith))

pub sum-zero : (n : ℕ) → sum n (λ k. 0) ≡ 0
sum-zero n = sum-none n (λ k. 0) (λ k h. refl)

pub sum_more : (n : ℕ) (f : ℕ → ℕ) → sum (n + 1) f ≡ sum n f + f n
unfolding sum
sum_more n f = rw (add-one n)

-- a sum of which one part alone is not 0
pub sum_one : (n : ℕ) (f : ℕ → ℕ) (i : ℕ) → i < n → ((k : ℕ) → k < n → (k ≡ i → ⊥) → f k ≡ 0) → sum n f ≡ f i
unfolding sum
sum_one zero f i l h = absurd (omega arith)
sum_one (suc n) f i l h =
    ⊎_elim (λ (e : i ≡ n). let z : sum n f ≡ 0 = sum-none n f (λ k q. h k (omega arith) (λ w. omega arith)) in rw (z, e) (omega arith))
    (λ (q : i < n). let z : f n ≡ 0 = h n (omega arith) (λ w. omega arith) in
    omega (arith, sum_one n f i q (λ k p. h k (omega arith)))) (eq-or-lt_of_le (le_of_suc-le-suc l))

pub sum-part : (n : ℕ) (f : ℕ → ℕ) (i : ℕ) → i < n → f i ≤ sum n f
unfolding sum
sum-part zero f i l = absurd (omega arith)
sum-part (suc n) f i l =
    ⊎_elim (λ (e : i ≡ n). rw e (omega arith)) (λ (q : i < n). omega (arith, sum-part n f i q)) (eq-or-lt_of_le (le_of_suc-le-suc l))

-- the numbers below n, of which one is j
pub sum_single : (n j : ℕ) → j < n → sum n (λ k. cond (eqb k j) 1 0) ≡ 1
sum_single n j h = sum_one n (λ k. cond (eqb k j) 1 0) j h (λ k l q. rw (ne_eqb k j q)) ∙ rw (eq-eqb j j refl)

pub count-sum : (n : ℕ) (p : ℕ → Bool) → count n p ≡ sum n (λ i. cond (p i) 1 0)
unfolding count sum
count-sum zero p = refl
count-sum (suc n) p = ap (λ (x : ℕ). x + cond (p n) 1 0) (count-sum n p)

-- ---- lists joined

pub gather_cong : (n : ℕ) (f g : ℕ → List ℕ) → ((k : ℕ) → k < n → f k ≡ g k) → concat n f ≡ concat n g
unfolding concat
gather_cong zero f g h = refl
gather_cong (suc n) f g h = ap₂ ◌++◌ (gather_cong n f g (λ k l. h k (omega arith))) (h n (omega arith))

pub gather-more : (i : ℕ) (f : ℕ → List ℕ) → concat (i + 1) f ≡ concat i f ++ f i
unfolding concat
gather-more i f = rw add-one

pub gather_le : (m i : ℕ) (f : ℕ → List ℕ) → length (concat i f) ≤ length (concat (i + m) f)
unfolding concat
gather_le zero i f = rw add-zero (omega arith)
gather_le (suc m) i f = rw add-suc (omega (arith, gather_le m i f, length-append (concat (i + m) f) (f (i + m))))

-- where nothing more is to come
pub gather-rest : (m i : ℕ) (f : ℕ → List ℕ) → ((k : ℕ) → i ≤ k → f k ≡ []) → concat (i + m) f ≡ concat i f
unfolding concat
gather-rest zero i f h = rw add-zero
gather-rest (suc m) i f h = rw (add-suc i m, h (i + m) (omega arith)) (append-nil (concat (i + m) f) ∙ gather-rest m i f h)

-- the i-th of them, between those before and those after it
gather-add : (m i : ℕ) (f : ℕ → List ℕ) → concat (i + m) f ≡ concat i f ++ concat m (λ k. f (i + k))
unfolding concat
gather-add zero i f = rw add-zero (sym (append-nil (concat i f)))
gather-add (suc m) i f =
    rw add-suc (ap (λ (l : List ℕ). l ++ f (i + m)) (gather-add m i f) ∙ append_assoc (concat i f) (concat m (λ k. f (i + k))) (f (i + m)))

pub gather-at : (n i : ℕ) (f : ℕ → List ℕ) → i < n → (a : List ℕ) × (b : List ℕ) × (concat n f ≡ a ++ f i ++ b) × (a ≡ concat i f)
unfolding concat
gather-at n i f h =
    let e : suc i + (n - suc i) ≡ n = omega arith in
    (concat i f, concat (n - suc i) (λ k. f (suc i + k)), ap (λ (m : ℕ). concat m f) (sym e) ∙ gather-add (n - suc i) (suc i) f, refl)

-- ---- how often

pub times-append : (x : ℕ) (a b : List ℕ) → times x (a ++ b) ≡ times x a + times x b
unfolding times
times-append x [] b = omega arith
times-append x (y ∷ a) b = omega (arith, times-append x a b)

pub times-gather : (x n : ℕ) (f : ℕ → List ℕ) → times x (concat n f) ≡ sum n (λ k. times x (f k))
unfolding concat times sum
times-gather x zero f = refl
times-gather x (suc n) f = times-append x (concat n f) (f n) ∙ ap (λ (m : ℕ). m + times x (f n)) (times-gather x n f)

pub times-same : (x : ℕ) (l : List ℕ) → times x (x ∷ l) ≡ 1 + times x l
unfolding times
times-same x l = rw (eq-eqb x x refl)

pub times-other : (x y : ℕ) (l : List ℕ) → (x ≡ y → ⊥) → times x (y ∷ l) ≡ times x l
unfolding times
times-other x y l h = rw (ne_eqb x y h) (omega arith)

pub times_more : (x y : ℕ) (l : List ℕ) → times x l ≤ times x (y ∷ l)
unfolding times
times_more x y l = omega arith

-- a list none of whose numbers is there twice, and each is f i for an i below n that passes the test
pub few : (n : ℕ) (q : ℕ → Bool) (f : ℕ → ℕ) (l : List ℕ) → ((x : ℕ) → 1 ≤ times x l → (i : ℕ) × (i < n) × (q i ≡ true) × (f i ≡ x))
    → ((x : ℕ) → times x l ≤ 1) → length l ≤ count n q
unfolding times
few n q f l h once =
    let a : length l ≤ sum n (λ i. cond (q i) (times (f i) l) 0) = covers l h in
    let b : sum n (λ i. cond (q i) (times (f i) l) 0) ≤ sum n (λ i. cond (q i) 1 0) = sum_le n _ _ (λ i k. at i (q i)) in
    omega (arith, count-sum n q)
  where
    at : (i : ℕ) (t : Bool) → cond t (times (f i) l) 0 ≤ cond t 1 0
    at i true = once (f i)
    at i false = omega arith

    one : (x : ℕ) (l : List ℕ) (i : ℕ) (t : Bool) → cond t (times (f i) (x ∷ l)) 0 ≡ cond t (cond (eqb (f i) x) 1 0) 0 + cond t (times (f i) l) 0
    one x l i true = refl
    one x l i false = refl

    covers : (l : List ℕ) → ((x : ℕ) → 1 ≤ times x l → (i : ℕ) × (i < n) × (q i ≡ true) × (f i ≡ x)) → length l ≤ sum n (λ i. cond (q i) (times (f i) l) 0)
    covers [] h = omega arith
    covers (x ∷ l) h =
        let w = h x (omega (arith, times-same x l)) in
        let e : sum n (λ i. cond (q i) (times (f i) (x ∷ l)) 0) ≡ sum n (λ i. cond (q i) (cond (eqb (f i) x) 1 0) 0) + sum n (λ i. cond (q i) (times (f i) l) 0)
        = sum_cong n _ _ (λ i k. one x l i (q i)) ∙ sum-plus n _ _ in
        let z : ◌≡◌ {A = ℕ} (cond (q w.0) (cond (eqb (f w.0) x) 1 0) 0) 1 = rw (w.2, eq-eqb (f w.0) x w.3) in
        omega (arith, covers l (λ y p. h y (omega (arith, times_more y x l))), sum-part n (λ i. cond (q i) (cond (eqb (f i) x) 1 0) 0) w.0 w.1)

-- ---- two of many are the same, or none is there twice

pub times-found : (x m : ℕ) (f : ℕ → ℕ) → 1 ≤ times x (tab m f) → (a : ℕ) × (a < m) × (f a ≡ x)
unfolding tab times
times-found x zero f h = absurd (omega arith)
times-found x (suc m) f h = by (eqb x (f m)) refl (λ w. times-found x m f w)
  where
    by : (t : Bool) → eqb x (f m) ≡ t → (1 ≤ times x (tab m f) → (a : ℕ) × (a < m) × (f a ≡ x)) → (a : ℕ) × (a < suc m) × (f a ≡ x)
    by true e k = (m, omega arith, sym (eqb-true x (f m) e))
    by false e k =
        let w = k (omega (arith, times-append x (tab m f) (f m ∷ []), times-other x (f m) [] (eqb-false x (f m) e))) in
        (w.0, omega (arith, w.1), w.2)

pub record Pair (m : ℕ) (f : ℕ → ℕ) : Type 0 where
  pub low : ℕ
  pub high : ℕ
  pub rising : low < high
  pub bounded : high < m
  pub same : f low ≡ f high

pub twice : (m : ℕ) (f : ℕ → ℕ) → Pair m f ⊎ ((x : ℕ) → times x (tab m f) ≤ 1)
unfolding tab times
twice zero f = inr (λ x. omega arith)
twice (suc m) f = ⊎_elim (λ p. inl (record { low = p.low; high = p.high; rising = p.rising; bounded = omega (arith, p.bounded); same = p.same })) (λ k. by (times (f m) (tab m f)) refl k) (twice m f)
  where
    by : (n : ℕ) → times (f m) (tab m f) ≡ n → ((x : ℕ) → times x (tab m f) ≤ 1) → Pair (suc m) f ⊎ ((x : ℕ) → times x (tab m f ++ (f m ∷ [])) ≤ 1)
    by zero e k = inr (λ x. rw (times-append x (tab m f) (f m ∷ [])) (at x (eqb x (f m)) refl))
      where
        at : (x : ℕ) (t : Bool) → eqb x (f m) ≡ t → times x (tab m f) + times x (f m ∷ []) ≤ 1
        at x true q = let z : x ≡ f m = eqb-true x (f m) q in rw (z, e, times-same (f m) []) (omega arith)
        at x false q = rw (times-other x (f m) [] (eqb-false x (f m) q)) (omega (arith, k x))
    by (suc n) e k =
        let w = times-found (f m) m f (omega arith) in
        inl (record { low = w.0; high = m; rising = w.1; bounded = omega arith; same = w.2 })
