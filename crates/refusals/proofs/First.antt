-- The first refusal in the order is the first: laws of `else`, of rows at a slot and of scans over slots.
use Prim.Native.Nat.{ℕ, zero, suc, ◌+◌, ◌-◌, ◌≤◌, ◌<◌}
use mathlib.Core.Path.{◌≡◌, refl, sym, ap, ◌∙◌, subst}
use mathlib.Core.Bool.{Bool, true, false, cond, true≢false}
use mathlib.Core.List.{List, [], ◌∷◌}
use mathlib.Core.Logic.{◌⊎◌, inl, inr, ⊎_elim}
use mathlib.Core.Option.{Option, none, some, some-ne-none, some-injective}
use native.Mathlib.Nat.{eq-or-lt_of_le}
use native.Mathlib.Numerals.{add-one}
use native.Mathlib.Omega.{arith}
use Rattle.refusals.specs.Order.{Refusal, refuse, Reply, ◌else◌, Row, rows, row, scan_from, scan, RowsClear, FirstRow, FirstAt, SlotRow, NoRow, FirstSlotRow}

-- ---- the first of two

module _ {A : Type 0} where
  pub else_none : (a b : Option A) → a else b ≡ none → (a ≡ none) × (b ≡ none)
  else_none none b e = (refl, e)
  else_none (some r) b e = absurd (some-ne-none r e)

  pub none_else : (a b : Option A) → a ≡ none → b ≡ none → a else b ≡ none
  none_else a b p q = rw p q

  -- an answer is the first one's, or the first has none
  pub else_some : (a b : Option A) (r : A) → a else b ≡ some r → (a ≡ some r) ⊎ ((a ≡ none) × (b ≡ some r))
  else_some none b r e = inr (refl, e)
  else_some (some x) b r e = inl e

-- ---- the rows at a slot

pub rows_clear : (s : ℕ) (rs : List Row) → rows s rs ≡ none → RowsClear rs
rows_clear s [] e = tt
rows_clear s (r ∷ rs) e = by r.holds refl e (rows_clear s rs)
  where
    by : (t : Bool) → r.holds ≡ t → cond t (some (refuse r.number s)) (rows s rs) ≡ none → (rows s rs ≡ none → RowsClear rs) → (r.holds ≡ false) × RowsClear rs
    by true q w k = absurd (some-ne-none (refuse r.number s) w)
    by false q w k = (q, k w)

pub clear_rows : (s : ℕ) (rs : List Row) → RowsClear rs → rows s rs ≡ none
clear_rows s [] c = refl
clear_rows s (r ∷ rs) c = rw c.0 (clear_rows s rs c.1)

-- a refusal is the number of a row that holds and has none before it, at that slot
pub rows-first : (s : ℕ) (rs : List Row) (x : Refusal) → rows s rs ≡ some x → FirstRow x.number rs × (x.slot ≡ s)
rows-first s [] x e = absurd (some-ne-none x (sym e))
rows-first s (r ∷ rs) x e = by r.holds refl e (rows-first s rs x)
  where
    by : (t : Bool) → r.holds ≡ t → cond t (some (refuse r.number s)) (rows s rs) ≡ some x
        → (rows s rs ≡ some x → FirstRow x.number rs × (x.slot ≡ s)) → FirstRow x.number (r ∷ rs) × (x.slot ≡ s)
    by true q w k =
        let z : ◌≡◌ {A = Refusal} (refuse r.number s) x = cc in
        (inl (q, ap (λ (y : Refusal). y.number) z), sym (ap (λ (y : Refusal). y.slot) z))
    by false q w k = let c = k w in (inr (q, c.0), c.1)

pub first_rows : (s : ℕ) (rs : List Row) (n : ℕ) → FirstRow n rs → rows s rs ≡ some (refuse n s)
first_rows s [] n f = absurd f
first_rows s (r ∷ rs) n f = ⊎_elim (λ c. rw c.0 (ap (λ (m : ℕ). some (refuse m s)) c.1)) (λ c. rw c.0 (first_rows s rs n c.1)) f

-- ---- rows with their slots

-- the first that holds, as a reply
abbrev pub first_row : List SlotRow → Reply
first_row [] = none
first_row (r ∷ rs) = cond r.holds (some (refuse r.number r.slot)) (first_row rs)

-- one row, and then what is refused after it
pub row_else : (n s : ℕ) (t : Bool) (q : Reply) → row n s t else q ≡ cond t (some (refuse n s)) q
row_else n s true q = refl
row_else n s false q = refl

-- it is the refusal of a row that holds and has none before it, and only such a one
pub row_first : (rs : List SlotRow) (r : Refusal) → first_row rs ≡ some r → FirstSlotRow r rs
row_first [] r e = absurd (some-ne-none r (sym e))
row_first (x ∷ rs) r e = by x.holds refl e (row_first rs r)
  where
    by : (t : Bool) → x.holds ≡ t → cond t (some (refuse x.number x.slot)) (first_row rs) ≡ some r
        → (first_row rs ≡ some r → FirstSlotRow r rs) → FirstSlotRow r (x ∷ rs)
    by true q w k = let z : ◌≡◌ {A = Refusal} (refuse x.number x.slot) r = cc in inl (q, z)
    by false q w k = inr (q, k w)

pub first-row : (rs : List SlotRow) (r : Refusal) → FirstSlotRow r rs → first_row rs ≡ some r
first-row [] r f = absurd f
first-row (x ∷ rs) r f = ⊎_elim (λ a. rw a.0 (ap some a.1)) (λ a. rw a.0 (first-row rs r a.1)) f

pub first-same : (rs : List SlotRow) (x y : Refusal) → FirstSlotRow x rs → FirstSlotRow y rs → x ≡ y
first-same rs x y p q = some-injective x y (sym (first-row rs x p) ∙ first-row rs y q)

pub first-none : (rs : List SlotRow) (x : Refusal) → FirstSlotRow x rs → NoRow rs → ⊥
first-none [] x p q = p
first-none (r ∷ rs) x p q = ⊎_elim (λ a. true≢false (sym a.0 ∙ q.0)) (λ a. first-none rs x a.1 q.1) p

-- ---- scans

module _ {A : Type 0} where
  -- as a loop meets them: n left, from i
  pub scan_end : (n i : ℕ) (f : ℕ → Option A) → n ≡ 0 → scan_from n i f ≡ none
  unfolding scan_from
  scan_end n i f e = rw e

  pub scan_skip : (n i : ℕ) (f : ℕ → Option A) → i < n → f i ≡ none → scan_from (n - i) i f ≡ scan_from (n - (i + 1)) (i + 1) f
  unfolding scan_from
  scan_skip n i f h e =
      let s : n - i ≡ suc (n - (i + 1)) = omega arith in
      rw (s, e, add-one)

  pub scan_stop : (n i : ℕ) (f : ℕ → Option A) (a : A) → i < n → f i ≡ some a → scan_from (n - i) i f ≡ some a
  unfolding scan_from
  scan_stop n i f a h e =
      let s : n - i ≡ suc (n - (i + 1)) = omega arith in
      rw (s, e)

  pub scan_start : (n : ℕ) (f : ℕ → Option A) → scan n f ≡ scan_from (n - 0) 0 f
  unfolding scan
  scan_start n f = ap (λ (m : ℕ). scan_from m 0 f) (omega arith)

  scan_from-none : (n i : ℕ) (f : ℕ → Option A) → scan_from n i f ≡ none → (j : ℕ) → i ≤ j → j < i + n → f j ≡ none
  unfolding scan_from
  scan_from-none zero i f e j h k = absurd (omega arith)
  scan_from-none (suc n) i f e j h k =
      let c = else_none (f i) (scan_from n (suc i) f) e in
      ⊎_elim (λ q. subst (λ (m : ℕ). f m ≡ none) q c.0) (λ q. scan_from-none n (suc i) f c.1 j q (omega arith)) (eq-or-lt_of_le h)

  pub none-scan_from : (n i : ℕ) (f : ℕ → Option A) → ((j : ℕ) → i ≤ j → j < i + n → f j ≡ none) → scan_from n i f ≡ none
  unfolding scan_from
  none-scan_from zero i f h = refl
  none-scan_from (suc n) i f h = rw (h i (omega arith) (omega arith)) (none-scan_from n (suc i) f (λ j l k. h j (omega arith) (omega arith)))

  pub scan-none : (n : ℕ) (f : ℕ → Option A) → scan n f ≡ none → (j : ℕ) → j < n → f j ≡ none
  unfolding scan
  scan-none n f e j h = scan_from-none n 0 f e j (omega arith) (omega arith)

  pub none-scan : (n : ℕ) (f : ℕ → Option A) → ((j : ℕ) → j < n → f j ≡ none) → scan n f ≡ none
  unfolding scan
  none-scan n f h = none-scan_from n 0 f (λ j l k. h j (omega arith))

  -- two that agree below n
  scan_from_cong : (n i : ℕ) (f g : ℕ → Option A) → ((j : ℕ) → j < i + n → f j ≡ g j) → scan_from n i f ≡ scan_from n i g
  unfolding scan_from
  scan_from_cong zero i f g h = refl
  scan_from_cong (suc n) i f g h = rw (h i (omega arith), scan_from_cong n (suc i) f g (λ j k. h j (omega arith)))

  pub scan_cong : (n : ℕ) (f g : ℕ → Option A) → ((j : ℕ) → j < n → f j ≡ g j) → scan n f ≡ scan n g
  unfolding scan
  scan_cong n f g h = scan_from_cong n 0 f g (λ j k. h j (omega arith))

  -- an answer is the first number's that has one
  go_first : (n i : ℕ) (f : ℕ → Option A) (a : A) → ((k : ℕ) → k < i → f k ≡ none) → scan_from n i f ≡ some a → FirstAt (i + n) f a
  unfolding scan_from
  go_first zero i f a b e = absurd (some-ne-none a (sym e))
  go_first (suc n) i f a b e = by (f i) refl e (go_first n (suc i) f a)
    where
      more : f i ≡ none → (k : ℕ) → k < suc i → f k ≡ none
      more q k h = ⊎_elim (λ w. subst (λ (m : ℕ). f m ≡ none) (sym w) q) (λ w. b k w) (eq-or-lt_of_le (omega arith))

      by : (o : Option A) → f i ≡ o → o else scan_from n (suc i) f ≡ some a
          → (((k : ℕ) → k < suc i → f k ≡ none) → scan_from n (suc i) f ≡ some a → FirstAt (suc i + n) f a) → FirstAt (i + suc n) f a
      by none q w k = let r = k (more q) w in record { at = r.at; below = omega (arith, r.below); before = r.before; here = r.here }
      by (some x) q w k = record { at = i; below = omega arith; before = b; here = q ∙ w }

  pub scan-first : (n : ℕ) (f : ℕ → Option A) (a : A) → scan n f ≡ some a → FirstAt n f a
  unfolding scan
  scan-first n f a e =
      let r = go_first n 0 f a (λ k h. absurd (omega arith)) e in
      record { at = r.at; below = omega (arith, r.below); before = r.before; here = r.here }

  pub first-scan : (n : ℕ) (f : ℕ → Option A) (a : A) → FirstAt n f a → scan n f ≡ some a
  unfolding scan scan_from
  first-scan n f a w = go n 0 (omega arith) (omega (arith, w.below))
    where
      go : (m i : ℕ) → i ≤ w.at → w.at < i + m → scan_from m i f ≡ some a
      go zero i p q = absurd (omega arith)
      go (suc m) i p q =
          ⊎_elim (λ e. let z : f i ≡ some a = ap f e ∙ w.here in rw z) (λ l. rw (w.before i l) (go m (suc i) l (omega arith))) (eq-or-lt_of_le p)
