-- Going up from a directory: where it leads, and that it comes back within as many steps as there are directories.
use Prim.Native.Nat.{ℕ, zero, suc, ◌+◌, ◌-◌, ◌≤◌, ◌<◌}
use mathlib.Core.Path.{◌≡◌, refl, sym, ap, ap₂, ◌∙◌, subst}
use mathlib.Core.Bool.{Bool, true, false, cond, ◌&&◌, true≢false}
use mathlib.Core.List.{List, [], ◌∷◌}
use mathlib.Core.Logic.{◌⊎◌, inl, inr, ⊎_elim}
use mathlib.Core.Option.{Option, none, some, some-ne-none}
use native.Mathlib.Nat.{eq-or-lt_of_le, le_of_suc-le-suc, add-zero, add-suc}
use native.Mathlib.Omega.{arith}
use borrow.Author.Tests.{eqb-true, eqb-false, eq-eqb, ne_eqb}
use lib.Dec.{eqb}
use lib.ListN.{length}
use Rattle.buffers.specs.Bytes.{tab, count, any}
use Rattle.buffers.specs.Sums.{times}
use Rattle.buffers.proofs.Tests.{and_both}
use Rattle.buffers.proofs.Lists.{length-tab, below_or_not}
use Rattle.buffers.proofs.Counts.{any_some, some-any}
use Rattle.buffers.proofs.Sums.{few, twice, times-found, Pair}
use Rattle.slots.specs.Slot.{is_directory, code_of, parent_of}
use Rattle.directory.specs.Places.{slots}
use Rattle.directory.specs.Directory.{fold_option, Directory}
use Rattle.trees.specs.Tree.{coded, directories, parent_code_among, parent_code, ancestor_code, in_cycle}
use Rattle.trees.specs.Beneath.{LiveSlot, DirectorySlot, Beneath, direct, deeper}

-- ---- a directory by its code

-- the directory in slot at has the code c
pub record Coded (v : Directory) (c : ℕ) : Type 0 where
  pub at : ℕ
  pub bytes : List ℕ
  pub is-directory : DirectorySlot v at bytes
  pub code : code_of bytes ≡ c

pub coded-is : (c : ℕ) (s : List ℕ) → coded c s ≡ true → (is_directory s ≡ true) × (code_of s ≡ c)
unfolding coded
coded-is c s e = let p = and_both (is_directory s) (eqb (code_of s) c) e in (p.0, eqb-true (code_of s) c p.1)

pub is-coded : (c : ℕ) (s : List ℕ) → is_directory s ≡ true → code_of s ≡ c → coded c s ≡ true
unfolding coded
is-coded c s p q = rw p (eq-eqb (code_of s) c q)

-- two live slots of one number have the same bytes
pub same_bytes_lem : {v : Directory} {i : ℕ} {s t : List ℕ} → LiveSlot v i s → LiveSlot v i t → s ≡ t
same_bytes_lem {v} {i} {s} {t} p q = let a : v i ≡ some s = p.here in let b : v i ≡ some t = q.here in cc

-- going up from a code leads to other than 0 only from a directory
pub up_from : (v : Directory) (k c : ℕ) → k ≤ slots → (parent_code_among v k c ≡ 0 → ⊥) → Coded v c
unfolding parent_code_among
up_from v zero c h n = absurd (n refl)
up_from v (suc k) c h n = by (v k) refl n (up_from v k c (omega arith))
  where
    at : (s : List ℕ) (t : Bool) → v k ≡ some s → coded c s ≡ t → (cond t (parent_of s) (parent_code_among v k c) ≡ 0 → ⊥) → ((parent_code_among v k c ≡ 0 → ⊥) → Coded v c) → Coded v c
    at s true p q m r =
        let w = coded-is c s q in
        record { at = k; bytes = s; is-directory = record { live = record { below = omega arith; here = p }; is-directory = w.0 }; code = w.1 }
    at s false p q m r = r m

    by : (o : Option (List ℕ)) → v k ≡ o → (fold_option (parent_code_among v k c) (λ s. cond (coded c s) (parent_of s) (parent_code_among v k c)) o ≡ 0 → ⊥)
        → ((parent_code_among v k c ≡ 0 → ⊥) → Coded v c) → Coded v c
    by none p m r = r m
    by (some s) p m r = at s (coded c s) p refl m r

-- ---- where every directory has a code of its own

pub record OwnCodes (v : Directory) : Type 0 where
  pub own : (i : ℕ) (s : List ℕ) → DirectorySlot v i s → code_of s ≡ 0 → ⊥
  pub unlike : (i j : ℕ) (s t : List ℕ) → DirectorySlot v i s → DirectorySlot v j t → j < i → code_of t ≡ code_of s → ⊥

module _ (v : Directory) (a : OwnCodes v) where
  -- one directory has the code
  pub one_home : (i j : ℕ) (s t : List ℕ) → DirectorySlot v i s → DirectorySlot v j t → code_of s ≡ code_of t → i ≡ j
  one_home i j s t p q e =
      ⊎_elim (λ (h : i < j). absurd (a.unlike j i t s q p h e))
      (λ (h : j ≤ i). ⊎_elim (λ w. sym w) (λ w. absurd (a.unlike i j s t p q w (sym e))) (eq-or-lt_of_le h)) (below_or_not i j)

  -- a directory's byte 254 is where going up from its code leads
  up_among : (k i : ℕ) (s : List ℕ) → k ≤ slots → i < k → DirectorySlot v i s → parent_code_among v k (code_of s) ≡ parent_of s
  unfolding parent_code_among
  up_among zero i s h l f = absurd (omega arith)
  up_among (suc k) i s h l f =
      ⊎_elim (λ (e : i ≡ k). let z : v k ≡ some s = ap v (sym e) ∙ f.live.here in rw (z, is-coded (code_of s) s f.is-directory refl))
      (λ (q : i < k). by q (v k) refl (up_among k i s (omega arith) q f)) (eq-or-lt_of_le (le_of_suc-le-suc l))
    where
      at : i < k → (t : List ℕ) (b : Bool) → v k ≡ some t → coded (code_of s) t ≡ b → parent_code_among v k (code_of s) ≡ parent_of s → cond b (parent_of t) (parent_code_among v k (code_of s)) ≡ parent_of s
      at q t true p w e =
          let c = coded-is (code_of s) t w in
          absurd (a.unlike k i t s (record { live = record { below = omega arith; here = p }; is-directory = c.0 }) f q (sym c.1))
      at q t false p w e = e

      by : i < k → (o : Option (List ℕ)) → v k ≡ o → parent_code_among v k (code_of s) ≡ parent_of s
          → fold_option (parent_code_among v k (code_of s)) (λ t. cond (coded (code_of s) t) (parent_of t) (parent_code_among v k (code_of s))) o ≡ parent_of s
      by q none p e = e
      by q (some t) p e = at q t (coded (code_of s) t) p refl e

  pub up_of : (i : ℕ) (s : List ℕ) → DirectorySlot v i s → parent_code v (code_of s) ≡ parent_of s
  up_of i s f = up_among slots i s (omega arith) f.live.below f

  -- going up from the root stays there
  pub up_root : parent_code v 0 ≡ 0
  up_root = by (parent_code v 0) refl
    where
      by : (n : ℕ) → parent_code v 0 ≡ n → n ≡ 0
      by zero e = refl
      by (suc n) e = let w = up_from v slots 0 (omega arith) (λ q. absurd (omega arith)) in absurd (a.own w.at w.bytes w.is-directory w.code)

  pub root_by : (n : ℕ) → ancestor_code v n 0 ≡ 0
  unfolding ancestor_code
  root_by zero = refl
  root_by (suc n) = ap (parent_code v) (root_by n) ∙ up_root

  pub by_front : (n c : ℕ) → ancestor_code v (suc n) c ≡ ancestor_code v n (parent_code v c)
  unfolding ancestor_code
  by_front zero c = refl
  by_front (suc n) c = ap (parent_code v) (by_front n c)

  pub by_add : (m n c : ℕ) → ancestor_code v (m + n) c ≡ ancestor_code v m (ancestor_code v n c)
  unfolding ancestor_code
  by_add m zero c = rw add-zero
  by_add m (suc n) c = rw add-suc (ap (parent_code v) (by_add m n c) ∙ front m (ancestor_code v n c))
    where
      front : (m c : ℕ) → parent_code v (ancestor_code v m c) ≡ ancestor_code v m (parent_code v c)
      front m c = by_front m c

  -- once at the root, at the root
  pub by_later : (m n c : ℕ) → m ≤ n → ancestor_code v m c ≡ 0 → ancestor_code v n c ≡ 0
  by_later m n c h e =
      let z : (n - m) + m ≡ n = omega arith in
      ap (λ (k : ℕ). ancestor_code v k c) (sym z) ∙ by_add (n - m) m c ∙ ap (ancestor_code v (n - m)) e ∙ root_by (n - m)

  -- ---- more steps than directories

  -- codes of directories, one more than there are directories: two are the same
  pub repeats : (m : ℕ) (f : ℕ → ℕ) → directories v < m → ((k : ℕ) → k < m → Coded v (f k)) → Pair m f
  unfolding directories
  repeats m f h c =
      ⊎_elim (λ p. p)
      (λ once. absurd (omega (arith, length-tab m f, few slots (λ i. fold_option false is_directory (v i)) (λ i. fold_option 0 code_of (v i)) (tab m f) home once))) (twice m f)
    where
      home : (x : ℕ) → 1 ≤ times x (tab m f) → (i : ℕ) × (i < slots) × (fold_option false is_directory (v i) ≡ true) × (fold_option 0 code_of (v i) ≡ x)
      home x l =
          let w = times-found x m f l in
          let g = c w.0 w.1 in
          let e : v g.at ≡ some g.bytes = g.is-directory.live.here in
          (g.at, g.is-directory.live.below, ap (fold_option false is_directory) e ∙ g.is-directory.is-directory, ap (fold_option 0 code_of) e ∙ g.code ∙ w.2)

  -- ---- beneath, by going up

  -- going up from a slot that lies beneath c leads to c
  pub under_up : (c : ℕ) {i : ℕ} → Beneath v c i → (s : List ℕ) → LiveSlot v i s → (n : ℕ) × (ancestor_code v n (parent_of s) ≡ c)
  unfolding ancestor_code
  under_up c (direct l e) s m = (0, ap parent_of (same_bytes_lem m l) ∙ e)
  under_up c (deeper {t = t} u f l e) s m =
      let w = under_up c u t f.live in
      let z : parent_code v (parent_of s) ≡ parent_of t = ap (parent_code v) (ap parent_of (same_bytes_lem m l) ∙ e) ∙ up_of _ t f in
      (suc w.0, by_front w.0 (parent_of s) ∙ ap (ancestor_code v w.0) z ∙ w.1)

  -- and the other way, where c is not the root
  pub up_under : (c : ℕ) → (c ≡ 0 → ⊥) → (n i : ℕ) (s : List ℕ) → LiveSlot v i s → ancestor_code v n (parent_of s) ≡ c → Beneath v c i
  unfolding ancestor_code
  up_under c h zero i s l e = direct l e
  up_under c h (suc n) i s l e =
      let b : ancestor_code v n (parent_code v (parent_of s)) ≡ c = sym (by_front n (parent_of s)) ∙ e in
      let w = up_from v slots (parent_of s) (omega arith) (λ q. h (sym b ∙ ap (ancestor_code v n) q ∙ root_by n)) in
      let z : parent_code v (parent_of s) ≡ parent_of w.bytes = ap (parent_code v) (sym w.code) ∙ up_of w.at w.bytes w.is-directory in
      deeper (up_under c h n w.at w.bytes w.is-directory.live (ap (ancestor_code v n) (sym z) ∙ b)) w.is-directory l (sym w.code)

  -- ---- inside itself

  -- coming back after any number of steps
  come_back : (c n : ℕ) → (c ≡ 0 → ⊥) → ancestor_code v (suc n) c ≡ c → in_cycle v c ≡ true
  unfolding in_cycle ancestor_code
  come_back c n h e = ⊎_elim (λ (l : n < directories v). any_some (directories v) _ n l (eq-eqb (ancestor_code v (suc n) c) c e)) (λ (l : directories v ≤ n). late l) (below_or_not n (directories v))
    where
      -- every step before it is a directory
      passed : (k : ℕ) → k < suc n → Coded v (ancestor_code v k c)
      passed k l = up_from v slots (ancestor_code v k c) (omega arith) (λ q. h (sym e ∙ by_later (suc k) (suc n) c (omega arith) q))

      late : directories v ≤ n → any (directories v) (λ m. eqb (ancestor_code v (suc m) c) c) ≡ true
      late l =
          let p = repeats (suc (directories v)) (λ k. ancestor_code v k c) (omega arith) (λ k q. passed k (omega arith)) in
          -- low + (suc n - low) steps come back, and so do high + (suc n - low), which are (high - low) + suc n
          let r : ℕ = suc n - p.low in
          let a1 : r + p.low ≡ suc n = omega (arith, p.rising, p.bounded) in
          let a2 : r + p.high ≡ (p.high - p.low) + suc n = omega (arith, p.rising, p.bounded) in
          let b1 : ancestor_code v (r + p.high) c ≡ c =
          by_add r p.high c ∙ ap (ancestor_code v r) (sym p.same) ∙ sym (by_add r p.low c) ∙ ap (λ (k : ℕ). ancestor_code v k c) a1 ∙ e in
          let b2 : ancestor_code v (p.high - p.low) c ≡ c =
          sym (ap (λ (k : ℕ). ancestor_code v k c) a2 ∙ by_add (p.high - p.low) (suc n) c ∙ ap (ancestor_code v (p.high - p.low)) e) ∙ b1 in
          let a3 : suc (p.high - p.low - 1) ≡ p.high - p.low = omega (arith, p.rising) in
          any_some (directories v) _ (p.high - p.low - 1) (omega (arith, p.rising, p.bounded))
          (eq-eqb _ c (ap (λ (k : ℕ). ancestor_code v k c) a3 ∙ b2))

  -- a directory that lies beneath itself is one that going up comes back to
  pub under_itself : (i : ℕ) (s : List ℕ) → DirectorySlot v i s → Beneath v (code_of s) i → in_cycle v (code_of s) ≡ true
  under_itself i s f u =
      let w = under_up (code_of s) u s f.live in
      come_back (code_of s) w.0 (a.own i s f) (by_front w.0 (code_of s) ∙ ap (ancestor_code v w.0) (up_of i s f) ∙ w.1)

  pub itself_under : (i : ℕ) (s : List ℕ) → DirectorySlot v i s → in_cycle v (code_of s) ≡ true → Beneath v (code_of s) i
  unfolding in_cycle
  itself_under i s f e =
      let w = some-any (directories v) _ e in
      up_under (code_of s) (a.own i s f) w.0 i s f.live
      (ap (ancestor_code v w.0) (sym (up_of i s f)) ∙ sym (by_front w.0 (code_of s)) ∙ eqb-true _ _ w.2)
