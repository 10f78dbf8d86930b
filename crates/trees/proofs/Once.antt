-- What lies beneath a directory is listed once, and nothing else is. A slot is listed where it lies in the directory, and once
-- more wherever the directory that it lies in is listed.
use Prim.Native.Nat.{ℕ, zero, suc, ◌+◌, ◌-◌, ◌≤◌, ◌<◌}
use mathlib.Core.Path.{◌≡◌, refl, sym, ap, ap₂, ◌∙◌}
use mathlib.Core.Bool.{Bool, true, false, cond, ◌&&◌, true≢false}
use mathlib.Core.List.{List, [], ◌∷◌, ◌++◌}
use mathlib.Core.Logic.{⊎_elim}
use mathlib.Core.Option.{Option, none, some, some-ne-none}
use native.Mathlib.Omega.{arith}
use borrow.Author.Tests.{eqb-true, eqb-false, eq-eqb, ne_eqb}
use lib.Dec.{eqb}
use lib.ListN.{length}
use Rattle.buffers.specs.Bytes.{count}
use Rattle.buffers.specs.Sums.{concat, times, sum}
use Rattle.buffers.proofs.Lists.{below_or_not}
use Rattle.buffers.proofs.Counts.{count_le}
use Rattle.buffers.proofs.Sums.{sum_cong, sum-plus, sum-none, sum_one, times-gather, times-same, few}
use Rattle.slots.specs.Slot.{is_directory, code_of, parent_of}
use Rattle.directory.specs.Places.{slots}
use Rattle.directory.specs.Directory.{fold_option, Directory}
use Rattle.trees.specs.Tree.{coded, directories, parent_code, ancestor_code, level_at, level, inside, beneath, tree}
use Rattle.trees.specs.Beneath.{LiveSlot, DirectorySlot, Beneath, direct, deeper, WellNested, ListsEachOnce}
use Rattle.trees.proofs.Up.{OwnCodes, coded-is, is-coded, same_bytes_lem, one_home, up_of, by_front, root_by}
use Rattle.trees.proofs.Enough.{own_codes, to_root, tree-more}

eqb_swap : (a b : ℕ) → eqb a b ≡ eqb b a
eqb_swap a b = by (eqb b a) refl
  where
    by : (t : Bool) → eqb b a ≡ t → eqb a b ≡ t
    by true e = eq-eqb a b (sym (eqb-true b a e))
    by false e = ne_eqb a b (λ q. eqb-false b a e (sym q))

-- ---- a sum over the slots in a directory

abbrev part : ℕ → (List ℕ → ℕ) → Option (List ℕ) → ℕ
part c g o = fold_option 0 (λ t. cond (eqb (parent_of t) c) (g t) 0) o

unfoldable among : Directory → ℕ → (List ℕ → ℕ) → ℕ
among v c g = sum slots (λ k. part c g (v k))

module _ (v : Directory) where
  among_cong : (c : ℕ) (g h : List ℕ → ℕ) → ((k : ℕ) (t : List ℕ) → LiveSlot v k t → g t ≡ h t) → among v c g ≡ among v c h
  unfolding among
  among_cong c g h e = sum_cong slots _ _ (λ k l. at k l (v k) refl)
    where
      at : (k : ℕ) → k < slots → (o : Option (List ℕ)) → v k ≡ o → part c g o ≡ part c h o
      at k l none q = refl
      at k l (some t) q = ap (λ (x : ℕ). cond (eqb (parent_of t) c) x 0) (e k t (record { below = l; here = q }))

  among_add : (c : ℕ) (g h : List ℕ → ℕ) → among v c (λ t. g t + h t) ≡ among v c g + among v c h
  unfolding among
  among_add c g h = sum_cong slots _ _ (λ k l. at (v k)) ∙ sum-plus slots (λ k. part c g (v k)) (λ k. part c h (v k))
    where
      in_c : (t : List ℕ) (b : Bool) → cond b (g t + h t) 0 ≡ cond b (g t) 0 + cond b (h t) 0
      in_c t true = refl
      in_c t false = refl

      at : (o : Option (List ℕ)) → part c (λ t. g t + h t) o ≡ part c g o + part c h o
      at none = refl
      at (some t) = in_c t (eqb (parent_of t) c)

  among_zero : (c : ℕ) (g : List ℕ → ℕ) → ((k : ℕ) (t : List ℕ) → LiveSlot v k t → g t ≡ 0) → among v c g ≡ 0
  unfolding among
  among_zero c g e = sum-none slots _ (λ k l. at k l (v k) refl)
    where
      in_c : (t : List ℕ) (b : Bool) → g t ≡ 0 → cond b (g t) 0 ≡ 0
      in_c t true q = q
      in_c t false q = refl

      at : (k : ℕ) → k < slots → (o : Option (List ℕ)) → v k ≡ o → part c g o ≡ 0
      at k l none q = refl
      at k l (some t) q = in_c t (eqb (parent_of t) c) (e k t (record { below = l; here = q }))

  -- ---- a level

  -- the slots in a directory whose number is x
  self : ℕ → ℕ → ℕ → ℕ
  self c x k = part c (λ t. cond (eqb x (suc k)) 1 0) (v k)

  level-parts : (c x : ℕ) (f : List ℕ → List ℕ) → times x (level v c f) ≡ sum slots (self c x) + among v c (λ t. times x (f t))
  unfolding level level_at among times self
  level-parts c x f =
      times-gather x slots (level_at v c f) ∙ sum_cong slots _ _ (λ k l. at k (v k)) ∙ sum-plus slots (self c x) (λ k. part c (λ t. times x (f t)) (v k))
    where
      in_c : (k : ℕ) (t : List ℕ) (b : Bool) → times x (cond b (suc k ∷ f t) []) ≡ cond b (cond (eqb x (suc k)) 1 0) 0 + cond b (times x (f t)) 0
      in_c k t true = refl
      in_c k t false = refl

      at : (k : ℕ) (o : Option (List ℕ)) → times x (fold_option [] (λ s. cond (eqb (parent_of s) c) (suc k ∷ f s) []) o) ≡ part c (λ t. cond (eqb x (suc k)) 1 0) o + part c (λ t. times x (f t)) o
      at k none = refl
      at k (some t) = in_c k t (eqb (parent_of t) c)

  -- a live slot's number
  level-live : (c i : ℕ) (s : List ℕ) (f : List ℕ → List ℕ) → LiveSlot v i s
      → times (suc i) (level v c f) ≡ cond (eqb (parent_of s) c) 1 0 + among v c (λ t. times (suc i) (f t))
  unfolding self
  level-live c i s f l = level-parts c (suc i) f ∙ ap (λ (x : ℕ). x + among v c (λ t. times (suc i) (f t))) (sum_one slots (self c (suc i)) i l.below other ∙ here)
    where
      off : (t : List ℕ) (b : Bool) → ◌≡◌ {A = ℕ} (cond b 0 0) 0
      off t true = refl
      off t false = refl

      at : (k : ℕ) (o : Option (List ℕ)) → (k ≡ i → ⊥) → part c (λ t. cond (eqb (suc i) (suc k)) 1 0) o ≡ 0
      at k none h = refl
      at k (some t) h = rw (ne_eqb (suc i) (suc k) (λ q. h (omega arith))) (off t (eqb (parent_of t) c))

      other : (k : ℕ) → k < slots → (k ≡ i → ⊥) → self c (suc i) k ≡ 0
      other k q h = at k (v k) h

      here : self c (suc i) i ≡ cond (eqb (parent_of s) c) 1 0
      here = rw (l.here, eq-eqb (suc i) (suc i) refl)

  -- a number of no live slot
  level-none : (c x : ℕ) (f : List ℕ → List ℕ) → ((k : ℕ) (t : List ℕ) → LiveSlot v k t → x ≡ suc k → ⊥) → times x (level v c f) ≡ among v c (λ t. times x (f t))
  unfolding self
  level-none c x f h = level-parts c x f ∙ ap (λ (y : ℕ). y + among v c (λ t. times x (f t))) (sum-none slots (self c x) (λ k l. at k l (v k) refl)) ∙ (omega arith)
    where
      off : (t : List ℕ) (b : Bool) → ◌≡◌ {A = ℕ} (cond b 0 0) 0
      off t true = refl
      off t false = refl

      at : (k : ℕ) → k < slots → (o : Option (List ℕ)) → v k ≡ o → part c (λ t. cond (eqb x (suc k)) 1 0) o ≡ 0
      at k l none q = refl
      at k l (some t) q = rw (ne_eqb x (suc k) (h k t (record { below = l; here = q }))) (off t (eqb (parent_of t) c))

  times-cond : (x : ℕ) (b : Bool) (l : List ℕ) → times x (cond b l []) ≡ cond b (times x l) 0
  unfolding times
  times-cond x true l = refl
  times-cond x false l = refl

  cond-zero : (b : Bool) (n : ℕ) → (b ≡ true → n ≡ 0) → cond b n 0 ≡ 0
  cond-zero true n h = h refl
  cond-zero false n h = refl

  -- a number of no live slot is not listed
  inside-none : (x : ℕ) → ((k : ℕ) (t : List ℕ) → LiveSlot v k t → x ≡ suc k → ⊥) → (n : ℕ) (t : List ℕ) → times x (inside n v t) ≡ 0
  unfolding inside times
  inside-none x h zero t = refl
  inside-none x h (suc n) t =
      times-cond x (is_directory t) (level v (code_of t) (inside n v))
      ∙ cond-zero (is_directory t) _ (λ q. level-none (code_of t) x (inside n v) h ∙ among_zero (code_of t) _ (λ k u l. inside-none x h n u))

  -- ---- a slot that lies in the root

  module _ (a : OwnCodes v) (i : ℕ) (s : List ℕ) (l : LiveSlot v i s) where
    root-inside : parent_of s ≡ 0 → (n k : ℕ) (t : List ℕ) → LiveSlot v k t → times (suc i) (inside n v t) ≡ 0
    unfolding inside times
    root-inside e zero k t m = refl
    root-inside e (suc n) k t m =
        times-cond (suc i) (is_directory t) (level v (code_of t) (inside n v))
        ∙ cond-zero (is_directory t) _ (λ q.
        level-live (code_of t) i s (inside n v) l
        ∙ ap₂ ◌+◌ (ap (λ (b : Bool). cond b 1 0) (ne_eqb (parent_of s) (code_of t) (λ w. a.own k t (record { live = m; is-directory = q }) (sym w ∙ e))))
        (among_zero (code_of t) _ (λ j u p. root-inside e n j u p)))

    pub in_root : parent_of s ≡ 0 → (n c : ℕ) → times (suc i) (beneath n v c) ≡ cond (eqb (parent_of s) c) 1 0
    unfolding beneath
    in_root e n c =
        level-live c i s (inside n v) l ∙ ap (λ (x : ℕ). cond (eqb (parent_of s) c) 1 0 + x) (among_zero c _ (λ j u p. root-inside e n j u p)) ∙ (omega arith)

    -- ---- a slot that lies in the directory in slot h

    module _ (h : ℕ) (u : List ℕ) (f : DirectorySlot v h u) (e : code_of u ≡ parent_of s) where
      -- that directory alone has the code
      among_coded : (c : ℕ) → among v c (λ t. cond (coded (parent_of s) t) 1 0) ≡ cond (eqb (parent_of u) c) 1 0
      unfolding among
      among_coded c = sum_one slots (λ k. part c (λ t. cond (coded (parent_of s) t) 1 0) (v k)) h f.live.below (λ k q n. at k q n (v k) refl) ∙ here
        where
          off : (t : List ℕ) (b w : Bool) → w ≡ false → ◌≡◌ {A = ℕ} (cond b (cond w 1 0) 0) 0
          off t true w q = rw q
          off t false w q = refl

          unlike : (k : ℕ) (t : List ℕ) → LiveSlot v k t → (k ≡ h → ⊥) → (w : Bool) → coded (parent_of s) t ≡ w → w ≡ false
          unlike k t m n false q = refl
          unlike k t m n true q =
              let w = coded-is (parent_of s) t q in
              absurd (n (one_home v a k h t u (record { live = m; is-directory = w.0 }) f (w.1 ∙ sym e)))

          at : (k : ℕ) → k < slots → (k ≡ h → ⊥) → (o : Option (List ℕ)) → v k ≡ o → part c (λ t. cond (coded (parent_of s) t) 1 0) o ≡ 0
          at k q n none p = refl
          at k q n (some t) p = off t (eqb (parent_of t) c) (coded (parent_of s) t) (unlike k t (record { below = q; here = p }) n (coded (parent_of s) t) refl)

          here : part c (λ t. cond (coded (parent_of s) t) 1 0) (v h) ≡ cond (eqb (parent_of u) c) 1 0
          here = rw (f.live.here, is-coded (parent_of s) u f.is-directory e)

      -- one level, where the shift is known beneath it
      one_level : (n c : ℕ) → ((t : List ℕ) → times (suc i) (inside (suc n) v t) ≡ cond (coded (parent_of s) t) 1 0 + times (suc h) (inside n v t))
          → times (suc i) (level v c (inside (suc n) v)) ≡ cond (eqb (parent_of s) c) 1 0 + times (suc h) (level v c (inside n v))
      one_level n c r =
          level-live c i s (inside (suc n) v) l
          ∙ ap (λ (x : ℕ). cond (eqb (parent_of s) c) 1 0 + x)
          (among_cong c _ _ (λ k t m. r t) ∙ among_add c (λ t. cond (coded (parent_of s) t) 1 0) (λ t. times (suc h) (inside n v t))
          ∙ ap (λ (x : ℕ). x + among v c (λ t. times (suc h) (inside n v t))) (among_coded c) ∙ sym (level-live c h u (inside n v) f.live))

      shift : (n : ℕ) (t : List ℕ) → times (suc i) (inside (suc n) v t) ≡ cond (coded (parent_of s) t) 1 0 + times (suc h) (inside n v t)
      unfolding inside times coded
      shift zero t =
          times-cond (suc i) (is_directory t) (level v (code_of t) (inside zero v))
          ∙ by (is_directory t) (level-live (code_of t) i s (inside zero v) l ∙ ap₂ ◌+◌ (ap (λ (b : Bool). cond b 1 0) (eqb_swap (parent_of s) (code_of t))) (among_zero (code_of t) _ (λ k w m. refl)))
        where
          by : (b : Bool) → times (suc i) (level v (code_of t) (inside zero v)) ≡ cond (eqb (code_of t) (parent_of s)) 1 0 + 0
              → cond b (times (suc i) (level v (code_of t) (inside zero v))) 0 ≡ cond (b && eqb (code_of t) (parent_of s)) 1 0 + 0
          by true q = q
          by false q = refl
      shift (suc n) t =
          times-cond (suc i) (is_directory t) (level v (code_of t) (inside (suc n) v))
          ∙ by (is_directory t) (one_level n (code_of t) (shift n) ∙ ap (λ (b : Bool). cond b 1 0 + times (suc h) (level v (code_of t) (inside n v))) (eqb_swap (parent_of s) (code_of t)))
          ∙ ap (λ (x : ℕ). cond (is_directory t && eqb (code_of t) (parent_of s)) 1 0 + x) (sym (times-cond (suc h) (is_directory t) (level v (code_of t) (inside n v))))
        where
          by : (b : Bool) → times (suc i) (level v (code_of t) (inside (suc n) v)) ≡ cond (eqb (code_of t) (parent_of s)) 1 0 + times (suc h) (level v (code_of t) (inside n v))
              → cond b (times (suc i) (level v (code_of t) (inside (suc n) v))) 0 ≡ cond (b && eqb (code_of t) (parent_of s)) 1 0 + cond b (times (suc h) (level v (code_of t) (inside n v))) 0
          by true q = q
          by false q = refl

      -- a slot is listed where it lies in the directory asked for, and wherever its own directory is listed
      pub in_directory_lem : (n c : ℕ) → times (suc i) (beneath (suc n) v c) ≡ cond (eqb (parent_of s) c) 1 0 + times (suc h) (beneath n v c)
      unfolding beneath
      in_directory_lem n c = one_level n c (shift n)

-- ---- the listing

module _ (v : Directory) (n : WellNested v) (c : ℕ) where
  in_tree : (i : ℕ) (s : List ℕ) → LiveSlot v i s → (h : ℕ) (u : List ℕ) → DirectorySlot v h u → code_of u ≡ parent_of s
      → times (suc i) (tree v c) ≡ cond (eqb (parent_of s) c) 1 0 + times (suc h) (tree v c)
  in_tree i s l h u f e = ap (times (suc i)) (tree-more v n c) ∙ in_directory_lem v (own_codes v n) i s l h u f e (directories v) c

  at_least : (b : Bool) (x y : ℕ) → x ≡ cond b 1 0 + y → b ≡ true → 1 ≤ x
  at_least true x y e q = omega arith
  at_least false x y e q = absurd (true≢false (sym q))

  under_listed : {i : ℕ} → Beneath v c i → 1 ≤ times (suc i) (tree v c)
  unfolding beneath
  under_listed (direct {i} {s} l e) = at_least (eqb (parent_of s) c) _ _ (level-live v c i s (inside (directories v) v) l) (eq-eqb (parent_of s) c e)
  under_listed (deeper {i} {j} {s} {t} u f l e) = omega (arith, under_listed u, in_tree i s l j t f (sym e))

  -- what is known of a slot m directories down
  record Known (i : ℕ) : Type 0 where
    under : 1 ≤ times (suc i) (tree v c) → Beneath v c i
    once : times (suc i) (tree v c) ≤ 1

  known : (m i : ℕ) (s : List ℕ) → LiveSlot v i s → ancestor_code v m (parent_of s) ≡ 0 → Known i
  unfolding ancestor_code
  known zero i s l e = top (eqb (parent_of s) c) refl (in_root v (own_codes v n) i s l e (directories v) c)
    where
      top : (b : Bool) → eqb (parent_of s) c ≡ b → times (suc i) (tree v c) ≡ cond b 1 0 → Known i
      top true q w = record { under = λ x. direct l (eqb-true (parent_of s) c q); once = omega arith }
      top false q w = record { under = λ x. absurd (omega arith); once = omega arith }
  known (suc m) i s l e = by (parent_of s) refl (λ j t p w. known m j t p w)
    where
      top : (b : Bool) → eqb (parent_of s) c ≡ b → times (suc i) (tree v c) ≡ cond b 1 0 → Known i
      top true q w = record { under = λ x. direct l (eqb-true (parent_of s) c q); once = omega arith }
      top false q w = record { under = λ x. absurd (omega arith); once = omega arith }

      none_listed : (h : ℕ) (u : List ℕ) → DirectorySlot v h u → code_of u ≡ c → Known h → (x : ℕ) → times (suc h) (tree v c) ≡ x → x ≡ 0
      none_listed h u f z k zero w = refl
      none_listed h u f z k (suc x) w = absurd (n.apart h u f (rw z (k.under (omega arith))))

      deep : (h : ℕ) (u : List ℕ) → DirectorySlot v h u → code_of u ≡ parent_of s → Known h → (b : Bool) → eqb (parent_of s) c ≡ b
          → times (suc i) (tree v c) ≡ cond b 1 0 + times (suc h) (tree v c) → Known i
      deep h u f z k true q w =
          let o : times (suc h) (tree v c) ≡ 0 = none_listed h u f (z ∙ eqb-true (parent_of s) c q) k (times (suc h) (tree v c)) refl in
          record { under = λ x. direct l (eqb-true (parent_of s) c q); once = omega arith }
      deep h u f z k false q w =
          record { under = λ (x : 1 ≤ times (suc i) (tree v c)). deeper (k.under (omega arith)) f l (sym z); once = omega (arith, k.once) }

      by : (p : ℕ) → parent_of s ≡ p → ((j : ℕ) (t : List ℕ) → LiveSlot v j t → ancestor_code v m (parent_of t) ≡ 0 → Known j) → Known i
      by zero q r = top (eqb (parent_of s) c) refl (in_root v (own_codes v n) i s l q (directories v) c)
      by (suc p) q r =
          let w = n.placed i s l (λ z. omega arith) in
          let z : parent_code v (parent_of s) ≡ parent_of w.1 = ap (parent_code v) (sym w.3) ∙ up_of v (own_codes v n) w.0 w.1 w.2 in
          let k = r w.0 w.1 w.2.live (ap (ancestor_code v m) (sym z) ∙ sym (by_front v (own_codes v n) m (parent_of s)) ∙ e) in
          deep w.0 w.1 w.2 w.3 k (eqb (parent_of s) c) refl (in_tree i s l w.0 w.1 w.2 w.3)

  known-live : (i : ℕ) (s : List ℕ) → LiveSlot v i s → Known i
  known-live i s l = known (directories v) i s l (by (parent_of s) refl)
    where
      by : (p : ℕ) → parent_of s ≡ p → ancestor_code v (directories v) (parent_of s) ≡ 0
      by zero q = ap (ancestor_code v (directories v)) q ∙ root_by v (own_codes v n) (directories v)
      by (suc p) q = let w = n.placed i s l (λ z. omega arith) in ap (ancestor_code v (directories v)) (sym w.3) ∙ to_root v n w.0 w.1 w.2

  under_live : {i : ℕ} → Beneath v c i → (s : List ℕ) × LiveSlot v i s
  under_live (direct {i} {s} l e) = (s, l)
  under_live (deeper {i} {j} {s} {t} u f l e) = (s, l)

  -- a number that is listed is that of a live slot
  listed_live : (x : ℕ) → 1 ≤ times x (tree v c) → (i : ℕ) × (s : List ℕ) × LiveSlot v i s × (x ≡ suc i)
  unfolding beneath
  listed_live zero h = absurd (omega (arith, level-none v c zero (inside (directories v) v) (λ k t l q. omega arith), among_zero v c _ (λ k t l. inside-none v zero (λ k t l q. omega arith) (directories v) t)))
  listed_live (suc i) h = ⊎_elim (λ (l : i < slots). at l (v i) refl) (λ (l : slots ≤ i). out (λ k t m q. omega (arith, m.below))) (below_or_not i slots)
    where
      out : ((k : ℕ) (t : List ℕ) → LiveSlot v k t → suc i ≡ suc k → ⊥) → (j : ℕ) × (s : List ℕ) × LiveSlot v j s × (suc i ≡ suc j)
      out g = absurd (omega (arith, level-none v c (suc i) (inside (directories v) v) g, among_zero v c _ (λ k t l. inside-none v (suc i) g (directories v) t)))

      at : i < slots → (o : Option (List ℕ)) → v i ≡ o → (j : ℕ) × (s : List ℕ) × LiveSlot v j s × (suc i ≡ suc j)
      at l none q = out (λ k t m w. let z : k ≡ i = omega arith in some-ne-none t (sym m.here ∙ ap v z ∙ q))
      at l (some s) q = (i, s, record { below = l; here = q }, refl)

  tree-once : (x : ℕ) → times x (tree v c) ≤ 1
  tree-once x = by (times x (tree v c)) refl
    where
      by : (m : ℕ) → times x (tree v c) ≡ m → m ≤ 1
      by zero e = omega arith
      by (suc m) e =
          let w = listed_live x (omega arith) in
          let k : times (suc w.0) (tree v c) ≤ 1 = (known-live w.0 w.1 w.2).once in
          omega (arith, ap (λ (y : ℕ). times y (tree v c)) w.3)

  -- each slot that lies beneath is listed once, and no other number is
  pub tree-holds : ListsEachOnce v c (tree v c)
  tree-holds = record { each-once = λ i u. omega (arith, tree-once (suc i), under_listed u); no_other = λ x h. other x h (times x (tree v c)) refl }
    where
      other : (x : ℕ) → ((i : ℕ) → x ≡ suc i → Beneath v c i → ⊥) → (m : ℕ) → times x (tree v c) ≡ m → m ≡ 0
      other x h zero e = refl
      other x h (suc m) e =
          let w = listed_live x (omega arith) in
          let q : times (suc w.0) (tree v c) ≡ suc m = ap (λ (y : ℕ). times y (tree v c)) (sym w.3) ∙ e in
          absurd (h w.0 w.3 ((known-live w.0 w.1 w.2).under (omega arith)))

  -- no more than there are slots
  pub tree-short : length (tree v c) ≤ slots
  tree-short =
      omega (arith, few slots (λ i. true) suc (tree v c) (λ x h. let w = listed_live x h in (w.0, w.2.below, refl, sym w.3)) tree-once, count_le slots (λ i. true))
