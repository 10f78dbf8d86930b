-- As many directories to enter as there are is enough: a directory is directly followed by all that lies beneath it.
use Prim.Native.Nat.{ℕ, zero, suc, ◌+◌, ◌-◌, ◌≤◌, ◌<◌}
use mathlib.Core.Path.{◌≡◌, refl, sym, ap, ap₂, ◌∙◌}
use mathlib.Core.Bool.{Bool, true, false, cond}
use mathlib.Core.List.{List, [], ◌∷◌, ◌++◌}
use mathlib.Core.Logic.{⊎_elim}
use mathlib.Core.Option.{Option, none, some}
use native.Mathlib.Omega.{arith}
use borrow.Author.Tests.{eqb-true}
use lib.Dec.{eqb}
use Rattle.buffers.specs.Sums.{concat}
use Rattle.slots.specs.Slot.{is_directory, code_of, parent_of}
use Rattle.directory.specs.Places.{slots}
use Rattle.directory.specs.Directory.{fold_option, Directory}
use Rattle.trees.specs.Tree.{directories, parent_code, ancestor_code, level_at, level, inside, beneath, tree}
use Rattle.trees.specs.Beneath.{LiveSlot, DirectorySlot, Beneath, WellNested}
use Rattle.trees.proofs.Up.{Coded, OwnCodes, up_of, root_by, by_front, by_add, by_later, repeats, itself_under, up_under}

gather_cong : (n : ℕ) (f g : ℕ → List ℕ) → ((k : ℕ) → k < n → f k ≡ g k) → concat n f ≡ concat n g
unfolding concat
gather_cong zero f g h = refl
gather_cong (suc n) f g h = ap₂ ◌++◌ (gather_cong n f g (λ k l. h k (omega arith))) (h n (omega arith))

-- a level goes by what lies beneath the slots in it
pub level_cong : (v : Directory) (c : ℕ) (f g : List ℕ → List ℕ) → ((k : ℕ) (s : List ℕ) → LiveSlot v k s → parent_of s ≡ c → f s ≡ g s) → level v c f ≡ level v c g
unfolding level level_at
level_cong v c f g h = gather_cong slots _ _ (λ k l. at k l (v k) refl)
  where
    in_c : (k : ℕ) (s : List ℕ) (t : Bool) → LiveSlot v k s → eqb (parent_of s) c ≡ t → cond t (suc k ∷ f s) [] ≡ cond t (suc k ∷ g s) []
    in_c k s true l e = ap (λ (x : List ℕ). suc k ∷ x) (h k s l (eqb-true (parent_of s) c e))
    in_c k s false l e = refl

    at : (k : ℕ) → k < slots → (o : Option (List ℕ)) → v k ≡ o → fold_option [] (λ s. cond (eqb (parent_of s) c) (suc k ∷ f s) []) o ≡ fold_option [] (λ s. cond (eqb (parent_of s) c) (suc k ∷ g s) []) o
    at k l none q = refl
    at k l (some s) q = in_c k s (eqb (parent_of s) c) (record { below = l; here = q }) refl

module _ (v : Directory) (n : WellNested v) where
  pub own_codes : OwnCodes v
  own_codes = record { own = n.own; unlike = n.unlike }

  -- going up from a directory reaches the root in as many steps as there are directories
  pub to_root : (i : ℕ) (s : List ℕ) → DirectorySlot v i s → ancestor_code v (directories v) (code_of s) ≡ 0
  unfolding ancestor_code
  to_root i s f = by (ancestor_code v (directories v) (code_of s)) refl
    where
      a : OwnCodes v
      a = own_codes

      -- where it does not, every step so far is a directory
      step : (k : ℕ) → (ancestor_code v k (code_of s) ≡ 0 → ⊥) → Coded v (ancestor_code v k (code_of s))
      step zero h = record { at = i; bytes = s; is-directory = f; code = refl }
      step (suc k) h =
          let p = step k (λ q. h (by_later v a k (suc k) (code_of s) (omega arith) q)) in
          let z : parent_code v (ancestor_code v k (code_of s)) ≡ parent_of p.bytes = ap (parent_code v) (sym p.code) ∙ up_of v a p.at p.bytes p.is-directory in
          let w = n.placed p.at p.bytes p.is-directory.live (λ q. h (z ∙ q)) in
          record { at = w.0; bytes = w.1; is-directory = w.2; code = w.3 ∙ sym z }

      -- a directory met again lies beneath itself
      back : {A : Type 0} (x y : ℕ) → x < y → ancestor_code v x (code_of s) ≡ ancestor_code v y (code_of s) → Coded v (ancestor_code v x (code_of s)) → A
      back x y h q w =
          let g : (y - x - 1) + suc x ≡ y = omega arith in
          let r : ancestor_code v (y - x - 1) (parent_of w.bytes) ≡ code_of w.bytes =
          ap (ancestor_code v (y - x - 1)) (sym (up_of v a w.at w.bytes w.is-directory) ∙ ap (parent_code v) w.code) ∙ sym (by_add v a (y - x - 1) (suc x) (code_of s))
          ∙ ap (λ (k : ℕ). ancestor_code v k (code_of s)) g ∙ sym q ∙ sym w.code in
          absurd (n.apart w.at w.bytes w.is-directory (up_under v a (code_of w.bytes) (n.own w.at w.bytes w.is-directory) (y - x - 1) w.at w.bytes w.is-directory.live r))

      by : (m : ℕ) → ancestor_code v (directories v) (code_of s) ≡ m → m ≡ 0
      by zero e = refl
      by (suc m) e =
          let far : ancestor_code v (directories v) (code_of s) ≡ 0 → ⊥ = λ q. omega arith in
          let p = repeats v a (suc (directories v)) (λ k. ancestor_code v k (code_of s)) (omega arith)
          (λ k l. step k (λ q. far (by_later v a k (directories v) (code_of s) (omega arith) q))) in
          let w = step p.low (λ q. far (by_later v a p.low (directories v) (code_of s) (omega (arith, p.rising, p.bounded)) q)) in
          back p.low p.high p.rising p.same w

  -- m directories above a slot and k to enter are enough where they are together as many as there are
  enough : (k m i : ℕ) (s : List ℕ) → directories v ≤ k + m → LiveSlot v i s → (is_directory s ≡ true → ancestor_code v m (code_of s) ≡ 0 → ⊥) → inside k v s ≡ inside (suc k) v s
  unfolding inside
  enough zero m i s h l d = by (is_directory s) refl
    where
      by : (t : Bool) → is_directory s ≡ t → [] ≡ cond t (level v (code_of s) (inside zero v)) []
      by false q = refl
      by true q =
          let f : DirectorySlot v i s = record { live = l; is-directory = q } in
          absurd (d q (by_later v own_codes (directories v) m (code_of s) (omega arith) (to_root i s f)))
  enough (suc k) m i s h l d = by (is_directory s) refl (λ j t p r. enough k (suc m) j t (omega arith) p r)
    where
      by : (b : Bool) → is_directory s ≡ b
          → ((j : ℕ) (t : List ℕ) → LiveSlot v j t → (is_directory t ≡ true → ancestor_code v (suc m) (code_of t) ≡ 0 → ⊥) → inside k v t ≡ inside (suc k) v t)
          → cond b (level v (code_of s) (inside k v)) [] ≡ cond b (level v (code_of s) (inside (suc k) v)) []
      by false q r = refl
      by true q r =
          level_cong v (code_of s) (inside k v) (inside (suc k) v)
          (λ j t p e. r j t p (λ w z.
          d q (ap (ancestor_code v m) (sym e ∙ sym (up_of v own_codes j t (record { live = p; is-directory = w }))) ∙ sym (by_front v own_codes m (code_of t)) ∙ z)))

  pub more : (i : ℕ) (s : List ℕ) → LiveSlot v i s → inside (directories v) v s ≡ inside (suc (directories v)) v s
  unfolding ancestor_code
  more i s l = enough (directories v) 0 i s (omega arith) l (λ w z. n.own i s (record { live = l; is-directory = w }) z)

  -- "a directory directly followed by all that lies beneath it"
  pub order : (c : ℕ) → tree v c ≡ level v c (λ s. cond (is_directory s) (tree v (code_of s)) [])
  unfolding beneath inside
  order c = level_cong v c _ _ (λ k s l e. more k s l)

  -- one directory more to enter changes nothing
  pub tree-more : (c : ℕ) → tree v c ≡ beneath (suc (directories v)) v c
  unfolding beneath
  tree-more c = level_cong v c _ _ (λ k s l e. more k s l)

  -- any listing in that order is this one
  pub tree-only : (f : ℕ → List ℕ) → ((c : ℕ) → f c ≡ level v c (λ s. cond (is_directory s) (f (code_of s)) [])) → (c : ℕ) → f c ≡ tree v c
  unfolding beneath ancestor_code inside
  tree-only f e c = e c ∙ level_cong v c _ _ (λ k s l q. same (directories v) 0 k s (omega arith) l (λ w z. n.own k s (record { live = l; is-directory = w }) z))
    where
      deep : (m i : ℕ) (s : List ℕ) → directories v ≤ m → LiveSlot v i s → (is_directory s ≡ true → ancestor_code v m (code_of s) ≡ 0 → ⊥) → (b : Bool) → is_directory s ≡ b → b ≡ false
      deep m i s h l d false q = refl
      deep m i s h l d true q = absurd (d q (by_later v own_codes (directories v) m (code_of s) h (to_root i s (record { live = l; is-directory = q }))))

      at : (k m : ℕ) (s : List ℕ) → (is_directory s ≡ true → ancestor_code v m (code_of s) ≡ 0 → ⊥)
          → ((j : ℕ) (t : List ℕ) → LiveSlot v j t → (is_directory t ≡ true → ancestor_code v (suc m) (code_of t) ≡ 0 → ⊥) → cond (is_directory t) (f (code_of t)) [] ≡ inside k v t)
          → (b : Bool) → is_directory s ≡ b → cond b (f (code_of s)) [] ≡ cond b (level v (code_of s) (inside k v)) []
      at k m s d r false q = refl
      at k m s d r true q =
          e (code_of s) ∙ level_cong v (code_of s) _ _ (λ j t p x. r j t p (λ w z.
          d q (ap (ancestor_code v m) (sym x ∙ sym (up_of v own_codes j t (record { live = p; is-directory = w }))) ∙ sym (by_front v own_codes m (code_of t)) ∙ z)))

      same : (k m i : ℕ) (s : List ℕ) → directories v ≤ k + m → LiveSlot v i s → (is_directory s ≡ true → ancestor_code v m (code_of s) ≡ 0 → ⊥) → cond (is_directory s) (f (code_of s)) [] ≡ inside k v s
      same zero m i s h l d = ap (λ (b : Bool). cond b (f (code_of s)) []) (deep m i s (omega arith) l d (is_directory s) refl)
      same (suc k) m i s h l d = at k m s d (λ j t p r. same k (suc m) j t (omega arith) p r) (is_directory s) refl
