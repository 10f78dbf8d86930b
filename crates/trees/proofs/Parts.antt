-- The order of the listing: of two slots in one directory the lower stands first, and a directory is directly followed by all that
-- lies beneath it. And parents lead from every live slot to the root.
use Prim.Native.Nat.{ℕ, zero, suc, ◌+◌, ◌-◌, ◌<◌}
use mathlib.Core.Path.{◌≡◌, refl, sym, ap, ap₂, ◌∙◌}
use mathlib.Core.Bool.{cond}
use mathlib.Core.List.{List, [], ◌∷◌, ◌++◌, append_assoc}
use mathlib.Core.Option.{some}
use native.Mathlib.Omega.{arith}
use borrow.Author.Tests.{eq-eqb}
use Rattle.buffers.specs.Sums.{concat}
use Rattle.buffers.proofs.Sums.{gather-at}
use Rattle.slots.specs.Slot.{is_directory, code_of, parent_of}
use Rattle.directory.specs.Places.{slots}
use Rattle.directory.specs.Directory.{Directory}
use Rattle.trees.specs.Tree.{directories, parent_code, ancestor_code, level_at, level, tree}
use Rattle.trees.specs.Beneath.{LiveSlot, DirectorySlot, Beneath, direct, deeper, WellNested, Before, Followed, Lists}
use Rattle.trees.proofs.Up.{same_bytes_lem, up_of, by_front, root_by}
use Rattle.trees.proofs.Enough.{own_codes, to_root, order}
use Rattle.trees.proofs.Once.{tree-holds}

-- ---- a level, taken apart

level-here : (v : Directory) (c i : ℕ) (s : List ℕ) (f : List ℕ → List ℕ) → v i ≡ some s → parent_of s ≡ c → level_at v c f i ≡ suc i ∷ f s
unfolding level_at
level-here v c i s f e q = rw (e, eq-eqb (parent_of s) c q)

-- a part of a part
deep : (a h x y b : List ℕ) → (a ++ ((h ++ x) ++ y)) ++ b ≡ ((a ++ h) ++ x) ++ (y ++ b)
deep a h x y b =
    ap (λ (l : List ℕ). l ++ b) (sym (append_assoc a (h ++ x) y) ∙ ap (λ (l : List ℕ). l ++ y) (sym (append_assoc a h x)))
    ∙ append_assoc ((a ++ h) ++ x) y b

-- slot i and all that lies beneath it, in the listing of c
record ListedPart (v : Directory) (c i : ℕ) (s : List ℕ) : Type 0 where
  front : List ℕ
  rest : List ℕ
  whole : tree v c ≡ front ++ (suc i ∷ tree v (code_of s)) ++ rest

module _ (v : Directory) (n : WellNested v) where
  abbrev below : List ℕ → List ℕ
  below s = cond (is_directory s) (tree v (code_of s)) []

  -- a directory in c
  part-here : (c i : ℕ) (s : List ℕ) → DirectorySlot v i s → parent_of s ≡ c → ListedPart v c i s
  unfolding level
  part-here c i s f e =
      let g : ℕ → List ℕ = level_at v c below in
      let w = gather-at slots i g f.live.below in
      let z : g i ≡ suc i ∷ tree v (code_of s) = level-here v c i s below f.live.here e ∙ rw f.is-directory in
      record { front = w.0; rest = w.1; whole = order v n c ∙ w.2 ∙ ap (λ (l : List ℕ). w.0 ++ l ++ w.1) z }

  -- at any depth
  part : (c : ℕ) {i : ℕ} → Beneath v c i → (s : List ℕ) → DirectorySlot v i s → ListedPart v c i s
  part c (direct {i} l e) s f = part-here c i s f (ap parent_of (same_bytes_lem f.live l) ∙ e)
  part c (deeper {i} {j} {t = t} u g l e) s f =
      let p = part c u t g in
      let q = part-here (code_of t) i s f (ap parent_of (same_bytes_lem f.live l) ∙ e) in
      record {
        front = p.front ++ (suc j ∷ q.front);
        rest = q.rest ++ p.rest;
        whole =
            p.whole ∙ ap (λ (l : List ℕ). p.front ++ (suc j ∷ l) ++ p.rest) q.whole
            ∙ deep p.front (suc j ∷ q.front) (suc i ∷ tree v (code_of s)) q.rest p.rest;
      }

  -- two slots in c
  before_here : (c i j : ℕ) (s t : List ℕ) → i < j → LiveSlot v i s → LiveSlot v j t → parent_of s ≡ c → parent_of t ≡ c → Before (suc i) (suc j) (tree v c)
  unfolding level
  before_here c i j s t h l m p q =
      let g : ℕ → List ℕ = level_at v c below in
      let a = gather-at slots j g m.below in
      let b = gather-at j i g h in
      let x : g i ≡ suc i ∷ below s = level-here v c i s below l.here p in
      let y : g j ≡ suc j ∷ below t = level-here v c j t below m.here q in
      let e : a.0 ≡ b.0 ++ (suc i ∷ (below s ++ b.1)) =
      a.3 ∙ b.2 ∙ ap (λ (k : List ℕ). b.0 ++ k ++ b.1) x ∙ append_assoc b.0 (suc i ∷ below s) b.1 in
      record {
        front = b.0;
        between = below s ++ b.1;
        rest = below t ++ a.1;
        whole =
            order v n c ∙ a.2 ∙ ap₂ (λ (k o : List ℕ). k ++ o ++ a.1) e y
            ∙ append_assoc (b.0 ++ (suc i ∷ (below s ++ b.1))) (suc j ∷ below t) a.1;
      }

  before : (c i j : ℕ) (s t : List ℕ) → i < j → LiveSlot v i s → LiveSlot v j t → parent_of s ≡ parent_of t → Beneath v c i → Before (suc i) (suc j) (tree v c)
  before c i j s t h l m e (direct k q) =
      let p : parent_of s ≡ c = ap parent_of (same_bytes_lem l k) ∙ q in
      before_here c i j s t h l m p (sym e ∙ p)
  before c i j s t h l m e (deeper {j = o} {t = r} u g k q) =
      let p : parent_of s ≡ code_of r = ap parent_of (same_bytes_lem l k) ∙ q in
      let a = part c u r g in
      let b = before_here (code_of r) i j s t h l m p (sym e ∙ p) in
      record {
        front = a.front ++ (suc o ∷ b.front);
        between = b.between;
        rest = b.rest ++ a.rest;
        whole =
            a.whole ∙ ap (λ (l : List ℕ). a.front ++ (suc o ∷ l) ++ a.rest) b.whole
            ∙ deep a.front (suc o ∷ b.front) (suc i ∷ b.between) (suc j ∷ b.rest) a.rest;
      }

  -- what lies beneath a directory is listed, in its order
  pub tree_lists : (c : ℕ) → Lists v c (tree v c)
  tree_lists c = record {
    holds = tree-holds v n c;
    rising = before c;
    followed = λ i s f u. let p = part c u s f in record { front = p.front; beneath = tree v (code_of s); rest = p.rest; whole = p.whole; holds = tree-holds v n (code_of s) };
  }

  -- ---- to the root

  root_from : (m i : ℕ) (s : List ℕ) → LiveSlot v i s → ancestor_code v m (parent_of s) ≡ 0 → Beneath v 0 i
  unfolding ancestor_code
  root_from zero i s l e = direct l e
  root_from (suc m) i s l e = by (parent_of s) refl (λ j t p w. root_from m j t p w)
    where
      by : (p : ℕ) → parent_of s ≡ p → ((j : ℕ) (t : List ℕ) → LiveSlot v j t → ancestor_code v m (parent_of t) ≡ 0 → Beneath v 0 j) → Beneath v 0 i
      by zero q r = direct l q
      by (suc p) q r =
          let w = n.placed i s l (λ z. omega arith) in
          let z : parent_code v (parent_of s) ≡ parent_of w.1 = ap (parent_code v) (sym w.3) ∙ up_of v (own_codes v n) w.0 w.1 w.2 in
          deeper (r w.0 w.1 w.2.live (ap (ancestor_code v m) (sym z) ∙ sym (by_front v (own_codes v n) m (parent_of s)) ∙ e)) w.2 l (sym w.3)

  -- parents lead from every live slot to the root
  pub all_rooted : (i : ℕ) (s : List ℕ) → LiveSlot v i s → Beneath v 0 i
  all_rooted i s l = root_from (directories v) i s l (by (parent_of s) refl)
    where
      by : (p : ℕ) → parent_of s ≡ p → ancestor_code v (directories v) (parent_of s) ≡ 0
      by zero q = ap (ancestor_code v (directories v)) q ∙ root_by v (own_codes v n) (directories v)
      by (suc p) q = let w = n.placed i s l (λ z. omega arith) in ap (ancestor_code v (directories v)) (sym w.3) ∙ to_root v n w.0 w.1 w.2
