-- Filling: what the loop has put after i slots of a level.
use Prim.Native.Nat.{ℕ, zero, suc, ◌+◌, ◌-◌, ◌≤◌, ◌<◌}
use mathlib.Core.Path.{◌≡◌, refl, sym, ap, ap₂, ◌∙◌, subst}
use mathlib.Core.Bool.{true, false, cond}
use mathlib.Core.List.{List, [], ◌∷◌, ◌++◌, append-nil}
use mathlib.Core.Option.{Option, none, some}
use native.Mathlib.Nat.{add-zero, add_assoc}
use native.Mathlib.Numerals.{add-one}
use native.Mathlib.Omega.{arith}
use borrow.Author.Tests.{eq-eqb, ne_eqb}
use lib.Dec.{eqb}
use lib.ListN.{length, length-append}
use Rattle.buffers.specs.Bytes.{put}
use Rattle.buffers.specs.Sums.{concat}
use Rattle.buffers.proofs.Lists.{length-put, put-none, put-append}
use Rattle.buffers.proofs.Sums.{gather-more, gather_le}
use Rattle.slots.specs.Slot.{is_directory, code_of, parent_of}
use Rattle.directory.specs.Places.{slots}
use Rattle.directory.specs.Directory.{fold_option, Directory, directory, slot_or}
use Rattle.directory.proofs.Ends.{slot_read}
use Rattle.directory.proofs.Live.{directory-some}
use Rattle.siblings.specs.Links.{links_of, link_entry}
use Rattle.siblings.proofs.Next.{SlotInDirectory, LowestInDirectory, first_link, next_link}
use Rattle.trees.specs.Tree.{level_at, level, inside, beneath}
use Rattle.tree_lists.specs.Steps.{ListPut}

-- the listing of the first i slots of a level
abbrev pub partly : Directory → ℕ → ℕ → ℕ → List ℕ
partly v n c i = concat i (level_at v c (inside n v))

pub record FillLoop (v : Directory) (n c : ℕ) (buf : List ℕ) (from i at : ℕ) (now : List ℕ) : Type 0 where
  pub place : at ≡ from + length (partly v n c i)
  pub numbers : now ≡ put buf from (partly v n c i)

-- slot i is the next to put, or all are put
pub record FillAtSlot (v : Directory) (n c : ℕ) (buf : List ℕ) (from i at : ℕ) (now : List ℕ) : Type 0 where
  pub filled : FillLoop v n c buf from i at now
  pub most : i ≤ slots
  pub found : i < slots → SlotInDirectory v c i

-- the slot that the loop looks at, by its bytes
module _ (d : List ℕ) (c i : ℕ) (o : SlotInDirectory (directory d) c i) (s : List ℕ) (e : s ≡ slot_or d i) where
  same-slot : o.bytes ≡ s
  same-slot = let w = directory-some d i o.bytes o.here in w.1 ∙ sym (slot_read d i w.0) ∙ sym e

  pub met_here : directory d i ≡ some s
  met_here = o.here ∙ ap some same-slot

  pub met_inside : parent_of s ≡ c
  met_inside = ap parent_of (sym same-slot) ∙ o.inside

-- ---- a level, slot by slot

-- a directory is entered while there is one not yet entered
pub inside-directory : (v : Directory) (n : ℕ) (s : List ℕ) → is_directory s ≡ true → 0 < n → inside n v s ≡ beneath (n - 1) v (code_of s)
unfolding inside beneath
inside-directory v zero s e h = absurd (omega arith)
inside-directory v (suc n) s e h = let z : suc n - 1 ≡ n = omega arith in rw (e, z)

-- nothing lies beneath a file
pub inside-file : (v : Directory) (n : ℕ) (s : List ℕ) → is_directory s ≡ false → inside n v s ≡ []
unfolding inside
inside-file v zero s e = refl
inside-file v (suc n) s e = rw e

pub inside-last : (v : Directory) (n : ℕ) (s : List ℕ) → n ≤ 0 → inside n v s ≡ []
unfolding inside
inside-last v n s h = let z : n ≡ 0 = omega arith in rw z

module _ (v : Directory) (n c : ℕ) where
  -- a slot that is not in the directory
  level_not : (i : ℕ) → ((s : List ℕ) → v i ≡ some s → parent_of s ≡ c → ⊥) → level_at v c (inside n v) i ≡ []
  unfolding level_at
  level_not i h = by (v i) refl
    where
      by : (o : Option (List ℕ)) → v i ≡ o → fold_option [] (λ s. cond (eqb (parent_of s) c) (suc i ∷ inside n v s) []) o ≡ []
      by none e = refl
      by (some s) e = rw (ne_eqb (parent_of s) c (h s e))

  pub level_in : (i : ℕ) (s : List ℕ) → v i ≡ some s → parent_of s ≡ c → level_at v c (inside n v) i ≡ (i + 1) ∷ inside n v s
  unfolding level_at
  level_in i s e h = rw (e, eq-eqb (parent_of s) c h, add-one i)

  -- ---- the loop

  module _ (buf : List ℕ) (from : ℕ) where
    pub filled_none : FillLoop v n c buf from 0 from buf
    unfolding concat
    filled_none = record { place = omega arith; numbers = put-none buf from [] }

    -- no place is past the end of the whole listing
    pub filled-low : (i at : ℕ) (now : List ℕ) → FillLoop v n c buf from i at now → i ≤ slots → from + length (beneath n v c) ≤ 65535 → at ≤ 65535
    unfolding beneath level
    filled-low i at now f h l =
        let z : i + (slots - i) ≡ slots = omega arith in
        omega (arith, f.place, gather_le (slots - i) i (level_at v c (inside n v)), ap (λ (m : ℕ). length (concat m (level_at v c (inside n v)))) z)

    module _ (i at : ℕ) (now : List ℕ) (f : FillLoop v n c buf from i at now) where
      more : (x : List ℕ) → level_at v c (inside n v) i ≡ x → partly v n c (i + 1) ≡ partly v n c i ++ x
      more x e = gather-more i (level_at v c (inside n v)) ∙ ap (λ (y : List ℕ). partly v n c i ++ y) e

      pub filled_skip : level_at v c (inside n v) i ≡ [] → FillLoop v n c buf from (i + 1) at now
      filled_skip e =
          let z : partly v n c (i + 1) ≡ partly v n c i = more [] e ∙ append-nil (partly v n c i) in
          record { place = f.place ∙ ap (λ (x : List ℕ). from + length x) (sym z); numbers = f.numbers ∙ ap (put buf from) (sym z) }

      -- the slot's number, and what lies beneath it
      pub filled_in : (s : List ℕ) → v i ≡ some s → parent_of s ≡ c → (e : List ℕ) → e ≡ put now at ((i + 1) ∷ [])
          → (r : ℕ) (g : List ℕ) → ListPut e (at + 1) (inside n v s) g r → FillLoop v n c buf from (i + 1) r g
      filled_in s q h e w r g p =
          let z : partly v n c (i + 1) ≡ partly v n c i ++ ((i + 1) ∷ inside n v s) = more _ (level_in i s q h) in
          record {
            place = omega (arith, p.place, f.place, ap length z, length-append (partly v n c i) ((i + 1) ∷ inside n v s));
            numbers =
                p.numbers ∙ ap (λ (x : List ℕ). put x (at + 1) (inside n v s)) w ∙ put-append now at ((i + 1) ∷ []) (inside n v s)
                ∙ ap₂ (λ (x : List ℕ) (a : ℕ). put x a ((i + 1) ∷ inside n v s)) f.numbers f.place
                ∙ put-append buf from (partly v n c i) ((i + 1) ∷ inside n v s) ∙ ap (put buf from) (sym z);
          }

      -- with nothing beneath it
      pub filled_one : (s : List ℕ) → v i ≡ some s → parent_of s ≡ c → inside n v s ≡ [] → (e : List ℕ) → e ≡ put now at ((i + 1) ∷ [])
          → FillLoop v n c buf from (i + 1) (at + 1) e
      filled_one s q h o e w =
          filled_in s q h e w (at + 1) e
          (record { place = omega (arith, ap length o); numbers = put-none e (at + 1) [] ∙ ap (put e (at + 1)) (sym o) })

      -- room for the slot and for what lies beneath it
      pub filled-room : (s : List ℕ) → v i ≡ some s → parent_of s ≡ c → i < slots → from + length (beneath n v c) ≤ 65535 → at + 1 + length (inside n v s) ≤ 65535
      unfolding beneath level
      filled-room s q h k l =
          let z : (i + 1) + (slots - (i + 1)) ≡ slots = omega arith in
          omega (
            arith,
            f.place,
            ap length (more _ (level_in i s q h)),
            length-append (partly v n c i) ((i + 1) ∷ inside n v s),
            gather_le (slots - (i + 1)) (i + 1) (level_at v c (inside n v)),
            ap (λ (m : ℕ). length (concat m (level_at v c (inside n v)))) z,
          )

      -- a directory, and what a call of itself put, which enters one directory less
      pub directory-room : (s : List ℕ) → v i ≡ some s → parent_of s ≡ c → is_directory s ≡ true → 0 < n → i < slots → from + length (beneath n v c) ≤ 65535
          → (d : ℕ) → d ≡ code_of s → at + 1 + length (beneath (n - 1) v d) ≤ 65535
      directory-room s q h b o k l d w =
          omega (arith, filled-room s q h k l, ap length (inside-directory v n s b o), ap (λ (m : ℕ). length (beneath (n - 1) v m)) w)

      pub filled-directory : (s : List ℕ) → v i ≡ some s → parent_of s ≡ c → is_directory s ≡ true → 0 < n → (e : List ℕ) → e ≡ put now at ((i + 1) ∷ [])
          → (d : ℕ) → d ≡ code_of s → (r : ℕ) (g : List ℕ) → ListPut e (at + 1) (beneath (n - 1) v d) g r → FillLoop v n c buf from (i + 1) r g
      filled-directory s q h b o e w d z r g p =
          let y : beneath (n - 1) v d ≡ inside n v s = ap (beneath (n - 1) v) z ∙ sym (inside-directory v n s b o) in
          filled_in s q h e w r g
          (record { place = p.place ∙ ap (λ (x : List ℕ). at + 1 + length x) y; numbers = p.numbers ∙ ap (put e (at + 1)) y })

    -- the slots between two of a directory are passed over
    filled-over : (i m at : ℕ) (now : List ℕ) → FillLoop v n c buf from i at now
        → ((k : ℕ) (s : List ℕ) → i ≤ k → k < i + m → v k ≡ some s → parent_of s ≡ c → ⊥) → FillLoop v n c buf from (i + m) at now
    filled-over i zero at now f h = subst (λ (k : ℕ). FillLoop v n c buf from k at now) (sym (add-zero i)) f
    filled-over i (suc m) at now f h =
        subst (λ (k : ℕ). FillLoop v n c buf from k at now) (add_assoc i m 1 ∙ ap (λ (k : ℕ). i + k) (add-one m))
        (filled_skip (i + m) at now (filled-over i m at now f (λ k s l q. h k s l (omega arith))) (level_not (i + m) (λ s. h (i + m) s (omega arith) (omega arith))))

    filled_from : (i at : ℕ) (now : List ℕ) → FillLoop v n c buf from i at now → (j : ℕ) → LowestInDirectory v c i j → FillAtSlot v n c buf from j at now
    filled_from i at now f j g =
        let z : i + (j - i) ≡ j = omega (arith, g.low) in
        record {
          filled = subst (λ (k : ℕ). FillLoop v n c buf from k at now) z (filled-over i (j - i) at now f (λ k s l q. g.skipped k s l (omega arith)));
          most = g.most;
          found = g.found;
        }

    pub walked_first : (links : List ℕ) → links ≡ links_of v → c < 256 → (j : ℕ) → j ≡ link_entry links c → FillAtSlot v n c buf from j from buf
    walked_first links e h j q = filled_from 0 from buf filled_none j (first_link v links e c h j q)

    -- the slot i is put, and j is the next
    pub walked_next : (i at : ℕ) (now : List ℕ) → FillLoop v n c buf from (i + 1) at now → (links : List ℕ) → links ≡ links_of v → i < slots
        → (s : List ℕ) → v i ≡ some s → parent_of s ≡ c → (j : ℕ) → j ≡ link_entry links (256 + i) → FillAtSlot v n c buf from j at now
    walked_next i at now f links e h s w p j q =
        filled_from (i + 1) at now f j (subst (λ (x : ℕ). LowestInDirectory v x (i + 1) j) p (next_link v links e i s h w j q))

    pub walked_less : (i : ℕ) (links : List ℕ) → links ≡ links_of v → i < slots → (s : List ℕ) → v i ≡ some s → (j : ℕ) → j ≡ link_entry links (256 + i) → slots - j < slots - i
    walked_less i links e h s w j q = let g = next_link v links e i s h w j q in omega (arith, g.low, g.most)

    pub walked_all : (i at : ℕ) (now : List ℕ) → FillAtSlot v n c buf from i at now → slots ≤ i → ListPut buf from (beneath n v c) now at
    unfolding beneath level
    walked_all i at now w h =
        let z : i ≡ slots = omega (arith, w.most) in
        let f : FillLoop v n c buf from slots at now = subst (λ (k : ℕ). FillLoop v n c buf from k at now) z w.filled in
        record { place = f.place; numbers = f.numbers }

    pub filled-long : (i at : ℕ) (now : List ℕ) → FillLoop v n c buf from i at now → length now ≡ length buf
    filled-long i at now f = ap length f.numbers ∙ length-put buf from (partly v n c i)
