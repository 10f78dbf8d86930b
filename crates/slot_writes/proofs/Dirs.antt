-- The sectors of the directory that a save writes, one or two, and the old name behind its slot.
use Prim.Native.Nat.{ℕ, suc, ◌+◌, ◌≤◌, ◌<◌}
use mathlib.Core.Path.{◌≡◌, refl, sym, ap, ap₂, ◌∙◌}
use mathlib.Core.Bool.{Bool, true, false, not, ◌&&◌}
use mathlib.Core.List.{List, [], ◌∷◌}
use mathlib.Core.Logic.{⊎_elim}
use native.Mathlib.Nat.{add-zero}
use native.Mathlib.Numerals.{add-one}
use native.Mathlib.Omega.{arith}
use borrow.Author.Tests.{lt-ltb, le-ltb, ltb-true}
use lib.Dec.{eqb, ltb}
use lib.ListN.{length}
use Rattle.buffers.specs.Bytes.{put}
use Rattle.buffers.proofs.Lists.{below_or_not, put-none, put-append}
use Rattle.buffers.proofs.Tests.{and_both}
use Rattle.slots.specs.Slot.{is_nameless}
use Rattle.directory.specs.Places.{slots, past_gap, slot_at, slot_place, dir_sector, dir_sector_or}
use Rattle.directory.specs.Directory.{slots_in, is_slot, is_nameless_at, slot_or}
use Rattle.directory.proofs.Places.{slot_placed, dir_placed}
use Rattle.directory.proofs.Label.{slots-few}
use Rattle.directory.proofs.Ends.{slot_read}
use Rattle.plans.specs.Plan.{old_name, same_sector, without_next_name, dir_sectors}
use Rattle.changes.proofs.Laws.{sector-small}
use Rattle.slot_writes.specs.Filed.{has_next_name, directory_sectors, slot_written}

-- ---- an old name behind slot i: n says whether that slot has no name

met_nameless : (d : List ℕ) (i : ℕ) → i < slots → {s : List ℕ} {n : Bool} → s ≡ slot_or d i → n ≡ is_nameless s → is_nameless_at d i ≡ n
unfolding is_nameless_at
met_nameless d i h e q = sym (q ∙ ap is_nameless (e ∙ slot_read d i h))

module _ (d : List ℕ) (i : ℕ) (h : i < slots) {s : List ℕ} {n : Bool} (e : s ≡ slot_or d i) (q : n ≡ is_nameless s) where
  pub old_named : n ≡ false → false ≡ old_name d i
  unfolding old_name
  old_named t = sym (rw (met_nameless d i h e q ∙ t))

  -- the last slot has none behind it
  pub old-last : n ≡ true → slots_in d ≤ i + 1 → false ≡ old_name d i
  unfolding old_name is_slot
  old-last t l = sym (rw (met_nameless d i h e q ∙ t, le-ltb (suc i) (slots_in d) (omega arith)))

  pub old_by : n ≡ true → i + 1 < slots_in d → {z : List ℕ} {m : Bool} → z ≡ slot_or d (i + 1) → m ≡ is_nameless z → not m ≡ old_name d i
  unfolding old_name is_slot
  old_by t l {z} {m} p r =
      let k : is_nameless_at d (suc i) ≡ m = ap (is_nameless_at d) (sym (add-one i)) ∙ met_nameless d (i + 1) (omega (arith, slots-few d)) p r in
      sym (rw (met_nameless d i h e q ∙ t, lt-ltb (suc i) (slots_in d) (omega arith), k))

-- behind the last there is none
pub and-false : (b : Bool) → (b && false) ≡ false
and-false true = refl
and-false false = refl

pub old_far : (d : List ℕ) (i : ℕ) → 777 ≤ i → false ≡ old_name d i
unfolding old_name is_slot
old_far d i h = sym (rw (le-ltb (suc i) (slots_in d) (omega (arith, slots-few d))) (and-false (is_nameless_at d i)))

pub behind_far : (old : Bool) (i : ℕ) → 777 ≤ i → false ≡ has_next_name old i
unfolding has_next_name
behind_far old i h = sym (rw (le-ltb (suc i) slots (omega arith)))

pub behind_near : (old : Bool) (i : ℕ) → i < 777 → old ≡ has_next_name old i
unfolding has_next_name
behind_near old i h = sym (rw (lt-ltb (suc i) slots (omega arith)))

pub behind_next : (old : Bool) (i : ℕ) {b : Bool} → b ≡ has_next_name old i → b ≡ true → suc i < slots
unfolding has_next_name
behind_next old i e t = ltb-true (suc i) slots (and_both (ltb (suc i) slots) old (sym e ∙ t)).0

-- ---- the next slot cleared

module _ (d : List ℕ) (i : ℕ) {old : Bool} where
  pub cleared-next : old ≡ true → i + 1 < slots → (a : ℕ) → a ≡ slot_place (i + 1) → (e : List ℕ) → e ≡ put d a (0 ∷ 0 ∷ []) → e ≡ without_next_name old i d
  cleared-next q l a p e r =
      r ∙ ap (λ (a : ℕ). put d a (0 ∷ 0 ∷ [])) (p ∙ slot_placed (i + 1) l ∙ ap slot_at (add-one i) ∙ sym (add-zero (slot_at (suc i))))
      ∙ sym (ap (λ (t : Bool). without_next_name t i d) q)

-- ---- one sector or two

-- the last slot's sector is no other's
last : eqb (dir_sector_or 778) (dir_sector_or 777) ≡ eqb (dir_sector 778) (dir_sector 777)
unfolding dir_sector_or dir_sector past_gap
last = refl

-- its sector and the next slot's, where there may be none
together_by : (i : ℕ) → i < slots → eqb (dir_sector_or (suc i)) (dir_sector_or i) ≡ same_sector i
unfolding same_sector
together_by i h =
    ⊎_elim (λ (l : suc i < slots). ap₂ eqb (dir_placed (suc i) l) (dir_placed i h))
    (λ (l : slots ≤ suc i). let z : i ≡ 777 = omega arith in rw z last) (below_or_not (suc i) slots)

pub apart_by : (i : ℕ) (old : Bool) → i < slots → old ≡ true → (a b : ℕ) → a ≡ dir_sector_or (i + 1) → b ≡ dir_sector_or i → not (eqb a b) ≡ (old && not (same_sector i))
apart_by i old h q a b p r =
    ap₂ (λ (x y : ℕ). not (eqb x y)) (p ∙ ap dir_sector_or (add-one i)) r ∙ ap not (together_by i h) ∙ sym (ap (λ (t : Bool). t && not (same_sector i)) q)

-- every such number fits the list
pub or_small : (i n : ℕ) → n ≡ dir_sector_or i → n < 65536
unfolding dir_sector_or
or_small i n e =
    ⊎_elim (λ h. sector-small i n e h) (λ h. let z : dir_sector_or i ≡ 1600 = rw (le-ltb i slots h) in omega arith) (below_or_not i slots)

module _ (old : Bool) (i : ℕ) {two : Bool} (e₀ : two ≡ (old && not (same_sector i))) where
  dirs_two : two ≡ true → dir_sectors old i ≡ dir_sector (suc i) ∷ dir_sector i ∷ []
  unfolding dir_sectors
  dirs_two q = rw (sym e₀ ∙ q)

  dirs_one : two ≡ false → dir_sectors old i ≡ dir_sector i ∷ []
  unfolding dir_sectors
  dirs_one q = rw (sym e₀ ∙ q)

  pub two_long : two ≡ true → length (dir_sectors old i) ≡ 2
  two_long q = ap length (dirs_two q)

  pub one_long : two ≡ false → length (dir_sectors old i) ≡ 1
  one_long q = ap length (dirs_one q)

  -- their numbers on the list
  module _ (h : i < slots) (n : old ≡ true → suc i < slots) (l : List ℕ) (a : ℕ) where
    pub put_both : two ≡ true → {x y : ℕ} → x ≡ dir_sector_or (i + 1) → y ≡ dir_sector_or i → {l' l'' : List ℕ} → l' ≡ put l a (x ∷ []) → l'' ≡ put l' (a + 1) (y ∷ [])
        → l'' ≡ put l a (dir_sectors old i)
    put_both q {x} {y} p r e f =
        f ∙ ap (λ (z : List ℕ). put z (a + 1) (y ∷ [])) e ∙ put-append l a (x ∷ []) (y ∷ [])
        ∙ ap₂ (λ (u v : ℕ). put l a (u ∷ v ∷ [])) (p ∙ ap dir_sector_or (add-one i) ∙ dir_placed (suc i) (n (and_both old (not (same_sector i)) (sym e₀ ∙ q)).0)) (r ∙ dir_placed i h)
        ∙ sym (ap (put l a) (dirs_two q))

    pub put_alone : two ≡ false → {y : ℕ} → y ≡ dir_sector_or i → {l' : List ℕ} → l' ≡ put l a (y ∷ []) → l' ≡ put l a (dir_sectors old i)
    put_alone q r f = f ∙ ap (λ (v : ℕ). put l a (v ∷ [])) (r ∙ dir_placed i h) ∙ sym (ap (put l a) (dirs_one q))

-- ---- of a slot that there may not be

module _ (old : Bool) (i : ℕ) where
  pub dirs_none : slots ≤ i → directory_sectors old i ≡ []
  unfolding directory_sectors
  dirs_none h = rw (le-ltb i slots h)

  pub dirs_some : i < slots → {b : Bool} → b ≡ has_next_name old i → directory_sectors old i ≡ dir_sectors b i
  unfolding directory_sectors
  dirs_some h e = rw (lt-ltb i slots h) (ap (λ (t : Bool). dir_sectors t i) (sym e))

  pub none-put : slots ≤ i → (l : List ℕ) (a : ℕ) → l ≡ put l a (directory_sectors old i)
  none-put h l a = put-none l a [] ∙ ap (put l a) (sym (dirs_none h))

  pub some-put : i < slots → {b : Bool} → b ≡ has_next_name old i → (l : List ℕ) (a : ℕ) {l' : List ℕ} → l' ≡ put l a (dir_sectors b i) → l' ≡ put l a (directory_sectors old i)
  some-put h e l a p = p ∙ ap (put l a) (sym (dirs_some h e))

  pub filed_none : slots ≤ i → (s d : List ℕ) → d ≡ slot_written old i s d
  unfolding slot_written
  filed_none h s d = sym (rw (le-ltb i slots h))

  pub filed_some : i < slots → (s d : List ℕ) {b : Bool} → b ≡ has_next_name old i → {e : List ℕ} → e ≡ without_next_name b i d → {a : ℕ} → a ≡ slot_place i → {f : List ℕ}
      → f ≡ put e a s → f ≡ slot_written old i s d
  unfolding slot_written
  filed_some h s d q p z r =
      r ∙ ap₂ (λ (x : List ℕ) (a : ℕ). put x a s) (p ∙ ap (λ (t : Bool). without_next_name t i d) q) (z ∙ slot_placed i h) ∙ sym (rw (lt-ltb i slots h))
