-- Single erases, in order, leave the disk with byte 0 of each slot that is gone set to 0.
use Prim.Native.Nat.{ℕ, zero, suc, ◌≤◌, ◌<◌}
use mathlib.Core.Path.{◌≡◌, refl, sym, ap, ap₂, ◌∙◌, subst}
use mathlib.Core.Bool.{Bool, true, false, cond, ◌&&◌, ◌||◌, true≢false, false≢true}
use mathlib.Core.List.{List, [], ◌∷◌}
use mathlib.Core.Logic.{⊎_elim}
use mathlib.Core.Option.{Option, none, some}
use native.Mathlib.Nat.{add-zero, eq-or-lt_of_le, le_of_suc-le-suc}
use native.Mathlib.Omega.{arith}
use borrow.Author.Tests.{eqb-true, eqb-false, eq-eqb, ne_eqb}
use lib.Dec.{eqb, ltb}
use lib.ListN.{set}
use Rattle.buffers.specs.Bytes.{put}
use Rattle.buffers.proofs.Lists.{put_one}
use Rattle.names.specs.Name.{askable}
use Rattle.chains.specs.File.{File}
use Rattle.directory.specs.Places.{slots, slot_at}
use Rattle.directory.specs.Directory.{fold_option}
use Rattle.disk.specs.View.{View, view}
use Rattle.disk.specs.Check.{check_disk}
use Rattle.disk.proofs.Accepted.{accepted_disk_only}
use Rattle.plans.specs.Plan.{with_slot, Result, refused_result, new_disk}
use Rattle.plans.specs.Allowed.{NamedSlot}
use Rattle.plans.proofs.Frame.{disk-accepted, upd_same, upd_other}
use Rattle.plans.proofs.Effect.{erased}
use Rattle.erase_many.specs.EraseMany.{name_at, single_erase, disk_or, disk_after_erases, is_erased}
use Rattle.erase_many.specs.ErasedMap.{slots_cleared}
use Rattle.erase_many.proofs.Cleared.{Lives, without, clear_view, SlotsClearedTo, all_emptied, cleared-none}

-- ---- one slot more, in any order

set_swap : (l : List ℕ) (a b v : ℕ) → set (set l a v) b v ≡ set (set l b v) a v
set_swap [] a b v = refl
set_swap (x ∷ xs) zero zero v = refl
set_swap (x ∷ xs) zero (suc b) v = refl
set_swap (x ∷ xs) (suc a) zero v = refl
set_swap (x ∷ xs) (suc a) (suc b) v = ap (λ (r : List ℕ). x ∷ r) (set_swap xs a b v)

put_swap : (l : List ℕ) (a b v : ℕ) → put (put l a (v ∷ [])) b (v ∷ []) ≡ put (put l b (v ∷ [])) a (v ∷ [])
put_swap l a b v =
    sym (put_one (put l a (v ∷ [])) b v) ∙ ap (λ (x : List ℕ). set x b v) (sym (put_one l a v)) ∙ set_swap l a b v
    ∙ ap (λ (x : List ℕ). set x a v) (put_one l b v) ∙ put_one (put l b (v ∷ [])) a v

or-false : (t : Bool) → (t || false) ≡ t
or-false true = refl
or-false false = refl

or-true : (t : Bool) → (t || true) ≡ true
or-true true = refl
or-true false = refl

-- f means slot s and those that e means
module _ (d : List ℕ) (e f : ℕ → Bool) (s : ℕ) (more : (i : ℕ) → f i ≡ (e i || eqb i s)) (fresh : e s ≡ false) where
  other : (i : ℕ) → (i ≡ s → ⊥) → f i ≡ e i
  other i n = more i ∙ ap (λ (t : Bool). e i || t) (ne_eqb i s n) ∙ or-false (e i)

  here : f s ≡ true
  here = more s ∙ ap (λ (t : Bool). e s || t) (eq-eqb s s refl) ∙ or-true (e s)

  cleared-low : (m : ℕ) → m ≤ s → slots_cleared d f m ≡ slots_cleared d e m
  unfolding slots_cleared
  cleared-low zero h = refl
  cleared-low (suc m) h =
      ap₂ (λ (t : Bool) (x : List ℕ). cond t (put x (slot_at m) (0 ∷ [])) x) (other m (λ q. omega arith)) (cleared-low m (omega arith))

  cleared_more : (m : ℕ) → s < m → slots_cleared d f m ≡ put (slots_cleared d e m) (slot_at s) (0 ∷ [])
  unfolding slots_cleared
  cleared_more zero h = absurd (omega arith)
  cleared_more (suc m) h = ⊎_elim (λ (q : s ≡ m). last q) (λ (q : s < m). later q (cleared_more m q)) (eq-or-lt_of_le (le_of_suc-le-suc h))
    where
      next : Bool → List ℕ → List ℕ
      next t x = cond t (put x (slot_at m) (0 ∷ [])) x

      last : s ≡ m → next (f m) (slots_cleared d f m) ≡ put (next (e m) (slots_cleared d e m)) (slot_at s) (0 ∷ [])
      last q =
          let a : f m ≡ true = ap f (sym q) ∙ here in
          let b : e m ≡ false = ap e (sym q) ∙ fresh in
          rw (a, b, cleared-low m (omega arith)) (ap (λ (i : ℕ). put (slots_cleared d e m) (slot_at i) (0 ∷ [])) (sym q))

      at : (t : Bool) → slots_cleared d f m ≡ put (slots_cleared d e m) (slot_at s) (0 ∷ []) → next t (slots_cleared d f m) ≡ put (next t (slots_cleared d e m)) (slot_at s) (0 ∷ [])
      at true g = ap (λ (x : List ℕ). put x (slot_at m) (0 ∷ [])) g ∙ put_swap (slots_cleared d e m) (slot_at s) (slot_at m) 0
      at false g = g

      later : s < m → slots_cleared d f m ≡ put (slots_cleared d e m) (slot_at s) (0 ∷ []) → next (f m) (slots_cleared d f m) ≡ put (next (e m) (slots_cleared d e m)) (slot_at s) (0 ∷ [])
      later q g = ap (λ (t : Bool). next t (slots_cleared d f m)) (other m (λ w. omega arith)) ∙ at (e m) g

-- ---- what is gone

pub gone-never : (d : List ℕ) (i : ℕ) → is_erased d d i ≡ false
unfolding is_erased
gone-never d i = by ((view d).files i)
  where
    by : (o : Option File) → fold_option false (λ f. fold_option true (λ g. false) o) o ≡ false
    by none = refl
    by (some f) = refl

gone-kept : (d x : List ℕ) (i : ℕ) (f : File) → (view x).files i ≡ some f → is_erased d x i ≡ false
unfolding is_erased
gone-kept d x i f e = rw e (by ((view d).files i))
  where
    by : (o : Option File) → fold_option false (λ g. false) o ≡ false
    by none = refl
    by (some g) = refl

gone-now : (d x : List ℕ) (i : ℕ) (f : File) → (view d).files i ≡ some f → (view x).files i ≡ none → is_erased d x i ≡ true
unfolding is_erased
gone-now d x i f p q = rw (p, q)

gone_same : (d x y : List ℕ) (i : ℕ) → (view y).files i ≡ (view x).files i → is_erased d y i ≡ is_erased d x i
unfolding is_erased
gone_same d x y i e = ap (λ (o : Option File). fold_option false (λ f. fold_option true (λ g. false) o) ((view d).files i)) e

-- a slot that is gone held a file, and holds none
pub record Was (d x : List ℕ) (i : ℕ) : Type 0 where
  pub file : File
  pub before : (view d).files i ≡ some file
  pub now : (view x).files i ≡ none

pub gone_was : (d x : List ℕ) (i : ℕ) → is_erased d x i ≡ true → Was d x i
unfolding is_erased
gone_was d x i e = by ((view d).files i) refl ((view x).files i) refl e
  where
    by : (o : Option File) → (view d).files i ≡ o → (u : Option File) → (view x).files i ≡ u → fold_option false (λ f. fold_option true (λ g. false) u) o ≡ true → Was d x i
    by none p u q w = absurd (false≢true w)
    by (some f) p none q w = record { file = f; before = p; now = q }
    by (some f) p (some g) q w = absurd (false≢true w)

pub gone_lives : (d x : List ℕ) → Lives d (is_erased d x)
gone_lives d x i e = let w = gone_was d x i e in (w.file, w.before)

-- ---- erases, in order

-- x is d with the slots emptied that are gone
abbrev pub Fewer : List ℕ → List ℕ → Type 0
Fewer d x = x ≡ slots_cleared d (is_erased d x) slots

-- an accepted erase: the slot that has the name is emptied
pub record Empties (x n new : List ℕ) : Type 0 where
  pub slot : ℕ
  pub file : File
  pub askable-name : askable n ≡ true
  pub found : NamedSlot x n slot file
  pub disk : new ≡ put x (slot_at slot) (0 ∷ [])
  pub sees : view new ≡ with_slot (view x) slot none

pub empties : (x : List ℕ) → check_disk x ≡ none → (n new ss : List ℕ) → single_erase x n ≡ new_disk new ss → Empties x n new
empties x ok n new ss e =
    let t = erased x ok 1 new ss n e in
    let disk : new ≡ put x (slot_at t.slot) (0 ∷ []) = t.disk ∙ ap (λ (a : ℕ). put x a (0 ∷ [])) (add-zero (slot_at t.slot)) in
    record {
      slot = t.slot;
      file = t.file;
      askable-name = t.askable-name;
      found = t.found;
      disk = disk;
      sees = ap view disk ∙ clear_view x (disk-accepted x ok) t.slot t.file t.found.here;
    }

module _ (d : List ℕ) (ok : check_disk d ≡ none) where
  pub fewer_left : (x : List ℕ) → Fewer d x → SlotsClearedTo d (is_erased d x) slots x
  fewer_left x q = subst (SlotsClearedTo d (is_erased d x) slots) (sym q) (all_emptied d (disk-accepted d ok) (is_erased d x) (gone_lives d x) slots)

  pub fewer_accepted : (x : List ℕ) → Fewer d x → check_disk x ≡ none
  unfolding check_disk
  fewer_accepted x q = accepted_disk_only (view x) (fewer_left x q).ok

  -- a file that is left was there
  was_there : (x : List ℕ) → Fewer d x → (i : ℕ) (f : File) → (view x).files i ≡ some f → (view d).files i ≡ some f
  unfolding without
  was_there x q i f e = by (is_erased d x i) refl (ap (λ (l : View). l.files i) (sym (fewer_left x q).sees) ∙ e)
    where
      by : (t : Bool) → is_erased d x i ≡ t → cond (t && ltb i slots) none ((view d).files i) ≡ some f → (view d).files i ≡ some f
      by true p w = absurd (true≢false (sym p ∙ gone-kept d x i f e))
      by false p w = w

  -- one more
  module _ (x : List ℕ) (q : Fewer d x) (n new : List ℕ) (t : Empties x n new) where
    pub grown : (i : ℕ) → is_erased d new i ≡ (is_erased d x i || eqb i t.slot)
    grown i = by (eqb i t.slot) refl
      where
        by : (b : Bool) → eqb i t.slot ≡ b → is_erased d new i ≡ (is_erased d x i || b)
        by true w =
            ap (is_erased d new) (eqb-true i t.slot w)
            ∙ gone-now d new t.slot t.file (was_there x q t.slot t.file t.found.here)
            (ap (λ (l : View). l.files t.slot) t.sees ∙ upd_same (view x) t.slot none)
            ∙ sym (or-true (is_erased d x i))
        by false w =
            gone_same d x new i (ap (λ (l : View). l.files i) t.sees ∙ upd_other (view x) t.slot none i (eqb-false i t.slot w))
            ∙ sym (or-false (is_erased d x i))

    one_more : Fewer d new
    one_more =
        t.disk ∙ ap (λ (y : List ℕ). put y (slot_at t.slot) (0 ∷ [])) q
        ∙ sym (cleared_more d (is_erased d x) (is_erased d new) t.slot grown (gone-kept d x t.slot t.file t.found.here) slots t.found.below)

  -- the disk after the first k names
  pub after_fewer : (ns : List ℕ) (k : ℕ) → Fewer d (disk_after_erases d ns k)
  unfolding disk_after_erases
  after_fewer ns zero = sym (cleared-none d (is_erased d d) (gone-never d) slots)
  after_fewer ns (suc k) = by (single_erase (disk_after_erases d ns k) (name_at ns k)) refl (after_fewer ns k)
    where
      by : (r : Result) → single_erase (disk_after_erases d ns k) (name_at ns k) ≡ r → Fewer d (disk_after_erases d ns k) → Fewer d (disk_or (disk_after_erases d ns k) r)
      by (refused_result x) p q = q
      by (new_disk new ss) p q = one_more (disk_after_erases d ns k) q (name_at ns k) new (empties (disk_after_erases d ns k) (fewer_accepted (disk_after_erases d ns k) q) (name_at ns k) new ss p)

  pub after-accepted : (ns : List ℕ) (k : ℕ) → check_disk (disk_after_erases d ns k) ≡ none
  after-accepted ns k = fewer_accepted (disk_after_erases d ns k) (after_fewer ns k)
