-- Laws of listed numbers, and of a cut disk: each of its sectors is the old one or the new one, whole.
use Prim.Native.Nat.{ℕ, zero, suc, ◌+◌, ◌*◌, ◌/◌, ◌%◌, ◌≤◌, ◌<◌}
use mathlib.Core.Path.{◌≡◌, refl, sym, ap, ◌∙◌}
use mathlib.Core.List.{List, [], ◌∷◌, ◌++◌}
use mathlib.Core.Bool.{Bool, true, false, cond, ◌||◌, true≢false, false≢true, or-true, or_assoc}
use mathlib.Core.Logic.{◌≢◌, ⊎_elim}
use native.Mathlib.Omega.{arith}
use borrow.Author.Tests.{eqb-true, eqb-false, eq-eqb, ne_eqb}
use lib.Dec.{eqb}
use lib.ListN.{length, get_or, take, drop, length-append, take-append-drop}
use lib.Seq.{ext_get_or, take-append-le, take-length}
use Rattle.buffers.proofs.Lists.{below_or_not, past_end, length-tab, get_or-tab, part_at, part_ext}
use Rattle.buffers.proofs.Tests.{or_neither}
use Rattle.steps.specs.Sectors.{sector, is_listed, Once, cut}

-- ---- listed numbers

pub listed_no : (a x : ℕ) (xs : List ℕ) → is_listed a (x ∷ xs) ≡ false → (a ≢ x) × (is_listed a xs ≡ false)
listed_no a x xs e = let c = or_neither (eqb a x) (is_listed a xs) e in (eqb-false a x c.0, c.1)

pub listed_head : (a : ℕ) (xs : List ℕ) → is_listed a (a ∷ xs) ≡ true
listed_head a xs = rw (eq-eqb a a refl)

pub listed_tail : (a x : ℕ) (xs : List ℕ) → is_listed a xs ≡ true → is_listed a (x ∷ xs) ≡ true
listed_tail a x xs e = rw e (or-true (eqb a x))

pub listed_append : (a : ℕ) (xs ys : List ℕ) → is_listed a (xs ++ ys) ≡ (is_listed a xs || is_listed a ys)
listed_append a [] ys = refl
listed_append a (x ∷ xs) ys = ap (λ (t : Bool). eqb a x || t) (listed_append a xs ys) ∙ sym (or_assoc (eqb a x) (is_listed a xs) (is_listed a ys))

-- what is listed is among the first k or the rest
pub listed_split : (a k : ℕ) (xs : List ℕ) → is_listed a xs ≡ (is_listed a (take k xs) || is_listed a (drop k xs))
listed_split a k xs = ap (is_listed a) (sym (take-append-drop k xs)) ∙ listed_append a (take k xs) (drop k xs)

pub listed_take : (a k : ℕ) (xs : List ℕ) → is_listed a (take k xs) ≡ true → is_listed a xs ≡ true
listed_take a k xs e = listed_split a k xs ∙ rw e

-- what is listed before the last
pub listed_before : (xs : List ℕ) (a k s : ℕ) → k < length (xs ++ (a ∷ [])) → is_listed s (take k (xs ++ (a ∷ []))) ≡ true → is_listed s xs ≡ true
listed_before xs a k s h e =
    let m : k ≤ length xs = omega (arith, length-append xs (a ∷ [])) in
    listed_take s k xs (rw take-append-le at e)

-- what is among the first k is not among the rest
pub once-apart : (xs : List ℕ) (k a : ℕ) → Once xs → is_listed a (take k xs) ≡ true → is_listed a (drop k xs) ≡ false
once-apart xs zero a o e = absurd (false≢true e)
once-apart [] (suc k) a o e = refl
once-apart (x ∷ xs) (suc k) a o e = by (eqb a x) refl e (once-apart xs k a o.1)
  where
    by : (t : Bool) → eqb a x ≡ t → (t || is_listed a (take k xs)) ≡ true → (is_listed a (take k xs) ≡ true → is_listed a (drop k xs) ≡ false)
        → is_listed a (drop k xs) ≡ false
    by true q w f = (or_neither (is_listed a (take k xs)) (is_listed a (drop k xs)) (sym (listed_split a k xs) ∙ ap (λ (y : ℕ). is_listed y xs) (eqb-true a x q) ∙ o.0)).1
    by false q w f = f w

pub once_snoc : (xs : List ℕ) (a : ℕ) → Once xs → is_listed a xs ≡ false → Once (xs ++ (a ∷ []))
once_snoc [] a o e = (refl, tt)
once_snoc (x ∷ xs) a o e =
    let c = listed_no a x xs e in
    (listed_append x xs (a ∷ []) ∙ rw (o.0, ne_eqb x a (λ q. c.0 (sym q))), once_snoc xs a o.1 c.1)

-- ---- sectors

-- a byte, by its sector
pub at-sector : (d : List ℕ) (i : ℕ) → get_or (sector d (i / 512)) (i % 512) 0 ≡ get_or d i 0
at-sector d i = part_at (i / 512 * 512) 512 d (i % 512) (omega arith) ∙ ap (λ (n : ℕ). get_or d n 0) (omega arith)

-- two lists of one length that agree in every sector are equal
pub sectors_ext : (d e : List ℕ) → length d ≡ length e → ((s : ℕ) → sector d s ≡ sector e s) → d ≡ e
sectors_ext d e l h =
    ext_get_or 0 d e l (λ i k. sym (at-sector d i) ∙ ap (λ (t : List ℕ). get_or t (i % 512) 0) (h (i / 512)) ∙ at-sector e i)

-- ---- a cut disk

module _ (old new ss : List ℕ) (k : ℕ) where
  pub length_cut : length (cut old new ss k) ≡ length old
  unfolding cut
  length_cut = length-tab (length old) _

  cut-byte : (i : ℕ) → i < length old → get_or (cut old new ss k) i 0 ≡ cond (is_listed (i / 512) (take k ss)) (get_or new i 0) (get_or old i 0)
  unfolding cut
  cut-byte i h = get_or-tab (length old) (λ i. cond (is_listed (i / 512) (take k ss)) (get_or new i 0) (get_or old i 0)) i h

  -- a sector that is not among the first k is the old one; one that is, is the new one
  pub cut-old : (s : ℕ) → is_listed s (take k ss) ≡ false → sector (cut old new ss k) s ≡ sector old s
  cut-old s e =
      part_ext (s * 512) 512 (cut old new ss k) old length_cut
      (λ j m.
      let q : (s * 512 + j) / 512 ≡ s = omega arith in
      ⊎_elim (λ h. cut-byte (s * 512 + j) h ∙ rw (q, e))
      (λ h. past_end (cut old new ss k) (s * 512 + j) (rw length_cut h) ∙ sym (past_end old (s * 512 + j) h))
      (below_or_not (s * 512 + j) (length old)))

  pub cut-new : length new ≡ length old → (s : ℕ) → is_listed s (take k ss) ≡ true → sector (cut old new ss k) s ≡ sector new s
  cut-new l s e =
      part_ext (s * 512) 512 (cut old new ss k) new (length_cut ∙ sym l)
      (λ j m.
      let q : (s * 512 + j) / 512 ≡ s = omega arith in
      ⊎_elim (λ h. cut-byte (s * 512 + j) h ∙ rw (q, e))
      (λ h. past_end (cut old new ss k) (s * 512 + j) (rw length_cut h) ∙ sym (past_end new (s * 512 + j) (rw l h)))
      (below_or_not (s * 512 + j) (length old)))

-- cut before the first write; cut after the last, where the two agree outside the listed sectors
pub cut-none : (old new ss : List ℕ) → cut old new ss 0 ≡ old
cut-none old new ss = sectors_ext (cut old new ss 0) old (length_cut old new ss 0) (λ s. cut-old old new ss 0 s refl)

pub cut_all : (old new ss : List ℕ) → length new ≡ length old → ((s : ℕ) → is_listed s ss ≡ false → sector new s ≡ sector old s)
    → cut old new ss (length ss) ≡ new
cut_all old new ss l h =
    sectors_ext (cut old new ss (length ss)) new (length_cut old new ss (length ss) ∙ sym l) (λ s. by s (is_listed s ss) refl)
  where
    by : (s : ℕ) (t : Bool) → is_listed s ss ≡ t → sector (cut old new ss (length ss)) s ≡ sector new s
    by s true e = cut-new old new ss (length ss) l s (rw take-length e)
    by s false e = cut-old old new ss (length ss) s (rw take-length e) ∙ sym (h s e)
