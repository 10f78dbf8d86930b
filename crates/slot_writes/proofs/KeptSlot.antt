-- What slot 1 keeps of the disk's own bytes, piece by piece; and the slot that a save writes.
use Prim.Native.Nat.{ℕ, ◌+◌, ◌-◌, ◌≤◌, ◌<◌}
use mathlib.Core.Path.{◌≡◌, refl, sym, ap, ◌∙◌}
use mathlib.Core.Bool.{true, false, cond, ◌&&◌}
use mathlib.Core.List.{List}
use mathlib.Core.Logic.{⊎_elim}
use native.Mathlib.Omega.{arith}
use borrow.Author.Tests.{eq-eqb, ne_eqb, le-leb}
use lib.Dec.{eqb}
use lib.ListN.{length, get_or}
use Rattle.buffers.specs.Bytes.{tab, part, put}
use Rattle.buffers.proofs.Lists.{below_or_not, length-tab, get_or-tab, tab_of, tab_cong, part-long, part_at, length-put, put_in, put-before, put-after}
use Rattle.slots.specs.Tracks.{is_label}
use Rattle.slots.proofs.Tracks.{label_not, label_mid}
use Rattle.directory.specs.Places.{past_gap, slot_at}
use Rattle.directory.specs.Directory.{label_of}
use Rattle.disk.specs.View.{view}
use Rattle.plans.specs.Change.{SaveRequest}
use Rattle.plans.specs.Saving.{slot_byte, new_slot}
use Rattle.steps.specs.Steps.{put_all}
use Rattle.slot_writes.specs.Filed.{kept_slot}

-- another slot keeps nothing
pub kept-other : (d : List ℕ) (i : ℕ) (s : List ℕ) → (i ≡ 0 → ⊥) → s ≡ kept_slot d i s
unfolding kept_slot
kept-other d i s n = rw (ne_eqb i 0 n)

pub kept-first : (d s e f g : List ℕ) (i : ℕ) → i ≡ 0 → e ≡ put s 210 (part 210 10 d) → f ≡ put e 252 (part 252 2 d) → g ≡ put f 255 (part 255 1 d)
    → g ≡ kept_slot d i s
unfolding kept_slot put_all
kept-first d s e f g i z p q r =
    rw (eq-eqb i 0 z)
    (r ∙ ap (λ (x : List ℕ). put x 255 (part 255 1 d)) (q ∙ ap (λ (x : List ℕ). put x 252 (part 252 2 d)) p))

-- ---- byte by byte

-- a byte of the label
label_at : (d : List ℕ) (k : ℕ) → k < 256 → is_label k ≡ true → label_of d k ≡ get_or d k 0
unfolding label_of slot_at past_gap
label_at d k h e = rw e (part_at 0 256 d k h ∙ ap (λ (j : ℕ). get_or d j 0) (omega arith))

label-low : (k : ℕ) → 210 ≤ k → k < 220 → is_label k ≡ true
unfolding is_label
label-low k h l = rw (le-leb 210 k h, le-leb k 219 (omega arith))

label_252 : (k : ℕ) → 252 ≤ k → k < 254 → is_label k ≡ true
unfolding is_label
label_252 k h l = ⊎_elim (λ (m : k < 253). let z : k ≡ 252 = omega arith in rw z) (λ (m : 253 ≤ k). let z : k ≡ 253 = omega arith in rw z) (below_or_not k 253)

module _ (d s e f g : List ℕ) (i : ℕ) (z : i ≡ 0) (ld : 256 ≤ length d) (ls : length s ≡ 256)
    (p : e ≡ put s 210 (part 210 10 d)) (q : f ≡ put e 252 (part 252 2 d)) (r : g ≡ put f 255 (part 255 1 d)) where
  le : length e ≡ 256
  le = ap length p ∙ length-put s 210 (part 210 10 d) ∙ ls

  lf : length f ≡ 256
  lf = ap length q ∙ length-put e 252 (part 252 2 d) ∙ le

  lg : length g ≡ 256
  lg = ap length r ∙ length-put f 255 (part 255 1 d) ∙ lf

  la : length (part 210 10 d) ≡ 10
  la = part-long 210 10 d (omega arith)

  lb : length (part 252 2 d) ≡ 2
  lb = part-long 252 2 d (omega arith)

  lc : length (part 255 1 d) ≡ 1
  lc = part-long 255 1 d (omega arith)

  -- each copy at a byte, inside and outside of it
  g_f : (k : ℕ) → k < 255 → get_or g k 0 ≡ get_or f k 0
  g_f k h = ap (λ (x : List ℕ). get_or x k 0) r ∙ put-before f 255 (part 255 1 d) k h

  f_e : (k : ℕ) → k < 252 → get_or f k 0 ≡ get_or e k 0
  f_e k h = ap (λ (x : List ℕ). get_or x k 0) q ∙ put-before e 252 (part 252 2 d) k h

  f_past : (k : ℕ) → 254 ≤ k → get_or f k 0 ≡ get_or e k 0
  f_past k h = ap (λ (x : List ℕ). get_or x k 0) q ∙ put-after e 252 (part 252 2 d) k (omega (arith, lb))

  e_past : (k : ℕ) → 220 ≤ k → get_or e k 0 ≡ get_or s k 0
  e_past k h = ap (λ (x : List ℕ). get_or x k 0) p ∙ put-after s 210 (part 210 10 d) k (omega (arith, la))

  e_before : (k : ℕ) → k < 210 → get_or e k 0 ≡ get_or s k 0
  e_before k h = ap (λ (x : List ℕ). get_or x k 0) p ∙ put-before s 210 (part 210 10 d) k h

  in_e : (k : ℕ) → 210 ≤ k → k < 220 → get_or e k 0 ≡ get_or d k 0
  in_e k h l =
      let y : 210 + (k - 210) ≡ k = omega arith in
      ap (λ (j : ℕ). get_or e j 0) (sym y) ∙ ap (λ (x : List ℕ). get_or x (210 + (k - 210)) 0) p
      ∙ put_in s 210 (part 210 10 d) (k - 210) (omega (arith, la)) (omega arith) ∙ part_at 210 10 d (k - 210) (omega arith) ∙ ap (λ (j : ℕ). get_or d j 0) y

  in_f : (k : ℕ) → 252 ≤ k → k < 254 → get_or f k 0 ≡ get_or d k 0
  in_f k h l =
      let y : 252 + (k - 252) ≡ k = omega arith in
      ap (λ (j : ℕ). get_or f j 0) (sym y) ∙ ap (λ (x : List ℕ). get_or x (252 + (k - 252)) 0) q
      ∙ put_in e 252 (part 252 2 d) (k - 252) (omega (arith, lb)) (omega (arith, le)) ∙ part_at 252 2 d (k - 252) (omega arith) ∙ ap (λ (j : ℕ). get_or d j 0) y

  in_g : (k : ℕ) → 255 ≤ k → k < 256 → get_or g k 0 ≡ get_or d k 0
  in_g k h l =
      let y : 255 + (k - 255) ≡ k = omega arith in
      ap (λ (j : ℕ). get_or g j 0) (sym y) ∙ ap (λ (x : List ℕ). get_or x (255 + (k - 255)) 0) r
      ∙ put_in f 255 (part 255 1 d) (k - 255) (omega (arith, lc)) (omega (arith, lf)) ∙ part_at 255 1 d (k - 255) (omega arith) ∙ ap (λ (j : ℕ). get_or d j 0) y

  abbrev want : ℕ → ℕ
  want k = cond (eqb i 0 && is_label k) (label_of d k) (get_or s k 0)

  kept_so : (k : ℕ) → k < 256 → is_label k ≡ true → get_or g k 0 ≡ get_or d k 0 → get_or g k 0 ≡ want k
  kept_so k h t w = w ∙ sym (rw (eq-eqb i 0 z, t) (label_at d k h t))

  fresh_so : (k : ℕ) → is_label k ≡ false → get_or g k 0 ≡ get_or s k 0 → get_or g k 0 ≡ want k
  fresh_so k t w = w ∙ sym (rw (eq-eqb i 0 z, t))

  byte_so : (k : ℕ) → k < 256 → get_or g k 0 ≡ want k
  unfolding is_label
  byte_so k h =
      ⊎_elim (λ (a : k < 210). fresh_so k (label_not k a) (g_f k (omega arith) ∙ f_e k (omega arith) ∙ e_before k a))
      (λ (a : 210 ≤ k).
      ⊎_elim (λ (b : k < 220). kept_so k h (label-low k a b) (g_f k (omega arith) ∙ f_e k (omega arith) ∙ in_e k a b))
      (λ (b : 220 ≤ k).
      ⊎_elim (λ (c : k < 252). fresh_so k (label_mid k b c) (g_f k (omega arith) ∙ f_e k c ∙ e_past k b))
      (λ (c : 252 ≤ k).
      ⊎_elim (λ (m : k < 254). kept_so k h (label_252 k c m) (g_f k (omega arith) ∙ in_f k c m))
      (λ (m : 254 ≤ k).
      ⊎_elim (λ (o : k < 255). let y : k ≡ 254 = omega arith in fresh_so k (rw y) (g_f k o ∙ f_past k m ∙ e_past k b))
      (λ (o : 255 ≤ k). let y : k ≡ 255 = omega arith in kept_so k h (rw y) (in_g k o h)) (below_or_not k 255))
      (below_or_not k 254)) (below_or_not k 252)) (below_or_not k 220)) (below_or_not k 210)

  first-is : g ≡ tab 256 want
  first-is = tab_of 256 want g lg byte_so

-- a slot of 256 bytes, on a disk that has as many
kept-is : (d : List ℕ) (i : ℕ) (s : List ℕ) → 256 ≤ length d → length s ≡ 256
    → kept_slot d i s ≡ tab 256 (λ k. cond (eqb i 0 && is_label k) (label_of d k) (get_or s k 0))
kept-is d i s ld ls =
    ⊎_elim
    (λ (h : i < 1).
    let z : i ≡ 0 = omega arith in
    sym (kept-first d s (put s 210 (part 210 10 d)) (put (put s 210 (part 210 10 d)) 252 (part 252 2 d))
    (put (put (put s 210 (part 210 10 d)) 252 (part 252 2 d)) 255 (part 255 1 d)) i z refl refl refl)
    ∙ first-is d s (put s 210 (part 210 10 d)) (put (put s 210 (part 210 10 d)) 252 (part 252 2 d))
    (put (put (put s 210 (part 210 10 d)) 252 (part 252 2 d)) 255 (part 255 1 d)) i z ld ls refl refl refl)
    (λ (h : 1 ≤ i).
    let n : i ≡ 0 → ⊥ = λ (z : i ≡ 0). omega arith in
    sym (kept-other d i s n) ∙ tab_of 256 (λ k. cond (eqb i 0 && is_label k) (label_of d k) (get_or s k 0)) s ls (λ k l. rw (ne_eqb i 0 n)))
    (below_or_not i 1)

-- the slot that a save writes
pub kept_new : (d : List ℕ) (i : ℕ) (w : SaveRequest) (bs s : List ℕ) → 256 ≤ length d → s ≡ tab 256 (slot_byte w bs) → kept_slot d i s ≡ new_slot (view d).label i w bs
unfolding new_slot view
kept_new d i w bs s l e =
    kept-is d i s l (ap length e ∙ length-tab 256 (slot_byte w bs))
    ∙ ap (λ (x : List ℕ). tab 256 (λ k. cond (eqb i 0 && is_label k) (label_of d k) (get_or x k 0))) e
    ∙ tab_cong 256 (λ k. cond (eqb i 0 && is_label k) (label_of d k) (get_or (tab 256 (slot_byte w bs)) k 0)) (λ k. cond (eqb i 0 && is_label k) (label_of d k) (slot_byte w bs k))
    (λ k h. ap (cond (eqb i 0 && is_label k) (label_of d k)) (get_or-tab 256 (slot_byte w bs) k h))
