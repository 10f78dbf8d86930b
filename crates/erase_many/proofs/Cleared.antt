-- A disk with byte 0 of some live slots set to 0: what is seen of it, that it is accepted, and its sectors one by one.
use Prim.Native.Nat.{ℕ, zero, suc, ◌+◌, ◌-◌, ◌*◌, ◌≤◌, ◌<◌}
use mathlib.Core.Path.{◌≡◌, refl, sym, ap, ◌∙◌}
use mathlib.Core.Bool.{Bool, true, false, cond, ◌&&◌}
use mathlib.Core.List.{List, [], ◌∷◌}
use mathlib.Core.Logic.{⊎_elim}
use mathlib.Core.Option.{none, some}
use native.Mathlib.Nat.{add-zero}
use native.Mathlib.Omega.{arith}
use borrow.Author.Tests.{eqb-true, eqb-false, lt-ltb, le-ltb}
use lib.Dec.{eqb, ltb}
use lib.ListN.{length, get_or, take}
use Rattle.buffers.specs.Bytes.{put}
use Rattle.buffers.proofs.Lists.{below_or_not, length-put, put_in, put-before, put-after, part_at, part_ext, past_end}
use Rattle.slots.specs.Slot.{is_live, is_nameless}
use Rattle.slots.proofs.Tracks.{label-high}
use Rattle.chains.specs.File.{File}
use Rattle.directory.specs.Places.{slots, slot_at, slot_bytes, dir_sector}
use Rattle.directory.specs.Directory.{slots_in, is_read}
use Rattle.directory.proofs.Places.{slot-sector}
use Rattle.directory.proofs.Ends.{seen-is}
use Rattle.disk.specs.View.{View, view}
use Rattle.disk.specs.Accepted.{AcceptedDisk}
use Rattle.steps.specs.Sectors.{sector, is_listed, cut}
use Rattle.steps.specs.Steps.{put_all, StepHolds}
use Rattle.steps.proofs.Steps.{put_other}
use Rattle.steps.proofs.Sectors.{sectors_ext, length_cut, cut-old, cut-new}
use Rattle.plans.specs.Plan.{with_slot}
use Rattle.plans.proofs.Frame.{entry_dead, LiveFile, holds, holds-long, holds_named, Keeps, reach_read, seen_here, seen_else}
use Rattle.plans.proofs.Kept.{accepted-long, touch_step, erase_does}
use Rattle.plans.proofs.After.{first_byte}
use Rattle.erase_many.specs.ErasedMap.{slots_cleared}

-- ---- fewer files

-- every slot meant holds a file
abbrev pub Lives : List ℕ → (ℕ → Bool) → Type 0
Lives d e = (i : ℕ) → e i ≡ true → (f : File) × ((view d).files i ≡ some f)

-- a view without those among the first m
unfoldable pub without : View → (ℕ → Bool) → ℕ → View
without l e m = record { long = l.long; label = l.label; files = λ i. cond (e i && ltb i m) none (l.files i) }

without_none : (l : View) (e : ℕ → Bool) → without l e 0 ≡ l
unfolding without
without_none l e = λ q. record { long = l.long; label = l.label; files = λ i. by i (e i) q }
  where
    by : (i : ℕ) (t : Bool) → cond (t && ltb i 0) none (l.files i) ≡ l.files i
    by i true = rw (le-ltb i 0 (omega arith))
    by i false = refl

-- the slots before slot m, and the slots before the next, but for slot m
but_one : (i m : ℕ) → (i ≡ m → ⊥) → ltb i m ≡ ltb i (suc m)
but_one i m n =
    ⊎_elim (λ (k : i < m). lt-ltb i m k ∙ sym (lt-ltb i (suc m) (omega arith)))
    (λ (k : m ≤ i). le-ltb i m k ∙ sym (le-ltb i (suc m) (omega arith)))
    (below_or_not i m)

without_more : (l : View) (e : ℕ → Bool) (m : ℕ) → e m ≡ true → with_slot (without l e m) m none ≡ without l e (suc m)
unfolding without with_slot
without_more l e m h = λ q. record { long = l.long; label = l.label; files = λ i. by i (eqb i m) refl q }
  where
    by : (i : ℕ) (t : Bool) → eqb i m ≡ t → cond t none (cond (e i && ltb i m) none (l.files i)) ≡ cond (e i && ltb i (suc m)) none (l.files i)
    by i true q =
        let z : i ≡ m = eqb-true i m q in
        rw (ap e z ∙ h, lt-ltb i (suc m) (omega arith))
    by i false q = ap (λ (b : Bool). cond (e i && b) none (l.files i)) (but_one i m (eqb-false i m q))

without_same : (l : View) (e : ℕ → Bool) (m : ℕ) → e m ≡ false → without l e m ≡ without l e (suc m)
unfolding without
without_same l e m h = λ q. record { long = l.long; label = l.label; files = λ i. by i (eqb i m) refl q }
  where
    by : (i : ℕ) (t : Bool) → eqb i m ≡ t → cond (e i && ltb i m) none (l.files i) ≡ cond (e i && ltb i (suc m)) none (l.files i)
    by i true q = rw (ap e (eqb-true i m q) ∙ h)
    by i false q = ap (λ (b : Bool). cond (e i && b) none (l.files i)) (but_one i m (eqb-false i m q))

-- ---- one slot more

-- byte 0 of a live slot set to 0: the slot holds nothing then, the disk is accepted, and as many slots are read
module _ (d : List ℕ) (w : AcceptedDisk (view d)) (i : ℕ) (f : File) (e : (view d).files i ≡ some f) where
  own : LiveFile d i f
  own = holds d i f e

  step : StepHolds view AcceptedDisk d (touch_step (view d) i f 0 (0 ∷ []))
  step = erase_does d w i f e

  here : put d (slot_at i + 0) (0 ∷ []) ≡ put d (slot_at i) (0 ∷ [])
  here = ap (λ (a : ℕ). put d a (0 ∷ [])) (add-zero (slot_at i))

  dead : is_live (put f.bytes 0 (0 ∷ [])) ≡ false
  dead = let z = holds-long d i f e (accepted-long d w) in rw (first_byte f.bytes 0 (omega arith))

  pub clear_view : view (put d (slot_at i) (0 ∷ [])) ≡ with_slot (view d) i none
  unfolding put_all
  clear_view = ap view (sym here) ∙ step.sees ∙ ap (with_slot (view d) i) (entry_dead (put f.bytes 0 (0 ∷ [])) f.sectors dead)

  pub clear_accepted : AcceptedDisk (view (put d (slot_at i) (0 ∷ [])))
  unfolding put_all
  clear_accepted = rw (ap view (sym here) ∙ step.sees) step.ok

  named : is_nameless (put (slot_bytes d i) 0 (0 ∷ [])) ≡ false
  named =
      ap (λ (x : ℕ). eqb x 0) (put-after (slot_bytes d i) 0 (0 ∷ []) 1 (omega arith))
      ∙ ap is_nameless own.bytes ∙ holds_named d i f e

  kept : Keeps d i (put (slot_bytes d i) 0 (0 ∷ []))
  kept k l z = put-after (slot_bytes d i) 0 (0 ∷ []) k (omega (arith, label-high k l))

  pub clear_seen : (j : ℕ) → is_read (put d (slot_at i) (0 ∷ [])) j ≡ is_read d j
  clear_seen j = ap (λ (x : List ℕ). is_read x j) (sym here) ∙ by (eqb j i) refl
    where
      there : i < slots_in d
      there = (seen-is d i own.read).0

      by : (t : Bool) → eqb j i ≡ t → is_read (put d (slot_at i + 0) (0 ∷ [])) j ≡ is_read d j
      by true q =
          let z : j ≡ i = eqb-true j i q in
          rw z (seen_here d (accepted-long d w) i there 0 (0 ∷ []) (omega arith) (reach_read d i own.read) named kept ∙ sym own.read)
      by false q = seen_else d (accepted-long d w) i there 0 (0 ∷ []) (omega arith) (reach_read d i own.read) named kept j (eqb-false j i q)

-- ---- all of them

pub cleared-long : (d : List ℕ) (e : ℕ → Bool) (m : ℕ) → length (slots_cleared d e m) ≡ length d
unfolding slots_cleared
cleared-long d e zero = refl
cleared-long d e (suc m) = by (e m) (cleared-long d e m)
  where
    by : (t : Bool) → length (slots_cleared d e m) ≡ length d → length (cond t (put (slots_cleared d e m) (slot_at m) (0 ∷ [])) (slots_cleared d e m)) ≡ length d
    by true q = length-put (slots_cleared d e m) (slot_at m) (0 ∷ []) ∙ q
    by false q = q

-- x is disk d with those of the first m slots emptied that are meant
pub record SlotsClearedTo (d : List ℕ) (e : ℕ → Bool) (m : ℕ) (x : List ℕ) : Type 0 where
  pub sees : view x ≡ without (view d) e m
  pub ok : AcceptedDisk (view x)
  pub reads : (j : ℕ) → is_read x j ≡ is_read d j

module _ (d : List ℕ) (w : AcceptedDisk (view d)) (e : ℕ → Bool) (live : Lives d e) where
  -- a slot meant is there until it is its turn
  not_yet : (m : ℕ) (h : e m ≡ true) → (without (view d) e m).files m ≡ some (live m h).0
  unfolding without
  not_yet m h = rw (h, le-ltb m m (omega arith)) (live m h).1

  pub all_emptied : (m : ℕ) → SlotsClearedTo d e m (slots_cleared d e m)
  unfolding slots_cleared
  all_emptied zero = record { sees = sym (without_none (view d) e); ok = w; reads = λ j. refl }
  all_emptied (suc m) = by (e m) refl (all_emptied m)
    where
      by : (t : Bool) → e m ≡ t → SlotsClearedTo d e m (slots_cleared d e m) → SlotsClearedTo d e (suc m) (cond t (put (slots_cleared d e m) (slot_at m) (0 ∷ [])) (slots_cleared d e m))
      by true p a =
          let x : List ℕ = slots_cleared d e m in
          let f : File = (live m p).0 in
          let h : (view x).files m ≡ some f = ap (λ (l : View). l.files m) a.sees ∙ not_yet m p in
          record {
            sees = clear_view x a.ok m f h ∙ ap (λ (l : View). with_slot l m none) a.sees ∙ without_more (view d) e m p;
            ok = clear_accepted x a.ok m f h;
            reads = λ j. clear_seen x a.ok m f h j ∙ a.reads j;
          }
      by false p a = record { sees = a.sees ∙ without_same (view d) e m p; ok = a.ok; reads = a.reads }

-- ---- sector by sector

-- bytes put into two disks that agree in a sector
put_agree : (x y : List ℕ) (a : ℕ) (v : List ℕ) (s : ℕ) → length x ≡ length y → sector x s ≡ sector y s → sector (put x a v) s ≡ sector (put y a v) s
put_agree x y a v s l e =
    part_ext (s * 512) 512 (put x a v) (put y a v) (length-put x a v ∙ l ∙ sym (length-put y a v))
    (λ j m.
    ⊎_elim (λ (b : s * 512 + j < a). put-before x a v (s * 512 + j) b ∙ was j m ∙ sym (put-before y a v (s * 512 + j) b))
    (λ (b : a ≤ s * 512 + j).
    ⊎_elim (λ (c : s * 512 + j < a + length v). now (s * 512 + j) b c)
    (λ (c : a + length v ≤ s * 512 + j). put-after x a v (s * 512 + j) c ∙ was j m ∙ sym (put-after y a v (s * 512 + j) c))
    (below_or_not (s * 512 + j) (a + length v)))
    (below_or_not (s * 512 + j) a))
  where
    was : (j : ℕ) → j < 512 → get_or x (s * 512 + j) 0 ≡ get_or y (s * 512 + j) 0
    was j m = sym (part_at (s * 512) 512 x j m) ∙ ap (λ (b : List ℕ). get_or b j 0) e ∙ part_at (s * 512) 512 y j m

    written : (z : List ℕ) (p : ℕ) → a ≤ p → p < a + length v → p < length z → get_or (put z a v) p 0 ≡ get_or v (p - a) 0
    written z p b c h =
        let q : p ≡ a + (p - a) = omega arith in
        ap (λ (n : ℕ). get_or (put z a v) n 0) q ∙ put_in z a v (p - a) (omega arith) (omega arith)

    now : (p : ℕ) → a ≤ p → p < a + length v → get_or (put x a v) p 0 ≡ get_or (put y a v) p 0
    now p b c =
        ⊎_elim (λ (h : p < length x). written x p b c h ∙ sym (written y p b c (omega arith)))
        (λ (h : length x ≤ p). past_end (put x a v) p (rw length-put h) ∙ sym (past_end (put y a v) p (rw (length-put, ← l) h)))
        (below_or_not p (length x))

-- it hangs on the slots of that sector alone
pub cleared-sector : (d : List ℕ) (e g : ℕ → Bool) (s : ℕ) → ((i : ℕ) → dir_sector i ≡ s → e i ≡ g i) → (m : ℕ) → sector (slots_cleared d e m) s ≡ sector (slots_cleared d g m) s
unfolding slots_cleared
cleared-sector d e g s h zero = refl
cleared-sector d e g s h (suc m) = by (eqb (dir_sector m) s) refl (cleared-sector d e g s h m)
  where
    next : Bool → List ℕ → List ℕ
    next t x = cond t (put x (slot_at m) (0 ∷ [])) x

    same : (t : Bool) → sector (slots_cleared d e m) s ≡ sector (slots_cleared d g m) s → sector (next t (slots_cleared d e m)) s ≡ sector (next t (slots_cleared d g m)) s
    same true q = put_agree (slots_cleared d e m) (slots_cleared d g m) (slot_at m) (0 ∷ []) s (cleared-long d e m ∙ sym (cleared-long d g m)) q
    same false q = q

    apart : (t : Bool) (x : List ℕ) → (s ≡ dir_sector m → ⊥) → sector (next t x) s ≡ sector x s
    apart true x n = put_other (dir_sector m) (record { place = slot_at m; bytes = 0 ∷ [] }) x (record { low = omega (arith, slot-sector m); high = omega (arith, slot-sector m) }) s n
    apart false x n = refl

    by : (t : Bool) → eqb (dir_sector m) s ≡ t → sector (slots_cleared d e m) s ≡ sector (slots_cleared d g m) s → sector (next (e m) (slots_cleared d e m)) s ≡ sector (next (g m) (slots_cleared d g m)) s
    by true p q = rw (h m (eqb-true (dir_sector m) s p)) (same (g m) q)
    by false p q =
        let n : s ≡ dir_sector m → ⊥ = λ z. eqb-false (dir_sector m) s p (sym z) in
        apart (e m) (slots_cleared d e m) n ∙ q ∙ sym (apart (g m) (slots_cleared d g m) n)

pub cleared-none : (d : List ℕ) (e : ℕ → Bool) → ((i : ℕ) → e i ≡ false) → (m : ℕ) → slots_cleared d e m ≡ d
unfolding slots_cleared
cleared-none d e h zero = refl
cleared-none d e h (suc m) = rw (h m) (cleared-none d e h m)

-- a disk cut after k of the sectors named has those slots emptied that lie in them
pub cut-cleared : (d : List ℕ) (e : ℕ → Bool) (ss : List ℕ) (k : ℕ)
    → cut d (slots_cleared d e slots) ss k ≡ slots_cleared d (λ i. e i && is_listed (dir_sector i) (take k ss)) slots
cut-cleared d e ss k =
    sectors_ext (cut d (slots_cleared d e slots) ss k) (slots_cleared d g slots) (length_cut d (slots_cleared d e slots) ss k ∙ sym (cleared-long d g slots)) (λ s. by s (is_listed s (take k ss)) refl)
  where
    g : ℕ → Bool
    g i = e i && is_listed (dir_sector i) (take k ss)

    and-true : (t : Bool) → t ≡ (t && true)
    and-true true = refl
    and-true false = refl

    and-false : (t : Bool) → (t && false) ≡ false
    and-false true = refl
    and-false false = refl

    by : (s : ℕ) (t : Bool) → is_listed s (take k ss) ≡ t → sector (cut d (slots_cleared d e slots) ss k) s ≡ sector (slots_cleared d g slots) s
    by s true q =
        cut-new d (slots_cleared d e slots) ss k (cleared-long d e slots) s q
        ∙ cleared-sector d e g s (λ i z. and-true (e i) ∙ ap (λ (b : Bool). e i && b) (sym (ap (λ (n : ℕ). is_listed n (take k ss)) z ∙ q))) slots
    by s false q =
        cut-old d (slots_cleared d e slots) ss k s q ∙ ap (λ (x : List ℕ). sector x s) (sym (cleared-none d (λ i. false) (λ i. refl) slots))
        ∙ cleared-sector d (λ i. false) g s (λ i z. sym (ap (λ (b : Bool). e i && b) (ap (λ (n : ℕ). is_listed n (take k ss)) z ∙ q) ∙ and-false (e i))) slots
