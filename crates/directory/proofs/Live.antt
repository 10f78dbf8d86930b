-- What the directory says of a slot: its bytes where it is live, and nothing of another; and the directory lies in front.
use Prim.Native.Nat.{ℕ, zero, suc, ◌+◌, ◌-◌, ◌≤◌, ◌<◌}
use mathlib.Core.Path.{◌≡◌, refl, sym, ap, ◌∙◌, fun_ext}
use mathlib.Core.Bool.{Bool, true, false, cond, ◌&&◌, true≢false}
use mathlib.Core.List.{List}
use mathlib.Core.Logic.{⊎_elim}
use mathlib.Core.Option.{Option, none, some, some-ne-none}
use native.Mathlib.Nat.{add-zero, add-suc}
use native.Mathlib.Omega.{arith}
use Rattle.buffers.specs.Bytes.{part, count}
use Rattle.buffers.proofs.Lists.{below_or_not, part-part}
use Rattle.buffers.proofs.Counts.{count-more, count_le, count_add, none-count}
use Rattle.slots.specs.Slot.{is_live}
use Rattle.directory.specs.Places.{slot_count, slots, slot_at, slot_place, slot_bytes}
use Rattle.directory.specs.Directory.{fold_option, Directory, label_of, tracks_of, slots_read, is_read, directory, slot_or, live_among}
use Rattle.directory.proofs.Places.{slot_base, slot-front, slot_placed}
use Rattle.directory.proofs.Label.{label_agree, tracks_agree}
use Rattle.directory.proofs.Ends.{slot_read, read-most, seen_read, unread, seen-small, unseen_past, seen_agree, nameless_agree}

-- ---- the bytes of a slot

pub slot-there : (d : List ℕ) (i : ℕ) → i < slots → {a : ℕ} → a ≡ slot_place i → {s : List ℕ} → s ≡ part a 256 d → s ≡ slot_or d i
slot-there d i h p e = e ∙ ap (λ (a : ℕ). part a 256 d) (p ∙ slot_placed i h) ∙ sym (slot_read d i h)

-- ---- live, erased, unread, or none at all

pub directory-live : (d : List ℕ) (i : ℕ) → is_read d i ≡ true → is_live (slot_bytes d i) ≡ true → directory d i ≡ some (slot_bytes d i)
unfolding directory
directory-live d i h e = rw (h, e)

pub directory-unseen : (d : List ℕ) (i : ℕ) → is_read d i ≡ false → directory d i ≡ none
unfolding directory
directory-unseen d i h = rw h

-- read or not
pub directory_dead : (d : List ℕ) (i : ℕ) → is_live (slot_bytes d i) ≡ false → directory d i ≡ none
unfolding directory
directory_dead d i e = by (is_read d i)
  where
    by : (t : Bool) → cond (t && is_live (slot_bytes d i)) (some (slot_bytes d i)) none ≡ none
    by true = rw e
    by false = refl

pub directory-unread : (d : List ℕ) (i : ℕ) → slots_read d ≤ i → directory d i ≡ none
directory-unread d i h = directory-unseen d i (unread d i h)

pub directory_past : (d : List ℕ) (i : ℕ) → slots ≤ i → directory d i ≡ none
directory_past d i h = directory-unread d i (omega (arith, read-most d))

-- by the bytes of a slot that is read
pub directory-read : (d : List ℕ) (i : ℕ) → i < slots_read d → directory d i ≡ cond (is_live (slot_or d i)) (some (slot_or d i)) none
unfolding directory
directory-read d i h = rw (seen_read d i h, slot_read d i (omega (arith, read-most d)))

pub directory-some : (d : List ℕ) (i : ℕ) (s : List ℕ) → directory d i ≡ some s → (i < slots) × (s ≡ slot_bytes d i) × (is_live s ≡ true) × (is_read d i ≡ true)
unfolding directory
directory-some d i s e = by (is_read d i) (is_live (slot_bytes d i)) refl refl e
  where
    by : (t l : Bool) → is_read d i ≡ t → is_live (slot_bytes d i) ≡ l → cond (t && l) (some (slot_bytes d i)) none ≡ some s
        → (i < slots) × (s ≡ slot_bytes d i) × (is_live s ≡ true) × (is_read d i ≡ true)
    by true true p q w =
        let z : s ≡ slot_bytes d i = cc in
        (seen-small d i p, z, ap is_live z ∙ q, p)
    by true false p q w = absurd (some-ne-none s (sym w))
    by false l p q w = absurd (some-ne-none s (sym w))

-- ---- as the code meets a slot: its bytes s, and r that says whether it is live

module _ (d : List ℕ) (i : ℕ) {s : List ℕ} (e : s ≡ slot_or d i) {r : Bool} (l : r ≡ is_live s) where
  pub met_live : i < slots_read d → r ≡ true → directory d i ≡ some s
  met_live h t = directory-read d i h ∙ rw (← e, ← l, t)

  -- read or not
  pub met_dead : r ≡ false → directory d i ≡ none
  met_dead t = ⊎_elim (λ h. directory-read d i h ∙ rw (← e, ← l, t)) (directory-unread d i) (below_or_not i (slots_read d))

-- ---- the directory is its first 40,960 bytes, where no track is added to the four

slot_in_front : (d : List ℕ) (i : ℕ) → i < 80 → slot_bytes (part 0 40960 d) i ≡ slot_bytes d i
slot_in_front d i h = part-part 0 40960 (slot_at i) 256 d (slot-front i h) ∙ ap (λ (a : ℕ). part a 256 d) (omega arith)

pub label-front : (d : List ℕ) → label_of (part 0 40960 d) ≡ label_of d
label-front d = label_agree d (part 0 40960 d) (slot_in_front d 0 (omega arith))

pub tracks-front : (d : List ℕ) → tracks_of (part 0 40960 d) ≡ tracks_of d
tracks-front d = tracks_agree d (part 0 40960 d) (label-front d)

-- no slot past the 80
pub directory_base : (d : List ℕ) → tracks_of d ≡ 0 → (i : ℕ) → 80 ≤ i → directory d i ≡ none
directory_base d z i h = directory-unseen d i (unseen_past d i (omega (arith, ap slot_count z ∙ slot_base)))

at_front : (d : List ℕ) → tracks_of d ≡ 0 → (i : ℕ) → directory d i ≡ directory (part 0 40960 d) i
unfolding directory
at_front d z i =
    ⊎_elim
    (λ (h : i < 80).
    let n : is_read (part 0 40960 d) i ≡ is_read d i =
    seen_agree d (part 0 40960 d) i (tracks-front d) (λ j k. nameless_agree d (part 0 40960 d) j (slot_in_front d j (omega arith))) in
    rw (n, slot_in_front d i h))
    (λ (h : 80 ≤ i). directory_base d z i h ∙ sym (directory_base (part 0 40960 d) (tracks-front d ∙ z) i h)) (below_or_not i 80)

pub directory-front : (d : List ℕ) → tracks_of d ≡ 0 → directory d ≡ directory (part 0 40960 d)
directory-front d z = fun_ext (at_front d z)

-- ---- how many slots are live

module _ (v : Directory) (i : ℕ) where
  pub among_dead : v i ≡ none → live_among v (i + 1) ≡ live_among v i
  unfolding live_among
  among_dead e = count-more i (λ i. fold_option false (λ s. true) (v i)) ∙ rw e (omega arith)

  pub among_live : (s : List ℕ) → v i ≡ some s → live_among v (i + 1) ≡ live_among v i + 1
  unfolding live_among
  among_live s e = count-more i (λ i. fold_option false (λ s. true) (v i)) ∙ rw e

pub among_few : (v : Directory) (i : ℕ) → live_among v i ≤ i
unfolding live_among
among_few v i = count_le i (λ i. fold_option false (λ s. true) (v i))

-- the same of a number that is it
pub among_seen : (v : Directory) (i n : ℕ) → n ≡ live_among v i → n ≤ i
among_seen v i n e = omega (arith, among_few v i)

pub among_none : (v : Directory) → live_among v 0 ≡ 0
unfolding live_among count
among_none v = refl

-- past all of them there is none
pub among_rest : (v : Directory) (i n : ℕ) → i ≤ n → live_among v n ≤ live_among v i → (j : ℕ) → i ≤ j → j < n → v j ≡ none
unfolding live_among
among_rest v i n h e j k l =
    let live : ℕ → Bool = λ i. fold_option false (λ s. true) (v i) in
    let m : i + (n - i) ≡ n = omega arith in
    let z : count (n - i) (λ j. live (i + j)) ≡ 0 = omega (arith, ap (λ (x : ℕ). count x live) m, count_add i (n - i) live) in
    let w : i + (j - i) ≡ j = omega arith in
    by (v j) (sym (ap live w) ∙ none-count (n - i) (λ j. live (i + j)) z (j - i) (omega arith))
  where
    by : (o : Option (List ℕ)) → fold_option false (λ s. true) o ≡ false → o ≡ none
    by none q = refl
    by (some s) q = absurd (true≢false q)

-- where no slot is live there are as many up to any of them
live-rest : (v : Directory) (i m : ℕ) → ((j : ℕ) → i ≤ j → v j ≡ none) → live_among v (i + m) ≡ live_among v i
unfolding live_among count
live-rest v i zero h = rw add-zero
live-rest v i (suc m) h = rw (add-suc i m, h (i + m) (omega arith), add-zero) (live-rest v i m h)

-- all that are live are read
pub live-read : (d : List ℕ) (i n : ℕ) → slots_read d ≤ i → i ≤ n → live_among (directory d) n ≡ live_among (directory d) i
live-read d i n h l =
    let e : i + (n - i) ≡ n = omega arith in
    ap (live_among (directory d)) (sym e) ∙ live-rest (directory d) i (n - i) (λ j k. directory-unread d j (omega arith))

-- where live slots are still to come, the next one is read
pub among_read : (d : List ℕ) (i : ℕ) → i ≤ slots → live_among (directory d) i < live_among (directory d) slots → i < slots_read d
among_read d i h l = ⊎_elim (λ k. k) (λ (k : slots_read d ≤ i). absurd (omega (arith, live-read d i slots k h))) (below_or_not i (slots_read d))
