-- Where the directory ends, and which slots are read: the lowest slot without a name, and those before it.
use Prim.Native.Nat.{ℕ, ◌-◌, ◌+◌, ◌≤◌, ◌<◌}
use mathlib.Core.Path.{◌≡◌, refl, sym, ap, ◌∙◌}
use mathlib.Core.Bool.{Bool, true, false, cond, true≢false}
use mathlib.Core.List.{List}
use mathlib.Core.Logic.{⊎_elim}
use mathlib.Core.Option.{Option, none, some, some-ne-none}
use native.Mathlib.Omega.{arith}
use borrow.Author.Tests.{ltb-true, lt-ltb, le-ltb}
use Rattle.buffers.proofs.Lists.{below_or_not}
use Rattle.refusals.specs.Order.{scan_from}
use Rattle.refusals.proofs.First.{scan-none, none-scan, scan-first, first-scan, scan_start, scan_skip, scan_stop, scan_end}
use Rattle.slots.specs.Slot.{is_nameless}
use Rattle.directory.specs.Places.{slot_count, slots, slot_bytes}
use Rattle.directory.specs.Directory.{tracks_of, slots_in, is_nameless_at, end_at, end_of, slots_read, is_read, slot_or}
use Rattle.directory.proofs.Label.{slots-few}

-- the bytes of a slot, read or not
pub slot_read : (d : List ℕ) (i : ℕ) → i < slots → slot_or d i ≡ slot_bytes d i
unfolding slot_or
slot_read d i h = rw (lt-ltb i slots h)

-- ---- where the directory ends

end_at_lem : (d : List ℕ) (i : ℕ) → is_nameless_at d i ≡ true → end_at d i ≡ some i
end_at_lem d i e = rw e

not_end : (d : List ℕ) (i : ℕ) → is_nameless_at d i ≡ false → end_at d i ≡ none
not_end d i e = rw e

-- what the test says at slot k
end_says : (d : List ℕ) (k i : ℕ) → end_at d k ≡ some i → (is_nameless_at d k ≡ true) × (k ≡ i)
end_says d k i e = by (is_nameless_at d k) refl e
  where
    by : (t : Bool) → is_nameless_at d k ≡ t → cond t (some k) none ≡ some i → (is_nameless_at d k ≡ true) × (k ≡ i)
    by true p q = (p, cc)
    by false p q = absurd (some-ne-none i (sym q))

end_not : (d : List ℕ) (k : ℕ) → end_at d k ≡ none → is_nameless_at d k ≡ false
end_not d k e = by (is_nameless_at d k) refl e
  where
    by : (t : Bool) → is_nameless_at d k ≡ t → cond {A = Option ℕ} t (some k) none ≡ none → is_nameless_at d k ≡ false
    by true p q = absurd (some-ne-none k q)
    by false p q = p

-- the directory ends at slot i: it has no name, and all before it have one
pub record EndsAtSlot (d : List ℕ) (i : ℕ) : Type 0 where
  pub below : i < slots_in d
  pub here : is_nameless_at d i ≡ true
  pub before : (j : ℕ) → j < i → is_nameless_at d j ≡ false

pub end_some : (d : List ℕ) (i : ℕ) → end_of d ≡ some i → EndsAtSlot d i
unfolding end_of
end_some d i e =
    let f = scan-first (slots_in d) (end_at d) i e in
    let w = end_says d f.at i f.here in
    rw (← w.1) (record { below = f.below; here = w.0; before = λ j h. end_not d j (f.before j h) })

pub some_end : (d : List ℕ) (i : ℕ) → EndsAtSlot d i → end_of d ≡ some i
unfolding end_of
some_end d i w =
    first-scan (slots_in d) (end_at d) i
    (record { at = i; below = w.below; before = λ j h. not_end d j (w.before j h); here = end_at_lem d i w.here })

pub end_none : (d : List ℕ) → end_of d ≡ none → (i : ℕ) → i < slots_in d → is_nameless_at d i ≡ false
unfolding end_of
end_none d e i h = end_not d i (scan-none (slots_in d) (end_at d) e i h)

pub none_end : (d : List ℕ) → ((i : ℕ) → i < slots_in d → is_nameless_at d i ≡ false) → end_of d ≡ none
unfolding end_of
none_end d h = none-scan (slots_in d) (end_at d) (λ i l. not_end d i (h i l))

-- ---- as the loop meets it: its bytes s, and r that says whether it has no name

pub end_start : (d : List ℕ) → end_of d ≡ scan_from (slots_in d - 0) 0 (end_at d)
unfolding end_of
end_start d = scan_start (slots_in d) (end_at d)

module _ (d : List ℕ) (i : ℕ) (w : end_of d ≡ scan_from (slots_in d - i) i (end_at d)) where
  -- no slot has been the end
  pub end_past : slots_in d ≤ i → slots_read d ≡ slots_in d
  unfolding slots_read
  end_past h = rw (w ∙ scan_end (slots_in d - i) i (end_at d) (omega arith))

  module _ (h : i < slots_in d) {s : List ℕ} (e : s ≡ slot_or d i) {r : Bool} (n : r ≡ is_nameless s) where
    met : is_nameless_at d i ≡ r
    unfolding is_nameless_at
    met = sym (n ∙ ap is_nameless (e ∙ slot_read d i (omega (arith, slots-few d))))

    pub end_here : r ≡ true → slots_read d ≡ i
    unfolding slots_read
    end_here t = rw (w ∙ scan_stop (slots_in d) i (end_at d) i h (end_at_lem d i (met ∙ t)))

    pub end_on : r ≡ false → end_of d ≡ scan_from (slots_in d - (i + 1)) (i + 1) (end_at d)
    end_on t = w ∙ scan_skip (slots_in d) i (end_at d) h (not_end d i (met ∙ t))

-- ---- how many slots are read

pub read_end : (d : List ℕ) (i : ℕ) → end_of d ≡ some i → slots_read d ≡ i
unfolding slots_read
read_end d i e = rw e

pub read_all : (d : List ℕ) → end_of d ≡ none → slots_read d ≡ slots_in d
unfolding slots_read
read_all d e = rw e

-- all have a name, and the next slot, where there is one, has none
pub record AllSlotsRead (d : List ℕ) : Type 0 where
  pub most : slots_read d ≤ slots_in d
  pub named : (i : ℕ) → i < slots_read d → is_nameless_at d i ≡ false
  pub next : slots_read d < slots_in d → is_nameless_at d (slots_read d) ≡ true

read : (d : List ℕ) → AllSlotsRead d
read d = by (end_of d) refl
  where
    by : (o : Option ℕ) → end_of d ≡ o → AllSlotsRead d
    by none e =
        let z = read_all d e in
        record { most = omega arith; named = λ i h. end_none d e i (omega arith); next = λ h. absurd (omega arith) }
    by (some i) e =
        let z = read_end d i e in
        let w = end_some d i e in
        record { most = omega (arith, w.below); named = λ j h. w.before j (omega arith); next = λ h. ap (is_nameless_at d) z ∙ w.here }

pub read_in : (d : List ℕ) → slots_read d ≤ slots_in d
read_in d = (read d).most

pub read-most : (d : List ℕ) → slots_read d ≤ slots
read-most d = omega (arith, read_in d, slots-few d)

pub seen_read : (d : List ℕ) (i : ℕ) → i < slots_read d → is_read d i ≡ true
unfolding is_read
seen_read d i h = lt-ltb i (slots_read d) h

pub read-seen : (d : List ℕ) (i : ℕ) → is_read d i ≡ true → i < slots_read d
unfolding is_read
read-seen d i e = ltb-true i (slots_read d) e

pub unread : (d : List ℕ) (i : ℕ) → slots_read d ≤ i → is_read d i ≡ false
unfolding is_read
unread d i h = le-ltb i (slots_read d) h

-- the end is the first that is not
pub read_next : (d : List ℕ) → slots_read d < slots_in d → is_nameless_at d (slots_read d) ≡ true
read_next d = (read d).next

pub unseen-read : (d : List ℕ) (i : ℕ) → is_read d i ≡ false → slots_read d ≤ i
unseen-read d i e = ⊎_elim (λ h. absurd (true≢false (sym (seen_read d i h) ∙ e))) (λ h. h) (below_or_not i (slots_read d))

-- a slot that is read is one of the directory's, and it and all before it have names
pub seen-is : (d : List ℕ) (i : ℕ) → is_read d i ≡ true → (i < slots_in d) × ((j : ℕ) → j ≤ i → is_nameless_at d j ≡ false)
seen-is d i e =
    let h = read-seen d i e in
    (omega (arith, read_in d), λ j k. (read d).named j (omega arith))

pub seen-small : (d : List ℕ) (i : ℕ) → is_read d i ≡ true → i < slots
seen-small d i e = omega (arith, read-seen d i e, read-most d)

pub is_seen : (d : List ℕ) (i : ℕ) → i < slots_in d → ((j : ℕ) → j ≤ i → is_nameless_at d j ≡ false) → is_read d i ≡ true
is_seen d i h n =
    ⊎_elim (seen_read d i) (λ (k : slots_read d ≤ i). absurd (true≢false (sym ((read d).next (omega arith)) ∙ n (slots_read d) k))) (below_or_not i (slots_read d))

-- a slot before one that is read is read, and one after an unread one is not
pub seen-lower : (d : List ℕ) (i j : ℕ) → j ≤ i → is_read d i ≡ true → is_read d j ≡ true
seen-lower d i j h e = seen_read d j (omega (arith, read-seen d i e))

pub unseen-later : (d : List ℕ) (i j : ℕ) → i ≤ j → is_read d i ≡ false → is_read d j ≡ false
unseen-later d i j h e = by (is_read d j) refl
  where
    by : (t : Bool) → is_read d j ≡ t → t ≡ false
    by true q = sym (seen-lower d j i h q) ∙ e
    by false q = refl

pub unseen_past : (d : List ℕ) (i : ℕ) → slots_in d ≤ i → is_read d i ≡ false
unseen_past d i h = unread d i (omega (arith, read_in d))

-- a slot without a name is not read
pub unseen_nameless : (d : List ℕ) (i : ℕ) → is_nameless_at d i ≡ true → is_read d i ≡ false
unseen_nameless d i e = by (is_read d i) refl
  where
    by : (t : Bool) → is_read d i ≡ t → t ≡ false
    by true q = sym (sym ((seen-is d i q).1 i (omega arith)) ∙ e)
    by false q = refl

-- with a name, a slot is read where all those before it are
pub seen_next : (d : List ℕ) (i : ℕ) → i < slots_in d → ((j : ℕ) → j < i → is_read d j ≡ true) → is_nameless_at d i ≡ false → is_read d i ≡ true
seen_next d i h w e =
    is_seen d i h
    (λ j k. ⊎_elim (λ l. (seen-is d j (w j l)).1 j (omega arith)) (λ (l : i ≤ j). let z : j ≡ i = omega arith in ap (is_nameless_at d) z ∙ e) (below_or_not j i))

-- by the names of the slots up to it, and the number of slots, alone
pub seen_agree : (d e : List ℕ) (i : ℕ) → tracks_of e ≡ tracks_of d → ((j : ℕ) → j ≤ i → is_nameless_at e j ≡ is_nameless_at d j) → is_read e i ≡ is_read d i
seen_agree d e i n h = by (is_read e i) (is_read d i) refl refl
  where
    many : slots_in e ≡ slots_in d
    many = ap slot_count n

    by : (t u : Bool) → is_read e i ≡ t → is_read d i ≡ u → t ≡ u
    by true true p q = refl
    by false false p q = refl
    by true false p q = let w = seen-is e i p in sym (is_seen d i (omega (arith, w.0, many)) (λ j k. sym (h j k) ∙ w.1 j k)) ∙ q
    by false true p q = let w = seen-is d i q in sym p ∙ is_seen e i (omega (arith, w.0, many)) (λ j k. h j k ∙ w.1 j k)

pub nameless_agree : (d e : List ℕ) (i : ℕ) → slot_bytes e i ≡ slot_bytes d i → is_nameless_at e i ≡ is_nameless_at d i
unfolding is_nameless_at
nameless_agree d e i q = ap is_nameless q

-- where the end has the same bytes on another disk with as many slots, no slot that was unread is read there
pub unread-kept : (d e : List ℕ) → tracks_of e ≡ tracks_of d → (slots_read d < slots_in d → slot_bytes e (slots_read d) ≡ slot_bytes d (slots_read d)) → (j : ℕ) → is_read d j ≡ false → is_read e j ≡ false
unread-kept d e n s j q =
    let r = unseen-read d j q in
    ⊎_elim
    (λ (h : j < slots_in d).
    let l : slots_read d < slots_in d = omega arith in
    unseen-later e (slots_read d) j r (unseen_nameless e (slots_read d) (nameless_agree d e (slots_read d) (s l) ∙ read_next d l)))
    (λ (h : slots_in d ≤ j). unseen_past e j (omega (arith, many))) (below_or_not j (slots_in d))
  where
    many : slots_in e ≡ slots_in d
    many = ap slot_count n
