-- Two marks, each by the slot that its name finds.
use Prim.Native.Nat.{ℕ, ◌≤◌, ◌<◌}
use mathlib.Core.Path.{◌≡◌, refl, sym, ap, ◌∙◌}
use mathlib.Core.Bool.{Bool, true, false, Bool-discrete}
use mathlib.Core.List.{List}
use mathlib.Core.Logic.{◌⊎◌, inl, inr, ⊎_elim}
use mathlib.Core.Option.{some-injective}
use native.Mathlib.Decide.{ℕ_discrete}
use native.Mathlib.Omega.{arith}
use lib.Dec.{ltb}
use Rattle.buffers.proofs.Lists.{below_or_not}
use Rattle.slots.specs.Slot.{name_of}
use Rattle.names.specs.Name.{Same, padded}
use Rattle.names.proofs.Names.{same_of, same_via}
use Rattle.directory.specs.Places.{slot_at}
use Rattle.directory.specs.Directory.{directory}
use Rattle.directory.proofs.Places.{slots_apart}
use Rattle.directory.proofs.Search.{find-some, find-same}
use Rattle.disk.specs.View.{view, view_slots}
use Rattle.files.specs.Calls.{SlotLookup, found_slot, refused_lookup, lookup}
use Rattle.files.proofs.Named.{lookup_named}
use Rattle.plans.specs.Change.{Mark, marked_byte}
use Rattle.mark_order.specs.MarkCalls.{MarkCall, MarksOneName, hide_pair, Commuting, OnePair}
use Rattle.mark_order.proofs.Turned.{turned, turned_twice, turned_apart, turned_same, pairs_swap, later-mark}
use Rattle.mark_order.proofs.Found.{mark_by, left}

-- ---- slots and names

-- two slots lie at two places
slots_differ : (i j : ℕ) → (i ≡ j → ⊥) → slot_at i ≡ slot_at j → ⊥
slots_differ i j h e =
    ⊎_elim (λ (l : i < j). let s = slots_apart i j l in absurd (omega arith))
    (λ (l : j ≤ i). let k : j < i = omega arith in let s = slots_apart j i k in absurd (omega arith)) (below_or_not i j)

-- what two names find on a disk: two slots where the names differ
found-apart : (d m n : List ℕ) → (Same (padded m) (padded n) → ⊥) → (i j : ℕ) → lookup (view d) m ≡ found_slot i
    → lookup (view d) n ≡ found_slot j → i ≡ j → ⊥
found-apart d m n h i j p q e =
    let a = find-some (directory d) m i (lookup_named d m i (sym p)).found in
    let b = find-some (directory d) n j (lookup_named d n j (sym q)).found in
    let s : a.bytes ≡ b.bytes = some-injective a.bytes b.bytes (sym a.here ∙ ap (directory d) e ∙ b.here) in
    h (same_via (name_of a.bytes) (padded m) (padded n) a.name (same_of (ap name_of s) (padded n) b.name))

-- and one where they are one
pub found_one : (a b : MarkCall) → MarksOneName a b → (d : List ℕ) → lookup (view d) a.name ≡ lookup (view d) b.name
unfolding lookup
found_one a b w d = rw (w.asked, find-same (view_slots (view d)) a.name b.name w.same)

-- ---- the disk that a mark leaves

abbrev pub left_by : SlotLookup → Mark → ℕ → List ℕ → List ℕ
left_by s k room d = left (mark_by k d room s) d

-- two marks, each by its slot
pub swap_left : (s t : SlotLookup) (k l : Mark) (p q : ℕ) (d : List ℕ)
    → ((i j : ℕ) → s ≡ found_slot i → t ≡ found_slot j → (i ≡ j → ⊥) ⊎ (hide_pair k ≡ hide_pair l → ⊥))
    → left_by t l q (left_by s k p d) ≡ left_by s k p (left_by t l q d)
swap_left (refused_lookup r) t k l p q d h = refl
swap_left (found_slot i) (refused_lookup r) k l p q d h = refl
swap_left (found_slot i) (found_slot j) k l p q d h = by (ltb p 1) refl (ltb q 1) refl
  where
    both : (i ≡ j → ⊥) ⊎ (hide_pair k ≡ hide_pair l → ⊥) → Dec (i ≡ j)
        → turned (marked_byte l) (slot_at j) (turned (marked_byte k) (slot_at i) d)
        ≡ turned (marked_byte k) (slot_at i) (turned (marked_byte l) (slot_at j) d)
    both u (no z) = turned_apart (marked_byte k) (marked_byte l) (slot_at i) (slot_at j) d (slots_differ i j z)
    both (inl u) (yes z) = absurd (u z)
    both (inr u) (yes z) =
        rw z
        (turned_twice (marked_byte k) (marked_byte l) (slot_at j) d
        ∙ turned_same (λ x. marked_byte l (marked_byte k x)) (λ x. marked_byte k (marked_byte l x)) (slot_at j) d (λ x. pairs_swap k l x u)
        ∙ sym (turned_twice (marked_byte l) (marked_byte k) (slot_at j) d))

    by : (a : Bool) → ltb p 1 ≡ a → (b : Bool) → ltb q 1 ≡ b
        → left_by (found_slot j) l q (left_by (found_slot i) k p d) ≡ left_by (found_slot i) k p (left_by (found_slot j) l q d)
    by true e b w = rw e
    by false e true w = rw (e, w)
    by false e false w = rw (e, w) (both (h i j refl refl) (ℕ_discrete i j))

-- the later of two marks of one pair, by one slot
pub later-left : (s : SlotLookup) (k l : Mark) (p q : ℕ) (d : List ℕ) → hide_pair k ≡ hide_pair l → ltb q 1 ≡ false
    → left_by s l q (left_by s k p d) ≡ left_by s l q d
later-left (refused_lookup r) k l p q d h w = refl
later-left (found_slot i) k l p q d h w = by (ltb p 1) refl
  where
    by : (a : Bool) → ltb p 1 ≡ a → left_by (found_slot i) l q (left_by (found_slot i) k p d) ≡ left_by (found_slot i) l q d
    by true e = rw e
    by false e =
        rw (e, w)
        (turned_twice (marked_byte k) (marked_byte l) (slot_at i) d
        ∙ turned_same (λ x. marked_byte l (marked_byte k x)) (marked_byte l) (slot_at i) d (λ x. later-mark k l x h))

-- a mark between: what a later one makes the same of two disks, it makes the same after it too
pub through : (s t : SlotLookup) (k l : Mark) (p q : ℕ) (d e : List ℕ) → ltb q 1 ≡ false → left_by s l q d ≡ left_by s l q e
    → left_by s l q (left_by t k p d) ≡ left_by s l q (left_by t k p e)
through (refused_lookup r) t k l p q d e w z = ap (left_by t k p) z
through (found_slot i) (refused_lookup r) k l p q d e w z = z
through (found_slot i) (found_slot j) k l p q d e w z = by (ℕ_discrete j i) (Bool-discrete (hide_pair k) (hide_pair l))
  where
    swapped : ((m n : ℕ) → found_slot j ≡ found_slot m → found_slot i ≡ found_slot n → (m ≡ n → ⊥) ⊎ (hide_pair k ≡ hide_pair l → ⊥))
        → left_by (found_slot i) l q (left_by (found_slot j) k p d) ≡ left_by (found_slot i) l q (left_by (found_slot j) k p e)
    swapped h =
        swap_left (found_slot j) (found_slot i) k l p q d h ∙ ap (left_by (found_slot j) k p) z ∙ sym (swap_left (found_slot j) (found_slot i) k l p q e h)

    by : Dec (j ≡ i) → Dec (hide_pair k ≡ hide_pair l)
        → left_by (found_slot i) l q (left_by (found_slot j) k p d) ≡ left_by (found_slot i) l q (left_by (found_slot j) k p e)
    by (yes x) (yes y) =
        rw x (later-left (found_slot i) k l p q d y w ∙ z ∙ sym (later-left (found_slot i) k l p q e y w))
    by (no x) y =
        swapped
        (λ m n (u : found_slot j ≡ found_slot m) (v : found_slot i ≡ found_slot n).
        inl (λ (c : m ≡ n). let a : j ≡ m = cc in let b : i ≡ n = cc in x (a ∙ c ∙ sym b)))
    by (yes x) (no y) = swapped (λ m n u v. inr y)

-- two marks that may change places find two slots, or are of two pairs
pub apart-found : (d : List ℕ) (a b : MarkCall) → Commuting a b → (i j : ℕ) → lookup (view d) a.name ≡ found_slot i
    → lookup (view d) b.name ≡ found_slot j
    → (i ≡ j → ⊥) ⊎ (OnePair a b → ⊥)
apart-found d a b (inl u) i j p q = inl (found-apart d a.name b.name u i j p q)
apart-found d a b (inr u) i j p q = inr u
