-- The listing after a save: one file more, its entry, and as many free sectors fewer as the save takes.
use Prim.Native.Nat.{ℕ, zero, suc, ◌+◌, ◌-◌, ◌<◌}
use mathlib.Core.Path.{◌≡◌, refl, sym, ap, ap₂, ◌∙◌}
use mathlib.Core.Bool.{Bool, true, false, cond, not, ◌&&◌, ◌||◌, true≢false, false≢true}
use mathlib.Core.List.{List}
use mathlib.Core.Logic.{⊎_elim}
use mathlib.Core.Option.{none, some}
use native.Mathlib.Nat.{eq-or-lt_of_le, le_of_suc-le-suc, not-suc-le-zero}
use native.Mathlib.Omega.{arith}
use borrow.Author.Tests.{eqb-true, eqb-false}
use lib.Dec.{eqb}
use lib.ListN.{length}
use Rattle.buffers.specs.Bytes.{count, any}
use Rattle.buffers.proofs.Counts.{any_none, none_any, any_some, some-any, count_cong, count_less}
use Rattle.maps.specs.Bits.{has, bits_of}
use Rattle.slots.specs.Slot.{map_of, sectors_for}
use Rattle.slots.specs.Tracks.{data_bit}
use Rattle.chains.specs.File.{File}
use Rattle.directory.specs.Places.{slots}
use Rattle.directory.specs.Directory.{fold_option, live_among}
use Rattle.surveys.specs.Survey.{union, free}
use Rattle.surveys.proofs.Union.{has-union}
use Rattle.disk.specs.View.{View, view, view_slots, view_tracks}
use Rattle.disk.specs.Check.{check_disk}
use Rattle.disk.specs.Accepted.{AcceptedDisk}
use Rattle.steps.specs.Sectors.{is_listed}
use Rattle.plans.specs.Change.{SaveRequest, save}
use Rattle.plans.specs.Saving.{free_bit, map_with, new_slot}
use Rattle.plans.specs.Plan.{with_slot, new_disk, run_change}
use Rattle.plans.proofs.Frame.{disk-accepted, slots_same, slots-other, extra_upd}
use Rattle.plans.proofs.Free.{Run, run_listed, passing_long, free-long, free-small}
use Rattle.plans.proofs.NewFile.{new_file, map_is, has-map_with, bits-map_with}
use Rattle.plans.proofs.Demand3.{change-accepted}
use Rattle.plans.proofs.ReadBack.{SaveStored, stored}

-- ---- counting

-- one place more that holds
count_one : (n i : ℕ) (p q : ℕ → Bool) → i < n → p i ≡ false → q i ≡ true → ((j : ℕ) → (j ≡ i → ⊥) → q j ≡ p j) → count n q ≡ count n p + 1
unfolding count
count_one zero i p q h a b e = absurd (not-suc-le-zero h)
count_one (suc n) i p q h a b e =
    ⊎_elim
    (λ (w : i ≡ n).
    let same : count n q ≡ count n p = count_cong n q p (λ k l. e k (omega arith)) in
    rw (same, ap q (sym w) ∙ b, ap p (sym w) ∙ a) (omega arith))
    (λ (w : i < n). rw (e n (omega arith), count_one n i p q w a b e) (omega arith))
    (eq-or-lt_of_le (le_of_suc-le-suc h))

same_truth : (a b : Bool) → (a ≡ true → b ≡ true) → (b ≡ true → a ≡ true) → a ≡ b
same_truth true b f g = sym (f refl)
same_truth false true f g = g refl
same_truth false false f g = refl

-- one place more, for any
any_one : (n i : ℕ) (p q : ℕ → Bool) → i < n → p i ≡ false → ((j : ℕ) → (j ≡ i → ⊥) → q j ≡ p j) → any n q ≡ (any n p || q i)
any_one n i p q h a e = by (q i) refl (any n p) refl
  where
    other : (j : ℕ) → p j ≡ true → j ≡ i → ⊥
    other j w z = true≢false (sym w ∙ ap p z ∙ a)

    by : (t : Bool) → q i ≡ t → (u : Bool) → any n p ≡ u → any n q ≡ (u || t)
    by true y true z = any_some n q i h y
    by true y false z = any_some n q i h y
    by false y true z = let s = some-any n p z in any_some n q s.0 s.1 (e s.0 (other s.0 s.2) ∙ s.2)
    by false y false z = none_any n q (λ j k. at j k (eqb j i) refl)
      where
        at : (j : ℕ) → j < n → (t : Bool) → eqb j i ≡ t → q j ≡ false
        at j k true w = ap q (eqb-true j i w) ∙ y
        at j k false w = e j (eqb-false j i w) ∙ any_none n p z j k

-- ---- a slot that held nothing holds a file

module _ (l : View) (i : ℕ) (h : i < slots) (z : l.files i ≡ none) (f : File) where
  abbrev more : View
  more = with_slot l i (some f)

  was_empty : view_slots l i ≡ none
  unfolding view_slots
  was_empty = ap (fold_option none (λ f. some f.bytes)) z

  pub live_more : live_among (view_slots more) slots ≡ live_among (view_slots l) slots + 1
  unfolding live_among
  live_more =
      count_one slots i (λ j. fold_option false (λ s. true) (view_slots l j)) (λ j. fold_option false (λ s. true) (view_slots more j)) h (ap (fold_option false (λ s. true)) was_empty)
      (ap (fold_option false (λ s. true)) (slots_same l i (some f))) (λ j n. ap (fold_option false (λ s. true)) (slots-other l i (some f) j n))

  pub used-more : (b : ℕ) → b < 1560 → has (union (view_slots more) slots) b ≡ (has (union (view_slots l) slots) b || has (map_of f.bytes) b)
  used-more b k =
      has-union (view_slots more) slots b k
      ∙ any_one slots i (λ j. fold_option false (λ s. has (map_of s) b) (view_slots l j)) (λ j. fold_option false (λ s. has (map_of s) b) (view_slots more j)) h
      (ap (fold_option false (λ s. has (map_of s) b)) was_empty) (λ j n. ap (fold_option false (λ s. has (map_of s) b)) (slots-other l i (some f) j n))
      ∙ ap₂ ◌||◌ (sym (has-union (view_slots l) slots b k)) (ap (fold_option false (λ s. has (map_of s) b)) (slots_same l i (some f)))

-- ---- after a save

-- the free bits of a view
abbrev free_in : View → ℕ → Bool
free_in l = free_bit (view_tracks l) (view_slots l)

and_not : (a u v : Bool) → (a && not (u || v)) ≡ ((a && not u) && not v)
and_not true true v = refl
and_not true false v = refl
and_not false u v = refl

module _ (d : List ℕ) (ok : check_disk d ≡ none) (room : ℕ) (w : SaveRequest) (new ss : List ℕ) (e : run_change (save w) d room ≡ new_disk new ss) where
  pub it : SaveStored d w new ss
  it = stored d ok room w new ss e

  abbrev l : View
  l = view d

  abbrev f : File
  f = new_file (view d).label it.slot w it.bits

  run_of : Run (free_in l) 0 it.bits
  run_of = it.ready.run

  -- one file more
  pub saved-files : live_among (view_slots (view new)) slots ≡ live_among (view_slots (view d)) slots + 1
  saved-files = ap (λ (x : View). live_among (view_slots x) slots) it.seen ∙ live_more l it.slot (free-small l it.slot it.lowest) it.lowest.empty f

  -- its entry: the slot's bytes, in the slot that was taken
  pub saved-entry : view_slots (view new) it.slot ≡ some (new_slot (view d).label it.slot w it.bits)
  saved-entry = ap (λ (x : View). view_slots x it.slot) it.seen ∙ slots_same l it.slot (some f)

  pub other_entries : (j : ℕ) → (j ≡ it.slot → ⊥) → view_slots (view new) j ≡ view_slots (view d) j
  other_entries j n = ap (λ (x : View). view_slots x j) it.seen ∙ slots-other l it.slot (some f) j n

  bits-new : (b : ℕ) → has (map_of f.bytes) b ≡ is_listed b it.bits
  bits-new b = ap (λ (m : List ℕ). has m b) (map_is l.label it.slot w it.bits) ∙ has-map_with (free_in l) 0 it.bits run_of b

  free-after : (b : ℕ) → b < 1560 → free_in (with_slot l it.slot (some f)) b ≡ (free_in l b && not (is_listed b it.bits))
  free-after b h =
      ap₂ (λ (n : ℕ) (u : Bool). data_bit n b && not u) (extra_upd l it.slot (some f))
      (used-more l it.slot (free-small l it.slot it.lowest) it.lowest.empty f b h ∙ ap (λ (v : Bool). has (union (view_slots l) slots) b || v) (bits-new b))
      ∙ and_not (data_bit (view_tracks l) b) (has (union (view_slots l) slots) b) (is_listed b it.bits)

  count_taken : count 1560 (λ b. is_listed b it.bits) ≡ length it.bits
  unfolding bits_of
  count_taken =
      count_cong 1560 (λ b. is_listed b it.bits) (has (map_with it.bits)) (λ b h. sym (has-map_with (free_in l) 0 it.bits run_of b))
      ∙ bits-map_with (free_in l) 0 it.bits run_of

  free-count : (x : View) → AcceptedDisk x → free (view_tracks x) (view_slots x) ≡ count 1560 (free_in x)
  free-count x s = sym (free-long x s) ∙ passing_long (free_in x) 1560 0 ∙ count_cong 1560 (λ j. free_in x (0 + j)) (free_in x) (λ j h. ap (free_in x) (omega arith))

  -- n free sectors fewer
  pub saved-free : free (view_tracks (view new)) (view_slots (view new)) + sectors_for (length w.body) ≡ free (view_tracks (view d)) (view_slots (view d))
  saved-free =
      let a : free (view_tracks (view new)) (view_slots (view new)) ≡ count 1560 (λ b. free_in l b && not (is_listed b it.bits)) =
      free-count (view new) (disk-accepted new (change-accepted (save w) d room new ss ok e)) ∙ ap (λ (x : View). count 1560 (free_in x)) it.seen
      ∙ count_cong 1560 (free_in (with_slot l it.slot (some f))) (λ b. free_in l b && not (is_listed b it.bits)) (λ b h. free-after b h) in
      let b : count 1560 (λ b. free_in l b && not (is_listed b it.bits)) + count 1560 (λ b. is_listed b it.bits) ≡ count 1560 (free_in l) =
      count_less 1560 (free_in l) (λ b. is_listed b it.bits) (λ b h q. (run_listed (free_in l) 0 it.bits run_of b q).passes) in
      ap₂ ◌+◌ a (sym it.ready.long ∙ sym count_taken) ∙ b ∙ sym (free-count l (disk-accepted d ok))
