-- Each change is accepted exactly when, in plain facts; what a save takes; and which files a change finds.
use Prim.Native.Nat.{ℕ, suc, ◌+◌, ◌-◌, ◌≤◌, ◌<◌}
use mathlib.Core.Path.{◌≡◌, refl, sym, ap, ap₂, ◌∙◌, subst}
use mathlib.Core.Bool.{Bool, true, false, not, ◌&&◌, ◌||◌, and-false, true≢false}
use mathlib.Core.List.{List, [], ◌∷◌}
use mathlib.Core.Logic.{◌⊎◌, inl, inr, ⊎_elim, ◌↔◌}
use mathlib.Core.Option.{Option, none, some, some-ne-none}
use native.Mathlib.Omega.{arith}
use borrow.Author.Tests.{ltb-true, ltb-false, lt-ltb, le-ltb, eqb-true, eqb-false, eq-eqb, not-true, not-false}
use lib.Dec.{eqb, ltb}
use lib.ListN.{length, get_or}
use Rattle.buffers.proofs.Lists.{below_or_not}
use Rattle.buffers.proofs.Tests.{or_neither}
use Rattle.refusals.specs.Order.{Refusal, refuse, ◌else◌, SlotRow, FirstSlotRow}
use Rattle.slots.specs.Slot.{protected, carried, name_of}
use Rattle.names.specs.Name.{padded}
use Rattle.names.proofs.Names.{not_bytes}
use Rattle.slots.specs.Tracks.{data_count}
use Rattle.chains.specs.File.{File, sectors_of}
use Rattle.directory.specs.Places.{slots, slot_bytes}
use Rattle.directory.specs.Directory.{fold_option, Directory, is_nameless_at, is_read, directory}
use Rattle.surveys.specs.Survey.{counted, used_map, free_of, free}
use Rattle.directory.specs.Find.{find}
use Rattle.directory.proofs.Ends.{seen_next, unseen_nameless}
use Rattle.directory.proofs.Live.{directory_dead, directory-unseen}
use Rattle.disk.specs.View.{View, view, view_slots, view_tracks}
use Rattle.disk.specs.Check.{check_disk}
use Rattle.disk.proofs.View.{view-none, view-slots, view_extra}
use Rattle.disk.proofs.Rows.{carried-is, is_carried}
use Rattle.files.specs.Calls.{no_file, file_at, file_named}
use Rattle.files.specs.Refused.{some_named, slot_named, start_outside, row20, by_check, by_row}
use Rattle.files.proofs.Refused.{some_named_lem, none_named}
use Rattle.plans.specs.Change.{SaveRequest, Mark, save, erase, rename, mark, usable}
use Rattle.plans.specs.Saving.{lowest_slot, taken_slot}
use Rattle.trees.specs.Tree.{occupied}
use Rattle.trees.specs.Beneath.{Occupied}
use Rattle.trees.proofs.Occupied.{not_occupied}
use Rattle.plans.specs.Plan.{old_name, respells, refused_result, run_change}
use Rattle.plans.specs.Refused.{some_free, rename_row16, row29, row18, row19, save_list_length, change_rows, RefusesChange, ChangeAccepted}
use Rattle.plans.specs.Allowed.{NamedSlot, NameUnused, NameUnusedBut, EraseAllowed, ChangeAllowed, RenameAllowed, EmptySlot, NoEmptySlot, FirstEmptySlot, dir_numbers, RequestAllowed, sectors_taken, free_sectors, SaveAllowed}
use Rattle.plans.proofs.Frame.{disk-accepted, entry-live, holds, view-entry}
use Rattle.plans.proofs.Named.{fresh-find, find-fresh, found-file, found_here}
use Rattle.plans.proofs.Free.{FreeSlot, free-slot, no_free_slot}
use Rattle.plans.proofs.Ended.{free-there}
use Rattle.plans.proofs.Effect.{erased, marked_so, renamed}
use Rattle.plans.proofs.Rows.{some-free, none_free}
use Rattle.plans.proofs.Refused.{refused_exactly, accepted_exactly}

-- ---- the files of a name

-- the tests of names, by the slots
fresh_named : (d n : List ℕ) → NameUnused d n → some_named (view d) n ≡ false
fresh_named d n h = none_named (view d) n (fresh-find d n h)

named_fresh : (d n : List ℕ) → some_named (view d) n ≡ false → NameUnused d n
named_fresh d n e = find-fresh d n (by (find (view_slots (view d)) n) refl)
  where
    by : (o : Option ℕ) → find (view_slots (view d)) n ≡ o → o ≡ none
    by none q = refl
    by (some i) q = absurd (true≢false (sym (some_named_lem (view d) n i q) ∙ e))

-- the test of a name says whether a live slot has it
pub named_exactly : (d n : List ℕ) → (some_named (view d) n ≡ false) ↔ NameUnused d n
named_exactly d n = (named_fresh d n, fresh_named d n)

slot_is : (l : View) (n : List ℕ) (o : Option ℕ) → find (view_slots l) n ≡ o → slot_named l n ≡ fold_option 0 suc o
unfolding slot_named
slot_is l n o e = ap (fold_option 0 suc) e

-- on an accepted disk the slot that has the name is the one that is found, and the one that is given with a refusal
module _ (d n : List ℕ) (ok : check_disk d ≡ none) (i : ℕ) (f : File) (w : NamedSlot d n i f) where
  pub named_find : find (view_slots (view d)) n ≡ some i
  named_find = found_here (view d) (disk-accepted d ok) n i f w.below w.here w.name

  pub named_some : some_named (view d) n ≡ true
  named_some = some_named_lem (view d) n i named_find

  pub named_slot : slot_named (view d) n ≡ suc i
  unfolding slot_named
  named_slot = ap (fold_option 0 suc) named_find

  pub named_file : file_named (view d) n ≡ f
  unfolding file_named
  named_file = ap (fold_option no_file (file_at (view d))) named_find ∙ ap (fold_option no_file (λ f. f)) w.here

  -- no other live slot is in it: 29 does not hold
  not_held : (Occupied (directory d) i f.bytes → ⊥) → (row29 (view d) n).holds ≡ false
  not_held h = rw (named_find, named_file) (ap (λ (v : Directory). occupied v i f.bytes) (view-slots d) ∙ not_occupied (directory d) i f.bytes h)

  -- no other slot has the new name and the bytes stored are others: 16 does not hold
  not_taken : (new : List ℕ) → NameUnusedBut d i new → (name_of f.bytes ≡ padded new → ⊥) → (rename_row16 (view d) n new).holds ≡ false
  not_taken new u v = rw (named_slot, named_file) (by (find (view_slots (view d)) new) refl)
    where
      own : (j : ℕ) → find (view_slots (view d)) new ≡ some j → (t : Bool) → eqb j i ≡ t → j ≡ i
      own j q true z = eqb-true j i z
      own j q false z = let s = found-file d new j q in absurd (u j (file_at (view d) j) (eqb-false j i z) s.here s.name)

      by : (o : Option ℕ) → find (view_slots (view d)) new ≡ o → (some_named (view d) new && not (respells (suc i) (slot_named (view d) new) f new)) ≡ false
      by none q = ap (λ (t : Bool). t && not (respells (suc i) (slot_named (view d) new) f new)) (none_named (view d) new q)
      by (some j) q =
          let z : j ≡ i = own j q (eqb j i) refl in
          rw (slot_is (view d) new (some j) q, z, not_bytes (name_of f.bytes) (padded new) v, eq-eqb (suc i) (suc i) refl) (and-false (some_named (view d) new))

-- ---- erase, rename and the marks

module _ (d n : List ℕ) (room : ℕ) where
  pub erase_exactly : ChangeAccepted (erase n) d room ↔ ChangeAllowed d n (EraseAllowed d) room
  unfolding change_rows
  erase_exactly = (
    λ a.
        let p = (accepted_exactly (erase n) d room).0 a in
        let t = erased d p.disk room a.new a.sectors n a.gives in
        record {
          disk = p.disk;
          name = t.askable-name;
          slot = t.slot;
          file = t.file;
          found = t.found;
          also = t.also;
          list = ltb-false room 1 p.rows.1.1.1.1.0;
        },
    λ a. (accepted_exactly (erase n) d room).1
        (record {
          disk = a.disk;
          rows = (
            ap not a.name,
            (
              ap not (named_some d n a.disk a.slot a.file a.found),
              (
                ap (λ (f : File). protected f.bytes) (named_file d n a.disk a.slot a.file a.found) ∙ a.also.unprotected,
                (
                  not_held d n a.disk a.slot a.file a.found a.also.vacant,
                  (le-ltb room 1 a.list, tt),
                ),
              ),
            ),
          );
        }),
  )

  pub rename_exactly : (new : List ℕ) → ChangeAccepted (rename n new) d room ↔ ChangeAllowed d n (RenameAllowed d new) room
  unfolding change_rows
  rename_exactly new = (
    λ a.
        let p = (accepted_exactly (rename n new) d room).0 a in
        let t = renamed d p.disk room a.new a.sectors n new a.gives in
        record {
          disk = p.disk;
          name = t.askable-name;
          slot = t.slot;
          file = t.file;
          found = t.found;
          also = t.also;
          list = ltb-false room 1 p.rows.1.1.1.1.0;
        },
    λ a. (accepted_exactly (rename n new) d room).1
        (record {
          disk = a.disk;
          rows = (
            rw (a.name, a.also.name),
            (
              ap not (named_some d n a.disk a.slot a.file a.found),
              (
                not_taken d n a.disk a.slot a.file a.found new a.also.fresh a.also.other,
                (
                  ap (λ (f : File). protected f.bytes) (named_file d n a.disk a.slot a.file a.found) ∙ a.also.unprotected,
                  (le-ltb room 1 a.list, tt),
                ),
              ),
            ),
          );
        }),
  )

  pub mark_exactly : (m : Mark) → ChangeAccepted (mark m n) d room ↔ ChangeAllowed d n (λ i f. Unit {0}) room
  unfolding change_rows
  mark_exactly m = (
    λ a.
        let p = (accepted_exactly (mark m n) d room).0 a in
        let t = marked_so d p.disk room a.new a.sectors m n a.gives in
        record {
          disk = p.disk;
          name = t.askable-name;
          slot = t.slot;
          file = t.file;
          found = t.found;
          also = tt;
          list = ltb-false room 1 p.rows.1.1.0;
        },
    λ a. (accepted_exactly (mark m n) d room).1
        (record {
          disk = a.disk;
          rows = (ap not a.name, (ap not (named_some d n a.disk a.slot a.file a.found), (le-ltb room 1 a.list, tt)));
        }),
  )

-- ---- slots that are erased or have no name

-- they hold no file
empty-none : (d : List ℕ) (i : ℕ) → EmptySlot d i → (view d).files i ≡ none
unfolding is_nameless_at
empty-none d i e =
    view-none d i
    (⊎_elim (λ q. directory_dead d i (ap not (eq-eqb (get_or (slot_bytes d i) 0 0) 0 q)))
    (λ q. directory-unseen d i (unseen_nameless d i (eq-eqb (get_or (slot_bytes d i) 1 0) 0 q))) e)

-- a slot that is read and holds no file is erased
none-erased : (d : List ℕ) (i : ℕ) → is_read d i ≡ true → (view d).files i ≡ none → get_or (slot_bytes d i) 0 0 ≡ 0
none-erased d i h e = by (eqb (get_or (slot_bytes d i) 0 0) 0) refl
  where
    by : (t : Bool) → eqb (get_or (slot_bytes d i) 0 0) 0 ≡ t → get_or (slot_bytes d i) 0 0 ≡ 0
    by true q = eqb-true (get_or (slot_bytes d i) 0 0) 0 q
    by false q =
        absurd
        (some-ne-none (record { bytes = slot_bytes d i; sectors = sectors_of d (slot_bytes d i) })
        (sym (entry-live (slot_bytes d i) (sectors_of d (slot_bytes d i)) (ap not q)) ∙ sym (view-entry d i h) ∙ e))

full_not : (d : List ℕ) (i : ℕ) (f : File) → (view d).files i ≡ some f → EmptySlot d i → ⊥
full_not d i f q e = some-ne-none f (sym q ∙ empty-none d i e)

-- the lowest slot that holds no file is erased, or it is the end
pub first-empty : (d : List ℕ) (i : ℕ) → FreeSlot (view d) i → FirstEmptySlot d i
unfolding is_nameless_at
first-empty d i w = record { below = free-there d i w; empty = by (is_nameless_at d i) refl; before = λ k h. let f = w.before k h in full_not d k f.0 f.1 }
  where
    by : (t : Bool) → is_nameless_at d i ≡ t → EmptySlot d i
    by true q = inr (eqb-true (get_or (slot_bytes d i) 1 0) 0 q)
    by false q = inl (none-erased d i (seen_next d i (free-there d i w) (λ j h. let f = w.before j h in (holds d j f.0 f.1).read) q) w.empty)

-- there is one lowest
pub first_one : (d : List ℕ) (i j : ℕ) → FirstEmptySlot d i → FirstEmptySlot d j → i ≡ j
first_one d i j a b =
    ⊎_elim (λ h. absurd (b.before i h a.empty))
    (λ (h : j ≤ i). ⊎_elim (λ k. absurd (a.before j k b.empty)) (λ (k : i ≤ j). omega arith) (below_or_not j i)) (below_or_not i j)

-- by whether a slot is free
by_slot : (d : List ℕ) (P : Type 0) → ((i : ℕ) → lowest_slot (view_tracks (view d)) (view_slots (view d)) ≡ some i → P)
    → (lowest_slot (view_tracks (view d)) (view_slots (view d)) ≡ none → P) → P
by_slot d P f g = by (lowest_slot (view_tracks (view d)) (view_slots (view d))) refl
  where
    by : (o : Option ℕ) → lowest_slot (view_tracks (view d)) (view_slots (view d)) ≡ o → P
    by none q = g q
    by (some i) q = f i q

all_full : (d : List ℕ) → lowest_slot (view_tracks (view d)) (view_slots (view d)) ≡ none → NoEmptySlot d
all_full d q i h = let f = no_free_slot (view d) q i (rw (view_extra d) h) in full_not d i f.0 f.1

free-none : (d : List ℕ) → some_free (view d) ≡ false → NoEmptySlot d
free-none d e = by_slot d (NoEmptySlot d) (λ i q. absurd (true≢false (sym (some-free (view d) i q) ∙ e))) (all_full d)

none_is_free : (d : List ℕ) → NoEmptySlot d → some_free (view d) ≡ false
none_is_free d n =
    by_slot d (some_free (view d) ≡ false) (λ i q. let w = first-empty d i (free-slot (view d) i q) in absurd (n i w.below w.empty))
    (none_free (view d))

-- the slot that is taken, its number from 0
abbrev taken_at : List ℕ → ℕ
taken_at d = taken_slot (view_tracks (view d)) (view_slots (view d))

slot_is_free : (d : List ℕ) (i : ℕ) → FirstEmptySlot d i → (some_free (view d) ≡ true) × (taken_at d ≡ i)
slot_is_free d i e =
    by_slot d ((some_free (view d) ≡ true) × (taken_at d ≡ i))
    (λ j q. (some-free (view d) j q, ap (fold_option 0 (λ i. i)) q ∙ first_one d j i (first-empty d j (free-slot (view d) j q)) e))
    (λ q. absurd (all_full d q i e.below e.empty))

slot-free : (d : List ℕ) → some_free (view d) ≡ true → FirstEmptySlot d (taken_at d)
slot-free d e =
    by_slot d (FirstEmptySlot d (taken_at d))
    (λ i q. subst (FirstEmptySlot d) (sym (ap (fold_option 0 (λ i. i)) q)) (first-empty d i (free-slot (view d) i q)))
    (λ q. absurd (true≢false (sym e ∙ none_free (view d) q)))

-- the test of slots says whether one is erased or has no name
pub free_exactly : (d : List ℕ) → (some_free (view d) ≡ false) ↔ NoEmptySlot d
free_exactly d = (free-none d, none_is_free d)

-- ---- a save

pub free-sectors : (d : List ℕ) → free (view_tracks (view d)) (view_slots (view d)) ≡ free_sectors d
unfolding free free_of used_map counted
free-sectors d = ap₂ (λ (n : ℕ) (v : Directory). data_count n - (used_map n v).count) (view_extra d) (view-slots d)

-- a row that does not hold is not the first
pub peel : {A B : Type 0} {t : Bool} → t ≡ false → ((t ≡ true) × A) ⊎ ((t ≡ false) × B) → B
peel e f = ⊎_elim (λ a. absurd (true≢false (sym a.0 ∙ e))) (λ a. a.1) f

-- a row with another number is not the one that is given
pub other : {B : Type 0} {t : Bool} {n s : ℕ} {x : Refusal} → (n ≡ x.number → ⊥) → ((t ≡ true) × (refuse n s ≡ x)) ⊎ ((t ≡ false) × B) → B
other h f = ⊎_elim (λ a. absurd (h (ap (λ (y : Refusal). y.number) a.1))) (λ a. a.1) f

module _ (d : List ℕ) (w : SaveRequest) (room : ℕ) where
  abbrev l : View
  l = view d

  -- the rows 18 to 20
  abbrev last : List SlotRow
  last = row18 l ∷ row19 l w ∷ row20 room (save_list_length (old_name d) l w) ∷ []

  -- the list's numbers, where slot i is taken
  long-is : (i : ℕ) → taken_at d ≡ i → save_list_length (old_name d) l w ≡ sectors_taken w + length (dir_numbers d i)
  unfolding save_list_length
  long-is i q = ap (λ (i : ℕ). sectors_taken w + length (dir_numbers d i)) q

  start_in : RequestAllowed d w → start_outside w.page w.offset ≡ false
  start_in a = rw (le-ltb 31 w.page a.page, le-ltb w.offset 32768 a.low, le-ltb 49151 w.offset a.high)

  late : (r : Refusal) → RequestAllowed d w → FirstSlotRow r (change_rows (old_name d) (save w) l room) → FirstSlotRow r last
  unfolding change_rows
  late r a f = peel (fresh_named d w.name a.fresh) (peel (start_in a) (peel (ap not (is_carried w.kind a.kind)) (peel (ap not a.name) f)))

  early : (r : Refusal) → RequestAllowed d w → FirstSlotRow r last → FirstSlotRow r (change_rows (old_name d) (save w) l room)
  unfolding change_rows
  early r a f =
      inr (ap not a.name, inr (ap not (is_carried w.kind a.kind), inr (start_in a, inr (fresh_named d w.name a.fresh, f))))

  save-first : (r : Refusal) → RequestAllowed d w → run_change (save w) d room ≡ refused_result r → FirstSlotRow r last
  save-first r a e = by ((refused_exactly (save w) d room r).0 e)
    where
      by : RefusesChange (save w) d room r → FirstSlotRow r last
      by (by_check q) = absurd (some-ne-none r (sym q ∙ a.disk))
      by (by_row q f) = late r a f

  first-save : (r : Refusal) → RequestAllowed d w → FirstSlotRow r last → run_change (save w) d room ≡ refused_result r
  first-save r a f = (refused_exactly (save w) d room r).1 (by_row a.disk (early r a f))

  -- refused 18 exactly when no slot before the end is erased and there is no end
  pub save_18 : RequestAllowed d w → (run_change (save w) d room ≡ refused_result (refuse 18 0)) ↔ NoEmptySlot d
  save_18 a = (
    λ e.
        ⊎_elim (λ h. free-none d (not-true (some_free l) h.0))
        (λ h. absurd (other (omega arith) (other (omega arith) h.1)))
        (save-first (refuse 18 0) a e),
    λ n. first-save (refuse 18 0) a (inl (ap not (none_is_free d n), refl)),
  )

  module _ (a : RequestAllowed d w) (i : ℕ) (e : FirstEmptySlot d i) where
    has-slot : not (some_free l) ≡ false
    has-slot = ap not (slot_is_free d i e).0

    list-is : save_list_length (old_name d) l w ≡ sectors_taken w + length (dir_numbers d i)
    list-is = long-is i (slot_is_free d i e).1

    -- with a slot, 19 exactly when the free sectors are fewer than the save takes
    pub save_19 : (run_change (save w) d room ≡ refused_result (refuse 19 0)) ↔ (free_sectors d < sectors_taken w)
    save_19 = (
      λ q.
          ⊎_elim (λ f. subst (λ (n : ℕ). n < sectors_taken w) (free-sectors d) (ltb-true (free (view_tracks l) (view_slots l)) (sectors_taken w) f.0))
          (λ f. absurd (other (omega arith) f.1))
          (peel has-slot (save-first (refuse 19 0) a q)),
      λ q. first-save (refuse 19 0) a (inr (has-slot, inl (lt-ltb (free (view_tracks l) (view_slots l)) (sectors_taken w) (omega (arith, free-sectors d)), refl))),
    )

    module _ (s : sectors_taken w ≤ free_sectors d) where
      has-sectors : ltb (free (view_tracks l) (view_slots l)) (sectors_taken w) ≡ false
      has-sectors = le-ltb (free (view_tracks l) (view_slots l)) (sectors_taken w) (omega (arith, free-sectors d))

      -- with both, 20 exactly when the list is shorter than the sectors and those of the directory
      pub save_20 : (run_change (save w) d room ≡ refused_result (refuse 20 0)) ↔ (room < sectors_taken w + length (dir_numbers d i))
      save_20 = (
        λ q.
            ⊎_elim (λ f. subst (λ (n : ℕ). room < n) list-is (ltb-true room (save_list_length (old_name d) l w) f.0)) (λ f. absurd f.1)
            (peel has-sectors (peel has-slot (save-first (refuse 20 0) a q))),
        λ q. first-save (refuse 20 0) a (inr (has-slot, inr (has-sectors, inl (lt-ltb room (save_list_length (old_name d) l w) (omega (arith, list-is)), refl)))),
      )

      -- else accepted
      pub save_else : sectors_taken w + length (dir_numbers d i) ≤ room → ChangeAccepted (save w) d room
      unfolding change_rows
      save_else q =
          (accepted_exactly (save w) d room).1
          (record {
            disk = a.disk;
            rows = (
              ap not a.name,
              (
                ap not (is_carried w.kind a.kind),
                (start_in a, (fresh_named d w.name a.fresh, (has-slot, (has-sectors, (le-ltb room (save_list_length (old_name d) l w) (omega (arith, list-is)), tt))))),
              ),
            );
          })

  pub save_exactly : ChangeAccepted (save w) d room ↔ SaveAllowed d w room
  unfolding change_rows
  save_exactly = (
    λ a.
        let p = (accepted_exactly (save w) d room).0 a in
        let o = or_neither (ltb 31 w.page) (ltb w.offset 32768 || ltb 49151 w.offset) p.rows.1.1.0 in
        let q = or_neither (ltb w.offset 32768) (ltb 49151 w.offset) o.1 in
        let s = slot-free d (not-false (some_free l) p.rows.1.1.1.1.0) in
        record {
          asked = record {
            disk = p.disk;
            name = not-false (usable w.name) p.rows.0;
            kind = carried-is w.kind (not-false (carried w.kind) p.rows.1.0);
            page = ltb-false 31 w.page o.0;
            low = ltb-false w.offset 32768 q.0;
            high = ltb-false 49151 w.offset q.1;
            fresh = named_fresh d w.name p.rows.1.1.1.0;
          };
          slot = taken_at d;
          free = s;
          sectors = subst (λ (n : ℕ). sectors_taken w ≤ n) (free-sectors d) (ltb-false (free (view_tracks l) (view_slots l)) (sectors_taken w) p.rows.1.1.1.1.1.0);
          list = subst (λ (n : ℕ). n ≤ room) (long-is (taken_at d) refl) (ltb-false room (save_list_length (old_name d) l w) p.rows.1.1.1.1.1.1.0);
        },
    λ s. save_else s.asked s.slot s.free s.sectors s.list,
  )
