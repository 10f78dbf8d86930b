-- A gather is accepted, and refused 13, 32 and 20, exactly when: in plain facts.
use Prim.Native.Nat.{ℕ, suc, ◌+◌, ◌≤◌, ◌<◌}
use mathlib.Core.Path.{◌≡◌, refl, sym, ap, ◌∙◌, subst}
use mathlib.Core.Bool.{Bool, true, false, cond, not, ◌&&◌, and-false, false≢true}
use mathlib.Core.List.{List, [], ◌∷◌}
use mathlib.Core.Logic.{◌⊎◌, inl, inr, ⊎_elim, ◌↔◌}
use mathlib.Core.Option.{Option, none, some, some-ne-none}
use native.Mathlib.Omega.{arith}
use borrow.Author.Tests.{eqb-true, eq-eqb, ne_eqb, ltb-true, lt-ltb, le-ltb}
use lib.Dec.{ltb}
use lib.ListN.{length}
use Rattle.buffers.proofs.Tests.{and_both}
use Rattle.refusals.specs.Order.{Refusal, refuse, SlotRow, NoRow, FirstSlotRow}
use Rattle.slots.specs.Slot.{directory_kind, is_directory, kind_of, count_of}
use Rattle.names.specs.Name.{askable}
use Rattle.chains.specs.File.{File}
use Rattle.directory.specs.Directory.{fold_option}
use Rattle.disk.specs.View.{View, view, view_slots, view_tracks}
use Rattle.disk.specs.Check.{check_disk}
use Rattle.files.specs.Calls.{file_named}
use Rattle.files.specs.Refused.{row15, row20, by_check, by_row}
use Rattle.plans.specs.Change.{gather}
use Rattle.plans.specs.Gathering.{scattered, up_from, lowest_run}
use Rattle.plans.specs.Plan.{refused_result, new_disk, run_change}
use Rattle.plans.specs.Refused.{gather_row13, row32, gather_list_length, change_rows, RefusesChange, ChangeAccepted}
use Rattle.plans.specs.Allowed.{NamedSlot}
use Rattle.plans.specs.Gathered.{InOrder, FreeRun, NoRun, CanMove, Gatherable}
use Rattle.plans.proofs.Frame.{disk-accepted}
use Rattle.plans.proofs.Runs.{no_run, run-few, in_order, not_order}
use Rattle.plans.proofs.SafeSteps.{not_kind_21}
use Rattle.plans.proofs.Moved.{has-sectors, gather-numbers, gather-long}
use Rattle.plans.proofs.Effect.{Shifted, gathers}
use Rattle.plans.proofs.Demand3.{run_room}
use Rattle.plans.proofs.Refused.{refused_exactly, accepted_exactly}
use Rattle.plans.proofs.Exactly.{named_some, named_slot, named_file, peel, other}

-- a file that is not in order is scattered
must_move_lem : (f : File) → (InOrder f → ⊥) → scattered f ≡ true
must_move_lem f u = by (scattered f) refl
  where
    by : (t : Bool) → scattered f ≡ t → t ≡ true
    by true q = refl
    by false q = absurd (u ((in_order f).0 q))

-- how many sectors are named then
shifted_long : (d : List ℕ) (i : ℕ) (f : File) (new ss : List ℕ) → Shifted d i f new ss → length ss ≡ count_of f.bytes + 1
shifted_long d i f new ss a = ap length a.sectors ∙ ap length (sym (gather-numbers (view d) i f (up_from (count_of f.bytes) a.bit))) ∙ gather-long (view d) i f a.bit

-- "A kind 21": the test says it
is-directory : (s : List ℕ) → (is_directory s ≡ true) ↔ (kind_of s ≡ 21)
unfolding is_directory directory_kind
is-directory s = (eqb-true (kind_of s) 21, eq-eqb (kind_of s) 21)

no_directory : (s : List ℕ) → (kind_of s ≡ 21 → ⊥) → is_directory s ≡ false
unfolding is_directory directory_kind
no_directory s h = ne_eqb (kind_of s) 21 h

module _ (d n : List ℕ) (room : ℕ) (ok : check_disk d ≡ none) (name : askable n ≡ true) (i : ℕ) (f : File) (found : NamedSlot d n i f) where
  abbrev l : View
  l = view d

  -- ---- 13

  row13-is : (gather_row13 l n).holds ≡ is_directory f.bytes
  row13-is = rw (named_some d n ok i f found, named_file d n ok i f found)

  first_rows : (r : Refusal) → run_change (gather n) d room ≡ refused_result r
      → FirstSlotRow r (gather_row13 l n ∷ row15 l n ∷ row32 l (file_named l n) ∷ row20 room (gather_list_length (file_named l n)) ∷ [])
  unfolding change_rows
  first_rows r e = by ((refused_exactly (gather n) d room r).0 e)
    where
      by : RefusesChange (gather n) d room r → FirstSlotRow r (gather_row13 l n ∷ row15 l n ∷ row32 l (file_named l n) ∷ row20 room (gather_list_length (file_named l n)) ∷ [])
      by (by_check q) = absurd (some-ne-none r (sym q ∙ ok))
      by (by_row q g) = peel (ap not name) g

  rows-first : (r : Refusal) → FirstSlotRow r (gather_row13 l n ∷ row15 l n ∷ row32 l (file_named l n) ∷ row20 room (gather_list_length (file_named l n)) ∷ [])
      → run_change (gather n) d room ≡ refused_result r
  unfolding change_rows
  rows-first r g = (refused_exactly (gather n) d room r).1 (by_row ok (inr (ap not name, g)))

  -- "A kind 21 is refused 13", at the slot found
  pub gather_13 : (run_change (gather n) d room ≡ refused_result (refuse 13 (suc i))) ↔ (kind_of f.bytes ≡ 21)
  gather_13 = (
    λ e.
        ⊎_elim (λ h. (is-directory f.bytes).0 (sym row13-is ∙ h.0))
        (λ h. absurd (other (omega arith) (other (omega arith) (other (omega arith) h.1))))
        (first_rows (refuse 13 (suc i)) e),
    λ e. rows-first (refuse 13 (suc i)) (inl (row13-is ∙ (is-directory f.bytes).1 e, ap (refuse 13) (named_slot d n ok i f found))),
  )

  -- ---- of another kind

  module _ (kind : kind_of f.bytes ≡ 21 → ⊥) where
    abbrev count : ℕ
    count = count_of f.bytes

    some-sectors : 1 ≤ count
    some-sectors = (has-sectors d (disk-accepted d ok) i f found.here kind).some-sectors

    not_13 : (gather_row13 l n).holds ≡ false
    not_13 = row13-is ∙ no_directory f.bytes kind

    not_15 : (row15 l n).holds ≡ false
    not_15 = ap not (named_some d n ok i f found)

    abbrev last : List SlotRow
    last = row32 l f ∷ row20 room (gather_list_length f) ∷ []

    late : (r : Refusal) → run_change (gather n) d room ≡ refused_result r → FirstSlotRow r last
    late r e =
        subst (λ (g : File). FirstSlotRow r (row32 l g ∷ row20 room (gather_list_length g) ∷ [])) (named_file d n ok i f found) (peel not_15 (peel not_13 (first_rows r e)))

    early : (r : Refusal) → FirstSlotRow r last → run_change (gather n) d room ≡ refused_result r
    early r g =
        rows-first r
        (inr (not_13, inr (not_15, subst (λ (g : File). FirstSlotRow r (row32 l g ∷ row20 room (gather_list_length g) ∷ [])) (sym (named_file d n ok i f found)) g)))

    -- ---- 32

    none_found : fold_option true (λ b. false) (lowest_run (view_tracks l) (view_slots l) count) ≡ true → lowest_run (view_tracks l) (view_slots l) count ≡ none
    none_found e = by (lowest_run (view_tracks l) (view_slots l) count) refl e
      where
        by : (o : Option ℕ) → lowest_run (view_tracks l) (view_slots l) count ≡ o → fold_option true (λ b. false) o ≡ true → o ≡ none
        by none q w = refl
        by (some b) q w = absurd (false≢true w)

    -- "32 (slot 0), exactly when the file must move and no such run exists"
    pub gather_32 : (run_change (gather n) d room ≡ refused_result (refuse 32 0)) ↔ ((InOrder f → ⊥) × NoRun d (count_of f.bytes))
    gather_32 = (
      λ e.
          ⊎_elim
          (λ h.
          let b = and_both (scattered f) (fold_option true (λ b. false) (lowest_run (view_tracks l) (view_slots l) count)) h.0 in
          (not_order f b.0, (no_run d count some-sectors).0 (none_found b.1)))
          (λ h. absurd (other (omega arith) h.1)) (late (refuse 32 0) e),
      λ u. early (refuse 32 0) (inl (rw (must_move_lem f u.0, (no_run d count some-sectors).1 u.1), refl)),
    )

    -- ---- accepted, and 20

    -- 32 does not hold of a file in order, nor where a run is free
    not_32 : InOrder f ⊎ ((b : ℕ) × FreeRun d count b) → (row32 l f).holds ≡ false
    not_32 (inl w) = rw ((in_order f).1 w)
    not_32 (inr w) = by (lowest_run (view_tracks l) (view_slots l) count) refl
      where
        by : (o : Option ℕ) → lowest_run (view_tracks l) (view_slots l) count ≡ o → (scattered f && fold_option true (λ b. false) o) ≡ false
        by none q = absurd ((no_run d count some-sectors).0 q w.0 w.1)
        by (some b) q = and-false (scattered f)

    -- where it must move and can, 20 exactly when the list is shorter than its sectors and the slot's
    pub gather_20 : (InOrder f → ⊥) → (b : ℕ) → FreeRun d (count_of f.bytes) b → (run_change (gather n) d room ≡ refused_result (refuse 20 0)) ↔ (room < count_of f.bytes + 1)
    unfolding gather_list_length
    gather_20 u b w = (
      λ e. ⊎_elim (λ h. ltb-true room (count + 1) (sym (ap (ltb room) (long-is u)) ∙ h.0)) (λ h. absurd h.1) (peel (not_32 (inr (b, w))) (late (refuse 20 0) e)),
      λ h. early (refuse 20 0) (inr (not_32 (inr (b, w)), inl (ap (ltb room) (long-is u) ∙ lt-ltb room (count + 1) h, refl))),
    )
      where
        long-is : (InOrder f → ⊥) → gather_list_length f ≡ count + 1
        long-is u = ap (λ (t : Bool). cond t (count + 1) 0) (must_move_lem f u)

    -- the list has room
    fits-list : InOrder f ⊎ CanMove d f room → ltb room (gather_list_length f) ≡ false
    unfolding gather_list_length
    fits-list (inl w) = rw ((in_order f).1 w) (le-ltb room 0 (omega arith))
    fits-list (inr m) = rw (must_move_lem f m.must) (le-ltb room (count + 1) m.list)

    pub gathers_so : InOrder f ⊎ CanMove d f room → ChangeAccepted (gather n) d room
    unfolding change_rows
    gathers_so p =
        (accepted_exactly (gather n) d room).1
        (record {
          disk = ok;
          rows = (
            ap not name,
            (
              not_13,
              (
                not_15,
                subst (λ (g : File). NoRow (row32 l g ∷ row20 room (gather_list_length g) ∷ [])) (sym (named_file d n ok i f found))
                    (not_32 (⊎_elim inl (λ m. inr (m.bit, m.run)) p), (fits-list p, tt)),
              ),
            ),
          );
        })

-- ---- accepted exactly when

pub gather_exactly : (d n : List ℕ) (room : ℕ) → ChangeAccepted (gather n) d room ↔ Gatherable d n room
gather_exactly d n room = (
  λ a.
      let p = run_room (gather n) d room a.new a.sectors a.gives in
      let t = gathers d p.accepted room a.new a.sectors n a.gives in
      record {
        disk = p.accepted;
        name = t.askable-name;
        slot = t.slot;
        file = t.file;
        found = t.found;
        kind = not_kind_21 t.file.bytes t.no_directory;
        place = ⊎_elim (λ q. inl ((in_order t.file).0 q.0))
            (λ q. inr
            (record {
              must = not_order t.file q.must;
              bit = q.bit;
              run = q.lowest.here;
              list = subst (λ (k : ℕ). k ≤ room) (shifted_long d t.slot t.file a.new a.sectors q) p.fits;
            })) t.done;
      },
  λ g. gathers_so d n room g.disk g.name g.slot g.file g.found g.kind g.place,
)

-- ---- how many sectors it names at most

pub gather-few : (d n : List ℕ) (room : ℕ) (new ss : List ℕ) → run_change (gather n) d room ≡ new_disk new ss → length ss ≤ 781
gather-few d n room new ss e =
    let ok = (run_room (gather n) d room new ss e).accepted in
    let t = gathers d ok room new ss n e in
    ⊎_elim (λ a. subst (λ (x : List ℕ). length x ≤ 781) (sym a.2) (omega arith))
    (λ a. omega (arith, shifted_long d t.slot t.file new ss a, run-few d (disk-accepted d ok) t.slot t.file t.found.here a.bit a.lowest.here))
    t.done
