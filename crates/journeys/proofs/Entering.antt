-- What an accepted change that was run to its end leaves of a disk is what its function enters in the ledger.
use Prim.Native.Nat.{ℕ, ◌+◌, ◌*◌, ◌/◌, ◌%◌, ◌≤◌, ◌<◌}
use mathlib.Core.Path.{◌≡◌, refl, sym, ap, ap₂, ◌∙◌, fun_ext}
use mathlib.Core.Bool.{Bool, true, false, cond}
use mathlib.Core.List.{List, [], ◌∷◌}
use mathlib.Core.Logic.{⊎_elim}
use mathlib.Core.Option.{Option, none, some, some-ne-none}
use native.Mathlib.Nat.{eq-or-lt_of_le}
use native.Mathlib.Omega.{arith}
use borrow.Author.Tests.{ne_eqb, eqb-true}
use lib.Dec.{eqb}
use lib.ListN.{length, get_or}
use Rattle.buffers.specs.Bytes.{tab, put}
use Rattle.buffers.proofs.Lists.{below_or_not, length-tab, tab_of, put-before, put-after}
use Rattle.slots.specs.Slot.{is_live, is_directory, count_of, first_of}
use Rattle.names.specs.Name.{padded}
use Rattle.chains.specs.Chain.{chain_bit}
use Rattle.chains.specs.File.{File}
use Rattle.directory.specs.Directory.{fold_option, Directory}
use Rattle.directory.specs.Find.{find}
use Rattle.disk.specs.View.{View, view, view_slots, view_tracks}
use Rattle.disk.specs.Check.{check_disk}
use Rattle.plans.specs.Change.{SaveRequest, Mark, save, erase, rename, mark, gather, marked_byte}
use Rattle.plans.specs.Saving.{free_bit, taken_bits, lowest_slot, stream, new_slot}
use Rattle.plans.specs.Gathering.{up_from, lowest_run, payload_of, chain_fields}
use Rattle.plans.specs.Plan.{with_slot, file_if_live as heldBy, new_disk, run_change}
use Rattle.plans.specs.Allowed.{NamedSlot, EraseAllowed, RenameAllowed}
use Rattle.plans.specs.After.{marking}
use Rattle.plans.proofs.Frame.{disk-accepted, entry-live, entry_dead, holds, holds-long}
use Rattle.plans.proofs.Kept.{accepted-long, usable-is}
use Rattle.plans.proofs.Effect.{Touched, erasing, erased, marked_so, renamed, Shifted, gathers}
use Rattle.plans.proofs.SafeSteps.{not_kind_21}
use Rattle.plans.proofs.Runs.{up_long, free-rises, lowest-run}
use Rattle.plans.proofs.Moved.{gathered-file as moved, some_bits, now-names}
use Rattle.plans.proofs.Exactly.{named_find}
use Rattle.plans.proofs.Free.{FreeSlot, free-slot, no_free_slot}
use Rattle.plans.proofs.NewFile.{new_file, filled}
use Rattle.plans.proofs.AcceptedFile.{slot-names}
use Rattle.plans.proofs.ReadBack.{stored}
use Rattle.plans.proofs.After.{first_byte, known_some, marked_some}
use Rattle.journeys.specs.Ledger.{LedgerEntry, Ledger, ledger_tracks, ledger_slots, entry_at}
use Rattle.journeys.specs.Entered.{must_move, run_for, with_entry, at_name, with_bytes, saved, moved_entry, gathered, ledger_after}
use Rattle.journeys.specs.Journey.{entry_of_file, ledger_of}
use Rattle.journeys.proofs.Alike.{slots_in_lem, tracks_in, find_in, entry-is, must_move_lem}
use Rattle.journeys.proofs.Along.{entry_chained}

-- ---- the ledger of a view

abbrev pub entered-is : Option File → Option LedgerEntry
entered-is o = fold_option none (λ f. some (entry_of_file f)) o

-- one slot changed
pub ledger_upd : (l : View) (i : ℕ) (o : Option File) → ledger_of (with_slot l i o) ≡ with_entry (ledger_of l) i (entered-is o)
unfolding ledger_of with_slot
ledger_upd l i o = ap {B = Ledger} (λ (g : ℕ → Option LedgerEntry). record { label = l.label; entry = g }) (fun_ext (λ j. by j (eqb j i)))
  where
    by : (j : ℕ) (t : Bool) → entered-is (cond t o (l.files j)) ≡ cond t (entered-is o) (entered-is (l.files j))
    by j true = refl
    by j false = refl

-- the entry that has the name
pub entry_found : (d n : List ℕ) → check_disk d ≡ none → (i : ℕ) (f : File) → NamedSlot d n i f
    → (find (ledger_slots (ledger_of (view d))) n ≡ some i) × (entry_at (ledger_of (view d)) i ≡ entry_of_file f)
entry_found d n ok i f w = (find_in (view d) n ∙ named_find d n ok i f w, entry-is (view d) i f w.here)

-- ---- a slot that is found by its name, with other bytes

module _ (d n : List ℕ) (ok : check_disk d ≡ none) (o : ℕ) (y : File → List ℕ) (Also : ℕ → File → Type 0) (new ss : List ℕ) (t : Touched d n o y Also new ss) where
  abbrev s : List ℕ
  s = t.file.bytes

  abbrev now : List ℕ
  now = put t.file.bytes o (y t.file)

  touched_enters : (then : LedgerEntry → Option LedgerEntry) → entered-is (heldBy now t.file.sectors) ≡ then (entry_of_file t.file) → ledger_of (view new) ≡ at_name (ledger_of (view d)) n then
  touched_enters then e =
      let f = entry_found d n ok t.slot t.file t.found in
      ap ledger_of t.seen ∙ ledger_upd (view d) t.slot (heldBy now t.file.sectors) ∙ ap (with_entry (ledger_of (view d)) t.slot) (e ∙ ap then (sym f.1))
      ∙ sym (ap (fold_option (ledger_of (view d)) (λ i. with_entry (ledger_of (view d)) i (then (entry_at (ledger_of (view d)) i)))) f.0)

  long : 256 ≤ length s
  long = omega (arith, holds-long d t.slot t.file t.found.here (accepted-long d (disk-accepted d ok)))

  -- before the count of the sectors: the file keeps its payload and its chain
  kept_entry : o + length (y t.file) ≤ 11 → is_live now ≡ true → entered-is (heldBy now t.file.sectors) ≡ some (with_bytes (entry_of_file t.file) o (y t.file))
  unfolding payload_of
  kept_entry h a =
      ap entered-is (entry-live now t.file.sectors a)
      ∙ ap₂ {C = Option LedgerEntry} (λ (c b : ℕ). some (record {
        slot = now;
        payload = tab (510 * c) (λ k. get_or (t.file.sectors (chain_bit t.file.sectors b (k / 510))) (k % 510) 0);
        chain = tab c (chain_bit t.file.sectors b);
      }))
      (count_kept) (first-kept)
    where
      at : (j : ℕ) → 11 ≤ j → get_or now j 0 ≡ get_or s j 0
      at j l = put-after s o (y t.file) j (omega arith)

      count_kept : count_of now ≡ count_of s
      count_kept = rw (at 11 (omega arith), at 12 (omega arith))

      first-kept : first_of now ≡ first_of s
      first-kept = rw (at 13 (omega arith), at 14 (omega arith))

-- ---- erase, rename and the marks

module _ (d : List ℕ) (ok : check_disk d ≡ none) (room : ℕ) (new ss : List ℕ) where
  pub erase_enters : (n : List ℕ) → run_change (erase n) d room ≡ new_disk new ss → ledger_of (view new) ≡ ledger_after (erase n) (ledger_of (view d))
  unfolding ledger_after
  erase_enters n e =
      let t = erased d ok room new ss n e in
      let z = holds-long d t.slot t.file t.found.here (accepted-long d (disk-accepted d ok)) in
      touched_enters d n ok 0 erasing (EraseAllowed d) new ss t (λ e. none)
      (ap entered-is (entry_dead (put t.file.bytes 0 (0 ∷ [])) t.file.sectors (rw (first_byte t.file.bytes 0 (omega arith)))))

  pub rename_enters : (n to : List ℕ) → run_change (rename n to) d room ≡ new_disk new ss → ledger_of (view new) ≡ ledger_after (rename n to) (ledger_of (view d))
  unfolding ledger_after
  rename_enters n to e =
      let t = renamed d ok room new ss n to e in
      let u = usable-is to t.also.name in
      touched_enters d n ok 1 (λ f. padded to) (RenameAllowed d to) new ss t (λ e. some (with_bytes e 1 (padded to)))
      (kept_entry d n ok 1 (λ f. padded to) (RenameAllowed d to) new ss t (omega (arith, u.1))
      (rw (put-before t.file.bytes 1 (padded to) 0 (omega arith)) (holds d t.slot t.file t.found.here).alive))

  pub mark_enters : (k : Mark) (n : List ℕ) → run_change (mark k n) d room ≡ new_disk new ss → ledger_of (view new) ≡ ledger_after (mark k n) (ledger_of (view d))
  unfolding ledger_after
  mark_enters k n e =
      let t = marked_so d ok room new ss k n e in
      let z = holds-long d t.slot t.file t.found.here (accepted-long d (disk-accepted d ok)) in
      touched_enters d n ok 0 (marking k) (λ i f. Unit {0}) new ss t (λ e. some (with_bytes e 0 (marked_byte k (get_or e.slot 0 0) ∷ [])))
      (kept_entry d n ok 0 (marking k) (λ i f. Unit {0}) new ss t (omega arith)
      (rw (
        first_byte t.file.bytes (marked_byte k (get_or t.file.bytes 0 0)) (omega arith),
        ne_eqb (marked_byte k (get_or t.file.bytes 0 0)) 0
            (marked_some k (get_or t.file.bytes 0 0) (known_some (get_or t.file.bytes 0 0 % 64) ((disk-accepted d ok).accepted t.slot t.file t.found.below t.found.here).kind)),
      )))

-- ---- a save

-- the lowest slot that holds no file
pub lowest-is : (l : View) (i : ℕ) → FreeSlot l i → lowest_slot (view_tracks l) (view_slots l) ≡ some i
lowest-is l i w = by (lowest_slot (view_tracks l) (view_slots l)) refl
  where
    no_lower : (j k : ℕ) → FreeSlot l j → FreeSlot l k → j < k → ⊥
    no_lower j k a b h = let f = b.before j h in some-ne-none f.0 (sym f.1 ∙ a.empty)

    by : (o : Option ℕ) → lowest_slot (view_tracks l) (view_slots l) ≡ o → o ≡ some i
    by none q = let f = no_free_slot l q i w.below in absurd (some-ne-none f.0 (sym f.1 ∙ w.empty))
    by (some j) q =
        let v = free-slot l j q in
        let a : (j < i → ⊥) = no_lower j i v w in
        let b : (i < j → ⊥) = no_lower i j w v in
        ap some (by_order j i a b)
      where
        by_order : (j i : ℕ) → (j < i → ⊥) → (i < j → ⊥) → j ≡ i
        by_order j i a b =
            ⊎_elim (λ (h : j < i). absurd (a h)) (λ (h : i ≤ j). ⊎_elim (λ (e : i ≡ j). sym e) (λ (e : i < j). absurd (b e)) (eq-or-lt_of_le h)) (below_or_not j i)

module _ (d : List ℕ) (ok : check_disk d ≡ none) (room : ℕ) (new ss : List ℕ) where
  pub save_enters : (w : SaveRequest) → run_change (save w) d room ≡ new_disk new ss → ledger_of (view new) ≡ ledger_after (save w) (ledger_of (view d))
  unfolding ledger_after ledger_of
  save_enters w e =
      let k = stored d ok room w new ss e in
      let i : ℕ = k.slot in
      let free : ℕ → Bool = free_bit (view_tracks (view d)) (view_slots (view d)) in
      let t : k.bits ≡ taken_bits (ledger_tracks (ledger_of (view d))) (ledger_slots (ledger_of (view d))) w =
      k.takes ∙ ap₂ (λ (n : ℕ) (v : Directory). taken_bits n v w) (sym (tracks_in (view d))) (sym (slots_in_lem (view d))) in
      let f : entry_of_file (new_file (view d).label i w k.bits) ≡ saved (ledger_of (view d)) i w =
      entry_chained free (new_slot (view d).label i w k.bits) k.bits k.ready.run (filled (view d).label i (view_tracks (view d)) free w k.bits k.ready) (slot-names (view d).label i w k.bits) (stream w)
      ∙ ap₂ {C = LedgerEntry} (λ (n : ℕ) (bs : List ℕ). record { slot = new_slot (view d).label i w bs; payload = tab (510 * n) (λ k. get_or (stream w) k 0); chain = bs }) k.ready.long t in
      ap ledger_of k.seen ∙ ledger_upd (view d) i (some (new_file (view d).label i w k.bits))
      ∙ ap (λ (x : LedgerEntry). with_entry (ledger_of (view d)) i (some x)) f
      ∙ sym
      (ap (fold_option (ledger_of (view d)) (λ i. with_entry (ledger_of (view d)) i (some (saved (ledger_of (view d)) i w))))
      (ap₂ lowest_slot (tracks_in (view d)) (slots_in_lem (view d)) ∙ lowest-is (view d) i k.lowest))

-- ---- a gather

-- a slot that gets what it holds
pub set_same : (b : Ledger) (i : ℕ) (x : LedgerEntry) → b.entry i ≡ some x → with_entry b i (some x) ≡ b
set_same b i x e = ap {B = Ledger} (λ (g : ℕ → Option LedgerEntry). record { label = b.label; entry = g }) (fun_ext (λ j. by j (eqb j i) refl))
  where
    by : (j : ℕ) (t : Bool) → eqb j i ≡ t → cond t (some x) (b.entry j) ≡ b.entry j
    by j true q = sym (ap b.entry (eqb-true j i q) ∙ e)
    by j false q = refl

module _ (d : List ℕ) (ok : check_disk d ≡ none) (room : ℕ) (new ss : List ℕ) where
  abbrev b : Ledger
  b = ledger_of (view d)

  gather-entry : (i : ℕ) (f : File) → (view d).files i ≡ some f → is_directory f.bytes ≡ false → Shifted d i f new ss
      → ledger_of (view new) ≡ with_entry (ledger_of (view d)) i (some (gathered (ledger_of (view d)) (entry_of_file f)))
  unfolding payload_of
  gather-entry i f h plain a =
      let bs : List ℕ = up_from (count_of f.bytes) a.bit in
      let r = free-rises d (count_of f.bytes) a.bit a.lowest.here in
      let long : length bs ≡ count_of f.bytes = up_long (count_of f.bytes) a.bit in
      let other = not_kind_21 f.bytes plain in
      let some-long : 1 ≤ length bs = some_bits d (disk-accepted d ok) i f h other bs r long in
      let e : entry_of_file (moved f bs) ≡ moved_entry bs (entry_of_file f) =
      entry_chained (free_bit (view_tracks (view d)) (view_slots (view d))) (put f.bytes 13 (chain_fields bs)) bs r some-long
      (now-names d (disk-accepted d ok) i f h other bs r long) (payload_of f)
      ∙ ap {B = LedgerEntry} (λ (x : List ℕ). record { slot = put f.bytes 13 (chain_fields bs); payload = x; chain = bs })
      (ap (λ (n : ℕ). tab (510 * n) (λ k. get_or (payload_of f) k 0)) long ∙ sym (tab_of (510 * count_of f.bytes) (λ k. get_or (payload_of f) k 0) (payload_of f) (length-tab (510 * count_of f.bytes) _) (λ k q. refl))) in
      let run_change : run_for (ledger_of (view d)) (entry_of_file f) ≡ some a.bit =
      ap₂ (λ (n : ℕ) (v : Directory). lowest_run n v (count_of f.bytes)) (tracks_in (view d)) (slots_in_lem (view d)) ∙ (lowest-run d (count_of f.bytes) (omega (arith, long)) a.bit).1 a.lowest in
      ap ledger_of a.seen ∙ ledger_upd (view d) i (some (moved f bs)) ∙ ap (λ (x : LedgerEntry). with_entry (ledger_of (view d)) i (some x)) (e ∙ sym (moves (must_move_lem f ∙ a.must) run_change))
    where
      moves : must_move (entry_of_file f) ≡ true → run_for (ledger_of (view d)) (entry_of_file f) ≡ some a.bit
          → gathered (ledger_of (view d)) (entry_of_file f) ≡ moved_entry (up_from (count_of f.bytes) a.bit) (entry_of_file f)
      moves m q = rw (m, q) refl

  pub gather_enters : (n : List ℕ) → run_change (gather n) d room ≡ new_disk new ss → ledger_of (view new) ≡ ledger_after (gather n) (ledger_of (view d))
  unfolding ledger_after ledger_of
  gather_enters n e =
      let t = gathers d ok room new ss n e in
      let f = entry_found d n ok t.slot t.file t.found in
      ⊎_elim
      (λ z.
      ap (λ (x : List ℕ). ledger_of (view x)) z.1
      ∙ sym (set_same (ledger_of (view d)) t.slot (entry_of_file t.file) (ap entered-is t.found.here))
      ∙ ap (λ (x : LedgerEntry). with_entry (ledger_of (view d)) t.slot (some x)) (sym (stays (must_move_lem t.file ∙ z.0))))
      (λ z. gather-entry t.slot t.file t.found.here t.no_directory z)
      t.done
      ∙ ap (λ (x : LedgerEntry). with_entry (ledger_of (view d)) t.slot (some (gathered (ledger_of (view d)) x))) (sym f.1)
      ∙ sym (ap (fold_option (ledger_of (view d)) (λ i. with_entry (ledger_of (view d)) i (some (gathered (ledger_of (view d)) (entry_at (ledger_of (view d)) i))))) f.0)
    where
      stays : {x : LedgerEntry} → must_move x ≡ false → gathered (ledger_of (view d)) x ≡ x
      stays m = rw m refl
