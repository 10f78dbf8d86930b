-- A change leaves no waste sector behind a file where there was none: what the release check accepts before it, it accepts after it,
-- whichever number of the change's sectors is written.
use Prim.Native.Nat.{ℕ, ◌%◌, ◌≤◌, ◌<◌}
use mathlib.Core.Path.{◌≡◌, refl, sym, ap, ◌∙◌, subst, subst₂}
use mathlib.Core.Bool.{Bool, true, true≢false}
use mathlib.Core.List.{List}
use mathlib.Core.Logic.{inl, inr, ⊎_elim}
use mathlib.Core.Option.{Option, none, some, some-injective}
use native.Mathlib.Decide.{ℕ_discrete}
use native.Mathlib.Nat.{eq-or-lt_of_le}
use native.Mathlib.Omega.{arith}
use lib.ListN.{length, get_or}
use Rattle.buffers.specs.Bytes.{put}
use Rattle.buffers.proofs.Lists.{put-before, put-after}
use Rattle.slots.specs.Slot.{is_live, kind_of, count_of, slot_fields, length_of}
use Rattle.names.specs.Name.{padded}
use Rattle.slots.proofs.Least.{sectors-few}
use Rattle.chains.specs.File.{File}
use Rattle.disk.specs.View.{View, view}
use Rattle.disk.specs.Check.{check_disk, check_release}
use Rattle.disk.specs.Release.{NoWasteFile, NoWaste}
use Rattle.disk.proofs.Release.{release-accepts, release_exactly}
use Rattle.steps.specs.Sectors.{cut}
use Rattle.plans.specs.Change.{SaveRequest, Change, save, erase, rename, mark, gather, marked_byte}
use Rattle.plans.specs.Gathering.{up_from, chain_fields}
use Rattle.plans.specs.Plan.{with_slot, file_if_live, new_disk, run_change, finds}
use Rattle.plans.specs.Saving.{new_slot}
use Rattle.plans.specs.Allowed.{EraseAllowed, RenameAllowed, sectors_taken}
use Rattle.plans.specs.Safe.{Safe}
use Rattle.plans.specs.After.{marking, Outside}
use Rattle.plans.proofs.Frame.{disk-accepted, upd_same, upd_other, entry_alive, entry-is, holds-long}
use Rattle.plans.proofs.Kept.{accepted-long, usable-is}
use Rattle.plans.proofs.NewFile.{new_file, count-is, length-is}
use Rattle.plans.proofs.Crash.{unseen, run-made}
use Rattle.plans.proofs.SafeSteps.{safe_steps}
use Rattle.plans.proofs.Moved.{gathered-file, before, after, kind-now}
use Rattle.plans.proofs.Effect.{Touched, erasing, erased, marked_so, renamed, gathers}
use Rattle.plans.proofs.Demand3.{crash_change, change-accepted}
use Rattle.plans.proofs.ReadBack.{stored}
use Rattle.plans.proofs.After.{first_byte, kind-bits}

-- ---- one slot

-- with the kind and every byte from 11 on as they were, but for the first address and the map
lean_kept : (s t : List ℕ) → kind_of t ≡ kind_of s → ((j : ℕ) → 11 ≤ j → Outside j 13 197 → get_or t j 0 ≡ get_or s j 0) → NoWasteFile s → NoWasteFile t
unfolding slot_fields length_of
lean_kept s t p r w =
    rw (
      p,
      r 11 (omega arith) (inl (omega arith)),
      r 12 (omega arith) (inl (omega arith)),
      r 239 (omega arith) (inr (omega arith)),
      r 240 (omega arith) (inr (omega arith)),
      r 241 (omega arith) (inr (omega arith)),
    ) w

-- slot i of a view holds another file, or none
lean_upd : (l : View) (i : ℕ) (o : Option File) → NoWaste l → ((f : File) → o ≡ some f → NoWasteFile f.bytes) → NoWaste (with_slot l i o)
lean_upd l i o w h j f k q = by (ℕ_discrete j i)
  where
    by : Dec (j ≡ i) → NoWasteFile f.bytes
    by (yes z) = h f (sym (upd_same l i o) ∙ ap (with_slot l i o).files (sym z) ∙ q)
    by (no z) = w j f k (sym (upd_other l i o j z) ∙ q)

-- a change of the slot that it finds, if that slot is as lean as it was where it is still live
touched_lean : (d n : List ℕ) (o : ℕ) (y : File → List ℕ) (Also : ℕ → File → Type 0) (new ss : List ℕ) → NoWaste (view d) → (t : Touched d n o y Also new ss)
    → (is_live (put t.file.bytes o (y t.file)) ≡ true → NoWasteFile t.file.bytes → NoWasteFile (put t.file.bytes o (y t.file))) → NoWaste (view new)
touched_lean d n o y Also new ss w t k =
    let now : List ℕ = put t.file.bytes o (y t.file) in
    subst NoWaste (sym t.seen)
    (lean_upd (view d) t.slot (file_if_live now t.file.sectors) w
    (λ f e.
    subst (λ (f : File). NoWasteFile f.bytes) (sym (entry-is now t.file.sectors f e))
    (k (entry_alive now t.file.sectors f e) (w t.slot t.file t.found.below t.found.here))))

-- a new file, in the slot that a save writes: "the least n with 510 × n ≥ 9 + length"
pub entered_lean : (d new : List ℕ) (i : ℕ) (w : SaveRequest) (bs : List ℕ) (g : File) → NoWaste (view d) → length bs ≡ sectors_taken w
    → g.bytes ≡ new_slot (view d).label i w bs → view new ≡ with_slot (view d) i (some g) → NoWaste (view new)
entered_lean d new i w bs g h long is seen =
    subst NoWaste (sym seen)
    (lean_upd (view d) i (some g) h
    (λ f e. subst (λ (f : File). NoWasteFile f.bytes) (some-injective g f e) (subst NoWasteFile (sym is) new_lean)))
  where
    new_lean : NoWasteFile (new_slot (view d).label i w bs)
    new_lean c m e =
        let n = count-is (view d).label i w bs in
        let b = length-is (view d).label i w bs in
        omega (arith, n, long, sectors-few (length w.body) m (omega (arith, b)))

-- ---- every cut

-- before the last sector nothing is seen to change, and what is seen after it is lean
pub released_of : (d : List ℕ) → check_release d ≡ none → (new ss : List ℕ) (finds : File → Bool) → Safe finds d new ss
    → ((k : ℕ) → k < length ss → view (cut d new ss k) ≡ view d) → NoWaste (view new) → (k : ℕ) → k ≤ length ss → check_release (cut d new ss k) ≡ none
released_of d ok new ss finds s unseen after k h =
    (release_exactly (cut d new ss k)).1 (
      s.accepts k h,
      ⊎_elim (λ (q : k ≡ length ss). subst (λ (x : List ℕ). NoWaste (view x)) (sym (ap (cut d new ss) q ∙ s.whole)) after)
          (λ (q : k < length ss). subst NoWaste (sym (unseen k q)) ((release_exactly d).0 ok).1)
          (eq-or-lt_of_le h),
    )

-- ---- every change

-- before the last sector nothing is seen to change
pub change-unseen : (c : Change) (d : List ℕ) (room : ℕ) (new ss : List ℕ) → check_disk d ≡ none → run_change c d room ≡ new_disk new ss
    → (k : ℕ) → k < length ss → view (cut d new ss k) ≡ view d
change-unseen c d room new ss ok e k =
    let m = run-made c d room new ss ok e in
    subst₂ (λ (n s : List ℕ). k < length s → view (cut d n s k) ≡ view d) m.disk m.named
    (unseen (finds c) d ok m.steps (safe_steps c d m.steps (disk-accepted d ok) m.planned) k)

module _ (d : List ℕ) (ok : check_release d ≡ none) (room : ℕ) (new ss : List ℕ) where
  first : check_disk d ≡ none
  first = release-accepts d ok

  lean : NoWaste (view d)
  lean = ((release_exactly d).0 ok).1

  change_lean : (c : Change) → run_change c d room ≡ new_disk new ss → NoWaste (view new)
  change_lean (save w) e =
      let k = stored d first room w new ss e in
      entered_lean d new k.slot w k.bits (new_file (view d).label k.slot w k.bits) lean k.ready.long refl k.seen
  change_lean (erase n) e =
      let t = erased d first room new ss n e in
      let z = holds-long d t.slot t.file t.found.here (accepted-long d (disk-accepted d first)) in
      touched_lean d n 0 erasing (EraseAllowed d) new ss lean t
      (λ a. absurd (true≢false (sym a ∙ rw (first_byte t.file.bytes 0 (omega arith)))))
  change_lean (rename n to) e =
      let t = renamed d first room new ss n to e in
      let u = usable-is to t.also.name in
      let s : List ℕ = t.file.bytes in
      touched_lean d n 1 (λ f. padded to) (RenameAllowed d to) new ss lean t
      (λ a.
      lean_kept s (put s 1 (padded to)) (ap (λ (x : ℕ). x % 64) (put-before s 1 (padded to) 0 (omega arith)))
      (λ j h o. put-after s 1 (padded to) j (omega (arith, u.1))))
  change_lean (mark k n) e =
      let t = marked_so d first room new ss k n e in
      let z = holds-long d t.slot t.file t.found.here (accepted-long d (disk-accepted d first)) in
      let s : List ℕ = t.file.bytes in
      let x : ℕ = get_or s 0 0 in
      touched_lean d n 0 (marking k) (λ i f. Unit {0}) new ss lean t
      (λ a.
      lean_kept s (put s 0 (marking k t.file)) (ap (λ (x : ℕ). x % 64) (first_byte s (marked_byte k x) (omega arith)) ∙ kind-bits k x)
      (λ j h o. put-after s 0 (marking k t.file) j (omega arith)))
  change_lean (gather n) e =
      let t = gathers d first room new ss n e in
      let s : List ℕ = t.file.bytes in
      let z = holds-long d t.slot t.file t.found.here (accepted-long d (disk-accepted d first)) in
      ⊎_elim (λ a. subst (λ (x : List ℕ). NoWaste (view x)) (sym a.1) lean)
      (λ a.
      let bs : List ℕ = up_from (count_of s) a.bit in
      subst NoWaste (sym a.seen)
      (lean_upd (view d) t.slot (some (gathered-file t.file bs)) lean
      (λ f q.
      subst (λ (f : File). NoWasteFile f.bytes) (some-injective (gathered-file t.file bs) f q)
      (lean_kept s (put s 13 (chain_fields bs)) (kind-now t.file bs z)
      (λ j h o. ⊎_elim (before t.file bs z j) (after t.file bs z j) o) (lean t.slot t.file t.found.below t.found.here)))))
      t.done

  -- the disk that an accepted change leaves
  pub change_released : (c : Change) → run_change c d room ≡ new_disk new ss → check_release new ≡ none
  change_released c e = (release_exactly new).1 (change-accepted c d room new ss first e, change_lean c e)

  -- and every cut of it
  pub cut_released : (c : Change) → run_change c d room ≡ new_disk new ss → (k : ℕ) → k ≤ length ss → check_release (cut d new ss k) ≡ none
  cut_released c e = released_of d ok new ss (finds c) (crash_change c d room new ss first e) (change-unseen c d room new ss first e) (change_lean c e)
