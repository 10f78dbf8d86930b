-- A mark by the slot that its name finds, and that no mark moves it.
use Prim.Native.Nat.{ℕ, ◌+◌, ◌<◌}
use mathlib.Core.Path.{◌≡◌, refl, sym, ap, ap₂, ◌∙◌}
use mathlib.Core.Bool.{Bool, true, false, cond}
use mathlib.Core.List.{List, [], ◌∷◌}
use mathlib.Core.Option.{Option, none, some}
use native.Mathlib.Decide.{ℕ_discrete}
use native.Mathlib.Omega.{arith}
use lib.Dec.{ltb}
use lib.ListN.{get_or}
use Rattle.buffers.specs.Bytes.{put}
use Rattle.buffers.proofs.Lists.{part_at, put_one}
use Rattle.refusals.specs.Order.{refuse, Reply}
use Rattle.refusals.proofs.First.{scan_cong}
use Rattle.slots.specs.Slot.{name_of}
use Rattle.names.specs.Name.{same_name, askable, padded}
use Rattle.directory.specs.Places.{slots, slot_at, dir_sector}
use Rattle.directory.specs.Directory.{fold_option, Directory, directory}
use Rattle.directory.specs.Find.{match_at, find}
use Rattle.disk.specs.View.{view, view_slots}
use Rattle.disk.specs.Check.{check_disk}
use Rattle.disk.proofs.View.{view-slots}
use Rattle.files.specs.Calls.{SlotLookup, found_slot, refused_lookup, lookup, file_at}
use Rattle.steps.specs.Steps.{put_all, apply, numbers}
use Rattle.plans.specs.Change.{Mark, mark, marked_byte}
use Rattle.plans.specs.Plan.{plan_of, Result, refused_result, new_disk, run_change}
use Rattle.plans.specs.After.{AfterMark, marking}
use Rattle.plans.proofs.Frame.{disk-accepted, holds}
use Rattle.plans.proofs.Named.{found-file, alone}
use Rattle.plans.proofs.Effect.{marked_so}
use Rattle.plans.proofs.Demand3.{change-accepted, run_room}
use Rattle.plans.proofs.Others.{first-name, touched_slots}
use Rattle.plans.proofs.After.{after-mark}
use Rattle.mark_order.proofs.Turned.{turned}

-- ---- what a mark does

-- by the slot that its name finds
abbrev pub mark_by : Mark → List ℕ → ℕ → SlotLookup → Result
mark_by k d room (refused_lookup r) = refused_result r
mark_by k d room (found_slot i) = cond (ltb room 1) (refused_result (refuse 20 0)) (new_disk (turned (marked_byte k) (slot_at i) d) (dir_sector i ∷ []))

module _ (k : Mark) (n d : List ℕ) where
  -- the byte that is put
  put_is_turned : (i : ℕ) → find (view_slots (view d)) n ≡ some i
      → put d (slot_at i + 0) (marked_byte k (get_or (file_at (view d) i).bytes 0 0) ∷ []) ≡ turned (marked_byte k) (slot_at i) d
  put_is_turned i e =
      let w = found-file d n i e in
      let a : slot_at i + 0 ≡ slot_at i = omega arith in
      let b : get_or (file_at (view d) i).bytes 0 0 ≡ get_or d (slot_at i) 0 =
      ap (λ (s : List ℕ). get_or s 0 0) (sym (holds d i (file_at (view d) i) w.here).bytes)
      ∙ part_at (slot_at i) 256 d 0 (omega arith) ∙ ap (λ (j : ℕ). get_or d j 0) a in
      ap₂ (λ (j x : ℕ). put d j (marked_byte k x ∷ [])) a b ∙ sym (put_one d (slot_at i) (marked_byte k (get_or d (slot_at i) 0)))

  pub run_is : (room : ℕ) → run_change (mark k n) d room ≡ mark_by k d room (lookup (view d) n)
  unfolding run_change plan_of lookup check_disk apply put_all numbers
  run_is room = by (check_disk d) refl (askable n) refl (find (view_slots (view d)) n) refl
    where
      by : (c : Reply) → check_disk d ≡ c → (t : Bool) → askable n ≡ t → (o : Option ℕ) → find (view_slots (view d)) n ≡ o
          → run_change (mark k n) d room ≡ mark_by k d room (lookup (view d) n)
      by (some r) p t q o w = rw p
      by none p false q o w = rw (p, q)
      by none p true q none w = rw (p, q, w)
      by none p true q (some i) w =
          rw (p, q, w)
          (ap (λ (x : List ℕ). cond (ltb room 1) (refused_result (refuse 20 0)) (new_disk x (dir_sector i ∷ []))) (put_is_turned i w))

-- ---- no mark moves what a name finds

-- the disk that is left
abbrev pub left : Result → List ℕ → List ℕ
left (refused_result r) d = d
left (new_disk new ss) d = new

module _ (k : Mark) (n d : List ℕ) (room : ℕ) where
  module _ (new ss : List ℕ) (ok : check_disk d ≡ none) (e : run_change (mark k n) d room ≡ new_disk new ss) (m : List ℕ) where
    a : AfterMark k d n new ss
    a = after-mark d ok room new ss k n e

    hit_stays : (j : ℕ) → j < slots → Dec (j ≡ a.slot) → match_at (directory new) m j ≡ match_at (directory d) m j
    hit_stays j h (yes z) =
        let was : directory d a.slot ≡ some a.file.bytes = (holds d a.slot a.file a.found.here).live in
        let now = (holds new a.slot _ a.now.here).live in
        rw (z, was, now, first-name a.file.bytes (marked_byte k (get_or a.file.bytes 0 0)))
    hit_stays j h (no z) =
        ap (fold_option none (λ s. cond (same_name (name_of s) (padded m)) (some j) none))
        (touched_slots d n 0 (marking k) (λ i f. Unit {0}) new ss (marked_so d ok room new ss k n e) j
        (λ g p q.
        alone (view d) (disk-accepted d ok) n a.slot a.file a.found.below a.found.here a.found.name j g h z p q))

    find-stays : find (view_slots (view new)) m ≡ find (view_slots (view d)) m
    unfolding find
    find-stays =
        ap (λ (v : Directory). find v m) (view-slots new)
        ∙ scan_cong slots (match_at (directory new) m) (match_at (directory d) m) (λ j h. hit_stays j h (ℕ_discrete j a.slot))
        ∙ ap (λ (v : Directory). find v m) (sym (view-slots d))

    lookup-stays : lookup (view new) m ≡ lookup (view d) m
    unfolding lookup check_disk
    lookup-stays =
        let now : check_disk new ≡ none = change-accepted (mark k n) d room new ss ok e in
        rw (now, ok, find-stays)

  -- whatever the mark did, every name finds what it found, or is refused as it was
  pub found_left : (m : List ℕ) → lookup (view (left (run_change (mark k n) d room) d)) m ≡ lookup (view d) m
  found_left m = by (run_change (mark k n) d room) refl
    where
      by : (x : Result) → run_change (mark k n) d room ≡ x → lookup (view (left x d)) m ≡ lookup (view d) m
      by (refused_result r) e = refl
      by (new_disk new ss) e = lookup-stays new ss (run_room (mark k n) d room new ss e).accepted e m
