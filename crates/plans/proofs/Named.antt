-- A name on a disk: the live slot that has it, and none other where the disk is accepted.
use Prim.Native.Nat.{ℕ, ◌<◌}
use mathlib.Core.Path.{◌≡◌, sym, ap, subst}
use mathlib.Core.List.{List}
use mathlib.Core.Option.{none, some}
use native.Mathlib.Omega.{arith}
use Rattle.slots.specs.Slot.{name_of}
use Rattle.names.specs.Name.{Same, padded}
use Rattle.names.proofs.Names.{same_of, same-both}
use Rattle.chains.specs.File.{File}
use Rattle.directory.specs.Places.{slots}
use Rattle.directory.specs.Directory.{fold_option}
use Rattle.directory.specs.Find.{find}
use Rattle.directory.proofs.Search.{FoundBy, find-some, find_none, some-find, none-find}
use Rattle.disk.specs.View.{View, view, view_slots}
use Rattle.disk.specs.Accepted.{AcceptedDisk}
use Rattle.files.specs.Calls.{no_file, file_at}
use Rattle.plans.specs.Allowed.{NamedSlot, NameUnused}
use Rattle.plans.proofs.Frame.{slots-some, slot-file, holds}
use Rattle.plans.proofs.Kept.{accepted-apart}

-- the slot that is found has the name
pub found-file : (d n : List ℕ) (i : ℕ) → find (view_slots (view d)) n ≡ some i → NamedSlot d n i (file_at (view d) i)
found-file d n i e =
    let w : FoundBy (view_slots (view d)) n i = find-some (view_slots (view d)) n i e in
    let g = slot-file (view d) i w.bytes w.here in
    subst (NamedSlot d n i) (sym (ap (fold_option no_file (λ f. f)) g.1)) (record { below = w.below; here = g.1; name = same_of (ap name_of g.2) (padded n) w.name })

-- none is found exactly where no live slot has it
pub fresh-find : (d n : List ℕ) → NameUnused d n → find (view_slots (view d)) n ≡ none
fresh-find d n h =
    none-find (view_slots (view d)) n
    (λ k m s p q.
    let g = slot-file (view d) k s p in
    h k g.0 g.1 (same_of (ap name_of g.2) (padded n) q))

pub find-fresh : (d n : List ℕ) → find (view_slots (view d)) n ≡ none → NameUnused d n
find-fresh d n e i f q = find_none (view_slots (view d)) n e i (holds d i f q).here f.bytes (slots-some (view d) i f q)

module _ (l : View) (w : AcceptedDisk l) (n : List ℕ) (i : ℕ) (f : File) (h : i < slots) (e : l.files i ≡ some f) (q : Same (name_of f.bytes) (padded n)) where
  -- no other slot has it
  pub alone : (k : ℕ) (g : File) → k < slots → (k ≡ i → ⊥) → l.files k ≡ some g → Same (name_of g.bytes) (padded n) → ⊥
  alone k g m u p r = (accepted-apart l w i k f g h m u e p).names (same-both (name_of g.bytes) (name_of f.bytes) (padded n) r q)

  -- the slot that has it is the one that is found
  pub found_here : find (view_slots l) n ≡ some i
  found_here =
      some-find (view_slots l) n i
      (record {
        below = h;
        bytes = f.bytes;
        here = slots-some l i f e;
        name = q;
        before = λ k m s p r.
            let g = slot-file l k s p in
            alone k g.0 (omega arith) (omega arith) g.1 (same_of (ap name_of g.2) (padded n) r);
      })
