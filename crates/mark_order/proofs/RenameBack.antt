-- A rename and the rename back.
use Prim.Native.Nat.{ℕ, ◌+◌, ◌≤◌}
use mathlib.Core.Path.{◌≡◌, refl, sym, ap, ap₂, ◌∙◌}
use mathlib.Core.Bool.{true, not, ◌&&◌}
use mathlib.Core.List.{List, [], ◌∷◌}
use mathlib.Core.Option.{none, some, some-injective}
use native.Mathlib.Omega.{arith}
use borrow.Author.Tests.{le-ltb}
use lib.Dec.{eqb}
use lib.ListN.{length, get_or}
use Rattle.buffers.specs.Bytes.{part, put}
use Rattle.buffers.proofs.Lists.{length_part, part_at, part-part, put-before, put_is, put-over}
use Rattle.buffers.proofs.Tests.{and_both}
use Rattle.slots.specs.Slot.{is_live, name_of}
use Rattle.names.specs.Name.{Same, askable, padded}
use Rattle.names.proofs.Names.{same_eq, same_to, same_trans}
use Rattle.chains.specs.File.{File}
use Rattle.directory.specs.Places.{slot_at, dir_sector}
use Rattle.disk.specs.View.{View, view}
use Rattle.disk.specs.Check.{check_disk}
use Rattle.plans.specs.Change.{Change, rename, all_between, usable}
use Rattle.plans.specs.Plan.{with_slot, new_disk, run_change}
use Rattle.plans.specs.Refused.{ChangeAccepted}
use Rattle.plans.specs.Allowed.{NamedSlot, NameUnusedBut, RenameAllowed}
use Rattle.plans.proofs.Frame.{disk-accepted, upd_same, upd_other, entry-live, holds, holds-long}
use Rattle.plans.proofs.Kept.{accepted-long, usable-is}
use Rattle.plans.proofs.Named.{alone}
use Rattle.plans.proofs.Crash.{run-made}
use Rattle.plans.proofs.Effect.{Touched, renamed}
use Rattle.plans.proofs.Demand3.{change-accepted, run_room}
use Rattle.plans.proofs.Others.{name-put}
use Rattle.plans.proofs.Exactly.{named_find, rename_exactly}
use Rattle.mark_order.specs.RenameBack.{StoredName}

-- a part of a disk put where it stands
put-part : (d : List ℕ) (a n : ℕ) → put d a (part a n d) ≡ d
put-part d a n =
    sym
    (put_is d a (part a n d) d refl
    (λ i h k. sym (part_at a n d i (omega (arith, length_part a n d)))) (λ k h. refl) (λ k h m. refl))

-- an accepted change with another list that has room
pub with_room : (c : Change) (d : List ℕ) (r s : ℕ) (new ss : List ℕ) → run_change c d r ≡ new_disk new ss → length ss ≤ s
    → run_change c d s ≡ new_disk new ss
unfolding run_change
with_room c d r s new ss e h =
    let ok : check_disk d ≡ none = (run_room c d r new ss e).accepted in
    let m = run-made c d r new ss ok e in
    rw (ok, m.planned, m.named, m.disk, le-ltb s (length ss) h)

-- one name is found in one slot
one_slot : (d n : List ℕ) → check_disk d ≡ none → (i j : ℕ) (f g : File) → NamedSlot d n i f → NamedSlot d n j g → i ≡ j
one_slot d n ok i j f g v w = some-injective i j (sym (named_find d n ok i f v) ∙ named_find d n ok j g w)

module _ (d n to old : List ℕ) (r : ℕ) (e ss : List ℕ) (w : run_change (rename n to) d r ≡ new_disk e ss) (o : StoredName d n old) where
  ok : check_disk d ≡ none
  ok = (run_room (rename n to) d r e ss w).accepted

  now : check_disk e ≡ none
  now = change-accepted (rename n to) d r e ss ok w

  t : Touched d n 1 (λ f. padded to) (RenameAllowed d to) e ss
  t = renamed d ok r e ss n to w

  abbrev f : File
  f = t.file

  -- the file under its new name
  abbrev g : File
  g = record { bytes = put f.bytes 1 (padded to); sectors = f.sectors }

  -- the bytes of the old name
  stored : name_of f.bytes ≡ padded old
  stored =
      let z : o.slot ≡ t.slot = one_slot d n ok o.slot t.slot o.file f o.found t.found in
      let y : o.file ≡ f = some-injective o.file f (sym o.found.here ∙ ap (view d).files z ∙ t.found.here) in
      ap (λ (x : File). name_of x.bytes) (sym y) ∙ o.bytes

  first-kept : get_or g.bytes 0 0 ≡ get_or f.bytes 0 0
  first-kept = put-before f.bytes 1 (padded to) 0 (omega arith)

  seen : view e ≡ with_slot (view d) t.slot (some g)
  seen =
      let live : is_live g.bytes ≡ true = rw first-kept (holds d t.slot f t.found.here).alive in
      t.seen ∙ ap (with_slot (view d) t.slot) (entry-live g.bytes f.sectors live)

  named : name_of g.bytes ≡ padded to
  named =
      name-put f.bytes (padded to) (usable-is to t.also.name).1
      (omega (arith, holds-long d t.slot f t.found.here (accepted-long d (disk-accepted d ok))))

  found : NamedSlot e to t.slot g
  found = record {
    below = t.found.below;
    here = ap (λ (l : View). l.files t.slot) seen ∙ upd_same (view d) t.slot (some g);
    name = same_eq (name_of g.bytes) (padded to) named;
  }

  -- no other file has the old name
  fresh : NameUnusedBut e t.slot old
  fresh j x z p q =
      let was : (view d).files j ≡ some x =
      sym (upd_other (view d) t.slot (some g) j z) ∙ ap (λ (l : View). l.files j) (sym seen) ∙ p in
      let s : Same (name_of x.bytes) (padded n) =
      same_trans (name_of x.bytes) (name_of f.bytes) (padded n)
      (same_to (name_of x.bytes) (sym stored) q) t.found.name in
      alone (view d) (disk-accepted d ok) n t.slot f t.found.below t.found.here t.found.name
      j x (holds d j x was).here z was s

  accepts : (s : ℕ) → 1 ≤ s → ChangeAccepted (rename to old) e s
  unfolding usable
  accepts s h =
      (rename_exactly e to s old).1
      (record {
        disk = now;
        name = (and_both (askable to) (all_between 32 to 126 && not (eqb (get_or to 0 0) 32)) t.also.name).0;
        slot = t.slot;
        file = g;
        found = found;
        also = record {
          name = o.accepted;
          fresh = fresh;
          other = λ q. t.also.other (stored ∙ sym q ∙ named);
          unprotected = rw first-kept t.also.unprotected;
        };
        list = h;
      })

  -- the name's ten bytes are those that stood there
  name-place : padded old ≡ part (slot_at t.slot + 1) 10 d
  name-place =
      sym stored ∙ ap name_of (sym (holds d t.slot f t.found.here).bytes)
      ∙ part-part (slot_at t.slot) 256 1 10 d (omega arith)

  -- "an accepted rename followed by the rename back restores every byte": it is accepted, and names the same sector
  pub rename-back : (s : ℕ) → 1 ≤ s → run_change (rename to old) e s ≡ new_disk d ss
  rename-back s h =
      let x = accepts s h in
      let u = renamed e now s x.new x.sectors to old x.gives in
      let z : u.slot ≡ t.slot = one_slot e to now u.slot t.slot u.file g u.found found in
      let k : length (padded to) ≡ length (padded old) = (usable-is to t.also.name).1 ∙ sym (usable-is old o.accepted).1 in
      let disk : x.new ≡ d =
      u.disk ∙ ap₂ (λ (y : List ℕ) (i : ℕ). put y (slot_at i + 1) (padded old)) t.disk z
      ∙ put-over d (slot_at t.slot + 1) (padded to) (padded old) k
      ∙ ap (put d (slot_at t.slot + 1)) name-place ∙ put-part d (slot_at t.slot + 1) 10 in
      let list : x.sectors ≡ ss = u.sectors ∙ ap (λ (i : ℕ). dir_sector i ∷ []) z ∙ sym t.sectors in
      x.gives ∙ ap₂ new_disk disk list

  pub named_one : length ss ≡ 1
  named_one = ap length t.sectors
