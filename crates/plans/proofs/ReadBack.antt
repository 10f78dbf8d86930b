-- Reading back: after an accepted save the name reads the body, byte for byte, and gives the start address asked for.
use Prim.Native.Nat.{ℕ, suc, ◌+◌, ◌-◌, ◌≤◌}
use mathlib.Core.Path.{◌≡◌, refl, sym, ap, ap₂, ◌∙◌, subst}
use mathlib.Core.Bool.{true, ◌&&◌}
use mathlib.Core.List.{List, ◌++◌, map}
use mathlib.Core.Option.{none, some}
use native.Mathlib.Omega.{arith}
use borrow.Author.Tests.{le-ltb, leb-true}
use lib.Dec.{leb, ltb}
use lib.ListN.{length}
use Rattle.buffers.specs.Bytes.{put}
use Rattle.buffers.proofs.Tests.{and_both}
use Rattle.geometry.specs.Disk.{bit_number}
use Rattle.refusals.specs.Order.{Reply, ◌else◌, row}
use Rattle.refusals.specs.Answers.{out, done}
use Rattle.slots.specs.Slot.{kind_of, name_of, carried, readable, page_of, offset_of}
use Rattle.slots.proofs.KindLaws.{carried_not, carried-read}
use Rattle.names.specs.Name.{askable, padded}
use Rattle.names.proofs.Names.{same_eq}
use Rattle.chains.specs.File.{File}
use Rattle.headers.specs.Header.{file_length, body}
use Rattle.directory.specs.Directory.{fold_option}
use Rattle.directory.specs.Find.{find}
use Rattle.directory.proofs.Search.{some-find, find_none}
use Rattle.disk.specs.View.{View, view, view_slots, view_tracks}
use Rattle.disk.specs.Check.{check_view, check_disk}
use Rattle.disk.proofs.Rows.{is_carried}
use Rattle.files.specs.Calls.{no_file, file_at, file_named, named_reply, not_readable, start_out_of_range, read_reply, read_view, reading, start_reply, start_view, start_address, file_start, address}
use Rattle.steps.specs.Steps.{apply, numbers}
use Rattle.plans.specs.Change.{SaveRequest, save, usable, between}
use Rattle.plans.specs.Saving.{free_bit, taken_bits, taken_slot, new_slot}
use Rattle.plans.specs.Plan.{with_slot, old_name, dir_sectors, save_steps, new_disk, run_change}
use Rattle.plans.proofs.Frame.{disk-accepted, upd_same, slots_same, slots-other}
use Rattle.plans.proofs.Kept.{usable-is}
use Rattle.plans.proofs.Free.{FreeSlot, free-small, free-slot}
use Rattle.plans.proofs.NewFile.{new_file, Ready, taken_ready, name-is, kind-is, new-length, page-is, offset-is}
use Rattle.plans.proofs.Saved.{save-numbers, save-view, reads-back}
use Rattle.plans.proofs.Crash.{run-made}
use Rattle.plans.proofs.SafeSteps.{saves}
use Rattle.plans.proofs.Demand3.{change-accepted}

-- ---- a call by name, where the slot is known

module _ (l : View) (ok : check_view l ≡ none) (n : List ℕ) (u : askable n ≡ true) (i : ℕ) (f : File) (h : find (view_slots l) n ≡ some i) (e : l.files i ≡ some f) where
  file-here : file_at l i ≡ f
  file-here = ap (fold_option no_file (λ f. f)) e

  pub named_here : (rest : ℕ → File → Reply) → named_reply l n rest ≡ rest (suc i) f
  named_here rest = rw (ok, u, h) (ap (rest (suc i)) file-here)

  pub file_named_lem : file_named l n ≡ f
  unfolding file_named
  file_named_lem = rw h file-here

  pub read_here : readable (kind_of f.bytes) ≡ true → (buf : List ℕ) → file_length f ≤ length buf
      → read_view l n buf ≡ out (done (file_length f) 0) (put buf 0 (body f))
  unfolding read_view read_reply
  read_here c buf k =
      let q : read_reply l n (length buf) ≡ none =
      named_here (λ slot f. not_readable slot f else row 20 0 (ltb (length buf) (file_length f)))
      ∙ rw (c, le-ltb (length buf) (file_length f) k) in
      rw (q, file_named_lem)

  pub start_here : carried (kind_of f.bytes) ≡ true → (leb 32768 (offset_of f.bytes) && leb (offset_of f.bytes) 49151) ≡ true → start_view l n ≡ done (address (page_of f.bytes) (offset_of f.bytes)) 0
  unfolding start_view start_reply file_start
  start_here c r =
      let q : start_reply l n ≡ none = named_here (λ slot f. not_readable slot f else start_out_of_range slot f) ∙ rw (carried-read (kind_of f.bytes) c, carried_not (kind_of f.bytes) c, r) in
      rw (q, file_named_lem, carried_not (kind_of f.bytes) c)

-- ---- what an accepted save has done

pub record SaveStored (d : List ℕ) (w : SaveRequest) (new ss : List ℕ) : Type 0 where
  pub slot : ℕ
  pub bits : List ℕ
  pub lowest : FreeSlot (view d) slot
  pub ready : Ready (view_tracks (view d)) (free_bit (view_tracks (view d)) (view_slots (view d))) w bits
  pub range : (leb w.page 31 && between 32768 w.offset 49151) ≡ true
  pub fresh : find (view_slots (view d)) w.name ≡ none
  pub takes : bits ≡ taken_bits (view_tracks (view d)) (view_slots (view d)) w
  pub disk : new ≡ apply d (save_steps (old_name d slot) (view d) slot w bits)
  pub seen : view new ≡ with_slot (view d) slot (some (new_file (view d).label slot w bits))
  -- "for a save the n data sectors in chain order and then the directory sector", before that one the one behind the end
  pub sectors : ss ≡ map bit_number bits ++ dir_sectors (old_name d slot) slot

pub stored : (d : List ℕ) → check_disk d ≡ none → (room : ℕ) (w : SaveRequest) (new ss : List ℕ) → run_change (save w) d room ≡ new_disk new ss → SaveStored d w new ss
stored d ok room w new ss e =
    let m = run-made (save w) d room new ss ok e in
    let k = saves d (disk-accepted d ok) m.steps w m.planned in
    let t = k.tested in
    let i : ℕ = taken_slot (view_tracks (view d)) (view_slots (view d)) in
    let bs : List ℕ = taken_bits (view_tracks (view d)) (view_slots (view d)) w in
    let r = taken_ready (view d) (disk-accepted d ok) w t.usable-name t.carried-kind t.room in
    let at = free-slot (view d) i t.lowest in
    record {
      slot = i;
      bits = bs;
      lowest = at;
      ready = r;
      range = t.range;
      fresh = t.fresh;
      takes = refl;
      disk = sym m.disk ∙ ap (apply d) (sym k.steps);
      seen = ap view (sym m.disk ∙ ap (apply d) (sym k.steps)) ∙ save-view d (disk-accepted d ok) i at w bs r t.fresh;
      sectors = sym m.named ∙ ap numbers (sym k.steps) ∙ save-numbers (old_name d i) (view d) i w bs;
    }

-- ---- the saved file

module _ (d : List ℕ) (ok : check_disk d ≡ none) (room : ℕ) (w : SaveRequest) (new ss : List ℕ) (e : run_change (save w) d room ≡ new_disk new ss) where
  k : SaveStored d w new ss
  k = stored d ok room w new ss e

  abbrev l : View
  l = with_slot (view d) k.slot (some (new_file (view d).label k.slot w k.bits))

  abbrev saved : File
  saved = new_file (view d).label k.slot w k.bits

  accepted : check_view l ≡ none
  unfolding check_disk
  accepted = ap check_view (sym k.seen) ∙ change-accepted (save w) d room new ss ok e

  kind_range : (16 ≤ w.kind) × (w.kind ≤ 20)
  kind_range = k.ready.kind

  kind-kept : kind_of (new_slot (view d).label k.slot w k.bits) ≡ w.kind
  kind-kept = kind-is (view d).label k.slot w k.bits (omega (arith, kind_range))

  carried-new : carried (kind_of (new_slot (view d).label k.slot w k.bits)) ≡ true
  carried-new = ap carried kind-kept ∙ is_carried w.kind kind_range

  named_so : name_of (new_slot (view d).label k.slot w k.bits) ≡ padded w.name
  named_so = name-is (view d).label k.slot w k.bits (usable-is w.name k.ready.name).1

  askable_so : askable w.name ≡ true
  unfolding usable
  askable_so = (and_both (askable w.name) _ k.ready.name).0

  found : find (view_slots l) w.name ≡ some k.slot
  found =
      some-find (view_slots l) w.name k.slot
      (record {
        below = free-small (view d) k.slot k.lowest;
        bytes = new_slot (view d).label k.slot w k.bits;
        here = slots_same (view d) k.slot (some saved);
        name = same_eq (name_of (new_slot (view d).label k.slot w k.bits)) (padded w.name) named_so;
        before = λ j h t p q.
            find_none (view_slots (view d)) w.name k.fresh j (omega (arith, free-small (view d) k.slot k.lowest)) t
            (sym (slots-other (view d) k.slot (some saved) j (omega arith)) ∙ p) q;
      })

  -- a saved file reads back byte for byte: the body and its length, into any buffer long enough
  pub read_back : (buf : List ℕ) → length w.body ≤ length buf → reading new w.name buf ≡ out (done (length w.body) 0) (put buf 0 w.body)
  read_back buf h =
      let n : file_length saved ≡ length w.body = new-length (view d).label k.slot (view_tracks (view d)) (free_bit (view_tracks (view d)) (view_slots (view d))) w k.bits k.ready in
      ap (λ (l : View). read_view l w.name buf) k.seen
      ∙ read_here l accepted w.name askable_so k.slot saved found (upd_same (view d) k.slot (some saved)) (carried-read _ carried-new) buf (subst (λ (m : ℕ). m ≤ length buf) (sym n) h)
      ∙ ap₂ (λ (m : ℕ) (x : List ℕ). out (done m 0) (put buf 0 x)) n (reads-back (view d).label k.slot (view_tracks (view d)) (free_bit (view_tracks (view d)) (view_slots (view d))) w k.bits k.ready)

  -- and the start address is the one of the page and offset given
  pub start_back : start_address new w.name ≡ done (address w.page w.offset) 0
  start_back =
      let r = and_both (leb w.page 31) (between 32768 w.offset 49151) k.range in
      let p : page_of (new_slot (view d).label k.slot w k.bits) ≡ w.page = page-is (view d).label k.slot w k.bits (omega (arith, leb-true w.page 31 r.0)) in
      let o : offset_of (new_slot (view d).label k.slot w k.bits) ≡ w.offset = offset-is (view d).label k.slot w k.bits in
      ap (λ (l : View). start_view l w.name) k.seen
      ∙ start_here l accepted w.name askable_so k.slot saved found (upd_same (view d) k.slot (some saved)) carried-new
      (ap (λ (x : ℕ). leb 32768 x && leb x 49151) o ∙ r.1)
      ∙ ap₂ (λ (a b : ℕ). done (address a b) 0) p o
