-- What an accepted save takes, the least number of sectors, the lowest free bits, the lowest free slot, and what it leaves, byte by byte.
use Prim.Native.Nat.{ℕ, zero, suc, ◌+◌, ◌*◌, ◌/◌, ◌%◌, ◌≤◌, ◌<◌}
use mathlib.Core.Path.{◌≡◌, refl, sym, ap, ◌∙◌}
use mathlib.Core.Bool.{Bool, true, false, cond, ◌&&◌}
use mathlib.Core.List.{List, [], ◌∷◌, map}
use mathlib.Core.Logic.{⊎_elim}
use mathlib.Core.Option.{none, some}
use native.Mathlib.Omega.{arith}
use borrow.Author.Tests.{eqb-true, ne_eqb}
use lib.Dec.{eqb}
use lib.ListN.{length, get_or, drop}
use Rattle.buffers.specs.Bytes.{put}
use Rattle.buffers.proofs.Lists.{part_at, put_in, put-before, put-after}
use Rattle.geometry.specs.Disk.{bit_number, bit_place}
use Rattle.slots.specs.Slot.{name_of}
use Rattle.names.specs.Name.{padded}
use Rattle.names.proofs.Names.{same_eq}
use Rattle.slots.specs.Tracks.{is_label}
use Rattle.slots.proofs.Least.{sectors-least}
use Rattle.chains.specs.File.{File}
use Rattle.directory.specs.Places.{slot_at}
use Rattle.directory.specs.Directory.{label_of, slots_in}
use Rattle.directory.proofs.Places.{slot_within, slots_apart}
use Rattle.directory.proofs.Label.{slots-few}
use Rattle.disk.specs.View.{view, view_slots, view_tracks}
use Rattle.disk.specs.Check.{check_disk}
use Rattle.disk.specs.Accepted.{AcceptedDisk}
use Rattle.disk.proofs.View.{view_extra}
use Rattle.steps.specs.Sectors.{sector, is_listed}
use Rattle.steps.specs.Steps.{apply, numbers}
use Rattle.steps.proofs.Sectors.{at-sector}
use Rattle.steps.proofs.Steps.{goes_long, goes_other}
use Rattle.plans.specs.Change.{SaveRequest, save}
use Rattle.plans.specs.Saving.{free_bit, stream, sector_bytes, next_track, next_sector, slot_byte}
use Rattle.plans.specs.Plan.{data_steps, old_name, no_name, without_next_name, save_steps, new_disk, run_change}
use Rattle.plans.specs.Allowed.{sectors_taken, SaveTakes}
use Rattle.plans.specs.After.{Outside, AfterSave}
use Rattle.plans.proofs.Frame.{disk-accepted, upd_same, holds, holds-sector}
use Rattle.plans.proofs.Kept.{accepted-long, usable-is}
use Rattle.plans.proofs.Ended.{reach_free}
use Rattle.plans.proofs.Free.{PassesFrom, run_listed, run-rises, free_data, free-unused, unused-free, taken_lowest, free-small}
use Rattle.plans.proofs.NewFile.{new_file, length-slot, slot-byte, name-is, block_byte, block_track, block_sector, filled, sector-at}
use Rattle.plans.proofs.AcceptedFile.{own-bit, slot-names}
use Rattle.plans.proofs.Laid.{data_numbers, laid_goes}
use Rattle.plans.proofs.Saved.{save-disk}
use Rattle.plans.proofs.Demand3.{run_room}
use Rattle.plans.proofs.ReadBack.{SaveStored, stored}
use Rattle.plans.proofs.Exactly.{first-empty}

-- a byte of slot 1 that is the disk's, by its place
label_at : (d : List ℕ) (k : ℕ) → k < 256 → is_label k ≡ true → (view d).label k ≡ get_or d (slot_at 0 + k) 0
unfolding view label_of
label_at d k h e = rw e (part_at (slot_at 0) 256 d k h)

-- a sector that is none of a chain's
pub unlisted : (s : ℕ) (bs : List ℕ) → ((j : ℕ) → j < length bs → s ≡ bit_number (get_or bs j 0) → ⊥) → is_listed s (map bit_number bs) ≡ false
unlisted s [] h = refl
unlisted s (b ∷ bs) h = rw (ne_eqb s (bit_number b) (h 0 (omega arith))) (unlisted s bs (λ j (q : j < length bs). h (suc j) (omega arith)))

module _ (d : List ℕ) (w : SaveRequest) (room : ℕ) (new ss : List ℕ) (e : run_change (save w) d room ≡ new_disk new ss) where
  ok : check_disk d ≡ none
  ok = (run_room (save w) d room new ss e).accepted

  k : SaveStored d w new ss
  k = stored d ok room w new ss e

  abbrev free : ℕ → Bool
  free = free_bit (view_tracks (view d)) (view_slots (view d))

  taken_from : (b : ℕ) → is_listed b k.bits ≡ true → PassesFrom free 0 b
  taken_from b m = run_listed free 0 k.bits k.ready.run b m

  pub save-takes : SaveTakes d w ss
  save-takes = record {
    enough = (sectors-least (length w.body)).0;
    least = (sectors-least (length w.body)).1;
    bits = k.bits;
    long = k.ready.long;
    data_bits = λ b m. rw (← view_extra d) (free_data (view_tracks (view d)) (view_slots (view d)) b (taken_from b m).passes);
    unused = λ b m. free-unused d b (taken_from b m).passes;
    rises = run-rises free 0 k.bits k.ready.run;
    lowest = λ b c m h x u.
        rw k.takes (taken_lowest (view_tracks (view d)) (view_slots (view d)) w b c (rw k.takes at m) h (unused-free d c x u));
    slot = k.slot;
    free = first-empty d k.slot k.lowest;
    sectors = k.sectors;
  }

  -- ---- byte by byte

  abbrev saved : File
  saved = new_file (view d).label k.slot w k.bits

  here : (view new).files k.slot ≡ some saved
  here = rw k.seen (upd_same (view d) k.slot (some saved))

  slot-now : (j : ℕ) → j < 256
      → get_or new (slot_at k.slot + j) 0 ≡ cond (eqb k.slot 0 && is_label j) (get_or d (slot_at k.slot + j) 0) (slot_byte w k.bits j)
  slot-now j h =
      sym (part_at (slot_at k.slot) 256 new j h) ∙ ap (λ (s : List ℕ). get_or s j 0) (holds new k.slot saved here).bytes
      ∙ slot-byte (view d).label k.slot w k.bits j h ∙ kept-now (eqb k.slot 0) refl (is_label j) refl
    where
      -- what slot 1 keeps is the disk's byte
      kept-now : (z : Bool) → eqb k.slot 0 ≡ z → (t : Bool) → is_label j ≡ t
          → cond (z && t) ((view d).label j) (slot_byte w k.bits j) ≡ cond (z && t) (get_or d (slot_at k.slot + j) 0) (slot_byte w k.bits j)
      kept-now true q true p = label_at d j h p ∙ ap (λ (m : ℕ). get_or d (slot_at m + j) 0) (sym (eqb-true k.slot 0 q))
      kept-now true q false p = refl
      kept-now false q t p = refl

  module _ (j : ℕ) (h : j < sectors_taken w) where
    inside : j < length k.bits
    inside = omega (arith, k.ready.long)

    -- the sector of the j-th bit
    sector-now : (m : ℕ) → m < 512
        → get_or new (bit_place (get_or k.bits j 0) + m) 0 ≡ get_or (sector_bytes (stream w) (510 * j) (next_track (drop (suc j) k.bits)) (next_sector (drop (suc j) k.bits))) m 0
    sector-now m q =
        sym (part_at (bit_place (get_or k.bits j 0)) 512 new m q)
        ∙ ap (λ (s : List ℕ). get_or s m 0)
        (holds-sector new k.slot saved here (get_or k.bits j 0)
        (own-bit free saved.bytes k.bits k.ready.run (filled (view d).label k.slot (view_tracks (view d)) free w k.bits k.ready)
        (slot-names (view d).label k.slot w k.bits) j inside)
        ∙ sector-at (view d).label k.slot (view_tracks (view d)) free w k.bits k.ready j inside
        ∙ ap (λ (f : ℕ). sector_bytes (stream w) f (next_track (drop (suc j) k.bits)) (next_sector (drop (suc j) k.bits))) (omega arith))

  -- the disk after the data, and that without an old name behind the slot
  abbrev mid : List ℕ
  mid = apply d (data_steps (stream w) 0 k.bits)

  abbrev clean : List ℕ
  clean = without_next_name (old_name d k.slot) k.slot mid

  new_is : new ≡ put clean (slot_at k.slot) saved.bytes
  new_is =
      k.disk ∙ save-disk d (disk-accepted d ok) k.slot k.lowest w k.bits k.ready
      ∙ ap (λ (a : ℕ). put clean a saved.bytes) (omega arith)

  long : length new ≡ length d
  long = ap length k.disk ∙ goes_long (save_steps (old_name d k.slot) (view d) k.slot w k.bits) d

  -- the old name's bytes
  cleared-now : old_name d k.slot ≡ true → (j : ℕ) → j < 2 → get_or new (slot_at (suc k.slot) + j) 0 ≡ 0
  cleared-now e j h =
      let z = length-slot (view d).label k.slot w k.bits in
      let n : suc k.slot < slots_in d = ((reach_free d k.slot k.lowest).end e).1 in
      let a = slots_apart k.slot (suc k.slot) (omega arith) in
      let f = slot_within (suc k.slot) (omega (arith, slots-few d)) in
      let l = goes_long (data_steps (stream w) 0 k.bits) d in
      ap (λ (x : List ℕ). get_or x (slot_at (suc k.slot) + j) 0) new_is
      ∙ put-after clean (slot_at k.slot) saved.bytes (slot_at (suc k.slot) + j) (omega arith)
      ∙ ap (λ (t : Bool). get_or (without_next_name t k.slot mid) (slot_at (suc k.slot) + j) 0) e
      ∙ ap (λ (p : ℕ). get_or (put mid (slot_at (suc k.slot) + 0) no_name) p 0) (omega arith)
      ∙ put_in mid (slot_at (suc k.slot) + 0) no_name j h (omega (arith, accepted-long d (disk-accepted d ok))) ∙ zeros j h
    where
      zeros : (j : ℕ) → j < 2 → ◌≡◌ {A = ℕ} (get_or no_name j 0) 0
      zeros zero h = refl
      zeros (suc zero) h = refl
      zeros (suc (suc j)) h = absurd (omega arith)

  -- place m is in no sector of the chain
  apart : (m : ℕ) → ((j : ℕ) → j < sectors_taken w → Outside m (bit_place (get_or k.bits j 0)) 512) → is_listed (m / 512) (numbers (data_steps (stream w) 0 k.bits)) ≡ false
  apart m h = rw data_numbers (unlisted (m / 512) k.bits (λ j q z. away (bit_number (get_or k.bits j 0)) z (h j (omega (arith, k.ready.long)))))
    where
      away : (b : ℕ) → m / 512 ≡ b → Outside m (b * 512) 512 → ⊥
      away b z o = ⊎_elim (λ (q : m < b * 512). omega arith) (λ (q : b * 512 + 512 ≤ m). omega arith) o

  -- a place outside them
  clean_else : (m : ℕ) (t : Bool) → old_name d k.slot ≡ t → (old_name d k.slot ≡ true → Outside m (slot_at (suc k.slot)) 2)
      → get_or (without_next_name t k.slot mid) m 0 ≡ get_or mid m 0
  clean_else m true e c =
      ⊎_elim (λ (q : m < slot_at (suc k.slot)). put-before mid (slot_at (suc k.slot) + 0) no_name m (omega arith))
      (λ (q : slot_at (suc k.slot) + 2 ≤ m). put-after mid (slot_at (suc k.slot) + 0) no_name m (omega arith)) (c e)
  clean_else m false e c = refl

  others-now : (m : ℕ) → Outside m (slot_at k.slot) 256 → (old_name d k.slot ≡ true → Outside m (slot_at (suc k.slot)) 2) → ((j : ℕ) → j < sectors_taken w → Outside m (bit_place (get_or k.bits j 0)) 512) → get_or new m 0 ≡ get_or d m 0
  others-now m o c h =
      let z = length-slot (view d).label k.slot w k.bits in
      ap (λ (x : List ℕ). get_or x m 0) new_is
      ∙ ⊎_elim (put-before clean (slot_at k.slot) saved.bytes m)
      (λ (q : slot_at k.slot + 256 ≤ m). put-after clean (slot_at k.slot) saved.bytes m (omega arith)) o
      ∙ clean_else m (old_name d k.slot) refl c ∙ sym (at-sector mid m) ∙ ap (λ (s : List ℕ). get_or s (m % 512) 0) (data_other m (apart m h)) ∙ at-sector d m
    where
      data_other : (m : ℕ) → is_listed (m / 512) (numbers (data_steps (stream w) 0 k.bits)) ≡ false → sector mid (m / 512) ≡ sector d (m / 512)
      data_other m q = goes_other view AcceptedDisk (data_steps (stream w) 0 k.bits) d (laid_goes d (disk-accepted d ok) (stream w) k.bits k.ready.run) (m / 512) q

  pub after-save : AfterSave d w new ss
  unfolding save-takes
  after-save = record {
    takes = save-takes;
    long = long;
    slot = slot-now;
    payload = λ j m h q. sector-now j h m (omega arith) ∙ block_byte (stream w) (510 * j) _ _ m q;
    track = λ j h. sector-now j h 510 (omega arith) ∙ block_track (stream w) (510 * j) _ _;
    sector = λ j h. sector-now j h 511 (omega arith) ∙ block_sector (stream w) (510 * j) _ _;
    cleared = cleared-now;
    bytes = others-now;
    file = saved;
    now = record {
      below = free-small (view d) k.slot k.lowest;
      here = here;
      name = same_eq (name_of saved.bytes) (padded w.name) (name-is (view d).label k.slot w k.bits (usable-is w.name k.ready.name).1);
    };
  }
