-- A gathered file is accepted and reads as it did, and its steps do what they say, on every accepted disk.
use Prim.Native.Nat.{ℕ, ◌+◌, ◌*◌, ◌/◌, ◌%◌, ◌≤◌, ◌<◌}
use mathlib.Core.Path.{◌≡◌, refl, sym, ap, ap₂, ◌∙◌, subst, subst₂}
use mathlib.Core.Bool.{Bool, true, false, cond, false≢true}
use mathlib.Core.List.{List, [], ◌∷◌, ◌++◌, map}
use mathlib.Core.Logic.{⊎_elim}
use mathlib.Core.Option.{some}
use native.Mathlib.Omega.{arith}
use borrow.Author.Tests.{ltb-true}
use lib.Dec.{eqb, ltb}
use lib.ListN.{length, get_or, length-append, length-map}
use lib.Seq.{take_all}
use Rattle.buffers.specs.Bytes.{part, put}
use Rattle.buffers.proofs.Lists.{tab_cong, get_or-tab, part-part, part-put, part_put_before, put_in, put-before, put-after}
use Rattle.geometry.specs.Disk.{bit_number}
use Rattle.maps.specs.Bits.{has}
use Rattle.slots.specs.Slot.{is_live, name_of, kind_of, count_of, first_of, map_of, remainder_of, pages_of, slot_fields, length_of}
use Rattle.slots.proofs.Tracks.{label-high}
use Rattle.names.proofs.Names.{same_to}
use Rattle.chains.specs.File.{File, sectors_of}
use Rattle.chains.specs.Chain.{chain_bit}
use Rattle.directory.specs.Places.{slots, slot_at, slot_bytes, dir_sector}
use Rattle.directory.specs.Directory.{slots_in}
use Rattle.directory.proofs.Ends.{seen-is}
use Rattle.disk.specs.View.{View, view, view_slots, view_tracks}
use Rattle.disk.specs.Accepted.{HasSectors, AcceptedFile, AcceptedDisk}
use Rattle.steps.specs.Sectors.{is_listed, Once}
use Rattle.steps.specs.Steps.{Step, apply, numbers, commits, last_view, StepsHold}
use Rattle.steps.proofs.Steps.{numbers-append, commits-append, goes_view}
use Rattle.plans.specs.Saving.{free_bit, sector_bytes, chain_sectors, map_with}
use Rattle.plans.specs.Gathering.{up_from, payload_of, chain_fields}
use Rattle.plans.specs.Plan.{with_slot, file_if_live, slot_step, data_steps, end_steps, end_puts, gather_steps}
use Rattle.plans.proofs.Frame.{entry-live, LiveFile, holds, holds-long, holds_named, reach_read}
use Rattle.plans.proofs.Kept.{DisjointFiles, accepted-apart, accepted-long}
use Rattle.plans.proofs.Free.{Run, free_data}
use Rattle.plans.proofs.Runs.{up_long}
use Rattle.plans.proofs.NewFile.{length-map_with, chained_byte}
use Rattle.plans.proofs.AcceptedFile.{SlotNamesBits, SlotFits, first_bit, accepted_of, linked_along, chained_along}
use Rattle.plans.proofs.Blocks.{blocks, data_blocks, data_are, blocks_apply, blocks_else_slot, blocks_then_slot}
use Rattle.plans.proofs.Laid.{data_numbers, data_commits, laid_data, laid_unused, laid_spare, laid_map, laid_sectors}

-- ---- the payload

module _ (f : File) where
  -- the sector that j links lead to
  abbrev along : ℕ → List ℕ
  along j = f.sectors (chain_bit f.sectors (first_of f.bytes) j)

  pub payload-byte : (j k : ℕ) → j < count_of f.bytes → k < 510
      → get_or (payload_of f) (510 * j + k) 0 ≡ get_or (f.sectors (chain_bit f.sectors (first_of f.bytes) j)) k 0
  unfolding payload_of
  payload-byte j k h q =
      let a : (510 * j + k) / 510 ≡ j = omega arith in
      let b : (510 * j + k) % 510 ≡ k = omega arith in
      get_or-tab _ (λ k. get_or (along (k / 510)) (k % 510) 0) (510 * j + k) (omega arith) ∙ ap₂ (λ (j k : ℕ). get_or (along j) k 0) a b

  -- its j-th sector is that one, with other links
  pub payload_block : (j t s : ℕ) → j < count_of f.bytes
      → sector_bytes (payload_of f) (510 * j) t s ≡ sector_bytes (f.sectors (chain_bit f.sectors (first_of f.bytes) j)) 0 t s
  unfolding sector_bytes
  payload_block j t s h =
      tab_cong 512 (λ k. cond (ltb k 510) (get_or (payload_of f) (510 * j + k) 0) (cond (eqb k 510) t s)) (λ k. cond (ltb k 510) (get_or (along j) (0 + k) 0) (cond (eqb k 510) t s))
      (λ k q. by k (ltb k 510) refl)
    where
      by : (k : ℕ) (u : Bool) → ltb k 510 ≡ u → cond u (get_or (payload_of f) (510 * j + k) 0) (cond (eqb k 510) t s) ≡ cond u (get_or (along j) (0 + k) 0) (cond (eqb k 510) t s)
      by k true e = payload-byte j k h (ltb-true k 510 e) ∙ ap (λ (m : ℕ). get_or (along j) m 0) (omega arith)
      by k false e = refl

-- ---- the file on other bits

abbrev pub gathered-file : File → List ℕ → File
gathered-file f bs = record { bytes = put f.bytes 13 (chain_fields bs); sectors = chain_sectors (payload_of f) 0 bs }

pub placed-long : (bs : List ℕ) → length (chain_fields bs) ≡ 197
placed-long bs = omega (arith, length-map_with bs)

placed-map : (bs : List ℕ) → part 2 195 (chain_fields bs) ≡ map_with bs
unfolding part
placed-map bs = take_all 195 (map_with bs) (omega (arith, length-map_with bs))

-- the bytes of its slot
module _ (f : File) (bs : List ℕ) (long : length f.bytes ≡ 256) where
  abbrev s : List ℕ
  s = put f.bytes 13 (chain_fields bs)

  pub before : (k : ℕ) → k < 13 → get_or (put f.bytes 13 (chain_fields bs)) k 0 ≡ get_or f.bytes k 0
  before k h = put-before f.bytes 13 (chain_fields bs) k h

  pub after : (k : ℕ) → 210 ≤ k → get_or (put f.bytes 13 (chain_fields bs)) k 0 ≡ get_or f.bytes k 0
  after k h = put-after f.bytes 13 (chain_fields bs) k (omega (arith, placed-long bs))

  pub kind-now : kind_of (put f.bytes 13 (chain_fields bs)) ≡ kind_of f.bytes
  kind-now = ap (λ (b : ℕ). b % 64) (before 0 (omega arith))

  pub count-now : count_of (put f.bytes 13 (chain_fields bs)) ≡ count_of f.bytes
  count-now = ap₂ (λ (a b : ℕ). a * 256 + b) (before 11 (omega arith)) (before 12 (omega arith))

  pub name-now : name_of (put f.bytes 13 (chain_fields bs)) ≡ name_of f.bytes
  name-now = part_put_before f.bytes 13 (chain_fields bs) 1 10 (omega arith)

  pages : pages_of s ≡ pages_of f.bytes
  pages = after 239 (omega arith)

  remainder : remainder_of s ≡ remainder_of f.bytes
  remainder = ap₂ (λ (a b : ℕ). (a + 256 * b) % 16384) (after 240 (omega arith)) (after 241 (omega arith))

  pub length-now : length_of (slot_fields s) ≡ length_of (slot_fields f.bytes)
  unfolding slot_fields length_of
  length-now = rw (pages, remainder)

  names : length bs ≡ count_of f.bytes → SlotNamesBits s bs
  names n =
      let l = placed-long bs in
      record {
        count = count-now ∙ sym n;
        track = put_in f.bytes 13 (chain_fields bs) 0 (omega arith) (omega arith);
        sector = put_in f.bytes 13 (chain_fields bs) 1 (omega arith) (omega arith);
        map = sym (part-part 13 197 2 195 s (omega arith)) ∙ ap (part 2 195) (ap (λ (n : ℕ). part 13 n s) (sym l) ∙ part-put f.bytes 13 (chain_fields bs) (omega arith))
            ∙ placed-map bs;
      }

-- ---- on free bits of an accepted disk

-- a file of another kind than 21 has sectors
pub has-sectors : (d : List ℕ) → AcceptedDisk (view d) → (i : ℕ) (f : File) → (view d).files i ≡ some f → (kind_of f.bytes ≡ 21 → ⊥) → HasSectors f
has-sectors d w i f e other = ⊎_elim (λ a. absurd (other a.0)) (λ a. a.1) (w.accepted i f (holds d i f e).here e).sectors

module _ (d : List ℕ) (w : AcceptedDisk (view d)) (i : ℕ) (f : File) (e : (view d).files i ≡ some f) (other : kind_of f.bytes ≡ 21 → ⊥)
    (bs : List ℕ) (r : Run (free_bit (view_tracks (view d)) (view_slots (view d))) 0 bs) (n : length bs ≡ count_of f.bytes) where
  abbrev free : ℕ → Bool
  free = free_bit (view_tracks (view d)) (view_slots (view d))

  abbrev now : File
  now = gathered-file f bs

  -- the disk after the data
  abbrev mid : List ℕ
  mid = apply d (blocks (data_blocks (payload_of f) 0 bs))

  own : LiveFile d i f
  own = holds d i f e

  long : length f.bytes ≡ 256
  long = holds-long d i f e (accepted-long d w)

  was : AcceptedFile (view_tracks (view d)) f
  was = w.accepted i f own.here e

  pub some_bits : 1 ≤ length bs
  some_bits = omega (arith, n, (has-sectors d w i f e other).some-sectors)

  pub now-names : SlotNamesBits now.bytes bs
  now-names = names f bs long n

  -- each payload byte is the one that as many links led to
  pub now-byte : (k : ℕ) → k < length bs → (j : ℕ) → j < 510
      → get_or (chain_sectors (payload_of f) 0 bs (get_or bs k 0)) j 0 ≡ get_or (f.sectors (chain_bit f.sectors (first_of f.bytes) k)) j 0
  now-byte k h j q = chained_byte (payload_of f) free bs r k j h q ∙ payload-byte f k j (omega (arith, n)) q

  pub now-first : first_of (put f.bytes 13 (chain_fields bs)) ≡ get_or bs 0 0
  now-first = first_bit free now.bytes bs r some_bits now-names

  pub now-linked : (k : ℕ) → k < length bs → chain_bit (chain_sectors (payload_of f) 0 bs) (first_of (put f.bytes 13 (chain_fields bs))) k ≡ get_or bs k 0
  now-linked k h =
      ap (λ (b : ℕ). chain_bit now.sectors b k) now-first
      ∙ linked_along free now.bytes bs r some_bits now-names now.sectors (chained_along (payload_of f) free bs r) k h

  -- the first sector begins as it did
  pub now_head : (k : ℕ) → k < 510 → get_or (chain_sectors (payload_of f) 0 bs (get_or bs 0 0)) k 0 ≡ get_or (f.sectors (first_of f.bytes)) k 0
  unfolding chain_bit
  now_head k h = now-byte 0 some_bits k h

  fit : SlotFits (view_tracks (view d)) now.bytes (now.sectors (get_or bs 0 0))
  unfolding slot_fields
  fit =
      let k = kind-now f bs long in
      let c = count-now f bs long in
      record {
        kind = rw k was.kind;
        other = λ q. other (sym k ∙ q);
        few = rw c was.few-sectors;
        long = λ q. let g = was.fits (rw k at q) in omega (arith, g, length-now f bs long, c);
        header = λ q.
            let g = was.header (rw k at q) in
            record {
              kind = now_head 0 (omega arith) ∙ g.kind ∙ sym k;
              remainder = ap₂ (λ (a b : ℕ). (a + 256 * b) % 16384) (now_head 1 (omega arith)) (now_head 2 (omega arith)) ∙ g.remainder ∙ sym (remainder f bs long);
              pages = now_head 7 (omega arith) ∙ g.pages ∙ sym (pages f bs long);
            };
        spectrum-long = λ q. let g = was.spectrum-fits (rw k at q) in omega (arith, g, now_head 1 (omega arith), now_head 2 (omega arith), c);
      }

  pub now-accepted : AcceptedFile (view_tracks (view d)) (gathered-file f bs)
  now-accepted =
      accepted_of free now.bytes bs r some_bits now-names (view_tracks (view d)) (free_data (view_tracks (view d)) (view_slots (view d))) now.sectors
      (chained_along (payload_of f) free bs r) fit

  pub now-map : (c : ℕ) → has (map_of (put f.bytes 13 (chain_fields bs))) c ≡ is_listed c bs
  now-map = laid_map d w (payload_of f) bs r now.bytes now-names.map

  now_apart : (j : ℕ) (g : File) → j < slots → (j ≡ i → ⊥) → (view d).files j ≡ some g → DisjointFiles g now
  now_apart j g h q m = record {
    sectors = λ b l u v. laid_unused d w (payload_of f) bs r b j g (sym (now-map b) ∙ v) m u;
    names = λ t. (accepted-apart (view d) w i j f g own.here h q e m).names (same_to (name_of g.bytes) (name-now f bs long) t);
  }

  pub now-live : is_live (put f.bytes 13 (chain_fields bs)) ≡ true
  now-live = rw (before f bs long 0 (omega arith)) own.alive

  -- the sectors of its map are in place once they are written
  in_place : sectors_of mid now.bytes ≡ now.sectors
  in_place = laid_sectors d w (payload_of f) bs r now.bytes now-names.map

  there : i < slots_in d
  there = (seen-is d i own.read).0

  fits : 13 + length (chain_fields bs) ≤ 256
  fits = omega (arith, placed-long bs)

  -- the steps do what they say, and name no sector twice
  abbrev Does-once : List (Step View) → Type 0
  Does-once sts = StepsHold view AcceptedDisk d sts × Once (numbers sts)

  abbrev last : (ℕ → List ℕ) → Step View
  last sec = slot_step (view d) i 13 (chain_fields bs) (file_if_live now.bytes sec)

  pub gather_goes : StepsHold view AcceptedDisk d (gather_steps (view d) i f bs) × Once (numbers (gather_steps (view d) i f bs))
  unfolding end_steps end_puts
  gather_goes =
      subst₂ (λ (q : List (Step View)) (sec : ℕ → List ℕ). Does-once (q ++ (last sec ∷ []))) (sym (data_are (payload_of f) 0 bs)) in_place
      (blocks_then_slot d (data_blocks (payload_of f) 0 bs) (laid_spare d w (payload_of f) bs r) i there false (reach_read d i own.read) 13 (chain_fields bs) fits now.bytes
      (ap (λ (x : List ℕ). put x 13 (chain_fields bs)) own.bytes)
      (ap (λ (x : ℕ). eqb x 0) (before f bs long 1 (omega arith)) ∙ holds_named d i f e)
      (λ k l z. after f bs long k (omega (arith, label-high k l)) ∙ ap (λ (x : List ℕ). get_or x k 0) (sym own.bytes))
      (λ b m. laid_data d w (payload_of f) bs r b (sym (now-map b) ∙ m))
      (λ a. file-is (AcceptedFile (view_tracks (view d))) now-accepted) (λ a j g h q m. file-is (DisjointFiles g) (now_apart j g h q m)))
    where
      file-is : (P : File → Type 0) → P now → P (record { bytes = now.bytes; sectors = sectors_of mid now.bytes })
      file-is P x = subst (λ (sec : ℕ → List ℕ). P (record { bytes = now.bytes; sectors = sec })) (sym in_place) x

  -- what is seen then: the slot holds the gathered file
  pub gather-view : view (apply d (gather_steps (view d) i f bs)) ≡ with_slot (view d) i (some (gathered-file f bs))
  unfolding commits last_view
  gather-view =
      goes_view view AcceptedDisk (gather_steps (view d) i f bs) d gather_goes.0
      ∙ ap (last_view (view d)) (commits-append (data_steps (payload_of f) 0 bs) (last now.sectors ∷ []) (data_commits (payload_of f) 0 bs))
      ∙ ap (with_slot (view d) i) (entry-live now.bytes now.sectors now-live)

  -- the disk that they make, and its other slots
  pub gather-disk : apply d (gather_steps (view d) i f bs) ≡ put (apply d (data_steps (payload_of f) 0 bs)) (slot_at i + 13) (chain_fields bs)
  unfolding end_steps end_puts
  gather-disk =
      subst (λ (q : List (Step View)). apply d (q ++ (last now.sectors ∷ [])) ≡ put (apply d q) (slot_at i + 13) (chain_fields bs)) (sym (data_are (payload_of f) 0 bs))
      (blocks_apply d (data_blocks (payload_of f) 0 bs) (laid_spare d w (payload_of f) bs r) i there false (reach_read d i own.read) 13 (chain_fields bs) fits
      (file_if_live now.bytes now.sectors))

  pub gather-slots : (j : ℕ) → j < slots_in d → (j ≡ i → ⊥) → slot_bytes (apply d (gather_steps (view d) i f bs)) j ≡ slot_bytes d j
  unfolding end_steps end_puts
  gather-slots j h q =
      subst (λ (x : List (Step View)). slot_bytes (apply d (x ++ (last now.sectors ∷ []))) j ≡ slot_bytes d j) (sym (data_are (payload_of f) 0 bs))
      (blocks_else_slot d (data_blocks (payload_of f) 0 bs) (laid_spare d w (payload_of f) bs r) i there false (reach_read d i own.read) 13 (chain_fields bs) fits
      (file_if_live now.bytes now.sectors) j h q (λ z. absurd (false≢true z)))

-- "Data first in chain order, slot sector last"
pub gather-numbers : (l : View) (i : ℕ) (f : File) (bs : List ℕ) → numbers (gather_steps l i f bs) ≡ map bit_number bs ++ (dir_sector i ∷ [])
unfolding numbers
gather-numbers l i f bs =
    numbers-append (data_steps (payload_of f) 0 bs) (slot_step l i 13 (chain_fields bs) (file_if_live (put f.bytes 13 (chain_fields bs)) (chain_sectors (payload_of f) 0 bs)) ∷ [])
    ∙ ap (λ (x : List ℕ). x ++ (dir_sector i ∷ [])) (data_numbers (payload_of f) 0 bs)

pub gather-long : (l : View) (i : ℕ) (f : File) (b : ℕ) → length (numbers (gather_steps l i f (up_from (count_of f.bytes) b))) ≡ count_of f.bytes + 1
gather-long l i f b =
    ap length (gather-numbers l i f (up_from (count_of f.bytes) b))
    ∙ length-append (map bit_number (up_from (count_of f.bytes) b)) (dir_sector i ∷ [])
    ∙ ap (λ (k : ℕ). k + 1) (length-map (up_from (count_of f.bytes) b) bit_number ∙ up_long (count_of f.bytes) b)
