-- The sectors moved so far, and those that are left; then the slot's bytes.
use Prim.Native.Nat.{ℕ, zero, suc, ◌+◌, ◌-◌, ◌*◌, ◌≤◌, ◌<◌}
use mathlib.Core.Path.{◌≡◌, refl, sym, ap, ap₂, ◌∙◌}
use mathlib.Core.Bool.{true}
use mathlib.Core.List.{List, [], ◌∷◌, ◌++◌}
use mathlib.Core.Logic.{◌⊎◌, inl, inr, ⊎_elim}
use native.Mathlib.Numerals.{add-one}
use native.Mathlib.Nat.{add-zero}
use native.Mathlib.Omega.{arith}
use lib.ListN.{length, get_or, take, set, length-append, length-take, length-set, get_or-append}
use lib.Seq.{ext_get_or, get_or-append-add}
use Rattle.buffers.specs.Bytes.{part, put}
use Rattle.buffers.proofs.Lists.{below_or_not, length-put, part_at, part-long, put-before, put-after, put-none, put-more, put_all_lem, put-append}
use Rattle.geometry.specs.Disk.{bit_place, place_or_end}
use Rattle.geometry.proofs.Laws.{place_or_end_lem, place_inside, places_apart}
use Rattle.maps.specs.Bits.{has, clear_map, with_bit}
use Rattle.slots.specs.Slot.{first_of, map_of}
use Rattle.chains.specs.File.{file_of, sector_at, sectors_of}
use Rattle.chains.specs.Chain.{linked_bit, chain_bit}
use Rattle.chains.proofs.Laws.{sectors-own, map-small}
use Rattle.directory.specs.Places.{slots, slot_at, slot_place}
use Rattle.directory.specs.Directory.{slot_or}
use Rattle.directory.proofs.Places.{slot_placed}
use Rattle.disk.specs.View.{view}
use Rattle.steps.specs.Steps.{put_all, apply}
use Rattle.steps.proofs.Steps.{apply-append}
use Rattle.plans.specs.Saving.{sector_bytes, next_track, next_sector, chain_sectors, map_with}
use Rattle.plans.specs.Gathering.{up_from, payload_of, chain_fields}
use Rattle.plans.specs.Plan.{file_if_live, slot_step, data_steps, gather_steps}
use Rattle.plans.proofs.Frame.{sector_else}
use Rattle.plans.proofs.NewFile.{length_block, block_byte, block_track, block_sector}
use Rattle.plans.proofs.Moved.{payload_block}
use Rattle.sector_writes.specs.declared.Link.{Link}
use Rattle.sector_writes.specs.Sector.{link_address, link_to_bit}
use Rattle.sector_writes.proofs.Links.{link_bit}
use Rattle.gathers.specs.Moving.{file_in, count_in, link_to_run, moved_steps, Movable, DisjointRanges, TwoBits}
use Rattle.gathers.proofs.ChainOrder.{link_own, chain-own}

-- ---- the link

pub run_link_none : (n b : ℕ) → n ≡ 0 → link_address 0 0 ≡ link_to_run n b
unfolding link_to_run up_from
run_link_none n b h = rw h

pub run_link_some : (n b : ℕ) → (n ≡ 0 → ⊥) → b + n ≤ 1560 → (r : Link) → r ≡ link_to_bit b → r ≡ link_to_run n b
unfolding link_to_run up_from
run_link_some zero b h s r e = absurd (h refl)
run_link_some (suc n) b h s r e = e ∙ link_bit b (omega arith)

-- ---- a sector copied

-- j bytes are copied
pub record PayloadCopyLoop (d : List ℕ) (from to : ℕ) (e : List ℕ) (j : ℕ) : Type 0 where
  pub far : j ≤ 510
  pub long : length e ≡ length d
  pub is : e ≡ put d to (take j (part from 510 d))

pub copied_none : (d : List ℕ) (from to : ℕ) → PayloadCopyLoop d from to d 0
copied_none d from to = record { far = omega arith; long = refl; is = put-none d to (part from 510 d) }

module _ (d : List ℕ) (from to : ℕ) (s : DisjointRanges (length d) from to) (e : List ℕ) (j : ℕ) (w : PayloadCopyLoop d from to e j) where
  part_510 : length (part from 510 d) ≡ 510
  part_510 = part-long from 510 d s.source

  -- the byte read is as it was
  read : j < 510 → get_or e (from + j) 0 ≡ get_or (part from 510 d) j 0
  read h =
      ap (λ (x : List ℕ). get_or x (from + j) 0) w.is
      ∙ ⊎_elim
      (λ (l : from + 510 ≤ to). put-before d to (take j (part from 510 d)) (from + j) (omega arith))
      (λ (l : to + 510 ≤ from). put-after d to (take j (part from 510 d)) (from + j) (omega (arith, length-take j (part from 510 d)))) s.apart
      ∙ sym (part_at from 510 d j h)

  pub copied_more : j < 510 → PayloadCopyLoop d from to (set e (to + j) (get_or e (from + j) 0)) (j + 1)
  copied_more h = record {
    far = omega arith;
    long = length-set e (to + j) (get_or e (from + j) 0) ∙ w.long;
    is = ap₂ (λ (x : List ℕ) (v : ℕ). set x (to + j) v) w.is (read h) ∙ put-more d to (part from 510 d) j (omega (arith, part_510)) (omega (arith, s.target));
  }

  pub copied_all : 510 ≤ j → e ≡ put d to (part from 510 d)
  copied_all h = w.is ∙ put_all_lem d to (part from 510 d) j (omega (arith, part_510))

-- the payload, and then the link
block_is : (d : List ℕ) (p t u : ℕ) → p + 512 ≤ length d → part p 510 d ++ (t ∷ u ∷ []) ≡ sector_bytes (part p 512 d) 0 t u
block_is d p t u l = ext_get_or 0 (part p 510 d ++ (t ∷ u ∷ [])) (sector_bytes (part p 512 d) 0 t u) (long ∙ sym (length_block (part p 512 d) 0 t u)) (λ k h. at k (omega (arith, long)))
  where
    front : length (part p 510 d) ≡ 510
    front = part-long p 510 d (omega arith)

    long : length (part p 510 d ++ (t ∷ u ∷ [])) ≡ 512
    long = length-append (part p 510 d) (t ∷ u ∷ []) ∙ omega (arith, front)

    payload : (k : ℕ) → k < 510 → get_or (part p 510 d ++ (t ∷ u ∷ [])) k 0 ≡ get_or (sector_bytes (part p 512 d) 0 t u) k 0
    payload k h =
        get_or-append (part p 510 d) (t ∷ u ∷ []) 0 k (omega (arith, front)) ∙ part_at p 510 d k h ∙ sym (part_at p 512 d k (omega arith))
        ∙ ap (λ (j : ℕ). get_or (part p 512 d) j 0) (omega arith) ∙ sym (block_byte (part p 512 d) 0 t u k h)

    after : (i : ℕ) → get_or (part p 510 d ++ (t ∷ u ∷ [])) (510 + i) 0 ≡ get_or (t ∷ u ∷ []) i 0
    after i = ap (λ (n : ℕ). get_or (part p 510 d ++ (t ∷ u ∷ [])) (n + i) 0) (sym front) ∙ get_or-append-add (part p 510 d) (t ∷ u ∷ []) i 0

    at : (k : ℕ) → k < 512 → get_or (part p 510 d ++ (t ∷ u ∷ [])) k 0 ≡ get_or (sector_bytes (part p 512 d) 0 t u) k 0
    at k h =
        ⊎_elim (payload k)
        (λ (m : 510 ≤ k).
        ⊎_elim (λ (w : k < 511). let z : k ≡ 510 = omega arith in rw z (after 0 ∙ sym (block_track (part p 512 d) 0 t u)))
        (λ (w : 511 ≤ k). let z : k ≡ 511 = omega arith in rw z (after 1 ∙ sym (block_sector (part p 512 d) 0 t u))) (below_or_not k 511))
        (below_or_not k 510)

-- of two map bits
module _ (d : List ℕ) (from to p q : ℕ) (s : TwoBits (length d) from to) (a : p ≡ place_or_end from) (b : q ≡ place_or_end to) where
  place_from : p ≡ bit_place from
  place_from = a ∙ place_or_end_lem from s.source

  place_to : q ≡ bit_place to
  place_to = b ∙ place_or_end_lem to s.target

  pub places_are : DisjointRanges (length d) p q
  places_are =
      ⊎_elim
      (λ (l : bit_place from + 512 ≤ bit_place to). record { source = inside.0; target = inside.1; apart = inl (omega (arith, place_from, place_to)) })
      (λ (l : bit_place to + 512 ≤ bit_place from). record { source = inside.0; target = inside.1; apart = inr (omega (arith, place_from, place_to)) })
      (places_apart from to s.source s.target s.other)
    where
      inside : (p + 510 ≤ length d) × (q + 510 ≤ length d)
      inside = (omega (arith, place_from, place_inside from s.source, s.size), omega (arith, place_to, place_inside to s.target, s.size))

  pub sector-is : (t u : ℕ) (x y : List ℕ) → x ≡ put d q (part p 510 d) → y ≡ put x (q + 510) (t ∷ u ∷ []) → y ≡ put d (place_or_end to) (sector_bytes (part (place_or_end from) 512 d) 0 t u)
  sector-is t u x y e f =
      let l : length (part p 510 d) ≡ 510 = part-long p 510 d places_are.source in
      f ∙ ap₂ (λ (x : List ℕ) (n : ℕ). put x (q + n) (t ∷ u ∷ [])) e (sym l) ∙ put-append d q (part p 510 d) (t ∷ u ∷ [])
      ∙ ap (put d q) (block_is d p t u (omega (arith, place_from, place_inside from s.source, s.size)))
      ∙ ap₂ (λ (p q : ℕ). put d q (sector_bytes (part p 512 d) 0 t u)) a b

-- ---- the move

-- k sectors are moved, and bit is the next; the bits outside the run are as they were
pub record MoveLoop (d : List ℕ) (i b : ℕ) (e : List ℕ) (bit k : ℕ) : Type 0 where
  pub far : k ≤ count_in d i
  pub long : length e ≡ length d
  pub at : bit ≡ chain_bit (sectors_of d (slot_or d i)) (first_of (slot_or d i)) k
  pub kept : (c : ℕ) → c < 1560 → (c < b) ⊎ (b + count_in d i ≤ c) → sector_at e c ≡ sector_at d c
  pub left : apply e (data_steps (payload_of (file_in d i)) (510 * k) (up_from (count_in d i - k) (b + k))) ≡ apply d (moved_steps d i b)

pub moving_none : (d : List ℕ) (i b bit : ℕ) → bit ≡ first_of (slot_or d i) → MoveLoop d i b d bit 0
unfolding chain_bit
moving_none d i b bit e = record {
  far = omega arith;
  long = refl;
  at = e;
  kept = λ c h q. refl;
  left = let z : count_in d i - 0 ≡ count_in d i = omega arith in rw (z, add-zero b);
}

module _ (d : List ℕ) (i b : ℕ) (s : Movable d i b) (e : List ℕ) (bit k : ℕ) (w : MoveLoop d i b e bit k) where
  abbrev n : ℕ
  n = count_in d i

  abbrev st : List ℕ
  st = payload_of (file_in d i)

  module _ (h : k < count_in d i) where
    own : has (map_of (slot_or d i)) bit ≡ true
    own = ap (has (map_of (slot_or d i))) w.at ∙ chain-own d (slot_or d i) s.chain k h

    pub bit-small : bit < 1560
    bit-small = map-small (slot_or d i) bit own

    -- it is none of the run
    pub two_bits : TwoBits (length e) bit (b + k)
    two_bits = record {
      size = w.long ∙ s.long;
      source = bit-small;
      target = omega (arith, s.small);
      other = λ z. ⊎_elim (λ (v : bit < b). omega arith) (λ (v : b + n ≤ bit). omega arith) (s.apart bit own);
    }

    -- it is read as it was
    source-kept : part (place_or_end bit) 512 e ≡ part (place_or_end bit) 512 d
    source-kept = rw (place_or_end_lem bit bit-small) (w.kept bit bit-small (s.apart bit own))

    -- its payload is the next 510 bytes of the file
    source_is : (t u : ℕ) → sector_bytes (part (place_or_end bit) 512 e) 0 t u ≡ sector_bytes st (510 * k) t u
    unfolding file_of
    source_is t u =
        ap (λ (x : List ℕ). sector_bytes x 0 t u)
        (source-kept ∙ ap (λ (p : ℕ). part p 512 d) (place_or_end_lem bit bit-small) ∙ sym (sectors-own d (slot_or d i) bit own) ∙ ap (sectors_of d (slot_or d i)) w.at)
        ∙ sym (payload_block (file_in d i) k t u h)

    pub moving_more : (x : ℕ) → x ≡ linked_bit (part (place_or_end bit) 512 e)
        → (link : Link) → link ≡ link_to_run (count_in d i - (k + 1)) (b + (k + 1)) → (next : List ℕ)
        → next ≡ put e (place_or_end (b + k)) (sector_bytes (part (place_or_end bit) 512 e) 0 link.track link.sector) → MoveLoop d i b next x (k + 1)
    unfolding apply put_all data_steps link_to_run chain_bit up_from
    moving_more x g link q next r = record {
      far = omega arith;
      long = ap length is ∙ length-put e (bit_place (b + k)) new ∙ w.long;
      at = link_own d e (slot_or d i) bit own source-kept x g
          ∙ ap (λ (y : ℕ). linked_bit (sectors_of d (slot_or d i) y)) w.at ∙ ap (chain_bit (sectors_of d (slot_or d i)) (first_of (slot_or d i))) (sym (add-one k));
      kept = λ y m v.
          ap (λ (z : List ℕ). sector_at z y) is
          ∙ sector_else e (w.long ∙ s.long) (b + k) (omega (arith, s.small)) new (length_block st (510 * k) (next_track rest) (next_sector rest)) y m
          (λ z. ⊎_elim (λ (v : y < b). omega arith) (λ (v : b + n ≤ y). omega arith) v)
          ∙ w.kept y m v;
      left = ap (λ (z : List ℕ). apply z (data_steps st (510 * (k + 1)) rest)) is ∙ step;
    }
      where
        rest : List ℕ
        rest = up_from (n - (k + 1)) (b + (k + 1))

        new : List ℕ
        new = sector_bytes st (510 * k) (next_track rest) (next_sector rest)

        is : next ≡ put e (bit_place (b + k)) new
        is =
            r
            ∙ ap₂ (λ (y : ℕ) (l : Link). put e y (sector_bytes (part (place_or_end bit) 512 e) 0 l.track l.sector)) (place_or_end_lem (b + k) (omega (arith, s.small))) q
            ∙ ap (put e (bit_place (b + k))) (source_is (next_track rest) (next_sector rest))

        split : up_from (n - k) (b + k) ≡ (b + k) ∷ rest
        split =
            let m : n - k ≡ suc (n - (k + 1)) = omega arith in
            let o : suc (b + k) ≡ b + (k + 1) = omega arith in
            ap (λ (j : ℕ). up_from j (b + k)) m ∙ ap (λ (j : ℕ). (b + k) ∷ up_from (n - (k + 1)) j) o

        step : apply (put e (bit_place (b + k)) new) (data_steps st (510 * (k + 1)) rest) ≡ apply d (moved_steps d i b)
        step =
            let o : 510 * (k + 1) ≡ 510 * k + 510 = omega arith in
            ap (λ (f : ℕ). apply (put e (bit_place (b + k)) new) (data_steps st f rest)) o
            ∙ ap (λ (z : List ℕ). apply e (data_steps st (510 * k) z)) (sym split) ∙ w.left

  -- the same with the count as the code has it
  module _ (m : ℕ) (c : m ≡ count_in d i) where
    pub turn_bits : k < m → TwoBits (length e) bit (b + k)
    turn_bits h = two_bits (omega arith)

    pub moving_turn : k < m → (x : ℕ) → x ≡ linked_bit (part (place_or_end bit) 512 e)
        → (link : Link) → link ≡ link_to_run (m - (k + 1)) (b + (k + 1)) → (next : List ℕ)
        → next ≡ put e (place_or_end (b + k)) (sector_bytes (part (place_or_end bit) 512 e) 0 link.track link.sector) → MoveLoop d i b next x (k + 1)
    moving_turn h x q link l = moving_more (omega arith) x q link (l ∙ ap (λ (m : ℕ). link_to_run (m - (k + 1)) (b + (k + 1))) c)

    pub moving_all : m ≤ k → e ≡ apply d (moved_steps d i b)
    unfolding apply data_steps up_from
    moving_all h = let z : n - k ≡ 0 = omega arith in rw z at w.left

-- ---- the map, and the slot's bytes

pub run_map_none : (n b : ℕ) → clear_map ≡ map_with (up_from (n - n) (b + n))
unfolding map_with up_from
run_map_none n b = let z : n - n ≡ 0 = omega arith in rw z

pub run_map_more : (n b j : ℕ) → 0 < j → j ≤ n → (m : List ℕ) → m ≡ map_with (up_from (n - j) (b + j)) → (m' : List ℕ) → m' ≡ with_bit m (b + (j - 1))
    → m' ≡ map_with (up_from (n - (j - 1)) (b + (j - 1)))
unfolding map_with up_from
run_map_more n b j h l m e m' q =
    let z : n - (j - 1) ≡ suc (n - j) = omega arith in
    let o : suc (b + (j - 1)) ≡ b + j = omega arith in
    q ∙ ap (λ (x : List ℕ). with_bit x (b + (j - 1))) e
    ∙ sym (ap (λ (y : ℕ). map_with (up_from y (b + (j - 1)))) z ∙ ap (λ (y : ℕ). with_bit (map_with (up_from (n - j) y)) (b + (j - 1))) o)

pub map_all : (n b j : ℕ) → j ≤ 0 → (m : List ℕ) → m ≡ map_with (up_from (n - j) (b + j)) → m ≡ map_with (up_from n b)
map_all n b j h m e =
    let z : n - j ≡ n = omega arith in
    let o : b + j ≡ b = omega arith in
    e ∙ ap₂ (λ (x y : ℕ). map_with (up_from x y)) z o

-- the image with the data moved, and then the two runs of bytes that are put into the slot
pub moved_is : (d : List ℕ) (i b n p : ℕ) (e x y : List ℕ) (link : Link) (m : List ℕ) → i < slots → n ≡ count_in d i → p ≡ slot_place i → e ≡ apply d (moved_steps d i b)
    → link ≡ link_to_run n b → m ≡ map_with (up_from n b) → x ≡ put e (p + 13) (link.track ∷ link.sector ∷ []) → y ≡ put x (p + 13 + 2) m
    → y ≡ apply d (gather_steps (view d) i (file_in d i) (up_from (count_in d i) b))
unfolding link_to_run apply put_all file_of
moved_is d i b n p e x y link m h c a f l g q r =
    r ∙ ap (λ (z : List ℕ). put z (p + 13 + 2) m) q ∙ put-append e (p + 13) (link.track ∷ link.sector ∷ []) m
    ∙ ap₂ (λ (k : Link) (z : List ℕ). put e (p + 13) (k.track ∷ k.sector ∷ z)) l g
    ∙ ap₂ (λ (p k : ℕ). put e (p + 13) (chain_fields (up_from k b))) (a ∙ slot_placed i h) c
    ∙ ap (λ (z : List ℕ). put z (slot_at i + 13) (chain_fields bs)) f
    ∙ sym (apply-append (moved_steps d i b) (slot_step (view d) i 13 (chain_fields bs) (file_if_live (put (slot_or d i) 13 (chain_fields bs)) (chain_sectors (payload_of (file_in d i)) 0 bs)) ∷ []) d)
  where
    bs : List ℕ
    bs = up_from (count_in d i) b
