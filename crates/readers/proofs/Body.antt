-- Where the bytes of a readable file's body stand: from its first on, byte k of the body is k bytes further.
use Prim.Native.Nat.{ℕ, zero, suc, ◌+◌, ◌-◌, ◌*◌, ◌/◌, ◌%◌, ◌≤◌, ◌<◌, min}
use mathlib.Core.Path.{◌≡◌, refl, sym, ap, ap₂, ◌∙◌}
use mathlib.Core.Bool.{true}
use mathlib.Core.List.{List}
use mathlib.Core.Logic.{⊎_elim}
use native.Mathlib.Omega.{arith}
use borrow.Author.Tests.{lt-ltb}
use lib.ListN.{get_or}
use Rattle.buffers.specs.Bytes.{tab, part}
use Rattle.buffers.proofs.Lists.{below_or_not, part_at, tab_cong}
use Rattle.geometry.proofs.Laws.{number_small}
use Rattle.maps.specs.Bits.{has}
use Rattle.slots.specs.Slot.{map_of, slot_fields}
use Rattle.chains.specs.File.{File, sectors_of, file_of}
use Rattle.chains.specs.Chain.{linked_bit, chain_bit}
use Rattle.headers.specs.Header.{file_length, body_byte}
use Rattle.chains.proofs.Laws.{sectors-own, map-small, link_at, linked-own}
use Rattle.files.specs.Steps.{ReadableSlot}
use Rattle.readers.specs.declared.Position.{Position}
use Rattle.readers.specs.Positions.{number_or_end, next_sector_number, position_of, is_byte, byte_at, next_position, position_after}
use Rattle.readers.specs.declared.Place.{Place}
use Rattle.readers.specs.Pieces.{read_place, longest, position_at, bytes_coming, bytes_came, next_bytes, place_after, place_past, total, PlaceInRange}
use Rattle.readers.specs.Opening.{body_place}
use Rattle.readers.proofs.Positions.{number_or_end_lem, ahead_in, ahead_past, further_add, all_come}
use Rattle.readers.proofs.PositionAt.{standing_at, settled, after_none}
use Rattle.readers.proofs.Cut.{past_all}

-- the position of byte k of a file's body, by its own sectors alone
unfoldable pub body_position : File → ℕ → Position
body_position f k = position_of (number_or_end (chain_bit f.sectors (slot_fields f.bytes).first ((9 + k) / 510))) ((9 + k) % 510)

module _ (d s : List ℕ) (r : ReadableSlot d s) where
  abbrev bit : ℕ → ℕ
  bit t = chain_bit (sectors_of d s) (slot_fields s).first t

  abbrev start : Position
  start = position_of (number_or_end (slot_fields s).first) 9

  abbrev len : ℕ
  len = file_length (file_of d s)

  own : (t : ℕ) → t < (slot_fields s).count → has (map_of s) (bit t) ≡ true
  unfolding slot_fields
  own t h = linked-own (slot_fields s) (sectors_of d s) r.chain t h

  sector-is : (t : ℕ) → t < (slot_fields s).count → sectors_of d s (bit t) ≡ part (number_or_end (bit t) * 512) 512 d
  sector-is t h =
      let m = own t h in
      sectors-own d s (bit t) m ∙ ap (λ (n : ℕ). part (n * 512) 512 d) (sym (number_or_end_lem (bit t) (map-small s (bit t) m)))

  on_disk : (t : ℕ) → t < (slot_fields s).count → number_or_end (bit t) < 1600
  on_disk t h = let l = map-small s (bit t) (own t h) in omega (arith, number_or_end_lem (bit t) l, number_small (bit t) l)

  -- the next sector, read off the image
  leads_is : (t : ℕ) → t < (slot_fields s).count → next_sector_number d (number_or_end (bit t)) ≡ number_or_end (bit (suc t))
  unfolding next_sector_number chain_bit
  leads_is t h =
      ap number_or_end (link_at d (number_or_end (bit t) * 512) (get_or d (number_or_end (bit t) * 512 + 510) 0) (get_or d (number_or_end (bit t) * 512 + 511) 0) refl refl
      ∙ ap linked_bit (sym (sector-is t h)))

  -- one byte further in the chain's sector t, or at the first byte of the next
  step : (t o u v : ℕ) → t < (slot_fields s).count → o < 510 → 510 * t + suc o ≡ 510 * u + v → v < 510
      → next_position d (position_of (number_or_end (bit t)) o) ≡ position_of (number_or_end (bit u)) v
  unfolding next_position
  step t o u v h l e m =
      rw (lt-ltb (number_or_end (bit t)) 1600 (on_disk t h))
      (⊎_elim
      (λ (k : suc o < 510).
      let a : t ≡ u = omega arith in
      let b : suc o ≡ v = omega arith in
      ahead_in d (number_or_end (bit t)) (suc o) k ∙ ap₂ (λ (t o : ℕ). position_of (number_or_end (bit t)) o) a b)
      (λ (k : 510 ≤ suc o).
      let a : suc t ≡ u = omega arith in
      let b : 0 ≡ v = omega arith in
      ahead_past d (number_or_end (bit t)) (suc o) k ∙ ap (λ (n : ℕ). position_of n 0) (leads_is t h)
      ∙ ap₂ (λ (t o : ℕ). position_of (number_or_end (bit t)) o) a b)
      (below_or_not (suc o) 510))

  pub body_position_lem : (k : ℕ) → k ≤ len → position_after d start k ≡ body_position (file_of d s) k
  unfolding position_after body_position file_of chain_bit
  body_position_lem zero h = refl
  body_position_lem (suc k) h =
      ap (next_position d) (body_position_lem k (omega arith))
      ∙ step ((9 + k) / 510) ((9 + k) % 510) ((9 + suc k) / 510) ((9 + suc k) % 510) (omega (arith, r.fits)) (omega arith) (omega arith) (omega arith)

  pub body-stands : (k : ℕ) → k < len → is_byte (position_after d start k) ≡ true
  unfolding body_position file_of
  body-stands k h =
      let t : (9 + k) / 510 < (slot_fields s).count = omega (arith, r.fits) in
      ap is_byte (body_position_lem k (omega arith)) ∙ lt-ltb (number_or_end (bit ((9 + k) / 510))) 1600 (on_disk ((9 + k) / 510) t)

  pub body-byte : (k : ℕ) → k < len → byte_at d (position_after d start k) ≡ body_byte (file_of d s) k
  unfolding body_byte body_position file_of
  body-byte k h =
      let t : (9 + k) / 510 < (slot_fields s).count = omega (arith, r.fits) in
      ap (byte_at d) (body_position_lem k (omega arith)) ∙ sym (part_at (number_or_end (bit ((9 + k) / 510)) * 512) 512 d ((9 + k) % 510) (omega arith))
      ∙ ap (λ (l : List ℕ). get_or l ((9 + k) % 510) 0) (sym (sector-is ((9 + k) / 510) t))

  -- ---- a reader of it

  module _ (few : len ≤ longest) where
    pub begins : PlaceInRange d (body_place (file_of d s))
    unfolding chain_bit file_of
    begins = record { long = r.long; sector-small = on_disk 0 (omega (arith, r.fits)); offset-small = omega arith; left-small = few }

    -- from c bytes on
    stands : (c : ℕ) → position_at d (place_after d (body_place (file_of d s)) c) ≡ position_after d start c
    unfolding file_of
    stands c = settled d (body_place (file_of d s)) c ∙ ap (λ (q : Position). position_after d q c) (standing_at d (body_place (file_of d s)) begins)

    pub piece-came : (c room : ℕ) → c ≤ len → bytes_came d (place_after d (body_place (file_of d s)) c) room ≡ min (len - c) room
    unfolding bytes_came place_after
    piece-came c room h =
        ap (λ (q : Position). bytes_coming d q (min (len - c) room)) (stands c)
        ∙ all_come d (position_after d start c) (min (len - c) room)
        (λ (j : ℕ) (l : j < min (len - c) room). ap is_byte (sym (further_add d start c j)) ∙ body-stands (c + j) (omega arith))

    pub piece_is : (c room : ℕ) → c ≤ len → next_bytes d (place_after d (body_place (file_of d s)) c) room ≡ tab (min (len - c) room) (λ j. body_byte (file_of d s) (c + j))
    unfolding next_bytes
    piece_is c room h =
        rw (piece-came c room h, stands c)
        (tab_cong (min (len - c) room) (λ j. byte_at d (position_after d (position_after d start c) j)) (λ j. body_byte (file_of d s) (c + j))
        (λ (j : ℕ) (l : j < min (len - c) room). ap (byte_at d) (sym (further_add d start c j)) ∙ body-byte (c + j) (omega arith)))

    -- all that came before decides where it is: as many bytes as the buffers held, or all of them
    pub past_is : (rooms : List ℕ) → place_past d (body_place (file_of d s)) rooms ≡ place_after d (body_place (file_of d s)) (min len (total rooms))
    past_is rooms =
        past_all d rooms (body_place (file_of d s)) begins
        ∙ ap (place_after d (body_place (file_of d s))) (ap (λ (p : Place). bytes_came d p (total rooms)) (sym (after_none d (body_place (file_of d s)) begins)) ∙ piece-came 0 (total rooms) (omega arith) ∙ less len)
      where
        less : (m : ℕ) → min (m - 0) (total rooms) ≡ min m (total rooms)
        less m = omega arith

    pub place_is : (c : ℕ) → c ≤ len → place_after d (body_place (file_of d s)) c ≡ read_place (body_position (file_of d s) c).sector (body_position (file_of d s) c).offset (len - c)
    unfolding place_after file_of
    place_is c h =
        ap (λ (q : Position). read_place q.sector q.offset (len - c))
        (ap (λ (q : Position). position_after d q c) (standing_at d (body_place (file_of d s)) begins) ∙ body_position_lem c h)
