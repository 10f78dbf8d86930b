-- Runs of bytes put one after another, and the runs that a body is made of.
use Prim.Native.Nat.{ℕ, suc, ◌+◌, ◌-◌, ◌*◌, ◌/◌, ◌%◌, ◌≤◌, ◌<◌, min}
use mathlib.Core.Path.{◌≡◌, sym, ap, ap₂, ◌∙◌}
use mathlib.Core.Bool.{true}
use mathlib.Core.List.{List, []}
use native.Mathlib.Omega.{arith}
use lib.ListN.{length, get_or}
use Rattle.buffers.specs.Bytes.{tab, part, put}
use Rattle.buffers.proofs.Lists.{length-tab, tab_of, part-long, part_at, part-part, length-put, tab-add, put-append, put-none}
use Rattle.geometry.specs.Disk.{image_size, bit_of, place_or_end}
use Rattle.geometry.proofs.Laws.{place_inside, place_or_end_lem}
use Rattle.maps.specs.Bits.{has}
use Rattle.slots.specs.Slot.{map_of, first_of, slot_fields}
use Rattle.chains.specs.File.{sectors_of, file_of}
use Rattle.chains.specs.Chain.{linked_bit, chain_bit}
use Rattle.headers.specs.Header.{file_length, body_byte, body}
use Rattle.chains.proofs.Laws.{sectors-own, map-small, link_at, linked-own}
use Rattle.files.specs.Steps.{ReadableSlot}

-- ---- one run after another

-- n more of a list made by a rule, after the first a
pub put_tab_run : (d : List ℕ) (a n : ℕ) (f : ℕ → ℕ) (e : List ℕ) → e ≡ put d 0 (tab a f) → put e a (tab n (λ j. f (a + j))) ≡ put d 0 (tab (a + n) f)
put_tab_run d a n f e q =
    let l : a ≡ 0 + length (tab a f) = omega (arith, length-tab a f) in
    ap₂ (λ (g : List ℕ) (m : ℕ). put g m (tab n (λ j. f (a + j)))) q l ∙ put-append d 0 (tab a f) (tab n (λ j. f (a + j)))
    ∙ ap (put d 0) (sym (tab-add a n f))

-- ---- the runs of a body

-- after some sectors: `done` of the body's `len` bytes are put to the front of buf, and the next is byte `from` of the sector at `at`
pub record BodyCopyLoop (d s buf : List ℕ) (len at from done : ℕ) (e : List ℕ) : Type 0 where
  pub turns : ℕ
  pub long : len ≡ file_length (file_of d s)
  pub far : done ≤ len
  pub inside : from < 510
  pub next : done < len → 9 + done ≡ 510 * turns + from
  pub place : at ≡ place_or_end (chain_bit (sectors_of d s) (slot_fields s).first turns)
  pub copied : e ≡ put buf 0 (tab done (body_byte (file_of d s)))

pub nothing_yet : (d s buf : List ℕ) (len b at : ℕ) → len ≡ file_length (file_of d s) → b ≡ first_of s → at ≡ place_or_end b → BodyCopyLoop d s buf len at 9 0 buf
unfolding chain_bit tab slot_fields
nothing_yet d s buf len b at l f p = record {
  turns = 0;
  long = l;
  far = omega arith;
  inside = omega arith;
  next = λ h. omega arith;
  place = p ∙ ap place_or_end f;
  copied = put-none buf 0 [];
}

pub body_copy_long : {d s buf : List ℕ} {len at from done : ℕ} {e : List ℕ} → BodyCopyLoop d s buf len at from done e → length e ≡ length buf
body_copy_long {d} {s} {buf} {len} {at} {from} {done} w = ap length w.copied ∙ length-put buf 0 (tab done (body_byte (file_of d s)))

pub all_of_it : (d s buf : List ℕ) (len at from done : ℕ) (e : List ℕ) → BodyCopyLoop d s buf len at from done e → len ≤ done → e ≡ put buf 0 (body (file_of d s))
unfolding body file_of
all_of_it d s buf len at from done e w h =
    let q : done ≡ file_length (file_of d s) = omega (arith, w.long) in
    w.copied ∙ ap (λ (n : ℕ). put buf 0 (tab n (body_byte (file_of d s)))) q

module _ (d s : List ℕ) (r : ReadableSlot d s) where
  -- byte k of the body stands in the sector that t links lead to
  body_at : (t from k : ℕ) → 9 + k ≡ 510 * t + from → from < 510
      → body_byte (file_of d s) k ≡ get_or (sectors_of d s (chain_bit (sectors_of d s) (slot_fields s).first t)) from 0
  unfolding body_byte file_of
  body_at t from k e h =
      let q : (9 + k) / 510 ≡ t = omega arith in
      let m : (9 + k) % 510 ≡ from = omega arith in
      rw (q, m)

  own : (t : ℕ) → t < (slot_fields s).count → has (map_of s) (chain_bit (sectors_of d s) (slot_fields s).first t) ≡ true
  unfolding slot_fields
  own t h = linked-own (slot_fields s) (sectors_of d s) r.chain t h

  module _ (buf : List ℕ) (len at from done : ℕ) (e : List ℕ) (w : BodyCopyLoop d s buf len at from done e) (more : done < len) where
    -- the bit of the sector that the code has come to
    abbrev bit : ℕ
    bit = chain_bit (sectors_of d s) (slot_fields s).first w.turns

    mine : has (map_of s) bit ≡ true
    mine = own w.turns (omega (arith, w.next more, r.fits, w.long))

    small : bit < 1560
    small = map-small s bit mine

    pub at-inside : at + 512 ≤ image_size
    at-inside = omega (arith, w.place, place_or_end_lem bit small, place_inside bit small)

    sector-is : sectors_of d s bit ≡ part at 512 d
    sector-is = sectors-own d s bit mine ∙ ap (λ (a : ℕ). part a 512 d) (sym (w.place ∙ place_or_end_lem bit small))

    -- the run of the body that it holds
    run_is : (n : ℕ) → n ≤ 510 - from → part (at + from) n d ≡ tab n (λ j. body_byte (file_of d s) (done + j))
    run_is n h =
        tab_of n (λ j. body_byte (file_of d s) (done + j)) (part (at + from) n d)
        (part-long (at + from) n d (omega (arith, at-inside, r.long, w.inside)))
        (λ k l.
        ap (λ (x : List ℕ). get_or x k 0) (sym (part-part at 512 from n d (omega (arith, w.inside))) ∙ ap (part from n) (sym sector-is))
        ∙ part_at from n (sectors_of d s bit) k l
        ∙ sym (body_at w.turns (from + k) (done + k) (omega (arith, w.next more)) (omega arith)))

    pub turn : (t u n : ℕ) (run e' : List ℕ) (at' : ℕ) → t ≡ get_or d (at + 510) 0 → u ≡ get_or d (at + 511) 0
        → n ≡ min (510 - from) (len - done) → run ≡ part (at + from) n d → e' ≡ put e done run → at' ≡ place_or_end (bit_of t u)
        → BodyCopyLoop d s buf len at' 0 (done + n) e'
    unfolding chain_bit
    turn t u n run e' at' p q m g v z = record {
      turns = suc w.turns;
      long = w.long;
      far = omega arith;
      inside = omega arith;
      next = λ (l : done + n < len). omega (arith, w.next more);
      place = z ∙ ap place_or_end (link_at d at t u p q ∙ ap linked_bit (sym sector-is));
      copied = v ∙ ap (put e done) (g ∙ run_is n (omega arith)) ∙ put_tab_run buf done n (body_byte (file_of d s)) e w.copied;
    }
