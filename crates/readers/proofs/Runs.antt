-- A piece copied run by run.
use Prim.Native.Nat.{ℕ, ◌+◌, ◌-◌, ◌*◌, ◌/◌, ◌≤◌, ◌<◌, min}
use mathlib.Core.Path.{◌≡◌, refl, sym, ap, ap₂, ◌∙◌}
use mathlib.Core.List.{List, []}
use mathlib.Core.Logic.{◌⊎◌, ⊎_elim}
use native.Mathlib.Nat.{add-zero}
use native.Mathlib.Omega.{arith}
use borrow.Author.Tests.{lt-ltb, le-ltb}
use lib.ListN.{length, get_or}
use Rattle.buffers.specs.Bytes.{tab, part, put}
use Rattle.buffers.proofs.Lists.{tab_of, part-long, part_at, length-put, put-none}
use Rattle.geometry.specs.Disk.{image_size, bit_of, place_or_end}
use Rattle.files.proofs.Body.{put_tab_run}
use Rattle.readers.specs.declared.Position.{Position}
use Rattle.readers.specs.declared.Place.{Place}
use Rattle.readers.specs.Positions.{next_sector_number, position_of, position_or_next, is_byte, byte_at, position_after}
use Rattle.readers.specs.Pieces.{read_place, bytes_coming, bytes_came, next_bytes, buffer_after, place_after, piece_at, piece_of, PlaceInRange}
use Rattle.readers.proofs.Positions.{ahead_past, ahead_small, further_add, within, beyond, coming_add, none_come, all_come}
use Rattle.readers.proofs.PositionAt.{standing_at}

-- the position that a link names, as the code reads it
pub position_past : (d : List ℕ) (n o t u p : ℕ) → 510 ≤ o → t ≡ get_or d (n * 512 + 510) 0 → u ≡ get_or d (n * 512 + 511) 0 → p ≡ place_or_end (bit_of t u)
    → position_of (p / 512) 0 ≡ position_or_next d n o
unfolding next_sector_number
position_past d n o t u p h e f g = sym (ahead_past d n o h ∙ ap (λ (k : ℕ). position_of (k / 512) 0) (sym (g ∙ ap₂ (λ (a b : ℕ). place_or_end (bit_of a b)) e f)))

-- after some runs from position q on: `done` bytes of those wanted are put to the front of buf, and the next is byte `from` of
-- sector `at`
pub record PieceCopyLoop (d : List ℕ) (q : Position) (want : ℕ) (buf : List ℕ) (at from done : ℕ) (e : List ℕ) : Type 0 where
  pub far : done ≤ want
  pub small : from < 510
  pub here : position_after d q done ≡ position_of at from
  pub all : bytes_coming d q done ≡ done
  pub copied : e ≡ put buf 0 (tab done (λ k. byte_at d (position_after d q k)))

pub no_run : (d : List ℕ) (n o want : ℕ) (buf : List ℕ) → o < 510 → PieceCopyLoop d (position_of n o) want buf n o 0 buf
unfolding position_after tab
no_run d n o want buf h = record {
  far = omega arith;
  small = h;
  here = refl;
  all = all_come d (position_of n o) 0 (λ (k : ℕ) (l : k < 0). absurd (omega arith));
  copied = put-none buf 0 [];
}

pub piece_copy_long : {d : List ℕ} {q : Position} {want : ℕ} {buf : List ℕ} {at from done : ℕ} {e : List ℕ} → PieceCopyLoop d q want buf at from done e → length e ≡ length buf
piece_copy_long {d} {q} {want} {buf} {at} {from} {done} w = ap length w.copied ∙ length-put buf 0 (tab done (λ k. byte_at d (position_after d q k)))

module _ (d : List ℕ) (q : Position) (want : ℕ) (buf : List ℕ) (at from done : ℕ) (e : List ℕ) (w : PieceCopyLoop d q want buf at from done e) where
  abbrev byte : ℕ → ℕ
  byte k = byte_at d (position_after d q k)

  on : (j : ℕ) → position_after d q (done + j) ≡ position_after d (position_of at from) j
  on j = further_add d q done j ∙ ap (λ (p : Position). position_after d p j) w.here

  comes : (j : ℕ) → bytes_coming d q (done + j) ≡ done + bytes_coming d (position_of at from) j
  comes j = coming_add d q done j ∙ ap₂ (λ (a : ℕ) (p : Position). a + bytes_coming d p j) w.all w.here

  pub turn : length d ≡ image_size → at < 1600 → done < want → (m : ℕ) (run e' : List ℕ) (next : Position) → m ≡ min (510 - from) (want - done)
      → run ≡ part (at * 512 + from) m d → e' ≡ put e done run → next ≡ position_or_next d at (from + m)
      → PieceCopyLoop d q want buf next.sector next.offset (done + m) e'
  turn long h more m run e' next k r v z = record {
    far = omega arith;
    small = rw z (ahead_small d at (from + m));
    here = on m ∙ beyond d at from h m (omega (arith, w.small)) (omega (arith, w.small)) ∙ sym z;
    all = comes m ∙ ap (λ (c : ℕ). done + c) (all_come d (position_of at from) m (λ (j : ℕ) (l : j < m). ap is_byte (within d at from h j (omega (arith, w.small))) ∙ lt-ltb at 1600 h));
    copied = v ∙ ap (put e done) (r ∙ run_is) ∙ put_tab_run buf done m byte e w.copied;
  }
    where
      run_is : part (at * 512 + from) m d ≡ tab m (λ j. byte (done + j))
      run_is =
          tab_of m (λ j. byte (done + j)) (part (at * 512 + from) m d) (part-long (at * 512 + from) m d (omega (arith, w.small)))
          (λ i l.
          let p : at * 512 + from + i ≡ at * 512 + (from + i) = omega arith in
          part_at (at * 512 + from) m d i l ∙ ap (λ (a : ℕ). get_or d a 0) p ∙ ap (byte_at d) (sym (on i ∙ within d at from h i (omega (arith, w.small)))))

  -- all that is wanted has come, or the chain has ended before
  all_came : want ≤ done → bytes_coming d q want ≡ done
  all_came h = let p : want ≡ done = omega (arith, w.far) in ap (bytes_coming d q) p ∙ w.all

  ended : 1600 ≤ at → bytes_coming d q want ≡ done
  ended h =
      let p : want ≡ done + (want - done) = omega (arith, w.far) in
      ap (bytes_coming d q) p ∙ comes (want - done) ∙ ap (λ (c : ℕ). done + c) (none_come d (position_of at from) (le-ltb at 1600 h) (want - done)) ∙ add-zero done

-- the piece that is then answered
pub answered : (d : List ℕ) (p : Place) (want : ℕ) (buf : List ℕ) (at from done : ℕ) (e : List ℕ) → PieceCopyLoop d (position_of p.sector p.offset) want buf at from done e
    → (want ≤ done) ⊎ (1600 ≤ at) → PlaceInRange d p → want ≡ min p.left (length buf)
    → (piece_at done (read_place at from (p.left - done)) ≡ piece_of d p (length buf)) × (e ≡ buffer_after d p buf)
unfolding piece_of bytes_came next_bytes place_after
answered d p want buf at from done e w h r q =
    let t : bytes_coming d (position_of p.sector p.offset) want ≡ done =
    ⊎_elim (all_came d (position_of p.sector p.offset) want buf at from done e w) (ended d (position_of p.sector p.offset) want buf at from done e w) h in
    (rw (standing_at d p r, ← q, t, w.here) refl, rw (standing_at d p r, ← q, t) w.copied)
