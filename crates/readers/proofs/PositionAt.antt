-- Laws of a reader's place: when its numbers can be a reader's, and where it stands after some bytes.
use Prim.Native.Nat.{ℕ, ◌+◌, ◌-◌, ◌≤◌, ◌<◌, min}
use mathlib.Core.Path.{◌≡◌, refl, sym, ap, ap₂, ◌∙◌, subst}
use mathlib.Core.Bool.{Bool, true, false, cond, ◌&&◌}
use mathlib.Core.List.{List, []}
use native.Mathlib.Omega.{arith}
use borrow.Author.Tests.{lt-ltb, le-ltb, le-leb, eq-eqb, ltb-true, leb-true, eqb-true}
use lib.Dec.{eqb, ltb, leb}
use lib.ListN.{length}
use Rattle.buffers.specs.Bytes.{tab}
use Rattle.buffers.proofs.Lists.{put-none}
use Rattle.geometry.specs.Disk.{image_size}
use Rattle.readers.specs.declared.Position.{Position}
use Rattle.readers.specs.declared.Place.{Place}
use Rattle.readers.specs.declared.Piece.{Piece}
use Rattle.readers.specs.Positions.{position_of, no_position, position_after}
use Rattle.readers.specs.Pieces.{read_place, longest, is_reader_place, position_at, bytes_coming, bytes_came, next_bytes, buffer_after, place_after, piece_of, no_piece, PlaceInRange}
use Rattle.readers.proofs.Positions.{stuck, further_add, AtByteOrEnd, there, ended, further_stands, none_come, coming_le}

-- ---- numbers that can be a reader's, and others

pub can : (d : List ℕ) (p : Place) → PlaceInRange d p → is_reader_place d p ≡ true
unfolding is_reader_place
can d p w =
    rw (eq-eqb (length d) image_size w.long, lt-ltb p.sector 1600 w.sector-small, lt-ltb p.offset 510 w.offset-small, le-leb p.left longest w.left-small)

pub placed : (d : List ℕ) (p : Place) → is_reader_place d p ≡ true → PlaceInRange d p
unfolding is_reader_place
placed d p e = by (eqb (length d) image_size) refl (ltb p.sector 1600) refl (ltb p.offset 510) refl (leb p.left longest) refl e
  where
    by : (a : Bool) → eqb (length d) image_size ≡ a → (b : Bool) → ltb p.sector 1600 ≡ b → (c : Bool) → ltb p.offset 510 ≡ c
        → (t : Bool) → leb p.left longest ≡ t → (a && (b && (c && t))) ≡ true → PlaceInRange d p
    by true u true v true x true y w = record {
      long = eqb-true (length d) image_size u;
      sector-small = ltb-true p.sector 1600 v;
      offset-small = ltb-true p.offset 510 x;
      left-small = leb-true p.left longest y;
    }
    by false u b v c x t y w = let z : ◌≡◌ {A = ℕ} 0 1 = cc in absurd (omega arith)
    by true u false v c x t y w = let z : ◌≡◌ {A = ℕ} 0 1 = cc in absurd (omega arith)
    by true u true v false x t y w = let z : ◌≡◌ {A = ℕ} 0 1 = cc in absurd (omega arith)
    by true u true v true x false y w = let z : ◌≡◌ {A = ℕ} 0 1 = cc in absurd (omega arith)

pub standing_at : (d : List ℕ) (p : Place) → PlaceInRange d p → position_at d p ≡ position_of p.sector p.offset
unfolding position_at
standing_at d p w = rw (can d p w)

pub standing_not : (d : List ℕ) (p : Place) → is_reader_place d p ≡ false → position_at d p ≡ no_position
unfolding position_at
standing_not d p e = rw e

-- no sector has the number 1,600
pub at_end : (d : List ℕ) (p : Place) → p.sector ≡ 1600 → position_at d p ≡ no_position
unfolding position_at is_reader_place
at_end d p e = by (eqb (length d) image_size)
  where
    by : (a : Bool) → cond (a && (ltb p.sector 1600 && (ltb p.offset 510 && leb p.left longest))) (position_of p.sector p.offset) no_position ≡ no_position
    by true = rw (le-ltb p.sector 1600 (omega arith))
    by false = refl

-- ---- where it stands

pub standing_stands : (d : List ℕ) (p : Place) → AtByteOrEnd (position_at d p)
standing_stands d p = by (is_reader_place d p) refl
  where
    by : (t : Bool) → is_reader_place d p ≡ t → AtByteOrEnd (position_at d p)
    by true e = let w = placed d p e in subst AtByteOrEnd (sym (standing_at d p w)) (there w.sector-small w.offset-small)
    by false e = ended (standing_not d p e)

-- after c bytes, the numbers say where the next stands
pub settled : (d : List ℕ) (p : Place) (c : ℕ) → position_at d (place_after d p c) ≡ position_after d (position_at d p) c
unfolding place_after
settled d p c = by (is_reader_place d p) refl (further_stands d (position_at d p) (standing_stands d p) c)
  where
    by : (t : Bool) → is_reader_place d p ≡ t → AtByteOrEnd (position_after d (position_at d p) c) → position_at d (place_after d p c) ≡ position_after d (position_at d p) c
    by t e (ended q) = at_end d (place_after d p c) (ap (λ (q : Position). q.sector) q) ∙ sym q
    by true e (there s o) =
        let w = placed d p e in
        standing_at d (place_after d p c) (record { long = w.long; sector-small = s; offset-small = o; left-small = omega (arith, w.left-small) })
    by false e (there s o) =
        let q : position_after d (position_at d p) c ≡ no_position = ap (λ (q : Position). position_after d q c) (standing_not d p e) ∙ stuck d no_position refl c in
        at_end d (place_after d p c) (ap (λ (q : Position). q.sector) q) ∙ sym q

pub after-after : (d : List ℕ) (p : Place) (a b : ℕ) → place_after d (place_after d p a) b ≡ place_after d p (a + b)
unfolding place_after
after-after d p a b =
    let e : position_after d (position_at d (place_after d p a)) b ≡ position_after d (position_at d p) (a + b) = ap (λ (q : Position). position_after d q b) (settled d p a) ∙ sym (further_add d (position_at d p) a b) in
    let l : p.left - a - b ≡ p.left - (a + b) = omega arith in
    ap₂ (λ (q : Position) (l : ℕ). read_place q.sector q.offset l) e l

-- none have come
pub after_none : (d : List ℕ) (p : Place) → PlaceInRange d p → place_after d p 0 ≡ p
unfolding place_after position_after
after_none d p w =
    let l : p.left - 0 ≡ p.left = omega arith in
    ap₂ (λ (q : Position) (l : ℕ). read_place q.sector q.offset l) (standing_at d p w) l

-- ---- nothing comes of numbers that can be no reader's

pub nothing : (d : List ℕ) (p : Place) (buf : List ℕ) (r : Piece) → r ≡ no_piece p.left → is_reader_place d p ≡ false
    → (r ≡ piece_of d p (length buf)) × (buf ≡ buffer_after d p buf)
unfolding piece_of bytes_came place_after next_bytes position_after tab
nothing d p buf r q e =
    let l : p.left ≡ p.left - 0 = omega arith in
    (q ∙ rw (standing_not d p e, none_come d no_position refl (min p.left (length buf))) (ap no_piece l), rw (standing_not d p e, none_come d no_position refl (min p.left (length buf))) (put-none buf 0 []))

-- ---- the numbers of a piece keep to bounds, whatever they are asked of

pub record PieceBounded (r : Piece) (left room : ℕ) : Type 0 where
  pub sector : r.sector ≤ 1600
  pub offset : r.offset < 510
  pub came : r.came ≤ min left room
  pub few : r.came ≤ longest

few_come : (d : List ℕ) (p : Place) (room : ℕ) → bytes_came d p room ≤ longest
unfolding bytes_came
few_come d p room = by (is_reader_place d p) refl
  where
    by : (t : Bool) → is_reader_place d p ≡ t → bytes_coming d (position_at d p) (min p.left room) ≤ longest
    by true e = omega (arith, coming_le d (position_at d p) (min p.left room), (placed d p e).left-small)
    by false e = rw (standing_not d p e, none_come d no_position refl (min p.left room)) (omega arith)

pub bounded : (d : List ℕ) (p : Place) (room : ℕ) → PieceBounded (piece_of d p room) p.left room
unfolding piece_of bytes_came place_after
bounded d p room = by (further_stands d (position_at d p) (standing_stands d p) (bytes_came d p room))
  where
    by : AtByteOrEnd (position_after d (position_at d p) (bytes_came d p room)) → PieceBounded (piece_of d p room) p.left room
    by (there s o) = record { sector = omega arith; offset = o; came = coming_le d (position_at d p) (min p.left room); few = few_come d p room }
    by (ended q) = record {
      sector = rw q (omega arith);
      offset = rw q (omega arith);
      came = coming_le d (position_at d p) (min p.left room);
      few = few_come d p room;
    }
