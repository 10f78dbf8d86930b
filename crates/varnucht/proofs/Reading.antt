-- Opening and the next piece as one number each: every part has room, and an app that asks with them reads the body.
use Prim.Native.Nat.{ℕ, ◌+◌, ◌*◌, ◌%◌, ◌-◌}
use mathlib.Core.Path.{◌≡◌, refl, sym, ap, ap₂, ◌∙◌, subst}
use mathlib.Core.List.{List, [], ◌∷◌, ◌++◌}
use native.Mathlib.Omega.{arith}
use Rattle.std.specs.Prelude.{Result, Ok, Err}
use lib.ListN.{length, take}
use Rattle.refusals.specs.Order.{Refusal}
use Rattle.refusals.specs.Answers.{refused, Out, refusal_of}
use Rattle.refusals.specs.declared.Refused.{Refused}
use Rattle.packing.specs.Packed.{clipped, packed_at, clipped_at, Within, PlaceFitsAnswer}
use Rattle.packing.proofs.Parts.{reported_at, clipped_at-is, within_fits, clipped-is}
use Rattle.slots.specs.Slot.{slot_fields}
use Rattle.chains.specs.File.{file_of}
use Rattle.headers.specs.Header.{body}
use Rattle.directory.specs.Directory.{slot_or}
use Rattle.disk.specs.View.{view}
use Rattle.files.specs.Calls.{file_named}
use Rattle.readers.specs.Pieces.{read_place, next_bytes, place_after, next_place, piece_of, joined, place_past, total}
use Rattle.readers.specs.Opening.{FileOpening, opened_at, refused_opening, open_file, file_opening_of}
use Rattle.readers.specs.declared.Place.{Place}
use Rattle.readers.specs.declared.Piece.{Piece}
use Rattle.readers.proofs.Positions.{number_le}
use Rattle.readers.proofs.PositionAt.{bounded}
use Rattle.readers.proofs.Joined.{opened as file-opened, joined-first, each_left}
use Rattle.readers.proofs.OneRead.{open_refused}
use Rattle.readers.proofs.Asked.{opening_positive}
use Rattle.varnucht.specs.Reading.{packed_opening, packed_piece, answer_value, place_opened, place_after_answer, joined_by_answers}
use Rattle.varnucht.proofs.Bounds.{reading_within}

-- ---- every part has room

refused_within : (d n : List ℕ) (r : Refusal) → open_file d n ≡ refused_opening r → Within (refused r) 795591 0
refused_within d n r e = subst (λ (o : Out). Within o.outcome 795591 0) (open_refused d n [] r e) (reading_within d n [])

begin_fits : (d n : List ℕ) (p : Place) → open_file d n ≡ opened_at p → PlaceFitsAnswer p.sector p.left p.offset
begin_fits d n p e =
    let o = file-opened d n p e in
    subst (λ (q : Place). PlaceFitsAnswer q.sector q.left q.offset) (sym o.place)
    (record { sector-small = omega (arith, number_le (slot_fields (file_of d (slot_or d o.slot)).bytes).first); value-small = omega (arith, o.few); offset-small = omega arith })

piece-fits : (d : List ℕ) (p : Place) (room : ℕ) → PlaceFitsAnswer (piece_of d p room).sector (piece_of d p room).came (piece_of d p room).offset
piece-fits d p room =
    let b = bounded d p room in
    record { sector-small = omega (arith, b.sector); value-small = omega (arith, b.few); offset-small = omega (arith, b.offset) }

module _ (d n : List ℕ) (a : Result Place Refused) (w : file_opening_of a ≡ open_file d n) where
  pub open_no : (r : Refused) → a ≡ Err r → (y : ℕ) → y ≡ clipped (refused (refusal_of r)) → y ≡ packed_opening (open_file d n)
  open_no r e y q =
      let z : open_file d n ≡ refused_opening (refusal_of r) = sym w ∙ ap file_opening_of e in
      q ∙ clipped-is (refused (refusal_of r)) (within_fits (refused (refusal_of r)) 795591 0 (omega arith) (omega arith) (refused_within d n (refusal_of r) z))
      ∙ ap packed_opening (sym z)

  pub open_at : (p : Place) → a ≡ Ok p → (y : ℕ) → y ≡ clipped_at p.sector p.left p.offset → y ≡ packed_opening (open_file d n)
  open_at p e y q =
      let z : open_file d n ≡ opened_at p = sym w ∙ ap file_opening_of e in
      q ∙ clipped_at-is p.sector p.left p.offset (begin_fits d n p z) ∙ ap packed_opening (sym z)

pub next_reported : (d : List ℕ) (p : Place) (room : ℕ) (r : Piece) → r ≡ piece_of d p room → (y : ℕ) → y ≡ clipped_at r.sector r.came r.offset
    → y ≡ packed_piece (piece_of d p room)
next_reported d p room r e y q =
    q ∙ ap (λ (r : Piece). clipped_at r.sector r.came r.offset) e
    ∙ clipped_at-is (piece_of d p room).sector (piece_of d p room).came (piece_of d p room).offset (piece-fits d p room)

-- ---- an app that asks with the parts of the answer before

-- after a piece it is where the next begins
went_is : (d : List ℕ) (p : Place) (room : ℕ) → place_after_answer p (packed_piece (piece_of d p room)) ≡ next_place d p room
unfolding piece_of place_after
went_is d p room =
    let r = piece_of d p room in
    let t = reported_at r.sector r.came r.offset (piece-fits d p room) in
    ap₂ (λ (n o : ℕ). read_place n o (p.left - answer_value (packed_piece r))) t.sector-is t.offset-is
    ∙ ap (λ (v : ℕ). read_place r.sector r.offset (p.left - v)) t.value-is

reported_is : (d : List ℕ) (rooms : List ℕ) (p : Place) → joined_by_answers d p rooms ≡ joined d p rooms
unfolding joined_by_answers joined
reported_is d [] p = refl
reported_is d (room ∷ rooms) p =
    ap (λ (l : List ℕ). next_bytes d p room ++ l) (ap (λ (q : Place). joined_by_answers d q rooms) (went_is d p room) ∙ reported_is d rooms (next_place d p room))

-- an answer to opening that has no refusal
opened-is : (d n : List ℕ) (p : Place) → open_file d n ≡ opened_at p → place_opened (packed_opening (open_file d n)) ≡ p
opened-is d n p e =
    let t = reported_at p.sector p.left p.offset (begin_fits d n p e) in
    ap (λ (b : FileOpening). place_opened (packed_opening b)) e
    ∙ ap₂ (λ (n o : ℕ). read_place n o (answer_value (packed_at p.sector p.left p.offset))) t.sector-is t.offset-is
    ∙ ap (read_place p.sector p.offset) t.value-is

-- "The pieces joined are the body that one read gives, however the asking is cut.", to the app: where opening answers no refusal,
-- it answers the body's length, and whatever buffers the app asks with, it gets the body's first bytes, as many as they hold
pub record AppReads (d n : List ℕ) (answer : ℕ) : Type 0 where
  pub long : answer_value answer ≡ length (body (file_named (view d) n))
  pub first : (rooms : List ℕ) → joined_by_answers d (place_opened answer) rooms ≡ take (total rooms) (body (file_named (view d) n))

pub app_reads : (d n : List ℕ) → packed_opening (open_file d n) % 256 ≡ 0 → AppReads d n (packed_opening (open_file d n))
unfolding place_past total
app_reads d n h = by (open_file d n) refl
  where
    zero : (r : Refusal) → open_file d n ≡ refused_opening r → r.number ≡ 0
    zero r e =
        let w = refused_within d n r e in
        let z : (r.number + 256 * r.slot) % 256 ≡ 0 = ap (λ (b : FileOpening). packed_opening b % 256) (sym e) ∙ h in
        omega (arith, w.refusal)

    by : (b : FileOpening) → open_file d n ≡ b → AppReads d n (packed_opening (open_file d n))
    by (refused_opening r) e = absurd (opening_positive d n r e (zero r e))
    by (opened_at p) e = record {
      long = ap (λ (p : Place). p.left) (opened-is d n p e) ∙ left_is;
      first = λ rooms. ap (λ (p : Place). joined_by_answers d p rooms) (opened-is d n p e) ∙ reported_is d rooms p ∙ joined-first d n p e rooms;
    }
      where
        left_is : p.left ≡ length (body (file_named (view d) n))
        left_is = none p (each_left d n p e [])
          where
            none : (p : Place) → p.left ≡ length (body (file_named (view d) n)) - 0 → p.left ≡ length (body (file_named (view d) n))
            none p e = omega arith
