-- The laws of the raw sector call.
-- Assumes nothing.
use mathlib.Core.Path.{◌≡◌, refl}
use mathlib.Core.Bool.{Bool, true, false, cond, not, ◌&&◌, and-eq-true_iff}
use mathlib.Core.List.{List, []}
use mathlib.Core.Logic.{⊎_elim}
use Prim.Native.Nat.{ℕ, ◌+◌, ◌≤◌, ◌<◌}
use native.Mathlib.Omega.{arith}
use borrow.Author.Tests.{eqb-true, eqb-false, leb-true, eq-eqb, ne_eqb}
use lib.Dec.{leb, eqb}
use lib.ListN.{length, take, drop, get_or, length-take, length-drop}
use lib.Seq.{get_or-take, get_or-drop}
use Rattle.geometry.specs.Disk.{image_size, is_sector, sector_place}
use Rattle.geometry.proofs.Tests.{true_or_false}
use Rattle.geometry.proofs.Laws.{sector-inside}
use Rattle.drives.specs.Raw.{is_image, is_drive, chosen, raw_refusal, raw_sector}

-- What number 0 says of the arguments.
pub record RawAccepted (one two : List ℕ) (d t s : ℕ) : Type 0 where
  pub first : length one ≡ image_size
  pub second : length two ≡ image_size
  pub low : 1 ≤ d
  pub high : d ≤ 2
  pub sector : is_sector t s ≡ true

none : (p q : Bool) → cond {A = ℕ} (not p) 1 (cond (not q) 21 0) ≡ 0 → (p ≡ true) × (q ≡ true)
none true true e = (refl, refl)
none true false e = absurd (omega arith)
none false q e = absurd (omega arith)

module _ (one two : List ℕ) (d t s : ℕ) where
  pub accepted : raw_refusal one two d t s ≡ 0 → RawAccepted one two d t s
  unfolding raw_refusal
  accepted e =
      record {
        first = eqb-true _ _ images.0;
        second = eqb-true _ _ images.1;
        low = leb-true 1 d drive.0;
        high = leb-true d 2 drive.1;
        sector = asked.1;
      }
    where
      tests : ((is_image one && is_image two) ≡ true) × ((is_drive d && is_sector t s) ≡ true)
      tests = none _ _ e

      images : (is_image one ≡ true) × (is_image two ≡ true)
      images = (and-eq-true_iff _ _).0 tests.0

      asked : (is_drive d ≡ true) × (is_sector t s ≡ true)
      asked = (and-eq-true_iff _ _).0 tests.1

      drive : (leb 1 d ≡ true) × (leb d 2 ≡ true)
      drive = (and-eq-true_iff _ _).0 asked.0

  -- The part where there is no refusal, and where there is one.
  pub part : raw_refusal one two d t s ≡ 0 → raw_sector one two d t s ≡ take 512 (drop (sector_place t s) (chosen one two d))
  unfolding raw_sector
  part e = rw (eq-eqb _ _ e)

  pub part-empty : (raw_refusal one two d t s ≡ 0 → ⊥) → raw_sector one two d t s ≡ []
  unfolding raw_sector
  part-empty n = rw (ne_eqb _ _ n)

  -- The chosen image is of the full size.
  chosen-length : RawAccepted one two d t s → length (chosen one two d) ≡ image_size
  chosen-length a = go (eqb d 1)
    where
      go : (x : Bool) → length (cond x one two) ≡ image_size
      go true = a.first
      go false = a.second

  -- The part has 512 bytes exactly where the number is 0, and none otherwise.
  pub part-whole : raw_refusal one two d t s ≡ 0 → length (raw_sector one two d t s) ≡ 512
  part-whole e =
      let a = accepted e in
      let l = chosen-length a in
      rw (part e) (simp (length-take, length-drop) (omega (arith, sector-inside t s a.sector)))

  pub part-accepted : length (raw_sector one two d t s) ≡ 512 → raw_refusal one two d t s ≡ 0
  part-accepted l = ⊎_elim (λ e. eqb-true _ _ e) no (true_or_false (eqb (raw_refusal one two d t s) 0))
    where
      no : eqb (raw_refusal one two d t s) 0 ≡ false → raw_refusal one two d t s ≡ 0
      no e = let empty = part-empty (eqb-false _ _ e) in absurd (omega (arith, rw empty at l))

  -- Byte k of the part is byte k of the sector in the chosen image.
  pub part-byte : (k : ℕ) → raw_refusal one two d t s ≡ 0 → k < 512 → get_or (raw_sector one two d t s) k 0 ≡ get_or (chosen one two d) (sector_place t s + k) 0
  part-byte k e h = rw (part e, get_or-take, get_or-drop)
