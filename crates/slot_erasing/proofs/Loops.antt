-- The loops, one turn at a time.
use Prim.Native.Nat.{ℕ, zero, suc, ◌+◌, ◌*◌, ◌≤◌, ◌<◌}
use mathlib.Core.Path.{◌≡◌, refl, sym, ap, ap₂, ◌∙◌}
use mathlib.Core.Bool.{Bool, true, false, cond, ◌||◌}
use mathlib.Core.List.{List, [], ◌∷◌, ◌++◌, append-nil}
use native.Mathlib.Nat.{add-zero}
use native.Mathlib.Numerals.{add-one}
use native.Mathlib.Omega.{arith}
use lib.ListN.{length, length-append}
use Rattle.buffers.specs.Bytes.{put}
use Rattle.buffers.proofs.Lists.{put-none, put-append, length-put}
use Rattle.directory.specs.Places.{slots, slot_place, dir_sector, dir_sector_or}
use Rattle.directory.proofs.Places.{slot_placed, dir_placed, slot-sector, slot_within}
use Rattle.erase_many.specs.EraseMany.{pairs, touches, sectors_from, sectors_with}
use Rattle.erase_many.specs.ErasedMap.{slots_cleared}
use Rattle.slot_erasing.specs.Listed.{PutInFront}

-- ---- the sectors

sectors-more : (e : ℕ → Bool) (n j : ℕ) → sectors_from (suc n) j e ≡ sectors_from n j e ++ cond (touches e (j + n)) (dir_sector (2 * (j + n)) ∷ []) []
unfolding sectors_from
sectors-more e zero j = rw add-zero
sectors-more e (suc n) j =
    by (touches e j) (sectors-more e n (suc j) ∙ ap (λ (m : ℕ). sectors_from n (suc j) e ++ cond (touches e m) (dir_sector (2 * m) ∷ []) []) (omega arith))
  where
    by : (t : Bool) → sectors_from (suc n) (suc j) e ≡ sectors_from n (suc j) e ++ cond (touches e (j + suc n)) (dir_sector (2 * (j + suc n)) ∷ []) []
        → cond t (dir_sector (2 * j) ∷ sectors_from (suc n) (suc j) e) (sectors_from (suc n) (suc j) e)
        ≡ cond t (dir_sector (2 * j) ∷ sectors_from n (suc j) e) (sectors_from n (suc j) e) ++ cond (touches e (j + suc n)) (dir_sector (2 * (j + suc n)) ∷ []) []
    by true g = ap (λ (x : List ℕ). dir_sector (2 * j) ∷ x) g
    by false g = g

pub record ListSectorsLoop (e : ℕ → Bool) (buf : List ℕ) (j at : ℕ) (now : List ℕ) : Type 0 where
  pub few : at ≤ j
  pub place : at ≡ length (sectors_from j 0 e)
  pub numbers : now ≡ put buf 0 (sectors_from j 0 e)

-- a sector's number is small
pub pair_sector_small : (j n : ℕ) → j < pairs → n ≡ dir_sector_or (2 * j) → n < 65536
pair_sector_small j n h e = omega (arith, dir_placed (2 * j) (omega arith), slot-sector (2 * j), slot_within (2 * j) (omega arith))

module _ (e : ℕ → Bool) (buf : List ℕ) where
  pub listing_none : ListSectorsLoop e buf 0 0 buf
  unfolding sectors_from
  listing_none = record { few = omega arith; place = refl; numbers = put-none buf 0 [] }

  module _ (j at : ℕ) (now : List ℕ) (l : ListSectorsLoop e buf j at now) where
    next : sectors_from (j + 1) 0 e ≡ sectors_from j 0 e ++ cond (touches e j) (dir_sector (2 * j) ∷ []) []
    next =
        ap (λ (m : ℕ). sectors_from m 0 e) (add-one j) ∙ sectors-more e j 0
        ∙ ap (λ (m : ℕ). sectors_from j 0 e ++ cond (touches e m) (dir_sector (2 * m) ∷ []) []) (omega arith)

    pub listing_skip : touches e j ≡ false → ListSectorsLoop e buf (j + 1) at now
    listing_skip q =
        let z : sectors_from (j + 1) 0 e ≡ sectors_from j 0 e = next ∙ rw q (append-nil (sectors_from j 0 e)) in
        record { few = omega (arith, l.few); place = l.place ∙ ap length (sym z); numbers = l.numbers ∙ ap (put buf 0) (sym z) }

    pub listing-more : j < pairs → touches e j ≡ true → (n : ℕ) → n ≡ dir_sector_or (2 * j) → (g : List ℕ) → g ≡ put now at (n ∷ []) → ListSectorsLoop e buf (j + 1) (at + 1) g
    listing-more h q n s g p =
        let z : sectors_from (j + 1) 0 e ≡ sectors_from j 0 e ++ (dir_sector (2 * j) ∷ []) =
        next ∙ ap (λ (t : Bool). sectors_from j 0 e ++ cond t (dir_sector (2 * j) ∷ []) []) q in
        record {
          few = omega (arith, l.few);
          place = omega (arith, l.place, ap length z, length-append (sectors_from j 0 e) (dir_sector (2 * j) ∷ []));
          numbers =
              p ∙ ap₂ (λ (x : List ℕ) (k : ℕ). put x k (n ∷ [])) l.numbers (l.place ∙ front)
              ∙ put-append buf 0 (sectors_from j 0 e) (n ∷ [])
              ∙ ap (λ (k : ℕ). put buf 0 (sectors_from j 0 e ++ (k ∷ []))) (s ∙ dir_placed (2 * j) (omega arith)) ∙ ap (put buf 0) (sym z);
        }
      where
        front : length (sectors_from j 0 e) ≡ 0 + length (sectors_from j 0 e)
        front = omega arith

  pub listing_all : (j at : ℕ) (now : List ℕ) → ListSectorsLoop e buf j at now → j ≡ pairs → PutInFront buf (sectors_with e) now at
  listing_all j at now l q =
      record { long = l.place ∙ ap (λ (m : ℕ). length (sectors_from m 0 e)) q; numbers = l.numbers ∙ ap (λ (m : ℕ). put buf 0 (sectors_from m 0 e)) q }

  pub listing-long : (j at : ℕ) (now : List ℕ) → ListSectorsLoop e buf j at now → length now ≡ length buf
  listing-long j at now l = ap length l.numbers ∙ length-put buf 0 (sectors_from j 0 e)

-- the two slots of a sector
pub first_of_two : (e : ℕ → Bool) (j : ℕ) → e (2 * j) ≡ true → true ≡ touches e j
first_of_two e j q = sym (ap (λ (t : Bool). t || e (2 * j + 1)) q)

pub second_of_two : (e : ℕ → Bool) (j : ℕ) → e (2 * j) ≡ false → {r : Bool} → r ≡ e (2 * j + 1) → r ≡ touches e j
second_of_two e j q p = p ∙ sym (ap (λ (t : Bool). t || e (2 * j + 1)) q)

-- ---- byte 0 of the slots

module _ (d : List ℕ) (e : ℕ → Bool) where
  pub cleared_start : d ≡ slots_cleared d e 0
  unfolding slots_cleared
  cleared_start = refl

  module _ (i : ℕ) (x : List ℕ) (p : x ≡ slots_cleared d e i) where
    pub cleared_skip : e i ≡ false → x ≡ slots_cleared d e (i + 1)
    unfolding slots_cleared
    cleared_skip q = rw (add-one i, q) p

    pub cleared_more : i < slots → e i ≡ true → (a : ℕ) → a ≡ slot_place i → (y : List ℕ) → y ≡ put x a (0 ∷ []) → y ≡ slots_cleared d e (i + 1)
    unfolding slots_cleared
    cleared_more h q a s y r = rw (add-one i, q) (r ∙ ap₂ (λ (z : List ℕ) (a : ℕ). put z a (0 ∷ [])) p (s ∙ slot_placed i h))

  pub cleared_all : (i : ℕ) (x : List ℕ) → x ≡ slots_cleared d e i → i ≡ slots → x ≡ slots_cleared d e slots
  cleared_all i x p q = p ∙ ap (slots_cleared d e) q
