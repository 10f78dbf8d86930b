-- Map bits turned into sector numbers, and the list of a save's sectors.
use Prim.Native.Nat.{ℕ, ◌+◌, ◌≤◌, ◌<◌}
use mathlib.Core.Path.{◌≡◌, sym, ap, ◌∙◌}
use mathlib.Core.List.{List, [], ◌∷◌, ◌++◌, map, map-append}
use native.Mathlib.Numerals.{add-one}
use native.Mathlib.Omega.{arith}
use lib.ListN.{length, get_or, take, set, length-map}
use lib.Seq.{length-take-le, take-suc, get_or-take}
use Rattle.buffers.specs.Bytes.{put}
use Rattle.buffers.proofs.Lists.{put-none, put-after, put_next}
use Rattle.geometry.specs.Disk.{bit_number}
use Rattle.saves.specs.Write.{Bits}

-- the first j of a list's n map bits are turned
pub record NumbersLoop (l : List ℕ) (n : ℕ) (l' : List ℕ) (j : ℕ) : Type 0 where
  pub far : j ≤ n
  pub room : n ≤ length l
  pub is : l' ≡ put l 0 (map bit_number (take j l))

pub numbered_none : (l : List ℕ) (n : ℕ) → n ≤ length l → NumbersLoop l n l 0
numbered_none l n h = record { far = omega arith; room = h; is = put-none l 0 [] }

module _ (l : List ℕ) (n : ℕ) (l' : List ℕ) (j : ℕ) (w : NumbersLoop l n l' j) where
  long : length (map bit_number (take j l)) ≡ j
  long = length-map (take j l) bit_number ∙ length-take-le j l (omega (arith, w.far, w.room))

  module _ (h : j < n) where
    numbered_here : get_or l' j 0 ≡ get_or l j 0
    numbered_here = ap (λ (x : List ℕ). get_or x j 0) w.is ∙ put-after l 0 (map bit_number (take j l)) j (omega (arith, long))

    pub numbered_small : Bits (take n l) → get_or l' j 0 < 1560
    numbered_small b = rw (numbered_here, ← get_or-take n l j 0 h) (b.small j (omega (arith, length-take-le n l w.room)))

    pub numbered_more : (v : ℕ) → v ≡ bit_number (get_or l' j 0) → NumbersLoop l n (set l' j v) (j + 1)
    numbered_more v e = record {
      far = omega arith;
      room = w.room;
      is = put_next l (map bit_number (take j l)) j v long l' w.is
          ∙ ap (put l 0)
          (ap (λ (v : ℕ). map bit_number (take j l) ++ (v ∷ [])) (e ∙ ap bit_number numbered_here)
          ∙ sym (ap (λ (k : ℕ). map bit_number (take k l)) (add-one j) ∙ ap (map bit_number) (take-suc l j 0 (omega (arith, w.room))) ∙ map-append bit_number (take j l) (get_or l j 0 ∷ [])));
    }

  pub numbered_all : n ≤ j → l' ≡ put l 0 (map bit_number (take n l))
  numbered_all h = let e : j ≡ n = omega (arith, w.far) in w.is ∙ ap (λ (k : ℕ). put l 0 (map bit_number (take k l))) e
