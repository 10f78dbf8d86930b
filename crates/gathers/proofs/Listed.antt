-- The list of a gather's data sectors, as far as it is put, and then the slot's.
use Prim.Native.Nat.{ℕ, zero, suc, ◌+◌, ◌*◌, ◌/◌, ◌≤◌, ◌<◌}
use mathlib.Core.Path.{◌≡◌, sym, ap, ◌∙◌}
use mathlib.Core.List.{List, [], ◌∷◌, ◌++◌, map, map-append}
use native.Mathlib.Numerals.{add-one}
use native.Mathlib.Nat.{add-zero}
use native.Mathlib.Omega.{arith}
use lib.ListN.{length, set, length-map}
use Rattle.buffers.specs.Bytes.{put}
use Rattle.buffers.proofs.Lists.{length-put, put_one, put-none, put_next}
use Rattle.geometry.specs.Disk.{bit_number, place_or_end}
use Rattle.geometry.proofs.Laws.{place_or_end_lem, number_small}
use Rattle.directory.specs.Places.{dir_sector_or}
use Rattle.directory.proofs.Places.{dir_placed}
use Rattle.plans.specs.Gathering.{up_from}
use Rattle.plans.specs.Gathered.{run_sectors}
use Rattle.plans.proofs.Runs.{up_long}
use Rattle.gathers.specs.declared.Move.{Move}
use Rattle.gathers.specs.Call.{moved_sectors, MoveInRange}

pub length-run_sectors : (n b : ℕ) → length (run_sectors n b) ≡ n
length-run_sectors n b = length-map (up_from n b) bit_number ∙ up_long n b

-- one more at the end
up_snoc : (n b : ℕ) → up_from (suc n) b ≡ up_from n b ++ ((b + n) ∷ [])
unfolding up_from
up_snoc zero b = ap (λ (x : ℕ). x ∷ []) (sym (add-zero b))
up_snoc (suc n) b =
    let o : suc b + n ≡ b + suc n = omega arith in
    ap (λ (l : List ℕ). b ∷ l) (up_snoc n (suc b) ∙ ap (λ (x : ℕ). up_from n (suc b) ++ (x ∷ [])) o)

pub run_snoc : (n b : ℕ) → run_sectors (n + 1) b ≡ run_sectors n b ++ (bit_number (b + n) ∷ [])
run_snoc n b =
    ap (λ (k : ℕ). run_sectors k b) (add-one n) ∙ ap (map bit_number) (up_snoc n b) ∙ map-append bit_number (up_from n b) ((b + n) ∷ [])

-- a bit's number, of its place
pub number-place : (b p : ℕ) → b < 1560 → p ≡ place_or_end b → (p / 512 ≡ bit_number b) × (p / 512 < 1600)
number-place b p h e =
    let q : p ≡ bit_number b * 512 = e ∙ place_or_end_lem b h in
    (omega arith, omega (arith, number_small b h))

pub record RunListLoop (l : List ℕ) (n b : ℕ) (l' : List ℕ) (j : ℕ) : Type 0 where
  pub far : j ≤ n
  pub room : n ≤ length l
  pub is : l' ≡ put l 0 (run_sectors j b)

pub listed_none : (l : List ℕ) (n b : ℕ) → n ≤ length l → RunListLoop l n b l 0
unfolding up_from
listed_none l n b h = record { far = omega arith; room = h; is = put-none l 0 [] }

module _ (l : List ℕ) (n b : ℕ) (l' : List ℕ) (j : ℕ) (w : RunListLoop l n b l' j) where
  pub listed_long : length l' ≡ length l
  listed_long = ap length w.is ∙ length-put l 0 (run_sectors j b)

  pub listed_more : j < n → (v : ℕ) → v ≡ bit_number (b + j) → RunListLoop l n b (set l' j v) (j + 1)
  listed_more h v e = record {
    far = omega arith;
    room = w.room;
    is = put_next l (run_sectors j b) j v (length-run_sectors j b) l' w.is ∙ ap (put l 0) (ap (λ (v : ℕ). run_sectors j b ++ (v ∷ [])) e ∙ sym (run_snoc j b));
  }

  pub listed_all : n ≤ j → l' ≡ put l 0 (run_sectors n b)
  listed_all h = let e : j ≡ n = omega (arith, w.far) in w.is ∙ ap (λ (k : ℕ). put l 0 (run_sectors k b)) e

pub listed_last : (l l' : List ℕ) (m : Move) (room : ℕ) → MoveInRange m room → l' ≡ put l 0 (run_sectors m.count m.bit) → (s : ℕ) → s ≡ dir_sector_or m.slot
    → (l'' : List ℕ) → l'' ≡ put l' m.count (s ∷ []) → l'' ≡ put l 0 (moved_sectors m)
listed_last l l' m room w e s q l'' r =
    r ∙ sym (put_one l' m.count s) ∙ put_next l (run_sectors m.count m.bit) m.count s (length-run_sectors m.count m.bit) l' e
    ∙ ap (λ (s : ℕ). put l 0 (run_sectors m.count m.bit ++ (s ∷ []))) (q ∙ dir_placed m.slot w.slot)
