-- The sectors written so far along the clear bits of a map, those that are left, and the numbers named.
use Prim.Native.Nat.{ℕ, zero, suc, ◌+◌, ◌-◌, ◌*◌, ◌≤◌, ◌<◌}
use mathlib.Core.Path.{◌≡◌, refl, sym, ap, ap₂, ◌∙◌}
use mathlib.Core.List.{List, [], ◌∷◌, ◌++◌, map, map-append}
use native.Mathlib.Numerals.{add-one}
use native.Mathlib.Omega.{arith}
use lib.ListN.{length, get_or, take, drop, set, length-map, length-drop}
use lib.Seq.{length-take-le, take-suc, drop-drop, get_or-drop}
use Rattle.buffers.specs.Bytes.{put}
use Rattle.buffers.proofs.Lists.{length-put, put-none, put_one, put-append}
use Rattle.geometry.specs.Disk.{bit_number, bit_place, place_or_end}
use Rattle.geometry.proofs.Laws.{place_or_end_lem}
use Rattle.steps.specs.Steps.{put_all, apply, numbers}
use Rattle.steps.proofs.Steps.{numbers-take}
use Rattle.plans.specs.Saving.{sector_bytes, next_track, next_sector}
use Rattle.plans.specs.Plan.{data_steps}
use Rattle.plans.proofs.Laid.{data_numbers}
use Rattle.changes.specs.ChangeCalls.{Applied}
use Rattle.allocation.specs.Taken.{next_clear}
use Rattle.sector_writes.specs.declared.Link.{Link}
use Rattle.sector_writes.specs.Sector.{link_to_bit}
use Rattle.sector_writes.proofs.Links.{link_bit}
use Rattle.record_add.specs.Adding.{clear_from, steps_along, SectorsAlong}
use Rattle.record_add.proofs.Clear.{from_next, next-same, from_clear}

pub set_as_put : (l : List ℕ) (j v n : ℕ) → v ≡ n → set l j v ≡ put l j (n ∷ [])
set_as_put l j v n e = put_one l j v ∙ ap (λ (n : ℕ). put l j (n ∷ [])) e

take-map : (n : ℕ) (bs : List ℕ) → take n (map bit_number bs) ≡ map bit_number (take n bs)
take-map zero bs = refl
take-map (suc n) [] = refl
take-map (suc n) (b ∷ bs) = ap (λ (l : List ℕ). bit_number b ∷ l) (take-map n bs)

-- j of the sectors are written: e and l are the image and the list then, d and buf as they were; b is the next one's bit
pub record SectorsLoop (m : List ℕ) (from count f : ℕ) (st d buf e l : List ℕ) (j b : ℕ) : Type 0 where
  pub far : j ≤ count
  pub here : clear_from m b ≡ drop j (clear_from m from)
  pub clear : next_clear m b ≡ b
  pub long : length e ≡ length d
  pub left : apply e (take (count - j) (data_steps st (f + 510 * j) (clear_from m b))) ≡ apply d (steps_along st f count m from)
  pub list : l ≡ put buf 0 (map bit_number (take j (clear_from m from)))

module _ (m : List ℕ) (from count f : ℕ) (st d buf : List ℕ) (a : SectorsAlong m from count f buf) where
  pub written_none : SectorsLoop m from count f st d buf d buf 0 from
  written_none = record {
    far = omega arith;
    here = refl;
    clear = a.first;
    long = refl;
    left = let z : f + 510 * 0 ≡ f = omega arith in let y : count - 0 ≡ count = omega arith in rw (z, y) refl;
    list = put-none buf 0 [];
  }

  abbrev bs : List ℕ
  bs = clear_from m from

  module _ (e l : List ℕ) (j b : ℕ) (w : SectorsLoop m from count f st d buf e l j b) where
    module _ (h : j < count) where
      some : 1 < length (clear_from m b)
      some = omega (arith, a.enough, ap length w.here, length-drop j (clear_from m from))

      one : (b < 1560) × (clear_from m b ≡ b ∷ clear_from m (suc b))
      one = from_clear m b w.clear (omega (arith, some))

      pub written-bit : b < 1560
      written-bit = one.0

      -- the next one
      next : (n : ℕ) → n ≡ next_clear m (b + 1) → (n < 1560) × (clear_from m (suc b) ≡ n ∷ clear_from m (suc n))
      next n e =
          let q : clear_from m n ≡ clear_from m (suc b) = ap (clear_from m) e ∙ from_next m (b + 1) (omega (arith, written-bit)) ∙ ap (clear_from m) (add-one b) in
          let z : next_clear m n ≡ n = ap (next_clear m) e ∙ next-same m (b + 1) (omega (arith, written-bit)) ∙ sym e in
          let r = from_clear m n z (omega (arith, ap length q, some, ap length one.1)) in
          (r.0, sym q ∙ r.1)

      pub written-more : (n : ℕ) → n ≡ next_clear m (b + 1) → (k : Link) → k ≡ link_to_bit n → (e' : List ℕ)
          → e' ≡ put e (place_or_end b) (sector_bytes st (f + 510 * j) k.track k.sector) → (l' : List ℕ) → l' ≡ put l j (bit_number b ∷ [])
          → SectorsLoop m from count f st d buf e' l' (j + 1) n
      unfolding apply put_all data_steps
      written-more n en k ek e' ee l' el = record {
        far = omega arith;
        here = rest;
        clear = ap (next_clear m) en ∙ next-same m (b + 1) (omega (arith, written-bit)) ∙ sym en;
        long = ap length image ∙ length-put e (bit_place b) bytes ∙ w.long;
        left = rw (image, q, g) (rw (one.1, s) at w.left);
        list = numbered;
      }
        where
          q : clear_from m n ≡ clear_from m (suc b)
          q = ap (clear_from m) en ∙ from_next m (b + 1) (omega (arith, written-bit)) ∙ ap (clear_from m) (add-one b)

          bytes : List ℕ
          bytes = sector_bytes st (f + 510 * j) (next_track (clear_from m (suc b))) (next_sector (clear_from m (suc b)))

          image : e' ≡ put e (bit_place b) bytes
          image =
              ee
              ∙ ap₂ (λ (a : ℕ) (k : Link). put e a (sector_bytes st (f + 510 * j) k.track k.sector)) (place_or_end_lem b written-bit) (ek ∙ link_bit n (next n en).0)
              ∙ ap (λ (x : List ℕ). put e (bit_place b) (sector_bytes st (f + 510 * j) (next_track x) (next_sector x))) (sym (next n en).1)

          rest : clear_from m n ≡ drop (j + 1) (clear_from m from)
          rest = q ∙ ap (drop 1) (sym one.1 ∙ w.here) ∙ drop-drop 1 j bs

          s : count - j ≡ suc (count - (j + 1))
          s = omega arith

          g : f + 510 * (j + 1) ≡ f + 510 * j + 510
          g = omega arith

          numbered : l' ≡ put buf 0 (map bit_number (take (j + 1) (clear_from m from)))
          numbered =
              let z : j ≡ 0 + length (map bit_number (take j bs)) = omega (arith, length-map (take j bs) bit_number, length-take-le j bs (omega (arith, a.enough))) in
              let x : get_or bs j 0 ≡ b =
              ap (λ (k : ℕ). get_or bs k 0) (omega arith) ∙ sym (get_or-drop j bs 0 0) ∙ ap (λ (x : List ℕ). get_or x 0 0) (sym w.here ∙ one.1) in
              el ∙ ap₂ (λ (x : List ℕ) (k : ℕ). put x k (bit_number b ∷ [])) w.list z ∙ put-append buf 0 (map bit_number (take j bs)) (bit_number b ∷ [])
              ∙ ap (put buf 0)
              (sym
              (ap (λ (k : ℕ). map bit_number (take k bs)) (add-one j) ∙ ap (map bit_number) (take-suc bs j 0 (omega (arith, a.enough)) ∙ ap (λ (v : ℕ). take j bs ++ (v ∷ [])) x)
              ∙ map-append bit_number (take j bs) (b ∷ [])))

    pub written_all : count ≤ j → Applied (steps_along st f count m from) d buf e l count
    unfolding apply
    written_all h =
        let z : count - j ≡ 0 = omega arith in
        let y : j ≡ count = omega (arith, w.far) in
        let n : numbers (steps_along st f count m from) ≡ map bit_number (take count bs) =
        numbers-take count (data_steps st f bs) ∙ ap (take count) (data_numbers st f bs) ∙ take-map count bs in
        record {
          many = sym (ap length n ∙ length-map (take count bs) bit_number ∙ length-take-le count bs (omega (arith, a.enough)));
          image = rw z at w.left;
          list = w.list ∙ ap (λ (k : ℕ). put buf 0 (map bit_number (take k bs))) y ∙ ap (put buf 0) (sym n);
        }
