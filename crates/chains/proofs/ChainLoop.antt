-- The chain as the code follows it, from place to place.
use Prim.Native.Nat.{ℕ, suc, ◌+◌, ◌-◌, ◌%◌, ◌≤◌, ◌<◌}
use mathlib.Core.Path.{◌≡◌, refl, sym, ap, ◌∙◌, fun_ext}
use mathlib.Core.Bool.{Bool, true, false, not, cond, ◌&&◌, ◌||◌}
use mathlib.Core.List.{List}
use native.Mathlib.Omega.{arith}
use lib.Dec.{eqb}
use lib.ListN.{length, get_or}
use Rattle.buffers.specs.Bytes.{part}
use Rattle.geometry.specs.Disk.{image_size, bit_of, place_or_end}
use Rattle.geometry.proofs.Laws.{data_bit_lem, bit_data, place_or_end_lem, place_inside, place-next}
use Rattle.maps.specs.Bits.{has, clear_map, with_bit}
use Rattle.maps.proofs.Laws.{has_clear, length_marked, has_marked}
use Rattle.slots.specs.Slot.{slot_fields, first_of, count_of, map_of}
use Rattle.chains.specs.File.{sectors_of}
use Rattle.chains.specs.Chain.{linked_bit, is_last, with_visited, leaves_map, broken}
use Rattle.chains.proofs.Laws.{sectors-own, map-small, link_at}

-- the map's bits are the sectors passed, as the definition keeps them, and bit b's
pub record VisitedMap (m : List ℕ) (b : ℕ) (passed : ℕ → Bool) : Type 0 where
  pub long : length m ≡ 195
  pub bits : (c : ℕ) → has m c ≡ with_visited passed b c

-- before a turn, at a bit's sector, with so many links left to follow: the chain is broken exactly where they leave the map
pub record ChainLoop (d s m : List ℕ) (left bit at : ℕ) : Type 0 where
  pub own : has (map_of s) bit ≡ true
  pub place : at ≡ place_or_end bit
  pub passed : ℕ → Bool
  pub marks : VisitedMap m bit passed
  pub rest : broken (slot_fields s) (sectors_of d s) ≡ leaves_map (map_of s) (sectors_of d s) left bit passed

-- the bit is one that a map has, and its place lies in the image
pub walked_inside : (d s m : List ℕ) (left bit at : ℕ) → ChainLoop d s m left bit at → (bit < 1560) × (at < image_size)
walked_inside d s m left bit at w =
    let h = map-small s bit w.own in
    (h, omega (arith, w.place, place_or_end_lem bit h, place_inside bit h))

-- a link to the next sector of the track
pub beside : (b a c t u : ℕ) → b < 1560 → a ≡ place_or_end b → c < 1560 → c ≡ bit_of t u → c ≡ b + 1 → (u ≡ 1 → ⊥) → a + 512 ≡ place_or_end c
beside b a c t u h p i q n m =
    let k = data_bit_lem t u (bit_data t u (omega arith)) in
    let e : c ≡ suc b = omega arith in
    let z : 1 ≤ suc b % 10 = omega (arith, k.sector, m) in
    omega (arith, p, place_or_end_lem b h, place-next b (omega arith) z, ap place_or_end e, place_or_end_lem (suc b) (omega arith))

-- what a test of the map that the code holds says of the slot's
pub in_map : (m s : List ℕ) (c : ℕ) {t v : Bool} → m ≡ map_of s → t ≡ has m c → t ≡ v → has (map_of s) c ≡ v
in_map m s c e f g = ap (λ (x : List ℕ). has x c) (sym e) ∙ sym f ∙ g

-- a mark more; and the first one
more_marks : (m k : List ℕ) (b : ℕ) → length m ≡ 195 → b < 1560 → k ≡ with_bit m b → VisitedMap k b (has m)
more_marks m k b l h e =
    record {
      long = ap length e ∙ length_marked m b ∙ l;
      bits = λ c. ap (λ (x : List ℕ). has x c) e ∙ has_marked m b c (omega arith);
    }

first-mark : (m : List ℕ) (b : ℕ) → b < 1560 → m ≡ with_bit clear_map b → VisitedMap m b (λ c. false)
first-mark m b h e =
    let w = more_marks clear_map m b refl h e in
    record { long = w.long; bits = λ c. w.bits c ∙ ap (λ (t : Bool). eqb c b || t) (has_clear c) }

module _ (d s : List ℕ) where
  -- the part that the code takes is the sector
  pub read : (b : ℕ) (h : List ℕ) → has (map_of s) b ≡ true → h ≡ part (place_or_end b) 512 d → sectors_of d s b ≡ h
  read b h i e = sectors-own d s b i ∙ ap (λ (a : ℕ). part a 512 d) (sym (place_or_end_lem b (map-small s b i))) ∙ sym e

  pub outside : (b : ℕ) → b ≡ first_of s → has (map_of s) b ≡ false → true ≡ broken (slot_fields s) (sectors_of d s)
  unfolding broken slot_fields
  outside b e h = rw (← e, h)

  pub start : (b n a : ℕ) (m : List ℕ) → b ≡ first_of s → n ≡ count_of s - 1 → a ≡ place_or_end (first_of s) → has (map_of s) b ≡ true → m ≡ with_bit clear_map b → ChainLoop d s m n b a
  unfolding broken slot_fields
  start b n a m e f g h k =
      record { own = h; place = g ∙ ap place_or_end (sym e); passed = λ c. false; marks = first-mark m b (map-small s b h) k; rest = rw (← e, h, ← f) }

  -- the part that the code takes is the bit's sector
  here : (h m : List ℕ) (left b a : ℕ) → ChainLoop d s m left b a → h ≡ part a 512 d → sectors_of d s b ≡ h
  here h m left b a w e = read b h w.own (e ∙ ap (λ (x : ℕ). part x 512 d) w.place)

  pub end : (h m : List ℕ) (left b a : ℕ) → ChainLoop d s m left b a → left ≡ 0 → h ≡ part a 512 d → broken (slot_fields s) (sectors_of d s) ≡ not (is_last h)
  unfolding leaves_map
  end h m left b a w l e =
      w.rest ∙ ap (λ (n : ℕ). leaves_map (map_of s) (sectors_of d s) n b w.passed) l ∙ ap (λ (x : List ℕ). not (is_last x)) (here h m left b a w e)

-- a turn: the link of the sector is t, u, which is bit c
module _
    (d s m : List ℕ) (left b a t u c : ℕ) (w : ChainLoop d s m left b a) (more : 0 < left)
    (track : t ≡ get_or d (a + 510) 0) (sector : u ≡ get_or d (a + 511) 0) (leads : c ≡ bit_of t u) where
  turn : broken (slot_fields s) (sectors_of d s)
      ≡ cond (has (map_of s) c && not (has m c)) (leaves_map (map_of s) (sectors_of d s) (left - 1) c (has m)) true
  unfolding leaves_map
  turn =
      let k : left ≡ suc (left - 1) = omega arith in
      let q : linked_bit (sectors_of d s b) ≡ c = ap linked_bit (here d s (part a 512 d) m left b a w refl) ∙ sym (leads ∙ link_at d a t u track sector) in
      w.rest ∙ ap (λ (n : ℕ). leaves_map (map_of s) (sectors_of d s) n b w.passed) k
      ∙ ap (λ (x : ℕ). leading x (with_visited w.passed b)) q
      ∙ ap (leading c) (sym (fun_ext w.marks.bits))
    where
      leading : ℕ → (ℕ → Bool) → Bool
      leading x p = cond (has (map_of s) x && not (p x)) (leaves_map (map_of s) (sectors_of d s) (left - 1) x p) true

  pub leaves_off : has (map_of s) c ≡ false → true ≡ broken (slot_fields s) (sectors_of d s)
  leaves_off i = sym (turn ∙ rw i)

  pub comes_again : has (map_of s) c ≡ true → has m c ≡ true → true ≡ broken (slot_fields s) (sectors_of d s)
  comes_again i j = sym (turn ∙ rw (i, j))

  pub walked : (e after : ℕ) (k : List ℕ) → has (map_of s) c ≡ true → has m c ≡ false → e ≡ place_or_end c → k ≡ with_bit m c → left ≡ suc after → ChainLoop d s k after c e
  walked e after k i j f g h =
      let l : left - 1 ≡ after = omega arith in
      record { own = i; place = f; passed = has m; marks = more_marks m k c w.marks.long (map-small s c i) g; rest = turn ∙ rw (i, j, l) }
