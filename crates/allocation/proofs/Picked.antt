-- The lowest clear bits of a map, as a pass over its bits finds them.
use Prim.Native.Nat.{ℕ, zero, suc, ◌+◌, ◌-◌, ◌*◌, ◌/◌, ◌%◌, ◌≤◌, ◌<◌, min}
use mathlib.Core.Path.{◌≡◌, refl, sym, ap, ap₂, ◌∙◌}
use mathlib.Core.Bool.{Bool, true, false, not, and-eq-true_iff}
use mathlib.Core.List.{List, [], ◌∷◌, ◌++◌, append_assoc, append-nil}
use mathlib.Core.Logic.{⊎_elim}
use native.Mathlib.Nat.{add-zero, zero-add}
use native.Mathlib.Numerals.{add-one}
use native.Mathlib.Omega.{arith}
use borrow.Author.Tests.{eqb-true}
use lib.Dec.{eqb}
use lib.ListN.{length, get_or, take, set, length-append}
use lib.Seq.{take-nil}
use Rattle.buffers.specs.Bytes.{put}
use Rattle.buffers.proofs.Lists.{below_or_not, put_one, length-put, put-append, put-none, put_past}
use Rattle.maps.specs.Bits.{has}
use Rattle.maps.proofs.Laws.{bit, has-byte}
use Rattle.plans.specs.Saving.{satisfying}
use Rattle.allocation.specs.Taken.{unset, lowest_clear_bits, full_byte}

-- ---- the numbers that pass, from b on

pass_none : (k n i : ℕ) (p : ℕ → Bool) → ((j : ℕ) → j < k → p (i + j) ≡ false) → satisfying (k + n) i p ≡ satisfying n (i + k) p
unfolding satisfying
pass_none zero n i p h = rw (zero-add, add-zero)
pass_none (suc k) n i p h =
    let z : p i ≡ false = rw add-zero at (h 0 (omega arith)) in
    let s : suc k + n ≡ suc (k + n) = omega arith in
    let t : i + suc k ≡ suc i + k = omega arith in
    rw (s, z, t)
    (pass_none k n (suc i) p (λ j l. let u : suc i + j ≡ i + suc j = omega arith in rw u (h (suc j) (omega arith))))

pub pass_no : (b k : ℕ) (p : ℕ → Bool) → b + k ≤ 1560 → ((j : ℕ) → j < k → p (b + j) ≡ false) → satisfying (1560 - b) b p ≡ satisfying (1560 - (b + k)) (b + k) p
pass_no b k p h z =
    let s : 1560 - b ≡ k + (1560 - (b + k)) = omega arith in
    rw s (pass_none k (1560 - (b + k)) b p z)

pub pass_yes : (b : ℕ) (p : ℕ → Bool) → b < 1560 → p b ≡ true → satisfying (1560 - b) b p ≡ b ∷ satisfying (1560 - (b + 1)) (b + 1) p
unfolding satisfying
pass_yes b p h e =
    let s : 1560 - b ≡ suc (1560 - (b + 1)) = omega arith in
    rw (s, e, add-one)

-- ---- a full byte

pub all_set : (j : ℕ) → j < 8 → bit 255 j ≡ true
all_set zero h = refl
all_set (suc zero) h = refl
all_set (suc (suc zero)) h = refl
all_set (suc (suc (suc zero))) h = refl
all_set (suc (suc (suc (suc zero)))) h = refl
all_set (suc (suc (suc (suc (suc zero))))) h = refl
all_set (suc (suc (suc (suc (suc (suc zero)))))) h = refl
all_set (suc (suc (suc (suc (suc (suc (suc zero))))))) h = refl
all_set (suc (suc (suc (suc (suc (suc (suc (suc j)))))))) h = absurd (omega arith)

pub record FullByteAt (m : List ℕ) (b : ℕ) : Type 0 where
  pub first : b % 8 ≡ 0
  pub byte : get_or m (b / 8) 0 ≡ 255

pub full_is : (m : List ℕ) (b : ℕ) → full_byte m b ≡ true → FullByteAt m b
unfolding full_byte
full_is m b e =
    let c = (and-eq-true_iff (eqb (b % 8) 0) (eqb (get_or m (b / 8) 0) 255)).0 e in
    record { first = eqb-true (b % 8) 0 c.0; byte = eqb-true (get_or m (b / 8) 0) 255 c.1 }

pub full_set : (m : List ℕ) (b : ℕ) → FullByteAt m b → (j : ℕ) → j < 8 → unset m (b + j) ≡ false
full_set m b w j h =
    let e : b + j ≡ 8 * (b / 8) + j = omega (arith, w.first) in
    ap not (ap (has m) e ∙ has-byte m (b / 8) j h ∙ ap (λ (x : ℕ). bit x j) w.byte ∙ all_set j h)

-- ---- the pass

-- j of the n bits are found among those below b
pub record PickLoop (m : List ℕ) (n : ℕ) (out₀ out : List ℕ) (j b : ℕ) : Type 0 where
  pub at : b ≤ 1560
  pub few : j ≤ n
  pub got : List ℕ
  pub many : length got ≡ j
  pub is : out ≡ put out₀ 0 got
  pub left : got ++ take (n - j) (satisfying (1560 - b) b (unset m)) ≡ lowest_clear_bits m n

pub picked_none : (m : List ℕ) (n : ℕ) (out : List ℕ) → PickLoop m n out out 0 0
unfolding lowest_clear_bits
picked_none m n out = record {
  at = omega arith;
  few = omega arith;
  got = [];
  many = refl;
  is = put-none out 0 [];
  left = let e : n - 0 ≡ n = omega arith in rw e;
}

module _ (m : List ℕ) (n : ℕ) (out₀ out : List ℕ) (j b : ℕ) (w : PickLoop m n out₀ out j b) where
  skip : (k : ℕ) → b + k ≤ 1560 → ((i : ℕ) → i < k → unset m (b + i) ≡ false) → PickLoop m n out₀ out j (b + k)
  skip k h z = record {
    at = h;
    few = w.few;
    got = w.got;
    many = w.many;
    is = w.is;
    left = ap (λ (l : List ℕ). w.got ++ take (n - j) l) (sym (pass_no b k (unset m) h z)) ∙ w.left;
  }

  pub picked_full : b < 1560 → full_byte m b ≡ true → PickLoop m n out₀ out j (b + 8)
  picked_full h e = let f = full_is m b e in skip 8 (omega arith) (full_set m b f)

  pub picked_set : b < 1560 → has m b ≡ true → PickLoop m n out₀ out j (b + 1)
  picked_set h e = skip 1 (omega arith) (λ i l. let z : b + i ≡ b = omega arith in rw (z, e))

  pub picked_clear : b < 1560 → j < n → has m b ≡ false → PickLoop m n out₀ (set out j b) (j + 1) (b + 1)
  picked_clear h l e =
      let s : n - j ≡ suc (n - (j + 1)) = omega arith in
      let z : unset m b ≡ true = ap not e in
      let g : j ≡ 0 + length w.got = omega (arith, w.many) in
      record {
        at = omega arith;
        few = omega arith;
        got = w.got ++ (b ∷ []);
        many = length-append w.got (b ∷ []) ∙ ap (λ (x : ℕ). x + 1) w.many;
        is = put_one out j b ∙ ap₂ (λ (o : List ℕ) (k : ℕ). put o k (b ∷ [])) w.is g ∙ put-append out₀ 0 w.got (b ∷ []);
        left = append_assoc w.got (b ∷ []) (take (n - (j + 1)) (satisfying (1560 - (b + 1)) (b + 1) (unset m)))
            ∙ sym (ap₂ (λ (k : ℕ) (x : List ℕ). w.got ++ take k x) s (pass_yes b (unset m) h z)) ∙ w.left;
      }

  picked_long : length out ≡ length out₀
  picked_long = ap length w.is ∙ length-put out₀ 0 w.got

  ends : take (n - j) (satisfying (1560 - b) b (unset m)) ≡ [] → out ≡ put out₀ 0 (lowest_clear_bits m n)
  ends e = w.is ∙ ap (put out₀ 0) (sym (append-nil w.got) ∙ ap (λ (x : List ℕ). w.got ++ x) (sym e) ∙ w.left)

  picked_all : n ≤ j → out ≡ put out₀ 0 (lowest_clear_bits m n)
  picked_all h = let e : n - j ≡ 0 = omega arith in ends (rw e)

  -- the list is full, so that what is left would lie past its end
  picked_room : length out ≤ j → out ≡ put out₀ 0 (lowest_clear_bits m n)
  picked_room h =
      let z : List ℕ = take (n - j) (satisfying (1560 - b) b (unset m)) in
      w.is ∙ put_past (put out₀ 0 w.got) (0 + length w.got) z (omega (arith, picked_long, w.many, length-put out₀ 0 w.got))
      ∙ put-append out₀ 0 w.got z ∙ ap (put out₀ 0) w.left

  -- as many as are asked for and there is room for
  pub picked_done : (room : ℕ) → room ≡ min n (length out₀) → room ≤ j → out ≡ put out₀ 0 (lowest_clear_bits m n)
  picked_done room e h =
      ⊎_elim (λ (l : j < n). picked_room (omega (arith, picked_long))) (λ (l : n ≤ j). picked_all l) (below_or_not j n)

  pub picked_end : 1560 ≤ b → out ≡ put out₀ 0 (lowest_clear_bits m n)
  unfolding satisfying
  picked_end h = let e : 1560 - b ≡ 0 = omega arith in ends (rw e (take-nil (n - j)))
