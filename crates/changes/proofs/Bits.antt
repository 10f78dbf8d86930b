-- The bits of a mark, by the definition's arithmetic: tried at every byte.
use Prim.Native.Nat.{ℕ, zero, suc, ◌+◌, ◌*◌, ◌/◌, ◌%◌, ◌<◌}
use mathlib.Core.Path.{◌≡◌, refl}
use mathlib.Core.Bool.{Bool, true, ◌&&◌, and-eq-true_iff}
use mathlib.Core.Logic.{⊎_elim}
use native.Mathlib.Nat.{not-suc-le-zero}
use native.Mathlib.Omega.{arith}
use borrow.Author.Tests.{eqb-true}
use lib.Bits.{bit_or, bit_and}
use lib.Dec.{eqb}
use Rattle.buffers.proofs.Lists.{below_or_not}

-- a test holds of every number below n
abbrev holds_below : ℕ → (ℕ → Bool) → Bool
holds_below zero p = true
holds_below (suc n) p = p n && holds_below n p

held : (n : ℕ) (p : ℕ → Bool) → holds_below n p ≡ true → (i : ℕ) → i < n → p i ≡ true
held zero p e i h = absurd (not-suc-le-zero h)
held (suc n) p e i h =
    let c = (and-eq-true_iff (p n) (holds_below n p)).0 e in
    ⊎_elim (λ (l : i < n). held n p c.1 i l) (λ l. let z : i ≡ n = omega arith in rw z c.0) (below_or_not i n)

pub hide_bits : (x : ℕ) → x < 256 → bit_or x 128 ≡ x % 128 + 128
hide_bits x h = eqb-true (bit_or x 128) (x % 128 + 128) (held 256 (λ x. eqb (bit_or x 128) (x % 128 + 128)) refl x h)

pub show_bits : (x : ℕ) → x < 256 → bit_and x 127 ≡ x % 128
show_bits x h = eqb-true (bit_and x 127) (x % 128) (held 256 (λ x. eqb (bit_and x 127) (x % 128)) refl x h)

pub protect_bits : (x : ℕ) → x < 256 → bit_or x 64 ≡ x / 128 * 128 + 64 + x % 64
protect_bits x h =
    eqb-true (bit_or x 64) (x / 128 * 128 + 64 + x % 64) (held 256 (λ x. eqb (bit_or x 64) (x / 128 * 128 + 64 + x % 64)) refl x h)

pub release_bits : (x : ℕ) → x < 256 → bit_and x 191 ≡ x / 128 * 128 + x % 64
release_bits x h =
    eqb-true (bit_and x 191) (x / 128 * 128 + x % 64) (held 256 (λ x. eqb (bit_and x 191) (x / 128 * 128 + x % 64)) refl x h)
