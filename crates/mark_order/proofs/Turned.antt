-- One byte of a disk turned into another, and what two marks in a row make of it.
use Prim.Native.Nat.{ℕ, zero, suc}
use mathlib.Core.Path.{◌≡◌, refl, sym, ap, ◌∙◌}
use mathlib.Core.List.{List, [], ◌∷◌}
use native.Mathlib.Omega.{arith}
use lib.ListN.{get_or, set}
use lib.Seq.{get_or-set_other, set_comm}
use Rattle.plans.specs.Change.{Mark, hide, show, protect, release, marked_byte}
use Rattle.mark_order.specs.MarkCalls.{hide_pair}

abbrev pub turned : (ℕ → ℕ) → ℕ → List ℕ → List ℕ
turned f a d = set d a (f (get_or d a 0))

-- a byte turned twice is turned once
pub turned_twice : (f g : ℕ → ℕ) (a : ℕ) (d : List ℕ) → turned g a (turned f a d) ≡ turned (λ x. g (f x)) a d
turned_twice f g a [] = refl
turned_twice f g zero (x ∷ d) = refl
turned_twice f g (suc a) (x ∷ d) = ap (λ (y : List ℕ). x ∷ y) (turned_twice f g a d)

-- two bytes are turned in either order
pub turned_apart : (f g : ℕ → ℕ) (a b : ℕ) (d : List ℕ) → (a ≡ b → ⊥) → turned g b (turned f a d) ≡ turned f a (turned g b d)
turned_apart f g a b d h =
    ap (λ (x : ℕ). set (turned f a d) b (g x)) (get_or-set_other d a b (f (get_or d a 0)) 0 (λ e. h (sym e)))
    ∙ set_comm d a b (f (get_or d a 0)) (g (get_or d b 0)) h
    ∙ ap (λ (x : ℕ). set (turned g b d) a (f x)) (sym (get_or-set_other d b a (g (get_or d b 0)) 0 h))

pub turned_same : (f g : ℕ → ℕ) (a : ℕ) (d : List ℕ) → ((x : ℕ) → f x ≡ g x) → turned f a d ≡ turned g a d
turned_same f g a d e = ap (set d a) (e (get_or d a 0))

-- ---- two marks of one byte

-- "the hide pair and the protect pair commute"
pub pairs_swap : (k l : Mark) (x : ℕ) → (hide_pair k ≡ hide_pair l → ⊥) → marked_byte l (marked_byte k x) ≡ marked_byte k (marked_byte l x)
pairs_swap hide hide x h = absurd (h refl)
pairs_swap hide show x h = absurd (h refl)
pairs_swap hide protect x h = omega arith
pairs_swap hide release x h = omega arith
pairs_swap show hide x h = absurd (h refl)
pairs_swap show show x h = absurd (h refl)
pairs_swap show protect x h = omega arith
pairs_swap show release x h = omega arith
pairs_swap protect hide x h = omega arith
pairs_swap protect show x h = omega arith
pairs_swap protect protect x h = absurd (h refl)
pairs_swap protect release x h = absurd (h refl)
pairs_swap release hide x h = omega arith
pairs_swap release show x h = omega arith
pairs_swap release protect x h = absurd (h refl)
pairs_swap release release x h = absurd (h refl)

-- "a mark twice is a mark once, and the later of a pair holds"
pub later-mark : (k l : Mark) (x : ℕ) → hide_pair k ≡ hide_pair l → marked_byte l (marked_byte k x) ≡ marked_byte l x
later-mark hide hide x e = omega arith
later-mark hide show x e = omega arith
later-mark hide protect x e = cc
later-mark hide release x e = cc
later-mark show hide x e = omega arith
later-mark show show x e = omega arith
later-mark show protect x e = cc
later-mark show release x e = cc
later-mark protect hide x e = cc
later-mark protect show x e = cc
later-mark protect protect x e = omega arith
later-mark protect release x e = omega arith
later-mark release hide x e = cc
later-mark release show x e = cc
later-mark release protect x e = omega arith
later-mark release release x e = omega arith
