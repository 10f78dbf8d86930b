-- The first refusal in a fixed order: rows at a slot, slots from the lowest, one pass after another.
use Rattle.std.specs.Prelude.{ℕ, zero, suc, ◌≤◌, ◌<◌, ◌≡◌, Bool, true, false, cond, ◌&&◌, List, [], ◌∷◌, map, ◌⊎◌, ltb}
use Rattle.std.proofs.Math.Option.{Option, none, some}

-- "A refused call returns the number, and the slot ..": the table's number, and the slot, from 1, or 0
pub record Refusal : Type 0 where
  pub number : ℕ
  pub slot : ℕ

abbrev pub refuse : ℕ → ℕ → Refusal
refuse n s = record { number = n; slot = s }

-- no refusal, or the one that is given
abbrev pub Reply : Type 0
Reply = Option Refusal

-- the first of two that there is
module _ {A : Type 0} where
  infixr 60 ◌else◌
  abbrev pub ◌else◌ : Option A → Option A → Option A
  some r else q = some r
  none else q = q

-- a row of the table: its number, given when its test holds
pub record Row : Type 0 where
  pub number : ℕ
  pub holds : Bool

infix 20 ◌when◌
abbrev pub ◌when◌ : ℕ → Bool → Row
n when t = record { number = n; holds = t }

-- the first row that holds, at a slot
abbrev pub rows : ℕ → List Row → Reply
rows s [] = none
rows s (r ∷ rs) = cond r.holds (some (refuse r.number s)) (rows s rs)

-- one row at a slot
abbrev pub row : ℕ → ℕ → Bool → Reply
row n s t = rows s ((n when t) ∷ [])

-- the first answer among n numbers from i on
module _ {A : Type 0} where
  unfoldable pub scan_from : ℕ → ℕ → (ℕ → Option A) → Option A
  scan_from zero i f = none
  scan_from (suc n) i f = f i else scan_from n (suc i) f

  -- the first answer among the numbers below n
  unfoldable pub scan : ℕ → (ℕ → Option A) → Option A
  scan n f = scan_from n 0 f

-- ---- what it means to be the first

-- no row holds
abbrev pub RowsClear : List Row → Type 0
RowsClear [] = Unit {0}
RowsClear (r ∷ rs) = (r.holds ≡ false) × RowsClear rs

-- a number whose row holds, and no row before it does
abbrev pub FirstRow : ℕ → List Row → Type 0
FirstRow n [] = ⊥
FirstRow n (r ∷ rs) = ((r.holds ≡ true) × (r.number ≡ n)) ⊎ ((r.holds ≡ false) × FirstRow n rs)

-- the first number below n that has an answer, and that answer
pub record FirstAt {A : Type 0} (n : ℕ) (f : ℕ → Option A) (a : A) : Type 0 where
  pub at : ℕ
  pub below : at < n
  pub before : (k : ℕ) → k < at → f k ≡ none
  pub here : f at ≡ some a

-- ---- rows, each with its slot

-- a row of the table: its number, and the slot that it is given at, where its test holds
pub record SlotRow : Type 0 where
  pub number : ℕ
  pub slot : ℕ
  pub holds : Bool

abbrev pub row_at : ℕ → ℕ → Bool → SlotRow
row_at n s t = record { number = n; slot = s; holds = t }

-- no row holds
abbrev pub NoRow : List SlotRow → Type 0
NoRow [] = Unit {0}
NoRow (r ∷ rs) = (r.holds ≡ false) × NoRow rs

-- a refusal whose row holds, and no row before it does
abbrev pub FirstSlotRow : Refusal → List SlotRow → Type 0
FirstSlotRow x [] = ⊥
FirstSlotRow x (r ∷ rs) = ((r.holds ≡ true) × (refuse r.number r.slot ≡ x)) ⊎ ((r.holds ≡ false) × FirstSlotRow x rs)

-- the same rows without their slots
abbrev pub without_slots : List SlotRow → List Row
without_slots rs = map (λ (r : SlotRow). r.number when r.holds) rs

-- ---- the lowest number

-- each number is above the one before it, and the first above n
abbrev pub rises_from : ℕ → List Row → Bool
rises_from n [] = true
rises_from n (r ∷ rs) = ltb n r.number && rises_from r.number rs

-- the numbers rise, and none is 0
abbrev pub rises : List Row → Bool
rises rs = rises_from 0 rs

-- a row with that number holds
abbrev pub Applies : ℕ → List Row → Type 0
Applies n [] = ⊥
Applies n (r ∷ rs) = ((r.holds ≡ true) × (r.number ≡ n)) ⊎ Applies n rs

-- "the lowest that applies"
pub record LowestRow (n : ℕ) (rs : List Row) : Type 0 where
  pub applies : Applies n rs
  pub least : (m : ℕ) → Applies m rs → n ≤ m
