-- Of rows whose numbers rise the first that holds has the lowest number that applies, and no number is 0.
use Prim.Native.Nat.{ℕ, ◌≤◌, ◌<◌}
use mathlib.Core.Path.{◌≡◌, refl, sym, ap, ◌∙◌}
use mathlib.Core.Bool.{Bool, true, false, not, ◌&&◌, true≢false}
use mathlib.Core.List.{List, [], ◌∷◌}
use mathlib.Core.Logic.{◌≢◌, ◌↔◌, inl, inr, ⊎_elim}
use native.Mathlib.Omega.{arith}
use borrow.Author.Tests.{ltb-true, eqb-false, not-true}
use lib.Dec.{eqb, ltb}
use Rattle.buffers.proofs.Tests.{and_both}
use Rattle.refusals.specs.Order.{Refusal, Row, FirstRow, SlotRow, FirstSlotRow, without_slots, rises_from, rises, Applies, LowestRow}
use Rattle.refusals.specs.Answers.{refusal_number}
use Rattle.refusals.specs.declared.Reason.{Reason}
use Rattle.refusals.specs.declared.Reason.TheVariants.{NotAnImage, KindUnknown, NameMissing, CountOutOfRange, BitsDiffer, FirstNotOwn, LengthTooGreat, SectorShared, NameTwice, ChainBroken, HeaderDiffers, NameNotUsable, WrongKind, StartOutOfRange, NameNotFound, NameTaken, FileProtected, NoFreeSlot, TooFewSectors, BufferTooShort, NoSuchSector, WasteSectors, NamesNotTens, TracksOutOfRange, BodyTooLong, CodeNotOwn, NoSuchDirectory, InsideItself, DirectoryNotEmpty, RecordingMoved, ReportFull, NoFreeRun}

-- ---- the lowest that applies is the first that holds

first-applies : (rs : List Row) (n : ℕ) → FirstRow n rs → Applies n rs
first-applies [] n f = f
first-applies (r ∷ rs) n f = ⊎_elim (λ a. inl a) (λ a. inr (first-applies rs n a.1)) f

-- what applies in rows that rise from above k is above k
applies_above : (rs : List Row) (k n : ℕ) → rises_from k rs ≡ true → Applies n rs → k < n
applies_above [] k n e a = absurd a
applies_above (r ∷ rs) k n e a =
    let c = and_both (ltb k r.number) (rises_from r.number rs) e in
    let h : k < r.number = ltb-true k r.number c.0 in
    ⊎_elim (λ w. omega (arith, w.1)) (λ w. omega (arith, applies_above rs r.number n c.1 w)) a

first-least : (rs : List Row) (k n : ℕ) → rises_from k rs ≡ true → FirstRow n rs → (m : ℕ) → Applies m rs → n ≤ m
first-least [] k n e f m a = absurd f
first-least (r ∷ rs) k n e f m a =
    let c = and_both (ltb k r.number) (rises_from r.number rs) e in
    ⊎_elim
    (λ x. ⊎_elim (λ y. omega (arith, x.1, y.1)) (λ y. omega (arith, x.1, applies_above rs r.number m c.1 y)) a)
    (λ x. ⊎_elim (λ y. absurd (true≢false (sym y.0 ∙ x.0))) (first-least rs r.number n c.1 x.1 m) a) f

least_first : (rs : List Row) (k n : ℕ) → rises_from k rs ≡ true → Applies n rs → ((m : ℕ) → Applies m rs → n ≤ m) → FirstRow n rs
least_first [] k n e a l = a
least_first (r ∷ rs) k n e a l = by r.holds refl (least_first rs r.number n c.1)
  where
    c : (ltb k r.number ≡ true) × (rises_from r.number rs ≡ true)
    c = and_both (ltb k r.number) (rises_from r.number rs) e

    by : (t : Bool) → r.holds ≡ t → (Applies n rs → ((m : ℕ) → Applies m rs → n ≤ m) → FirstRow n rs) → FirstRow n (r ∷ rs)
    by true q k =
        inl (q, ⊎_elim (λ w. w.1) (λ w. absurd (omega (arith, applies_above rs r.number n c.1 w, l r.number (inl (q, refl))))) a)
    by false q k = inr (q, k (⊎_elim (λ w. absurd (true≢false (sym w.0 ∙ q))) (λ w. w) a) (λ m w. l m (inr w)))

pub lowest-first : (rs : List Row) (n : ℕ) → rises rs ≡ true → FirstRow n rs ↔ LowestRow n rs
lowest-first rs n e = (
  λ f. record { applies = first-applies rs n f; least = first-least rs 0 n e f },
  λ w. least_first rs 0 n e w.applies w.least,
)

-- the same of rows with their slots
pub first_bare : (rs : List SlotRow) (x : Refusal) → FirstSlotRow x rs → FirstRow x.number (without_slots rs)
first_bare [] x f = f
first_bare (r ∷ rs) x f =
    ⊎_elim (λ a. inl (a.0, ap (λ (y : Refusal). y.number) a.1)) (λ a. inr (a.0, first_bare rs x a.1)) f

pub slot-lowest : (rs : List SlotRow) (x : Refusal) → rises (without_slots rs) ≡ true → FirstSlotRow x rs → LowestRow x.number (without_slots rs)
slot-lowest rs x e f = (lowest-first (without_slots rs) x.number e).0 (first_bare rs x f)

-- ---- no refusal has the number 0

pub positive : (r : Reason) → refusal_number r ≢ 0
positive NotAnImage = λ e. omega arith
positive KindUnknown = λ e. omega arith
positive NameMissing = λ e. omega arith
positive CountOutOfRange = λ e. omega arith
positive BitsDiffer = λ e. omega arith
positive FirstNotOwn = λ e. omega arith
positive LengthTooGreat = λ e. omega arith
positive SectorShared = λ e. omega arith
positive NameTwice = λ e. omega arith
positive ChainBroken = λ e. omega arith
positive HeaderDiffers = λ e. omega arith
positive NameNotUsable = λ e. omega arith
positive WrongKind = λ e. omega arith
positive StartOutOfRange = λ e. omega arith
positive NameNotFound = λ e. omega arith
positive NameTaken = λ e. omega arith
positive FileProtected = λ e. omega arith
positive NoFreeSlot = λ e. omega arith
positive TooFewSectors = λ e. omega arith
positive BufferTooShort = λ e. omega arith
positive NoSuchSector = λ e. omega arith
positive WasteSectors = λ e. omega arith
positive NamesNotTens = λ e. omega arith
positive TracksOutOfRange = λ e. omega arith
positive BodyTooLong = λ e. omega arith
positive CodeNotOwn = λ e. omega arith
positive NoSuchDirectory = λ e. omega arith
positive InsideItself = λ e. omega arith
positive DirectoryNotEmpty = λ e. omega arith
positive RecordingMoved = λ e. omega arith
positive ReportFull = λ e. omega arith
positive NoFreeRun = λ e. omega arith

-- no row has the number m
abbrev pub lacks : ℕ → List Row → Bool
lacks m [] = true
lacks m (r ∷ rs) = not (eqb r.number m) && lacks m rs

pub first_lacks : (m : ℕ) (rs : List Row) (n : ℕ) → lacks m rs ≡ true → FirstRow n rs → n ≢ m
first_lacks m [] n e f = absurd f
first_lacks m (r ∷ rs) n e f =
    let c = and_both (not (eqb r.number m)) (lacks m rs) e in
    let h : r.number ≢ m = eqb-false r.number m (not-true (eqb r.number m) c.0) in
    ⊎_elim (λ a z. h (a.1 ∙ z)) (λ a. first_lacks m rs n c.1 a.1) f

pub first_positive : (rs : List Row) (n : ℕ) → rises rs ≡ true → FirstRow n rs → n ≢ 0
first_positive rs n e f z = let h : 0 < n = applies_above rs 0 n e (first-applies rs n f) in omega arith

pub slot_positive : (rs : List SlotRow) (x : Refusal) → rises (without_slots rs) ≡ true → FirstSlotRow x rs → x.number ≢ 0
slot_positive rs x e f = first_positive (without_slots rs) x.number e (first_bare rs x f)
