-- A report's numbers as they are raised one after the other.
use Prim.Native.Nat.{ℕ, ◌+◌, ◌*◌, ◌%◌, ◌^◌, ◌≤◌, ◌<◌}
use mathlib.Core.Path.{◌≡◌, refl, sym, ap, ◌∙◌}
use mathlib.Core.Bool.{cond}
use mathlib.Core.List.{List}
use mathlib.Core.Logic.{⊎_elim}
use native.Mathlib.Numerals.{add-one}
use native.Mathlib.Omega.{arith}
use borrow.Author.Tests.{lt-ltb, le-ltb}
use lib.Dec.{ltb}
use lib.ListN.{length, get_or, set, length-set}
use lib.Seq.{get_or-set_same, get_or-set_other}
use Rattle.buffers.proofs.Lists.{below_or_not, get_or-tab, length-tab, tab_of}
use Rattle.reports.specs.Calls.{disks_in, raised_at, raised}
use Rattle.buffers.specs.Sums.{sum}
use Rattle.buffers.proofs.Sums.{sum_more}
use Rattle.reports.proofs.Places.{only, only-there, only-elsewhere}

-- l is r with f added, number by number
pub record Raised (r : List ℕ) (f : ℕ → ℕ) (l : List ℕ) : Type 0 where
  pub long : length l ≡ 111
  pub each : (k : ℕ) → k < 111 → get_or l k 0 ≡ (get_or r k 0 + f k) % 2 ^ 32

pub raised-none : (r : List ℕ) → length r ≡ 111 → ((k : ℕ) → get_or r k 0 < 2 ^ 32) → Raised r (λ k. 0) r
raised-none r l h = record { long = l; each = λ k m. let z = h k in omega arith }

pub raised-more : (r : List ℕ) (f : ℕ → ℕ) (l : List ℕ) → Raised r f l → (j x : ℕ) → j < 111 → {l' : List ℕ} → l' ≡ raised_at l j x
    → Raised r (λ k. f k + only j x k) l'
unfolding raised_at
raised-more r f l w j x h {l'} e = record { long = ap length e ∙ length-set l j _ ∙ w.long; each = each }
  where
    here : (k : ℕ) → k ≡ j → get_or (set l j ((get_or l j 0 + x) % 2 ^ 32)) k 0 ≡ (get_or r k 0 + (f k + only j x k)) % 2 ^ 32
    here k q =
        let a : get_or (set l j ((get_or l j 0 + x) % 2 ^ 32)) k 0 ≡ (get_or l j 0 + x) % 2 ^ 32 = ap (λ (i : ℕ). get_or (set l j ((get_or l j 0 + x) % 2 ^ 32)) i 0) q ∙ get_or-set_same l j _ 0 (omega (arith, w.long)) in
        let b : get_or l j 0 ≡ (get_or r k 0 + f k) % 2 ^ 32 = ap (λ (i : ℕ). get_or l i 0) (sym q) ∙ w.each k (omega arith) in
        let o : only j x k ≡ x = only-there j x k q in
        omega arith

    there : (k : ℕ) → k < 111 → (k ≡ j → ⊥) → get_or (set l j ((get_or l j 0 + x) % 2 ^ 32)) k 0 ≡ (get_or r k 0 + (f k + only j x k)) % 2 ^ 32
    there k m q =
        let o : only j x k ≡ 0 = only-elsewhere j x k q in
        get_or-set_other l j k _ 0 q ∙ w.each k m ∙ ap (λ (y : ℕ). (get_or r k 0 + y) % 2 ^ 32) (omega arith)

    each : (k : ℕ) → k < 111 → get_or l' k 0 ≡ (get_or r k 0 + (f k + only j x k)) % 2 ^ 32
    each k m =
        ap (λ (y : List ℕ). get_or y k 0) e
        ∙ ⊎_elim (λ (a : k < j). there k m (λ q. omega arith))
        (λ (a : j ≤ k). ⊎_elim (λ (b : j < k). there k m (λ q. omega arith)) (λ (b : k ≤ j). here k (omega arith)) (below_or_not j k)) (below_or_not k j)

pub raised-same : (r : List ℕ) (f g : ℕ → ℕ) (l : List ℕ) → Raised r f l → ((k : ℕ) → k < 111 → f k ≡ g k) → Raised r g l
raised-same r f g l w h = record { long = w.long; each = λ k m. w.each k m ∙ ap (λ (y : ℕ). (get_or r k 0 + y) % 2 ^ 32) (h k m) }

pub raised_is : (r : List ℕ) (f : ℕ → ℕ) (l : List ℕ) → Raised r f l → l ≡ raised r f
unfolding raised
raised_is r f l w = tab_of 111 (λ k. (get_or r k 0 + f k) % 2 ^ 32) l w.long w.each

-- two rises are one
pub raised-twice : (r : List ℕ) (f g : ℕ → ℕ) (l l' : List ℕ) → Raised r f l → l' ≡ raised l g → Raised r (λ k. f k + g k) l'
unfolding raised
raised-twice r f g l l' w e = record { long = ap length e ∙ length-tab 111 _; each = each }
  where
    each : (k : ℕ) → k < 111 → get_or l' k 0 ≡ (get_or r k 0 + (f k + g k)) % 2 ^ 32
    each k m =
        let a : get_or l' k 0 ≡ (get_or l k 0 + g k) % 2 ^ 32 = ap (λ (y : List ℕ). get_or y k 0) e ∙ get_or-tab 111 _ k m in
        let b : get_or l k 0 ≡ (get_or r k 0 + f k) % 2 ^ 32 = w.each k m in
        omega arith

-- ---- as the code adds another report: the numbers before place k are added

pub record AddLoop (r other : List ℕ) (l : List ℕ) (k : ℕ) : Type 0 where
  pub few : k ≤ 111
  pub numbers : Raised r (λ j. cond (ltb j k) (get_or other j 0) 0) l

pub added_none : (r other : List ℕ) → length r ≡ 111 → ((k : ℕ) → get_or r k 0 < 2 ^ 32) → AddLoop r other r 0
added_none r other l h = record { few = omega arith; numbers = raised-same r (λ j. 0) _ r (raised-none r l h) (λ j m. rw (le-ltb j 0 (omega arith))) }

pub added_more : (r other l : List ℕ) (k : ℕ) → AddLoop r other l k → k < 111 → {x : ℕ} → x ≡ get_or other k 0 → {l' : List ℕ} → l' ≡ raised_at l k x → AddLoop r other l' (k + 1)
added_more r other l k w h {x} e p = record { few = omega arith; numbers = raised-same r _ _ _ (raised-more r _ l w.numbers k x h p) (λ j m. same j) }
  where
    same : (j : ℕ) → cond (ltb j k) (get_or other j 0) 0 + only k x j ≡ cond (ltb j (k + 1)) (get_or other j 0) 0
    same j =
        ⊎_elim (λ (a : j < k). rw (lt-ltb j k a, only-elsewhere k x j (λ q. omega arith), lt-ltb j (k + 1) (omega arith)) (omega arith))
        (λ (a : k ≤ j).
        ⊎_elim (λ (b : k < j). rw (le-ltb j k a, only-elsewhere k x j (λ q. omega arith), le-ltb j (k + 1) (omega arith)))
        (λ (b : j ≤ k).
        let z : j ≡ k = omega arith in
        rw (le-ltb j k a, only-there k x j z, lt-ltb j (k + 1) (omega arith), z) (omega arith)) (below_or_not k j)) (below_or_not j k)

pub added_all : (r other l : List ℕ) (k : ℕ) → AddLoop r other l k → 111 ≤ k → l ≡ raised r (λ j. get_or other j 0)
added_all r other l k w h =
    raised_is r (λ j. get_or other j 0) l (raised-same r _ (λ j. get_or other j 0) l w.numbers (λ j m. rw (lt-ltb j k (omega arith))))

-- ---- the disks in a report, counted one number after the other

pub record SumLoop (r : List ℕ) (disks k : ℕ) : Type 0 where
  pub few : k ≤ 33
  pub is : disks ≡ sum k (λ j. get_or r j 0)
  pub small : disks ≤ k * 2 ^ 32

pub summed_none : (r : List ℕ) → SumLoop r 0 0
unfolding sum
summed_none r = record { few = omega arith; is = refl; small = omega arith }

pub summed_more : (r : List ℕ) (disks k : ℕ) → SumLoop r disks k → k < 33 → {x : ℕ} → x ≡ get_or r k 0 → x < 2 ^ 32 → SumLoop r (disks + x) (k + 1)
summed_more r disks k w h {x} e l = record { few = omega arith; is = omega (arith, w.is, sum_more k (λ j. get_or r j 0)); small = omega (arith, w.small) }

pub summed_few : (r : List ℕ) (disks k : ℕ) → SumLoop r disks k → disks ≤ 33 * 2 ^ 32
summed_few r disks k w = omega (arith, w.small, w.few)

pub summed_all : (r : List ℕ) (disks k : ℕ) → SumLoop r disks k → 33 ≤ k → disks ≡ disks_in r
unfolding disks_in
summed_all r disks k w h = let e : k ≡ 33 = omega (arith, w.few) in w.is ∙ ap (λ (n : ℕ). sum n (λ j. get_or r j 0)) e
