-- The sectors of a length, and the bytes of the last sector with a piece more.
use Prim.Native.Nat.{ℕ, ◌+◌, ◌-◌, ◌*◌, ◌/◌, ◌≤◌, ◌<◌, min}
use mathlib.Core.Path.{◌≡◌, sym, ap, ap₂, ◌∙◌}
use mathlib.Core.List.{List}
use mathlib.Core.Logic.{◌≢◌, ⊎_elim}
use native.Mathlib.Omega.{arith}
use borrow.Author.Tests.{lt-ltb, le-ltb, eq-eqb, ne_eqb}
use lib.ListN.{length, drop, length-drop}
use lib.Seq.{take_all}
use Rattle.buffers.specs.Bytes.{part, put}
use Rattle.buffers.proofs.Lists.{below_or_not}
use Rattle.slots.specs.Slot.{sectors_for}
use Rattle.slots.proofs.Least.{sectors-least, sectors-some}
use Rattle.recordings.specs.declared.Record.{Record}
use Rattle.recordings.specs.Record.{last_from, last_with, record_with, zeros}
use Rattle.record_add.specs.Adding.{sectors_capped}

-- ---- the sectors of a length

pub capped_most : (n : ℕ) → 795591 < n → 1561 ≡ sectors_capped n
unfolding sectors_capped
capped_most n h = rw (lt-ltb 795591 n h)

pub capped_few : (n : ℕ) → n ≤ 795591 → sectors_for n ≡ sectors_capped n
unfolding sectors_capped
capped_few n h = rw (le-ltb 795591 n h)

-- as the code has it, with numbers as great as top
pub capped_by : (n top s m : ℕ) → 795592 ≤ top → s ≡ min n top → m ≡ min s 795592 → (m + 518) / 510 ≡ sectors_capped n
unfolding sectors_for
capped_by n top s m h es em =
    ⊎_elim (λ (l : 795591 < n). let z : m ≡ 795592 = omega arith in rw z (capped_most n l))
    (λ (l : n ≤ 795591). let z : m ≡ n = omega arith in rw z (capped_few n l)) (below_or_not 795591 n)

-- a number of sectors that a disk has is the length's own
pub capped_is : (n k : ℕ) → k ≡ sectors_capped n → k ≤ 1560 → (n ≤ 795591) × (k ≡ sectors_for n)
capped_is n k e h =
    ⊎_elim (λ (l : 795591 < n). absurd (omega (arith, capped_most n l))) (λ (l : n ≤ 795591). (l, e ∙ sym (capped_few n l))) (below_or_not 795591 n)

pub capped_le : (n k : ℕ) → k ≡ sectors_capped n → k ≤ sectors_for n
unfolding sectors_for
capped_le n k e =
    ⊎_elim (λ (l : 795591 < n). omega (arith, capped_most n l)) (λ (l : n ≤ 795591). omega (arith, capped_few n l)) (below_or_not 795591 n)

-- and else both are more than there are
pub capped_min : (n k : ℕ) → k ≡ sectors_capped n → min k 1560 ≡ min (sectors_for n) 1560
unfolding sectors_for
capped_min n k e =
    ⊎_elim (λ (l : 795591 < n). omega (arith, capped_most n l)) (λ (l : n ≤ 795591). ap (λ (k : ℕ). min k 1560) (e ∙ sym (capped_few n l))) (below_or_not 795591 n)

-- no byte of the body lies past it
pub last_le : (n f : ℕ) → f ≡ last_from n → f ≤ n
last_le n f e = omega (arith, sectors-least n)

-- a longer body has no fewer sectors
pub sectors_rise : (a b : ℕ) → sectors_for a ≤ sectors_for (a + b)
unfolding sectors_for
sectors_rise a b = omega arith

-- a record, of a body of so many bytes
abbrev pub with_long : ℕ → Record → Record
with_long n k = record {
  kind = k.kind;
  name = k.name;
  page = k.page;
  offset = k.offset;
  exec = k.exec;
  info = k.info;
  used = k.used;
  tracks = k.tracks;
  long = n;
  first = k.first;
  last = k.last;
}

-- ---- the last sector

module _ (k : Record) (x : List ℕ) where
  pub goes_on : sectors_for (k.long + length x) ≡ sectors_for k.long → (f : ℕ) → f ≡ last_from k.long → (y : List ℕ) → y ≡ put k.last (k.long - f) x
      → y ≡ last_with k x
  unfolding last_with
  goes_on e f ef y ey = ey ∙ ap (λ (f : ℕ). put k.last (k.long - f) x) ef ∙ sym (rw (eq-eqb (sectors_for (k.long + length x)) (sectors_for k.long) e))

  module _ (e : sectors_for (k.long + length x) ≢ sectors_for k.long) (f : ℕ) (ef : f ≡ last_from (k.long + length x)) where
    -- it begins in the piece
    pub begins_in : k.long ≤ f
    begins_in =
        let a = sectors-least k.long in
        let b = sectors-least (k.long + length x) in
        let c = sectors-some k.long in
        omega arith

    -- with its bytes as the code has them
    pub begins : (z : List ℕ) → z ≡ part (f - k.long) (length x) x → (y : List ℕ) → y ≡ put (zeros 510) 0 z → y ≡ last_with k x
    unfolding last_with part
    begins z ez y ey =
        ey ∙ ap (put (zeros 510) 0) (ez ∙ take_all (length x) (drop (f - k.long) x) (omega (arith, length-drop (f - k.long) x)))
        ∙ ap (λ (f : ℕ). put (zeros 510) 0 (drop (f - k.long) x)) ef ∙ sym (rw (ne_eqb (sectors_for (k.long + length x)) (sectors_for k.long) e))

  -- the whole record
  abbrev with_bytes : List ℕ → List ℕ → Record
  with_bytes f l = record {
    kind = k.kind;
    name = k.name;
    page = k.page;
    offset = k.offset;
    exec = k.exec;
    info = k.info;
    used = k.used;
    tracks = k.tracks;
    long = k.long + length x;
    first = f;
    last = l;
  }

  pub grown_is : (f l : List ℕ) → f ≡ put k.first k.long x → l ≡ last_with k x → with_bytes f l ≡ record_with k x
  unfolding record_with
  grown_is f l p q = ap₂ with_bytes p q
