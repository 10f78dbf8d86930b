-- Laws of positions: one byte after another along the links, and how many stand there.
use Prim.Native.Nat.{ℕ, zero, suc, ◌+◌, ◌-◌, ◌/◌, ◌≤◌, ◌<◌}
use mathlib.Core.Path.{◌≡◌, refl, sym, ap, ◌∙◌, subst}
use mathlib.Core.Bool.{Bool, true, false, cond}
use mathlib.Core.List.{List}
use mathlib.Core.Logic.{◌⊎◌, inl, inr, ⊎_elim}
use native.Mathlib.Nat.{add-zero, add-suc}
use native.Mathlib.Omega.{arith}
use borrow.Author.Tests.{lt-ltb, le-ltb}
use Rattle.buffers.specs.Bytes.{count}
use Rattle.buffers.proofs.Lists.{below_or_not}
use Rattle.buffers.proofs.Counts.{count_add, count_cong, count_none, count_le}
use Rattle.geometry.specs.Disk.{bit_number}
use Rattle.geometry.proofs.Laws.{number_small, place_or_end_lem, place_end}
use Rattle.readers.specs.declared.Position.{Position}
use Rattle.readers.specs.Positions.{number_or_end, next_sector_number, position_of, no_position, position_or_next, is_byte, next_position, position_after}
use Rattle.readers.specs.Pieces.{bytes_coming}

-- ---- numbers of sectors

pub number_or_end_lem : (b : ℕ) → b < 1560 → number_or_end b ≡ bit_number b
number_or_end_lem b h = ap (λ (p : ℕ). p / 512) (place_or_end_lem b h) ∙ omega arith

pub number_le : (b : ℕ) → number_or_end b ≤ 1600
number_le b =
    ⊎_elim (λ (h : b < 1560). omega (arith, number_or_end_lem b h, number_small b h))
    (λ (h : 1560 ≤ b). let e : number_or_end b ≡ 1600 = ap (λ (p : ℕ). p / 512) (place_end b h) in omega arith) (below_or_not b 1560)

-- ---- one byte further, and k

pub ahead_in : (d : List ℕ) (n o : ℕ) → o < 510 → position_or_next d n o ≡ position_of n o
unfolding position_or_next
ahead_in d n o h = rw (lt-ltb o 510 h)

pub ahead_past : (d : List ℕ) (n o : ℕ) → 510 ≤ o → position_or_next d n o ≡ position_of (next_sector_number d n) 0
unfolding position_or_next
ahead_past d n o h = rw (le-ltb o 510 h)

pub further_add : (d : List ℕ) (p : Position) (a b : ℕ) → position_after d p (a + b) ≡ position_after d (position_after d p a) b
unfolding position_after
further_add d p a zero = rw add-zero refl
further_add d p a (suc b) = rw add-suc (ap (next_position d) (further_add d p a b))

-- where no byte stands there is no further
pub stuck : (d : List ℕ) (p : Position) → is_byte p ≡ false → (k : ℕ) → position_after d p k ≡ p
unfolding position_after next_position
stuck d p h zero = refl
stuck d p h (suc k) = ap (next_position d) (stuck d p h k) ∙ rw h

module _ (d : List ℕ) (n o : ℕ) (h : n < 1600) where
  one_more : (j : ℕ) → position_after d (position_of n o) j ≡ position_of n (o + j) → position_after d (position_of n o) (suc j) ≡ position_or_next d n (o + suc j)
  unfolding position_after next_position
  one_more j e = ap (next_position d) e ∙ rw (lt-ltb n 1600 h, add-suc o j) refl

  -- in a sector's payload
  pub within : (j : ℕ) → o + j < 510 → position_after d (position_of n o) j ≡ position_of n (o + j)
  unfolding position_after
  within zero l = rw add-zero refl
  within (suc j) l = one_more j (within j (omega arith)) ∙ ahead_in d n (o + suc j) l

  -- and to its end
  pub beyond : (j : ℕ) → 1 ≤ j → o + j ≤ 510 → position_after d (position_of n o) j ≡ position_or_next d n (o + j)
  beyond zero k l = absurd (omega arith)
  beyond (suc j) k l = one_more j (within j (omega arith))

pub ahead_small : (d : List ℕ) (n o : ℕ) → (position_or_next d n o).offset < 510
ahead_small d n o =
    ⊎_elim (λ (h : o < 510). rw (ahead_in d n o h) h) (λ (h : 510 ≤ o). rw (ahead_past d n o h) (omega arith)) (below_or_not o 510)

-- ---- where a walk can stand: at a byte of a sector's payload, or nowhere

pub data AtByteOrEnd (q : Position) : Type 0 where
  there : q.sector < 1600 → q.offset < 510 → AtByteOrEnd q
  ended : q ≡ no_position → AtByteOrEnd q

leads_le : (d : List ℕ) (n : ℕ) → next_sector_number d n ≤ 1600
unfolding next_sector_number
leads_le d n = number_le _

first-stands : (n : ℕ) → n ≤ 1600 → AtByteOrEnd (position_of n 0)
first-stands n h =
    ⊎_elim (λ (l : n < 1600). there l (omega arith)) (λ (l : 1600 ≤ n). let e : n ≡ 1600 = omega arith in ended (ap (λ (n : ℕ). position_of n 0) e))
    (below_or_not n 1600)

ahead_stands : (d : List ℕ) (n o : ℕ) → n < 1600 → AtByteOrEnd (position_or_next d n o)
ahead_stands d n o h =
    ⊎_elim (λ (l : o < 510). subst AtByteOrEnd (sym (ahead_in d n o l)) (there h l))
    (λ (l : 510 ≤ o). subst AtByteOrEnd (sym (ahead_past d n o l)) (first-stands (next_sector_number d n) (leads_le d n))) (below_or_not o 510)

onward_stands : (d : List ℕ) (q : Position) → AtByteOrEnd q → AtByteOrEnd (next_position d q)
unfolding next_position
onward_stands d q (there h l) = rw (lt-ltb q.sector 1600 h) (ahead_stands d q.sector (suc q.offset) h)
onward_stands d q (ended e) = ended (ap (next_position d) e)

pub further_stands : (d : List ℕ) (q : Position) → AtByteOrEnd q → (k : ℕ) → AtByteOrEnd (position_after d q k)
unfolding position_after
further_stands d q w zero = w
further_stands d q w (suc k) = onward_stands d (position_after d q k) (further_stands d q w k)

-- ---- how many bytes come

pub coming_le : (d : List ℕ) (q : Position) (n : ℕ) → bytes_coming d q n ≤ n
unfolding bytes_coming
coming_le d q n = count_le n (λ k. is_byte (position_after d q k))

pub coming_add : (d : List ℕ) (q : Position) (a b : ℕ) → bytes_coming d q (a + b) ≡ bytes_coming d q a + bytes_coming d (position_after d q a) b
unfolding bytes_coming
coming_add d q a b =
    count_add a b (λ k. is_byte (position_after d q k))
    ∙ ap (λ (m : ℕ). count a (λ k. is_byte (position_after d q k)) + m)
    (count_cong b (λ j. is_byte (position_after d q (a + j))) (λ j. is_byte (position_after d (position_after d q a) j)) (λ j l. ap is_byte (further_add d q a j)))

-- none where the chain has ended
pub none_come : (d : List ℕ) (q : Position) → is_byte q ≡ false → (n : ℕ) → bytes_coming d q n ≡ 0
unfolding bytes_coming
none_come d q h n = count_none n (λ k. is_byte (position_after d q k)) (λ k l. ap is_byte (stuck d q h k) ∙ h)

-- all of them, where a byte stands at each
pub all_come : (d : List ℕ) (q : Position) (n : ℕ) → ((k : ℕ) → k < n → is_byte (position_after d q k) ≡ true) → bytes_coming d q n ≡ n
unfolding bytes_coming count
all_come d q zero h = refl
all_come d q (suc n) h = rw (h n (omega arith), all_come d q n (λ k l. h k (omega arith))) (omega arith)

-- all that are wanted, or the chain has ended past those that come
pub all_or_ended : (d : List ℕ) (q : Position) (n : ℕ) → (bytes_coming d q n ≡ n) ⊎ (is_byte (position_after d q (bytes_coming d q n)) ≡ false)
unfolding bytes_coming count
all_or_ended d q zero = inl refl
all_or_ended d q (suc n) = ⊎_elim more (λ (f : is_byte (position_after d q (bytes_coming d q n)) ≡ false). inr (rw (still f) (rw (add-zero (bytes_coming d q n)) f))) (all_or_ended d q n)
  where
    still : is_byte (position_after d q (bytes_coming d q n)) ≡ false → is_byte (position_after d q n) ≡ false
    still f =
        let e : n ≡ bytes_coming d q n + (n - bytes_coming d q n) = omega (arith, coming_le d q n) in
        ap (λ (k : ℕ). is_byte (position_after d q k)) e ∙ ap is_byte (further_add d q (bytes_coming d q n) (n - bytes_coming d q n) ∙ stuck d (position_after d q (bytes_coming d q n)) f (n - bytes_coming d q n)) ∙ f

    more : bytes_coming d q n ≡ n → (bytes_coming d q (suc n) ≡ suc n) ⊎ (is_byte (position_after d q (bytes_coming d q (suc n))) ≡ false)
    more e = by (is_byte (position_after d q n)) refl
      where
        by : (t : Bool) → is_byte (position_after d q n) ≡ t
            → (count n (λ k. is_byte (position_after d q k)) + cond t 1 0 ≡ suc n) ⊎ (is_byte (position_after d q (count n (λ k. is_byte (position_after d q k)) + cond t 1 0)) ≡ false)
        by true f = inl (omega (arith, e))
        by false f = inr (ap (λ (k : ℕ). is_byte (position_after d q k)) (add-zero (count n (λ k. is_byte (position_after d q k))) ∙ e) ∙ f)
