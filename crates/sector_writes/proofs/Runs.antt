-- Runs of two lists one after the other, and the data sectors that they make.
use Prim.Native.Nat.{ℕ, ◌+◌, ◌-◌, ◌≤◌, ◌<◌, min}
use mathlib.Core.Path.{◌≡◌, sym, ap, ap₂, ◌∙◌}
use mathlib.Core.Bool.{cond}
use mathlib.Core.List.{List, [], ◌∷◌, ◌++◌}
use mathlib.Core.Logic.{⊎_elim}
use native.Mathlib.Omega.{arith}
use borrow.Author.Tests.{lt-ltb}
use lib.Dec.{eqb, ltb}
use lib.ListN.{length, get_or, replicate, length-append, length-replicate, get_or-replicate, get_or-append}
use lib.Seq.{get_or-append-add}
use Rattle.buffers.specs.Bytes.{part, put}
use Rattle.buffers.proofs.Lists.{below_or_not, past_end, length-tab, get_or-tab, tab_of, length_part, part-long, part_at, put-append}
use Rattle.plans.specs.Saving.{sector_bytes}
use Rattle.sector_writes.specs.Sector.{bytes_from}

-- a byte of a list after another
pub get_or_right : (x y : List ℕ) (k i : ℕ) → k ≡ length x + i → get_or (x ++ y) k 0 ≡ get_or y i 0
get_or_right x y k i e = ap (λ (n : ℕ). get_or (x ++ y) n 0) e ∙ get_or-append-add x y i 0

pub length-bytes_from : (st : List ℕ) (from n : ℕ) → length (bytes_from st from n) ≡ n
unfolding bytes_from
length-bytes_from st from n = length-tab n (λ k. get_or st (from + k) 0)

pub run_at : (st : List ℕ) (from n k : ℕ) → k < n → get_or (bytes_from st from n) k 0 ≡ get_or st (from + k) 0
unfolding bytes_from
run_at st from n k h = get_or-tab n (λ k. get_or st (from + k) 0) k h

-- the list of these bytes is that run
run_is : (st : List ℕ) (from n : ℕ) (x : List ℕ) → length x ≡ n → ((k : ℕ) → k < n → get_or x k 0 ≡ get_or st (from + k) 0) → x ≡ bytes_from st from n
unfolding bytes_from
run_is st from n x e h = tab_of n (λ k. get_or st (from + k) 0) x e h

-- ---- a part of a list, and 0 past its end

module _ (d : List ℕ) (at : ℕ) (st : List ℕ) (from n : ℕ) (x : List ℕ) (e : x ≡ part from n st) where
  long : length x ≡ length (part from n st)
  long = ap length e

  byte : (k : ℕ) → k < n → get_or x k 0 ≡ get_or st (from + k) 0
  byte k h = ap (λ (y : List ℕ). get_or y k 0) e ∙ part_at from n st k h

  pub run-whole : n ≤ length x → (d' : List ℕ) → d' ≡ put d at x → d' ≡ put d at (bytes_from st from n)
  run-whole h d' p = p ∙ ap (put d at) (run_is st from n x (omega (arith, long, length_part from n st)) byte)

  pub run_short : length x < n → n ≤ 510 → (z : List ℕ) → z ≡ part 0 (n - length x) (replicate 510 0) → (d' d'' : List ℕ) → d' ≡ put d at x
      → d'' ≡ put d' (at + length x) z → d'' ≡ put d at (bytes_from st from n)
  run_short h l z q d' d'' p r =
      let zl : length z ≡ n - length x = ap length q ∙ part-long 0 (n - length x) (replicate 510 0) (omega (arith, length-replicate {A = ℕ} 510 0)) in
      r ∙ ap (λ (y : List ℕ). put y (at + length x) z) p ∙ put-append d at x z
      ∙ ap (put d at)
      (run_is st from n (x ++ z) (omega (arith, length-append x z))
      (λ k b.
      ⊎_elim (λ (c : k < length x). get_or-append x z 0 k c ∙ byte k b)
      (λ (c : length x ≤ k).
      get_or_right x z k (k - length x) (omega arith) ∙ ap (λ (y : List ℕ). get_or y (k - length x) 0) q
      ∙ part_at 0 (n - length x) (replicate 510 0) (k - length x) (omega arith) ∙ get_or-replicate 510 (0 + (k - length x)) 0 0 (omega arith)
      ∙ sym (past_end st (from + k) (omega (arith, long, length_part from n st))))
      (below_or_not k (length x))))

pub part-few : (from n : ℕ) (st x : List ℕ) → x ≡ part from n st → length x ≤ n
part-few from n st x e = omega (arith, ap length e, length_part from n st)

-- ---- a payload of two lists one after the other

module _ (front back d : List ℕ) (at from : ℕ) where
  -- all of it behind the first list
  pub payload-later : length front ≤ from → (d' : List ℕ) → d' ≡ put d at (bytes_from back (from - length front) 510)
      → d' ≡ put d at (bytes_from (front ++ back) from 510)
  payload-later l d' p =
      p
      ∙ ap (put d at)
      (run_is (front ++ back) from 510 (bytes_from back (from - length front) 510) (length-bytes_from back (from - length front) 510)
      (λ k h. run_at back (from - length front) 510 k h ∙ sym (get_or_right front back (from + k) (from - length front + k) (omega arith))))

  -- what the first list has of it, and then the second from its begin
  module _ (x : List ℕ) (e : x ≡ part from 510 front) where
    there : length x ≡ min 510 (length front - from)
    there = ap length e ∙ length_part from 510 front

    pub payload-first : from < length front → (d' d'' : List ℕ) → d' ≡ put d at x → d'' ≡ put d' (at + length x) (bytes_from back 0 (510 - length x))
        → d'' ≡ put d at (bytes_from (front ++ back) from 510)
    payload-first l d' d'' p q =
        q ∙ ap (λ (y : List ℕ). put y (at + length x) (bytes_from back 0 (510 - length x))) p ∙ put-append d at x (bytes_from back 0 (510 - length x))
        ∙ ap (put d at)
        (run_is (front ++ back) from 510 (x ++ bytes_from back 0 (510 - length x))
        (omega (arith, there, length-append x (bytes_from back 0 (510 - length x)), length-bytes_from back 0 (510 - length x)))
        (λ k h.
        ⊎_elim
        (λ (c : k < length x).
        get_or-append x (bytes_from back 0 (510 - length x)) 0 k c ∙ ap (λ (y : List ℕ). get_or y k 0) e ∙ part_at from 510 front k h
        ∙ sym (get_or-append front back 0 (from + k) (omega (arith, there))))
        (λ (c : length x ≤ k).
        get_or_right x (bytes_from back 0 (510 - length x)) k (k - length x) (omega arith) ∙ run_at back 0 (510 - length x) (k - length x) (omega arith)
        ∙ sym (get_or_right front back (from + k) (0 + (k - length x)) (omega (arith, there))))
        (below_or_not k (length x))))

-- ---- the sector

-- a link, by its two bytes
pub link_put : (d : List ℕ) (at t s : ℕ) (d' d'' : List ℕ) → d' ≡ put d at (t ∷ []) → d'' ≡ put d' (at + 1) (s ∷ []) → d'' ≡ put d at (t ∷ s ∷ [])
link_put d at t s d' d'' p q = q ∙ ap (λ (y : List ℕ). put y (at + 1) (s ∷ [])) p ∙ put-append d at (t ∷ []) (s ∷ [])

-- its payload, and after it the link
block_put : (d : List ℕ) (at : ℕ) (st : List ℕ) (f t s : ℕ) (d' d'' : List ℕ) → d' ≡ put d at (bytes_from st f 510) → d'' ≡ put d' (at + 510) (t ∷ s ∷ [])
    → d'' ≡ put d at (sector_bytes st f t s)
unfolding sector_bytes
block_put d at st f t s d' d'' p q =
    let l = length-bytes_from st f 510 in
    let a : at + 510 ≡ at + length (bytes_from st f 510) = omega arith in
    q ∙ ap₂ (λ (y : List ℕ) (b : ℕ). put y b (t ∷ s ∷ [])) p a ∙ put-append d at (bytes_from st f 510) (t ∷ s ∷ [])
    ∙ ap (put d at)
    (tab_of 512 (λ k. cond (ltb k 510) (get_or st (f + k) 0) (cond (eqb k 510) t s)) (bytes_from st f 510 ++ (t ∷ s ∷ []))
    (length-append (bytes_from st f 510) (t ∷ s ∷ []) ∙ ap (λ (n : ℕ). n + 2) l)
    (λ k h.
    ⊎_elim (λ (c : k < 510). get_or-append (bytes_from st f 510) (t ∷ s ∷ []) 0 k (omega arith) ∙ run_at st f 510 k c ∙ rw (lt-ltb k 510 c))
    (λ (c : 510 ≤ k).
    ⊎_elim
    (λ (b : k < 511). let e : k ≡ 510 = omega arith in rw e (get_or_right (bytes_from st f 510) (t ∷ s ∷ []) 510 0 (omega arith)))
    (λ (b : 511 ≤ k). let e : k ≡ 511 = omega arith in rw e (get_or_right (bytes_from st f 510) (t ∷ s ∷ []) 511 1 (omega arith)))
    (below_or_not k 511))
    (below_or_not k 510)))

pub block_at : (d : List ℕ) (at p : ℕ) → p ≡ at → (st : List ℕ) (f t s : ℕ) (d' d'' : List ℕ) → d' ≡ put d p (bytes_from st f 510) → d'' ≡ put d' (p + 510) (t ∷ s ∷ [])
    → d'' ≡ put d at (sector_bytes st f t s)
block_at d at p e st f t s d' d'' q r = block_put d p st f t s d' d'' q r ∙ ap (λ (a : ℕ). put d a (sector_bytes st f t s)) e
