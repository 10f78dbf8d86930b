-- Bytes put in one sector, and steps in others: their order does not matter.
use Prim.Native.Nat.{ℕ, ◌+◌, ◌-◌, ◌≤◌, ◌<◌}
use mathlib.Core.Path.{◌≡◌, refl, sym, ap, ◌∙◌}
use mathlib.Core.Bool.{false}
use mathlib.Core.List.{List, [], ◌∷◌}
use mathlib.Core.Logic.{◌≢◌, ⊎_elim}
use native.Mathlib.Omega.{arith}
use lib.ListN.{length, get_or}
use Rattle.buffers.specs.Bytes.{put}
use Rattle.buffers.proofs.Lists.{below_or_not, past_end, length-put, put_in, put-before, put-after, put_is}
use Rattle.steps.specs.Sectors.{is_listed}
use Rattle.steps.specs.Steps.{Put, put_all, Step, InsideSector, AllInsideSector, apply, numbers, StepsHold}
use Rattle.steps.proofs.Sectors.{listed_no}

-- the same bytes put at the same place of two lists that agree at k
put_alike : (d e : List ℕ) (a : ℕ) (x : List ℕ) (k : ℕ) → length d ≡ length e → k < length d → get_or d k 0 ≡ get_or e k 0 → get_or (put d a x) k 0 ≡ get_or (put e a x) k 0
put_alike d e a x k l m q =
    ⊎_elim (λ (h : k < a). put-before d a x k h ∙ q ∙ sym (put-before e a x k h))
    (λ (h : a ≤ k).
    ⊎_elim
    (λ (n : k < a + length x).
    let w : k ≡ a + (k - a) = omega arith in
    rw w (put_in d a x (k - a) (omega arith) (omega arith) ∙ sym (put_in e a x (k - a) (omega arith) (omega arith))))
    (λ (n : a + length x ≤ k). put-after d a x k n ∙ q ∙ sym (put-after e a x k n))
    (below_or_not k (a + length x)))
    (below_or_not k a)

put_turn : (d : List ℕ) (a : ℕ) (x : List ℕ) (b : ℕ) (y : List ℕ) → a + length x ≤ b → put (put d b y) a x ≡ put (put d a x) b y
put_turn d a x b y h =
    put_is (put d a x) b y (put (put d b y) a x) (length-put (put d b y) a x ∙ length-put d b y ∙ sym (length-put d a x))
    (λ i p q. put-after (put d b y) a x (b + i) (omega arith) ∙ put_in d b y i p (omega (arith, length-put d a x)))
    (λ k p.
    ⊎_elim (λ (m : k < length d). put_alike (put d b y) d a x k (length-put d b y) (omega (arith, length-put d b y)) (put-before d b y k p))
    (λ (m : length d ≤ k). ⊎_elim (λ (n : k < a). put-before (put d b y) a x k n ∙ put-before d b y k p ∙ sym (put-before d a x k n))
    (λ (n : a ≤ k). tail k m p) (below_or_not k a)) (below_or_not k (length d)))
    (λ k p q. put-after (put d b y) a x k (omega arith) ∙ put-after d b y k p ∙ sym (put-after d a x k (omega arith)))
  where
    tail : (k : ℕ) → length d ≤ k → k < b → get_or (put (put d b y) a x) k 0 ≡ get_or (put d a x) k 0
    tail k m p = past_end (put (put d b y) a x) k (omega (arith, length-put (put d b y) a x, length-put d b y)) ∙ sym (past_end (put d a x) k (omega (arith, length-put d a x)))

module _ (s : ℕ) (p : Put) (w : InsideSector s p) where
  put_swap : (t : ℕ) (q : Put) → InsideSector t q → t ≢ s → (d : List ℕ) → put (put d p.place p.bytes) q.place q.bytes ≡ put (put d q.place q.bytes) p.place p.bytes
  put_swap t q v e d =
      ⊎_elim (λ (m : t < s). put_turn d q.place q.bytes p.place p.bytes (omega arith))
      (λ (m : s ≤ t).
      let z : s < t = omega arith in
      sym (put_turn d p.place p.bytes q.place q.bytes (omega arith)))
      (below_or_not t s)

  put_all_swap : (t : ℕ) (qs : List Put) → AllInsideSector t qs → t ≢ s → (d : List ℕ) → put_all (put d p.place p.bytes) qs ≡ put (put_all d qs) p.place p.bytes
  unfolding put_all
  put_all_swap t [] v e d = refl
  put_all_swap t (q ∷ qs) v e d =
      ap (λ (x : List ℕ). put_all x qs) (put_swap t q v.0 e d) ∙ put_all_swap t qs v.1 e (put d q.place q.bytes)

module _ {S : Type 0} (view : List ℕ → S) (Ok : S → Type 0) where
  pub apply_swap : (s : ℕ) (p : Put) (sts : List (Step S)) (d : List ℕ) → InsideSector s p → StepsHold view Ok d sts → is_listed s (numbers sts) ≡ false
      → apply (put d p.place p.bytes) sts ≡ put (apply d sts) p.place p.bytes
  unfolding apply numbers
  apply_swap s p [] d w g e = refl
  apply_swap s p (st ∷ sts) d w g e =
      let c = listed_no s st.at (numbers sts) e in
      ap (λ (x : List ℕ). apply x sts) (put_all_swap s p w st.at st.puts g.0.inside (λ q. c.0 (sym q)) d)
      ∙ apply_swap s p sts (put_all d st.puts) w g.1 c.1
