-- A call is lent the first k of some numbers xs, as many as the bytes b have room for and enough for all that it can name: what it
-- gave, with the numbers as bytes.
use Prim.Native.Nat.{ℕ, ◌*◌, ◌/◌, ◌≤◌, ◌<◌, min}
use mathlib.Core.Path.{◌≡◌, refl, sym, ap, ◌∙◌}
use mathlib.Core.List.{List, ◌++◌}
use mathlib.Core.Logic.{◌⊎◌, inl, inr}
use native.Mathlib.Omega.{arith}
use borrow.Author.Tests.{lt-ltb, le-ltb}
use lib.Dec.{ltb}
use lib.ListN.{length, take, drop, length-take, length-append, length-drop}
use lib.Seq.{take-append-le}
use Rattle.buffers.specs.Bytes.{part, put}
use Rattle.buffers.proofs.Lists.{below_or_not, length-put, part-put}
use Rattle.refusals.specs.Order.{Refusal}
use Rattle.refusals.specs.Answers.{Outcome, done, refused}
use Rattle.plans.specs.Plan.{Result, refused_result, new_disk, Changed, changed, changed_by}
use Rattle.byte_lists.specs.Lists.{in_bytes, change_bytes_by}

pub least-room : (r n x : ℕ) → x ≤ n → ltb (min r n) x ≡ ltb r x
least-room r n x h = by (below_or_not r x)
  where
    by : (r < x) ⊎ (x ≤ r) → ltb (min r n) x ≡ ltb r x
    by (inl k) = rw (lt-ltb (min r n) x (omega arith), lt-ltb r x k)
    by (inr k) = rw (le-ltb (min r n) x (omega arith), le-ltb r x k)

pub lent_long : (xs : List ℕ) (k r : ℕ) → k ≡ min r (length xs) → k ≡ length (take k xs)
lent_long xs k r room = omega (arith, length-take k xs)

pub lent_of : (xs : List ℕ) (k r n : ℕ) → k ≡ min r n → length xs ≡ n → k ≡ min r (length xs)
lent_of xs k r n e l = e ∙ ap (min r) (sym l)

pub back_long : (xs ys : List ℕ) (k : ℕ) → length ys ≡ length (take k xs) → length xs ≡ length (ys ++ drop k xs)
back_long xs ys k e = omega (arith, length-append ys (drop k xs), length-drop k xs, length-take k xs)

-- ---- what was named

-- the sectors ss, as many as a call answers, stand at the front of the numbers, and the bytes b have room for them
pub record Named (n : ℕ) (b numbers ss : List ℕ) : Type 0 where
  pub many : n ≡ length ss
  pub room : (n ≤ length numbers) × (2 * n ≤ length b)
  pub first : take n numbers ≡ ss

module _ (xs b : List ℕ) (k : ℕ) (room : k ≡ min (length b / 2) (length xs)) where
  pub named : (n : ℕ) (ys ss : List ℕ) → n ≡ length ss → ys ≡ put (take k xs) 0 ss → n ≤ length (take k xs) → Named n b (ys ++ drop k xs) ss
  unfolding part
  named n ys ss e p h =
      let l : length ys ≡ length (take k xs) = ap length p ∙ length-put (take k xs) 0 ss in
      record {
        many = e;
        room = (omega (arith, back_long xs ys k l, length-take k xs), omega (arith, length-take k xs));
        first =
            take-append-le n ys (drop k xs) (omega (arith, l)) ∙ ap (λ (m : ℕ). take m ys) e ∙ ap (take (length ss)) p
            ∙ part-put (take k xs) 0 ss (omega arith);
      }

pub named_done : (n : ℕ) (b numbers ss : List ℕ) → Named n b numbers ss → done n 0 ≡ done (length ss) 0
named_done n b numbers ss w = ap (λ (m : ℕ). done m 0) w.many

pub named_put : (n : ℕ) (b numbers ss b' : List ℕ) → Named n b numbers ss → b' ≡ put b 0 (in_bytes (take n numbers)) → b' ≡ put b 0 (in_bytes ss)
named_put n b numbers ss b' w q = q ∙ ap (λ (x : List ℕ). put b 0 (in_bytes x)) w.first

-- outcome, image and list make what a call gives
whole : {o p : Outcome} {d e x y : List ℕ} → o ≡ p → d ≡ e → x ≡ y → changed o d x ≡ changed p e y
whole a b c = rw (a, b, c)

-- what comes of it with a list of so many numbers: more than it can need makes no difference
pub lent_same : (ran : ℕ → Result) (xs : List ℕ) (k r : ℕ) → k ≡ min r (length xs) → ran (min r (length xs)) ≡ ran r → ran (length (take k xs)) ≡ ran r
lent_same ran xs k r room same = ap ran (sym (lent_long xs k r room) ∙ room) ∙ same

module _ (ran : ℕ → Result) (d b xs : List ℕ) (k : ℕ) (room : k ≡ min (length b / 2) (length xs)) (same : ran (min (length b / 2) (length xs)) ≡ ran (length b / 2))
    (fits : (n : ℕ) (new ss : List ℕ) → ran n ≡ new_disk new ss → length ss ≤ n) where
  -- what was accepted
  lent_done : (n : ℕ) (d' ys : List ℕ) → changed (done n 0) d' ys ≡ changed_by (ran (length (take k xs))) d (take k xs)
      → (ss : List ℕ) × (ran (length b / 2) ≡ new_disk d' ss) × Named n b (ys ++ drop k xs) ss
  lent_done n d' ys e = by (ran (length (take k xs))) refl e
    where
      by : (x : Result) → ran (length (take k xs)) ≡ x → changed (done n 0) d' ys ≡ changed_by x d (take k xs) → (ss : List ℕ) × (ran (length b / 2) ≡ new_disk d' ss) × Named n b (ys ++ drop k xs) ss
      by (refused_result r) q w =
          let o : done n 0 ≡ refused r = ap (λ (x : Changed). x.outcome) w in
          let z : ◌≡◌ {A = ℕ} 0 1 = cc in
          absurd (omega arith)
      by (new_disk new ss) q w =
          let f = fits (length (take k xs)) new ss q in
          let o : done n 0 ≡ done (length ss) 0 = ap (λ (x : Changed). x.outcome) w in
          let m : n ≡ length ss = cc in
          let i : d' ≡ new = ap (λ (x : Changed). x.image) w in
          let l : ys ≡ put (take k xs) 0 ss = ap (λ (x : Changed). x.list) w in
          (ss, sym (lent_same ran xs k (length b / 2) room same) ∙ q ∙ ap (λ (a : List ℕ). new_disk a ss) (sym i), named xs b k room n ys ss m l (omega arith))

  pub lent_room : (n : ℕ) (d' ys : List ℕ) → changed (done n 0) d' ys ≡ changed_by (ran (length (take k xs))) d (take k xs)
      → (n ≤ length (ys ++ drop k xs)) × (2 * n ≤ length b)
  lent_room n d' ys e = (lent_done n d' ys e).2.room

  pub lent_is : (n : ℕ) (d' ys : List ℕ) → changed (done n 0) d' ys ≡ changed_by (ran (length (take k xs))) d (take k xs)
      → (b' : List ℕ) → b' ≡ put b 0 (in_bytes (take n (ys ++ drop k xs))) → changed (done n 0) d' b' ≡ change_bytes_by (ran (length b / 2)) d b
  lent_is n d' ys e b' q =
      let w = lent_done n d' ys e in
      whole (named_done n b (ys ++ drop k xs) w.0 w.2) refl (named_put n b (ys ++ drop k xs) w.0 b' w.2 q) ∙ ap (λ (x : Result). change_bytes_by x d b) (sym w.1)

  -- what was refused
  pub lent_refused : (r : Refusal) (d' ys : List ℕ) → changed (refused r) d' ys ≡ changed_by (ran (length (take k xs))) d (take k xs)
      → changed (refused r) d' b ≡ change_bytes_by (ran (length b / 2)) d b
  lent_refused r d' ys e = by (ran (length (take k xs))) (lent_same ran xs k (length b / 2) room same) e
    where
      by : (x : Result) → x ≡ ran (length b / 2) → changed (refused r) d' ys ≡ changed_by x d (take k xs) → changed (refused r) d' b ≡ change_bytes_by (ran (length b / 2)) d b
      by (refused_result z) q w =
          whole (ap (λ (x : Changed). x.outcome) w) (ap (λ (x : Changed). x.image) w) refl ∙ ap (λ (x : Result). change_bytes_by x d b) q
      by (new_disk new ss) q w =
          let o : refused r ≡ done (length ss) 0 = ap (λ (x : Changed). x.outcome) w in
          let z : ◌≡◌ {A = ℕ} 0 1 = cc in
          absurd (omega arith)
