-- The pass that finds the lowest run of clear bits: before each turn, how many bits before it are clear.
use Prim.Native.Nat.{ℕ, ◌+◌, ◌-◌, ◌*◌, ◌/◌, ◌%◌, ◌≤◌, ◌<◌}
use mathlib.Core.Path.{◌≡◌, refl, sym, ap, ◌∙◌}
use mathlib.Core.Bool.{Bool, true, false, cond, not, ◌&&◌, true≢false}
use mathlib.Core.List.{List}
use mathlib.Core.Logic.{◌⊎◌, inl, inr, ⊎_elim}
use mathlib.Core.Option.{none, some}
use native.Mathlib.Nat.{not-suc-le-zero, zero-div}
use native.Mathlib.Omega.{arith}
use borrow.Author.Tests.{lt-ltb, le-ltb, eqb-true}
use lib.Dec.{eqb, ltb}
use lib.ListN.{get_or}
use Rattle.buffers.proofs.Lists.{below_or_not}
use Rattle.buffers.proofs.Tests.{and_both, or_either}
use Rattle.maps.specs.Bits.{has}
use Rattle.maps.proofs.Laws.{bit, has-byte}
use Rattle.refusals.proofs.First.{none-scan, first-scan}
use Rattle.plans.specs.Gathering.{run_at}
use Rattle.plans.proofs.Runs.{run_all, all_run}
use Rattle.allocation.proofs.Picked.{all_set}
use Rattle.free_runs.specs.Runs.{clear_bit, lowest_clear, uniform_byte, stretch}

-- ---- bits that are alike

-- the k bits from b on are bits of a map, and all set or all clear
pub record UniformBits (m : List ℕ) (b k : ℕ) : Type 0 where
  pub some : 1 ≤ k
  pub inside : b + k ≤ 1560
  pub same : (j : ℕ) → j < k → has m (b + j) ≡ has m b

alike_one : (m : List ℕ) (b : ℕ) → b < 1560 → UniformBits m b 1
alike_one m b h = record {
  some = omega arith;
  inside = omega arith;
  same = λ j l. let z : b + j ≡ b = omega arith in ap (has m) z;
}

-- of a byte that is full or empty
alike_bits : (x : ℕ) → (x ≡ 0) ⊎ (x ≡ 255) → (j : ℕ) → j < 8 → bit x j ≡ bit x 0
alike_bits x (inl e) j h = rw (e, zero-div)
alike_bits x (inr e) j h = rw e (all_set j h)

alike_byte : (m : List ℕ) (b : ℕ) → b < 1560 → b % 8 ≡ 0 → uniform_byte (get_or m (b / 8) 0) ≡ true → UniformBits m b 8
alike_byte m b h r e = record {
  some = omega arith;
  inside = omega arith;
  same = λ j l.
      at j l ∙ alike_bits (get_or m (b / 8) 0) whole j l
      ∙ sym (let z : b + 0 ≡ b = omega arith in ap (has m) (sym z) ∙ at 0 (omega arith));
}
  where
    whole : (get_or m (b / 8) 0 ≡ 0) ⊎ (get_or m (b / 8) 0 ≡ 255)
    whole =
        ⊎_elim (λ q. inl (eqb-true (get_or m (b / 8) 0) 0 q)) (λ q. inr (eqb-true (get_or m (b / 8) 0) 255 q))
        (or_either (eqb (get_or m (b / 8) 0) 0) (eqb (get_or m (b / 8) 0) 255) e)

    at : (j : ℕ) → j < 8 → has m (b + j) ≡ bit (get_or m (b / 8) 0) j
    at j l = let z : b + j ≡ 8 * (b / 8) + j = omega arith in ap (has m) z ∙ has-byte m (b / 8) j l

pub alike : (m : List ℕ) (b k : ℕ) → b < 1560 → k ≡ stretch m b → UniformBits m b k
unfolding stretch
alike m b k h e = rw e (by (eqb (b % 8) 0 && uniform_byte (get_or m (b / 8) 0)) refl)
  where
    by : (t : Bool) → (eqb (b % 8) 0 && uniform_byte (get_or m (b / 8) 0)) ≡ t → UniformBits m b (cond t 8 1)
    by true q = let c = and_both (eqb (b % 8) 0) (uniform_byte (get_or m (b / 8) 0)) q in alike_byte m b h (eqb-true (b % 8) 0 c.0) c.1
    by false q = alike_one m b h

-- ---- the pass

-- the last len bits before b are clear, too few for a run, and none begins before them
pub record RunLoop (m : List ℕ) (n len b : ℕ) : Type 0 where
  pub inside : len ≤ b
  pub small : b ≤ 1560
  pub short : len < n
  pub clear : (k : ℕ) → b ≤ k + len → k < b → has m k ≡ false
  pub before : (c : ℕ) → c + len < b → run_at (clear_bit m) n c ≡ false

-- a run of none begins at bit 0
pub trail_zero : (m : List ℕ) (n : ℕ) → n ≡ 0 → some 0 ≡ lowest_clear m n
unfolding lowest_clear run_at
trail_zero m n e =
    sym (first-scan 1560 (λ b. cond (run_at (clear_bit m) n b) (some b) none) 0
    (record { at = 0; below = omega arith; before = λ c q. absurd (not-suc-le-zero q); here = rw e }))

module _ (m : List ℕ) (n : ℕ) where
  run_not : (c k : ℕ) → c ≤ k → k < c + n → clear_bit m k ≡ false → run_at (clear_bit m) n c ≡ false
  run_not c k h q e = by (run_at (clear_bit m) n c) refl
    where
      by : (t : Bool) → run_at (clear_bit m) n c ≡ t → t ≡ false
      by true w =
          let z : c + (k - c) ≡ k = omega arith in
          absurd (true≢false (sym (run_all (clear_bit m) n c w (k - c) (omega arith)) ∙ ap (clear_bit m) z ∙ e))
      by false w = refl

  set-bit : (b : ℕ) → has m b ≡ true → clear_bit m b ≡ false
  set-bit b e = rw e (by (ltb b 1560))
    where
      by : (t : Bool) → (t && not true) ≡ false
      by true = refl
      by false = refl

  clear_bit_lem : (b : ℕ) → b < 1560 → has m b ≡ false → clear_bit m b ≡ true
  clear_bit_lem b h e = rw (lt-ltb b 1560 h, e)

  past_bit : clear_bit m 1560 ≡ false
  past_bit = rw (le-ltb 1560 1560 (omega arith))

  pub trail_start : (n ≡ 0 → ⊥) → RunLoop m n 0 0
  trail_start h = record {
    inside = omega arith;
    small = omega arith;
    short = omega arith;
    clear = λ k p q. absurd (not-suc-le-zero q);
    before = λ c q. absurd (not-suc-le-zero q);
  }

  module _ (len b k : ℕ) (t : RunLoop m n len b) (w : UniformBits m b k) where
    pub trail_set : has m b ≡ true → RunLoop m n 0 (b + k)
    trail_set e = record {
      inside = omega arith;
      small = w.inside;
      short = omega (arith, t.short);
      clear = λ j p q. absurd (omega arith);
      before = λ c q.
          ⊎_elim (λ (z : c + len < b). t.before c z)
          (λ (z : b ≤ c + len).
          ⊎_elim
          (λ (y : c < b). run_not c b (omega arith) (omega (arith, t.short)) (set-bit b e))
          (λ (y : b ≤ c).
          let x : b + (c - b) ≡ c = omega arith in
          run_not c c (omega arith) (omega (arith, t.short)) (set-bit c (ap (has m) (sym x) ∙ w.same (c - b) (omega arith) ∙ e)))
          (below_or_not c b)) (below_or_not (c + len) b);
    }

    module _ (e : has m b ≡ false) where
      clear_more : (j : ℕ) → b + k ≤ j + (len + k) → j < b + k → has m j ≡ false
      clear_more j p q =
          ⊎_elim (λ (z : j < b). t.clear j (omega arith) z)
          (λ (z : b ≤ j). let x : b + (j - b) ≡ j = omega arith in ap (has m) (sym x) ∙ w.same (j - b) (omega arith) ∙ e) (below_or_not j b)

      pub trail_clear : len + k < n → RunLoop m n (len + k) (b + k)
      trail_clear s = record {
        inside = omega (arith, t.inside);
        small = w.inside;
        short = s;
        clear = clear_more;
        before = λ c q. t.before c (omega arith);
      }

      pub trail_found : n ≤ len + k → some (b + k - (len + k)) ≡ lowest_clear m n
      unfolding lowest_clear
      trail_found s =
          let a : b + k - (len + k) ≡ b - len = omega (arith, t.inside) in
          let i = t.inside in
          let l = w.inside in
          sym (first-scan 1560 (λ b. cond (run_at (clear_bit m) n b) (some b) none) (b + k - (len + k))
          (record {
            at = b + k - (len + k);
            below = omega (arith, w.some);
            before = λ c q. rw (t.before c (omega arith));
            here = rw (all_run (clear_bit m) n (b + k - (len + k))
                (λ j q. clear_bit_lem (b + k - (len + k) + j) (omega (arith, t.short)) (clear_more (b + k - (len + k) + j) (omega arith) (omega (arith, t.short)))));
          }))

  pub trail_none : (len b : ℕ) → RunLoop m n len b → 1560 ≤ b → none ≡ lowest_clear m n
  unfolding lowest_clear
  trail_none len b t h = sym (none-scan 1560 (λ b. cond (run_at (clear_bit m) n b) (some b) none) (λ c q. rw (no c q)))
    where
      no : (c : ℕ) → c < 1560 → run_at (clear_bit m) n c ≡ false
      no c q =
          ⊎_elim (λ (z : c + len < b). t.before c z) (λ (z : b ≤ c + len). run_not c 1560 (omega arith) (omega (arith, t.short)) past_bit) (below_or_not (c + len) b)
