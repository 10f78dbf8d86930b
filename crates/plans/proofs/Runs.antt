-- Consecutive bits: whether a file lies on them in rising order, and the lowest run of them that is free.
use Prim.Native.Nat.{ℕ, zero, suc, ◌+◌, ◌-◌, ◌≤◌, ◌<◌}
use mathlib.Core.Path.{◌≡◌, refl, sym, ap, ◌∙◌}
use mathlib.Core.Bool.{Bool, true, false, cond, not, ◌||◌, true≢false, false≢true, and-eq-true_iff}
use mathlib.Core.List.{List}
use mathlib.Core.Logic.{◌↔◌}
use mathlib.Core.Option.{Option, none, some, some-ne-none, some-injective}
use native.Mathlib.Nat.{le_of_suc-le-suc, not-suc-le-zero, add-zero}
use native.Mathlib.Omega.{arith}
use borrow.Author.Tests.{eqb-true, eq-eqb, not-false}
use lib.Dec.{eqb}
use lib.ListN.{length, get_or}
use Rattle.buffers.proofs.Counts.{any_none, none_any}
use Rattle.maps.specs.Bits.{join}
use Rattle.maps.proofs.Laws.{bits_le, bits-join, none-share}
use Rattle.refusals.proofs.First.{scan-none, none-scan, scan-first, first-scan}
use Rattle.slots.specs.Slot.{count_of, first_of, map_of}
use Rattle.slots.proofs.Tracks.{data_is}
use Rattle.chains.specs.File.{File}
use Rattle.chains.specs.Chain.{chain_bit}
use Rattle.disk.specs.View.{view, view_slots, view_tracks}
use Rattle.disk.specs.Accepted.{AcceptedDisk}
use Rattle.disk.proofs.View.{view_extra}
use Rattle.steps.specs.Sectors.{is_listed}
use Rattle.plans.specs.Saving.{free_bit, map_with}
use Rattle.plans.specs.Gathering.{scattered, up_from, run_at, lowest_run}
use Rattle.plans.specs.Gathered.{InOrder, FreeRun, NoRun, LowestRun}
use Rattle.plans.proofs.Frame.{holds}
use Rattle.plans.proofs.Free.{Run, run_listed, free_data, free-unused, unused-free}
use Rattle.plans.proofs.NewFile.{length-map_with, has-map_with, bits-map_with, listed_at}

-- ---- the count bits from b on

pub up_long : (count b : ℕ) → length (up_from count b) ≡ count
unfolding up_from
up_long zero b = refl
up_long (suc count) b = ap suc (up_long count (suc b))

pub up_at : (count b k : ℕ) → k < count → get_or (up_from count b) k 0 ≡ b + k
unfolding up_from
up_at zero b k h = absurd (not-suc-le-zero h)
up_at (suc count) b zero h = sym (add-zero b)
up_at (suc count) b (suc k) h = up_at count (suc b) k (le_of_suc-le-suc h) ∙ omega arith

pub up_listed : (count b c : ℕ) → is_listed c (up_from count b) ≡ true → (b ≤ c) × (c < b + count)
unfolding up_from
up_listed zero b c e = absurd (false≢true e)
up_listed (suc count) b c e = by (eqb c b) refl e (up_listed count (suc b) c)
  where
    by : (t : Bool) → eqb c b ≡ t → (t || is_listed c (up_from count (suc b))) ≡ true → (is_listed c (up_from count (suc b)) ≡ true → (suc b ≤ c) × (c < suc b + count))
        → (b ≤ c) × (c < b + suc count)
    by true q w k = let z = eqb-true c b q in (omega arith, omega arith)
    by false q w k = let z = k w in (omega arith, omega arith)

pub listed_up : (count b c : ℕ) → b ≤ c → c < b + count → is_listed c (up_from count b) ≡ true
listed_up count b c h k =
    let e : get_or (up_from count b) (c - b) 0 ≡ c = up_at count b (c - b) (omega arith) ∙ omega arith in
    ap (λ (x : ℕ). is_listed x (up_from count b)) (sym e) ∙ listed_at (up_from count b) (c - b) (omega (arith, up_long count b))

-- ---- each passes a test

module _ (p : ℕ → Bool) where
  pub run_all : (count b : ℕ) → run_at p count b ≡ true → (k : ℕ) → k < count → p (b + k) ≡ true
  unfolding run_at
  run_all zero b e k h = absurd (not-suc-le-zero h)
  run_all (suc count) b e zero h = ap p (add-zero b) ∙ ((and-eq-true_iff (p b) (run_at p count (suc b))).0 e).0
  run_all (suc count) b e (suc k) h =
      ap p (omega arith) ∙ run_all count (suc b) ((and-eq-true_iff (p b) (run_at p count (suc b))).0 e).1 k (le_of_suc-le-suc h)

  pub all_run : (count b : ℕ) → ((k : ℕ) → k < count → p (b + k) ≡ true) → run_at p count b ≡ true
  unfolding run_at
  all_run zero b h = refl
  all_run (suc count) b h =
      (and-eq-true_iff (p b) (run_at p count (suc b))).1
      (ap p (sym (add-zero b)) ∙ h 0 (omega arith), all_run count (suc b) (λ k m. ap p (omega arith) ∙ h (suc k) (omega arith)))

  -- as rising bits
  pub run_is : ((b : ℕ) → p b ≡ true → b < 1560) → (count b l : ℕ) → l ≤ b → run_at p count b ≡ true → Run p l (up_from count b)
  unfolding run_at up_from
  run_is s zero b l h e = tt
  run_is s (suc count) b l h e =
      let t = (and-eq-true_iff (p b) (run_at p count (suc b))).0 e in
      (record { low = h; small = s b t.0; passes = t.0 }, run_is s count (suc b) (suc b) (omega arith) t.1)

-- ---- free runs

module _ (d : List ℕ) (count : ℕ) where
  abbrev free : ℕ → Bool
  free = free_bit (view_tracks (view d)) (view_slots (view d))

  abbrev start_at : ℕ → Option ℕ
  start_at b = cond (run_at (free_bit (view_tracks (view d)) (view_slots (view d))) count b) (some b) none

  run-free : (b : ℕ) → run_at free count b ≡ true → FreeRun d count b
  run-free b e = record {
    data_bits = λ k h. rw (← view_extra d) (free_data (view_tracks (view d)) (view_slots (view d)) (b + k) (run_all free count b e k h));
    unused = λ k h. free-unused d (b + k) (run_all free count b e k h);
  }

  free-run : (b : ℕ) → FreeRun d count b → run_at free count b ≡ true
  free-run b w = all_run free count b (λ k h. unused-free d (b + k) (w.data_bits k h) (w.unused k h))

  pub free-rises : (b : ℕ) → FreeRun d count b → Run (free_bit (view_tracks (view d)) (view_slots (view d))) 0 (up_from count b)
  free-rises b w =
      run_is free (λ c q. (data_is (view_tracks (view d)) c (free_data (view_tracks (view d)) (view_slots (view d)) c q)).0) count b 0 (omega arith) (free-run b w)

  tested : (b c : ℕ) → start_at b ≡ some c → (b ≡ c) × FreeRun d count b
  tested b c e = by (run_at free count b) refl e
    where
      by : (t : Bool) → run_at free count b ≡ t → cond {A = Option ℕ} t (some b) none ≡ some c → (b ≡ c) × FreeRun d count b
      by true q w = (some-injective b c w, run-free b q)
      by false q w = absurd (some-ne-none c (sym w))

  passed : (b : ℕ) → start_at b ≡ none → FreeRun d count b → ⊥
  passed b e w = some-ne-none b (sym (ap (λ (t : Bool). cond {A = Option ℕ} t (some b) none) (free-run b w)) ∙ e)

  skipped : (b : ℕ) → (FreeRun d count b → ⊥) → start_at b ≡ none
  skipped b u = by (run_at free count b) refl
    where
      by : (t : Bool) → run_at free count b ≡ t → cond {A = Option ℕ} t (some b) none ≡ none
      by true q = absurd (u (run-free b q))
      by false q = refl

  -- the run that is found is the lowest that is free
  pub found-run : (b : ℕ) → lowest_run (view_tracks (view d)) (view_slots (view d)) count ≡ some b → LowestRun d count b
  unfolding lowest_run
  found-run b e =
      let w = scan-first 1560 start_at b e in
      let t = tested w.at b w.here in
      rw (← t.0) (record { here = t.1; before = λ c h. passed c (w.before c h) })

  module _ (some_bits : 1 ≤ count) where
    -- a run of bits begins at one
    start_small : (b : ℕ) → FreeRun d count b → b < 1560
    start_small b w = let q = data_is (view_tracks (view d)) (b + 0) (rw (view_extra d) (w.data_bits 0 some_bits)) in omega (arith, q.0)

    -- "the lowest run of free map bits of its length that are consecutive": it is found exactly where there is one
    pub lowest-run : (b : ℕ) → (lowest_run (view_tracks (view d)) (view_slots (view d)) count ≡ some b) ↔ LowestRun d count b
    unfolding lowest_run
    lowest-run b = (
      found-run b,
      λ w. first-scan 1560 start_at b
          (record {
            at = b;
            below = start_small b w.here;
            here = ap (λ (t : Bool). cond {A = Option ℕ} t (some b) none) (free-run b w.here);
            before = λ c h. skipped c (w.before c h);
          }),
    )

    -- and none is found exactly where there is none
    pub no_run : (lowest_run (view_tracks (view d)) (view_slots (view d)) count ≡ none) ↔ NoRun d count
    unfolding lowest_run
    no_run = (λ e b w. passed b (scan-none 1560 start_at e b (start_small b w)) w, λ u. none-scan 1560 start_at (λ b h. skipped b (u b)))

-- the sectors of a file and a free run of as many: both are on the disk, and none twice
pub run-few : (d : List ℕ) → AcceptedDisk (view d) → (i : ℕ) (f : File) → (view d).files i ≡ some f → (b : ℕ) → FreeRun d (count_of f.bytes) b → count_of f.bytes ≤ 780
run-few d ok i f e b w =
    let bs : List ℕ = up_from (count_of f.bytes) b in
    let p : (ℕ → Bool) = free_bit (view_tracks (view d)) (view_slots (view d)) in
    let r : Run p 0 bs = free-rises d (count_of f.bytes) b w in
    let apart = none-share (map_with bs) (map_of f.bytes) (λ c h u v. free-unused d c (run_listed p 0 bs r c (sym (has-map_with p 0 bs r c) ∙ u)).passes i f e v) in
    omega (
      arith,
      bits-join (map_with bs) (map_of f.bytes) (length-map_with bs) apart,
      bits_le (join (map_with bs) (map_of f.bytes)),
      bits-map_with p 0 bs r,
      up_long (count_of f.bytes) b,
      (ok.accepted i f (holds d i f e).here e).bits,
    )

-- ---- in order

abbrev off_at : File → ℕ → Bool
off_at f k = not (eqb (chain_bit f.sectors (first_of f.bytes) k) (first_of f.bytes + k))

-- a file is scattered exactly where it is not "on consecutive bits in rising order"
pub in_order : (f : File) → (scattered f ≡ false) ↔ InOrder f
unfolding scattered
in_order f = (
  λ e k h.
      eqb-true (chain_bit f.sectors (first_of f.bytes) k) (first_of f.bytes + k)
      (not-false (eqb (chain_bit f.sectors (first_of f.bytes) k) (first_of f.bytes + k)) (any_none (count_of f.bytes) (off_at f) e k h)),
  λ w. none_any (count_of f.bytes) (off_at f) (λ k h. ap not (eq-eqb (chain_bit f.sectors (first_of f.bytes) k) (first_of f.bytes + k) (w k h))),
)

pub not_order : (f : File) → scattered f ≡ true → InOrder f → ⊥
not_order f e w = true≢false (sym e ∙ (in_order f).1 w)
