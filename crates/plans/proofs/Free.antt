-- What a save takes: the lowest free bits, as many as the body needs, and the lowest slot that holds no file.
use Prim.Native.Nat.{ℕ, zero, suc, ◌+◌, ◌≤◌, ◌<◌}
use mathlib.Core.Path.{◌≡◌, refl, sym, ap, ap₂, ◌∙◌, subst}
use mathlib.Core.Bool.{Bool, true, false, cond, not, ◌&&◌, ◌||◌, true≢false, false≢true, and-eq-true_iff}
use mathlib.Core.List.{List, [], ◌∷◌}
use mathlib.Core.Logic.{⊎_elim}
use mathlib.Core.Option.{Option, none, some, some-ne-none}
use native.Mathlib.Nat.{eq-or-lt_of_le, le_of_suc-le-suc, not-suc-le-zero, add-zero, zero-add}
use native.Mathlib.Omega.{arith}
use borrow.Author.Tests.{eqb-true, eq-eqb, ne_eqb, not-true}
use lib.Dec.{eqb}
use lib.ListN.{length, get_or, take, drop}
use lib.Seq.{length-take-le}
use Rattle.buffers.specs.Bytes.{count, any}
use Rattle.buffers.proofs.Counts.{count_add, count_cong, count_less, any_none, none_any, some-any}
use Rattle.refusals.proofs.First.{scan-none, scan-first}
use Rattle.maps.specs.Bits.{has, bits_of}
use Rattle.slots.specs.Slot.{map_of, sectors_for}
use Rattle.slots.specs.Tracks.{data_bit}
use Rattle.slots.proofs.Tracks.{tracks-few, data_is, count_data}
use Rattle.chains.specs.File.{File}
use Rattle.directory.specs.Places.{slot_count, slots}
use Rattle.directory.specs.Directory.{fold_option, Directory, tracks_of}
use Rattle.surveys.specs.Survey.{union, counted, used_map, free_of, free}
use Rattle.directory.proofs.Places.{slot-few}
use Rattle.surveys.proofs.Union.{has-union}
use Rattle.disk.specs.View.{View, view, view_slots, view_tracks}
use Rattle.disk.specs.Accepted.{AcceptedDisk}
use Rattle.disk.proofs.View.{view_extra}
use Rattle.steps.specs.Sectors.{is_listed, Once}
use Rattle.steps.proofs.Sectors.{listed_tail}
use Rattle.plans.specs.Change.{SaveRequest}
use Rattle.plans.specs.Saving.{satisfying, free_bit, taken_bits, lowest_slot}
use Rattle.plans.specs.Allowed.{UnusedBit}
use Rattle.plans.proofs.Frame.{slots-some, slot-file, slot-none, holds}

-- ---- runs

-- a map bit, not below l, that passes a test
pub record PassesFrom (p : ℕ → Bool) (l b : ℕ) : Type 0 where
  pub low : l ≤ b
  pub small : b < 1560
  pub passes : p b ≡ true

-- map bits that rise from l on, each passing a test
abbrev pub Run : (ℕ → Bool) → ℕ → List ℕ → Type 0
Run p l [] = Unit {0}
Run p l (b ∷ bs) = PassesFrom p l b × Run p (suc b) bs

module _ (p : ℕ → Bool) where
  from_lower : (k l b : ℕ) → k ≤ l → PassesFrom p l b → PassesFrom p k b
  from_lower k l b h f = record { low = omega arith; small = f.small; passes = f.passes }

  run-lower : (k l : ℕ) (bs : List ℕ) → k ≤ l → Run p l bs → Run p k bs
  run-lower k l [] h r = tt
  run-lower k l (b ∷ bs) h r = (from_lower k l b h r.0, r.1)

  pub run_take : (l n : ℕ) (bs : List ℕ) → Run p l bs → Run p l (take n bs)
  run_take l zero bs r = tt
  run_take l (suc n) [] r = tt
  run_take l (suc n) (b ∷ bs) r = (r.0, run_take (suc b) n bs r.1)

  pub run_drop : (s l : ℕ) (bs : List ℕ) → Run p l bs → Run p l (drop s bs)
  run_drop zero l bs r = r
  run_drop (suc s) l [] r = tt
  run_drop (suc s) l (b ∷ bs) r = run-lower l (suc b) (drop s bs) (omega (arith, r.0.low)) (run_drop s (suc b) bs r.1)

  pub run_listed : (l : ℕ) (bs : List ℕ) → Run p l bs → (c : ℕ) → is_listed c bs ≡ true → PassesFrom p l c
  run_listed l [] r c e = absurd (false≢true e)
  run_listed l (b ∷ bs) r c e = by (eqb c b) refl e (run_listed (suc b) bs r.1 c)
    where
      by : (t : Bool) → eqb c b ≡ t → (t || is_listed c bs) ≡ true → (is_listed c bs ≡ true → PassesFrom p (suc b) c) → PassesFrom p l c
      by true q w k = subst (PassesFrom p l) (sym (eqb-true c b q)) r.0
      by false q w k = let f : l ≤ b = r.0.low in from_lower l (suc b) c (omega arith) (k w)

  -- what is lower than the first is not among them
  pub run-fresh : (b c : ℕ) (bs : List ℕ) → c ≤ b → Run p (suc b) bs → is_listed c bs ≡ false
  run-fresh b c bs h r = by (is_listed c bs) refl
    where
      by : (t : Bool) → is_listed c bs ≡ t → t ≡ false
      by true e = absurd (omega (arith, (run_listed (suc b) bs r c e).low))
      by false e = refl

  pub run-once : (l : ℕ) (bs : List ℕ) → Run p l bs → Once bs
  run-once l [] r = tt
  run-once l (b ∷ bs) r = (run-fresh b b bs (omega arith) r.1, run-once (suc b) bs r.1)

  -- by place
  pub run_at : (l : ℕ) (bs : List ℕ) → Run p l bs → (k : ℕ) → k < length bs → PassesFrom p l (get_or bs k 0)
  run_at l [] r k h = absurd (not-suc-le-zero h)
  run_at l (b ∷ bs) r zero h = r.0
  run_at l (b ∷ bs) r (suc k) h =
      let f : l ≤ b = r.0.low in
      from_lower l (suc b) (get_or bs k 0) (omega arith) (run_at (suc b) bs r.1 k (le_of_suc-le-suc h))

  pub run-rises : (l : ℕ) (bs : List ℕ) → Run p l bs → (j k : ℕ) → j < k → k < length bs → get_or bs j 0 < get_or bs k 0
  run-rises l bs r j zero h m = absurd (not-suc-le-zero h)
  run-rises l [] r j (suc k) h m = absurd (not-suc-le-zero m)
  run-rises l (b ∷ bs) r zero (suc k) h m = (run_at (suc b) bs r.1 k (le_of_suc-le-suc m)).low
  run-rises l (b ∷ bs) r (suc j) (suc k) h m = run-rises (suc b) bs r.1 j k (le_of_suc-le-suc h) (le_of_suc-le-suc m)

  -- ---- the numbers that pass

  pub passing_run : (n i : ℕ) → i + n ≤ 1560 → Run p i (satisfying n i p)
  unfolding satisfying
  passing_run zero i h = tt
  passing_run (suc n) i h = by (p i) refl (passing_run n (suc i) (omega arith))
    where
      by : (t : Bool) → p i ≡ t → Run p (suc i) (satisfying n (suc i) p) → Run p i (cond t (i ∷ satisfying n (suc i) p) (satisfying n (suc i) p))
      by true e r = (record { low = omega arith; small = omega arith; passes = e }, r)
      by false e r = run-lower i (suc i) (satisfying n (suc i) p) (omega arith) r

  pub passing_long : (n i : ℕ) → length (satisfying n i p) ≡ count n (λ j. p (i + j))
  unfolding satisfying count
  passing_long zero i = refl
  passing_long (suc n) i =
      let e : suc n ≡ 1 + n = omega arith in
      first (p i) ∙ sym (ap (λ (k : ℕ). count k (λ j. p (i + j))) e ∙ count_add 1 n (λ j. p (i + j)) ∙ rest (passing_long n (suc i)))
    where
      first : (t : Bool) → length (cond t (i ∷ satisfying n (suc i) p) (satisfying n (suc i) p)) ≡ cond t 1 0 + length (satisfying n (suc i) p)
      first true = omega arith
      first false = omega arith

      rest : length (satisfying n (suc i) p) ≡ count n (λ j. p (suc i + j))
          → 0 + cond (p (i + 0)) 1 0 + count n (λ j. p (i + (1 + j))) ≡ cond (p i) 1 0 + length (satisfying n (suc i) p)
      rest e =
          ap₂ (λ (x y : ℕ). x + y) (zero-add (cond (p (i + 0)) 1 0) ∙ rw add-zero)
          (count_cong n (λ j. p (i + (1 + j))) (λ j. p (suc i + j)) (λ j l. ap p (omega arith)) ∙ sym e)

  -- the first k of them are the lowest
  pub passing_lowest : (n i k b c : ℕ) → is_listed b (take k (satisfying n i p)) ≡ true → i ≤ c → c < b → p c ≡ true
      → is_listed c (take k (satisfying n i p)) ≡ true
  unfolding satisfying
  passing_lowest zero i zero b c e h m q = absurd (false≢true e)
  passing_lowest zero i (suc k) b c e h m q = absurd (false≢true e)
  passing_lowest (suc n) i k b c e h m q = by (p i) refl k e (λ k. passing_lowest n (suc i) k b c)
    where
      by : (t : Bool) → p i ≡ t → (k : ℕ) → is_listed b (take k (cond t (i ∷ satisfying n (suc i) p) (satisfying n (suc i) p))) ≡ true
          → ((k : ℕ) → is_listed b (take k (satisfying n (suc i) p)) ≡ true → suc i ≤ c → c < b → p c ≡ true → is_listed c (take k (satisfying n (suc i) p)) ≡ true)
          → is_listed c (take k (cond t (i ∷ satisfying n (suc i) p) (satisfying n (suc i) p))) ≡ true
      by true f zero w g = absurd (false≢true w)
      by true f (suc k) w g =
          ⊎_elim (λ z. rw (eq-eqb c i (sym z)))
          (λ (z : suc i ≤ c). listed_tail c i (take k (satisfying n (suc i) p)) (g k (rw (ne_eqb b i (omega arith)) at w) z m q))
          (eq-or-lt_of_le h)
      by false f k w g = ⊎_elim (λ z. absurd (true≢false (sym q ∙ sym (ap p z) ∙ f))) (λ z. g k w z m q) (eq-or-lt_of_le h)

-- ---- the free bits

-- a free bit is a data sector's
pub free_data : (n : ℕ) (v : Directory) (b : ℕ) → free_bit n v b ≡ true → data_bit n b ≡ true
free_data n v b e = ((and-eq-true_iff (data_bit n b) (not (has (union v slots) b))).0 e).0

-- and in no live slot's map
pub free-is : (n : ℕ) (v : Directory) (b : ℕ) → free_bit n v b ≡ true → (i : ℕ) (s : List ℕ) → i < slots → v i ≡ some s → has (map_of s) b ≡ true → ⊥
free-is n v b e i s h q m =
    let t = (and-eq-true_iff (data_bit n b) (not (has (union v slots) b))).0 e in
    let k : b < 1560 = (data_is n b t.0).0 in
    let u : any slots (λ j. fold_option false (λ x. has (map_of x) b) (v j)) ≡ false = sym (has-union v slots b k) ∙ not-true (has (union v slots) b) t.1 in
    true≢false (sym (rw (q, m)) ∙ any_none slots (λ j. fold_option false (λ x. has (map_of x) b) (v j)) u i h)

-- the same of the files of a disk, both ways
pub free-unused : (d : List ℕ) (b : ℕ) → free_bit (view_tracks (view d)) (view_slots (view d)) b ≡ true → UnusedBit d b
free-unused d b e i f q = free-is (view_tracks (view d)) (view_slots (view d)) b e i f.bytes (holds d i f q).here (slots-some (view d) i f q)

pub unused-free : (d : List ℕ) (b : ℕ) → data_bit (tracks_of d) b ≡ true → UnusedBit d b → free_bit (view_tracks (view d)) (view_slots (view d)) b ≡ true
unused-free d b h u =
    rw (view_extra d, h)
    (ap not
    (has-union (view_slots (view d)) slots b (data_is (tracks_of d) b h).0
    ∙ none_any slots (λ i. fold_option false (λ s. has (map_of s) b) (view_slots (view d) i)) (λ i m. by i (view_slots (view d) i) refl)))
  where
    at : (s : List ℕ) (i : ℕ) (f : File) → (view d).files i ≡ some f → f.bytes ≡ s → (t : Bool) → has (map_of s) b ≡ t → t ≡ false
    at s i f p q true w = absurd (u i f p (ap (λ (x : List ℕ). has (map_of x) b) q ∙ w))
    at s i f p q false w = refl

    by : (i : ℕ) (o : Option (List ℕ)) → view_slots (view d) i ≡ o → fold_option false (λ s. has (map_of s) b) o ≡ false
    by i none q = refl
    by i (some s) q = let g = slot-file (view d) i s q in at s i g.0 g.1 g.2 (has (map_of s) b) refl

pub extra_few : (l : View) → view_tracks l ≤ 35
unfolding view_tracks
extra_few l = tracks-few (l.label 255)

module _ (l : View) (ok : AcceptedDisk l) where
  abbrev free_in : ℕ → Bool
  free_in = free_bit (view_tracks l) (view_slots l)

  -- a used bit is no directory sector's
  pub used_data : (b : ℕ) → b < 1560 → has (union (view_slots l) slots) b ≡ true → data_bit (view_tracks l) b ≡ true
  used_data b h e =
      let j = some-any slots (λ i. fold_option false (λ s. has (map_of s) b) (view_slots l i)) (sym (has-union (view_slots l) slots b h) ∙ e) in
      by j.0 j.1 (view_slots l j.0) refl j.2
    where
      by : (i : ℕ) → i < slots → (o : Option (List ℕ)) → view_slots l i ≡ o → fold_option false (λ s. has (map_of s) b) o ≡ true → data_bit (view_tracks l) b ≡ true
      by i k none q m = absurd (false≢true m)
      by i k (some s) q m = let f = slot-file l i s q in (ok.accepted i f.0 k f.1).data_bits b (ap (λ (s : List ℕ). has (map_of s) b) f.2 ∙ m)

  -- as many bits are free as are told
  pub free-long : length (satisfying 1560 0 free_in) ≡ free (view_tracks l) (view_slots l)
  unfolding free free_of used_map counted bits_of
  free-long =
      passing_long free_in 1560 0
      ∙ omega (arith, same, count_less 1560 (data_bit (view_tracks l)) (has (union (view_slots l) slots)) used_data, count_data (view_tracks l) (extra_few l))
    where
      same : count 1560 (λ j. free_in (0 + j)) ≡ count 1560 (λ b. data_bit (view_tracks l) b && not (has (union (view_slots l) slots) b))
      same = count_cong 1560 (λ j. free_in (0 + j)) free_in (λ b h. rw zero-add)

-- ---- what is taken

module _ (n : ℕ) (v : Directory) (w : SaveRequest) where
  pub taken_run : Run (free_bit n v) 0 (taken_bits n v w)
  unfolding taken_bits
  taken_run = run_take (free_bit n v) 0 (sectors_for (length w.body)) (satisfying 1560 0 (free_bit n v)) (passing_run (free_bit n v) 1560 0 (omega arith))

  -- "the n lowest free map bits": each free one below one that is taken is taken
  pub taken_lowest : (b c : ℕ) → is_listed b (taken_bits n v w) ≡ true → c < b → free_bit n v c ≡ true → is_listed c (taken_bits n v w) ≡ true
  unfolding taken_bits
  taken_lowest b c e h q = passing_lowest (free_bit n v) 1560 0 (sectors_for (length w.body)) b c e (omega arith) h q

pub taken_long : (l : View) → AcceptedDisk l → (w : SaveRequest) → sectors_for (length w.body) ≤ free (view_tracks l) (view_slots l)
    → length (taken_bits (view_tracks l) (view_slots l) w) ≡ sectors_for (length w.body)
unfolding taken_bits
taken_long l ok w h = length-take-le (sectors_for (length w.body)) (satisfying 1560 0 (free_bit (view_tracks l) (view_slots l))) (omega (arith, free-long l ok))

-- ---- the slot

pub record LowestFree (n : ℕ) (v : Directory) (i : ℕ) : Type 0 where
  pub below : i < slot_count n
  pub empty : v i ≡ none
  pub before : (k : ℕ) → k < i → (s : List ℕ) × (v k ≡ some s)

module _ (n : ℕ) (v : Directory) where
  abbrev empty_at : ℕ → Option ℕ
  empty_at i = fold_option (some i) (λ s. none) (v i)

  full : (k : ℕ) → empty_at k ≡ none → (s : List ℕ) × (v k ≡ some s)
  full k e = by (v k) refl e
    where
      by : (o : Option (List ℕ)) → v k ≡ o → fold_option (some k) (λ s. none) o ≡ none → (s : List ℕ) × (v k ≡ some s)
      by none q w = absurd (some-ne-none k w)
      by (some s) q w = (s, q)

  empty-is : (k i : ℕ) → empty_at k ≡ some i → (k ≡ i) × (v k ≡ none)
  empty-is k i e = by (v k) refl e
    where
      by : (o : Option (List ℕ)) → v k ≡ o → fold_option (some k) (λ s. none) o ≡ some i → (k ≡ i) × (v k ≡ none)
      by none q w = (cc, q)
      by (some s) q w = absurd (some-ne-none i (sym w))

  pub lowest-slot : (i : ℕ) → lowest_slot n v ≡ some i → LowestFree n v i
  unfolding lowest_slot
  lowest-slot i e =
      let f = scan-first (slot_count n) empty_at i e in
      let t = empty-is f.at i f.here in
      rw (← t.0) (record { below = f.below; empty = t.1; before = λ k h. full k (f.before k h) })

  -- where none is free every slot holds a file
  pub no_slot : lowest_slot n v ≡ none → (k : ℕ) → k < slot_count n → (s : List ℕ) × (v k ≡ some s)
  unfolding lowest_slot
  no_slot e k h = full k (scan-none (slot_count n) empty_at e k h)

-- the same of the files of a view
pub record FreeSlot (l : View) (i : ℕ) : Type 0 where
  pub below : i < slot_count (view_tracks l)
  pub empty : l.files i ≡ none
  pub before : (k : ℕ) → k < i → (f : File) × (l.files k ≡ some f)

pub free-small : (l : View) (i : ℕ) → FreeSlot l i → i < slots
free-small l i w = (slot-few (view_tracks l) i (extra_few l) w.below).0

module _ (l : View) where
  some-file : (k : ℕ) → ((s : List ℕ) × (view_slots l k ≡ some s)) → (f : File) × (l.files k ≡ some f)
  some-file k p = let g = slot-file l k p.0 p.1 in (g.0, g.1)

  pub free-slot : (i : ℕ) → lowest_slot (view_tracks l) (view_slots l) ≡ some i → FreeSlot l i
  free-slot i e =
      let w = lowest-slot (view_tracks l) (view_slots l) i e in
      record { below = w.below; empty = slot-none l i w.empty; before = λ k h. some-file k (w.before k h) }

  pub no_free_slot : lowest_slot (view_tracks l) (view_slots l) ≡ none → (k : ℕ) → k < slot_count (view_tracks l) → (f : File) × (l.files k ≡ some f)
  no_free_slot e k h = some-file k (no_slot (view_tracks l) (view_slots l) e k h)
