-- The sectors of some slots of the directory: each once, rising, and no other.
use Prim.Native.Nat.{ℕ, zero, suc, ◌+◌, ◌*◌, ◌/◌, ◌%◌, ◌≤◌, ◌<◌}
use mathlib.Core.Path.{◌≡◌, refl, sym, ap, ap₂, ◌∙◌}
use mathlib.Core.Bool.{Bool, true, false, cond, ◌||◌, false≢true}
use mathlib.Core.List.{List, [], ◌∷◌}
use mathlib.Core.Logic.{◌⊎◌, inl, inr, ⊎_elim}
use native.Mathlib.Omega.{arith}
use borrow.Author.Tests.{eqb-true, eq-eqb, lt-ltb, le-ltb}
use lib.Dec.{eqb, ltb}
use lib.ListN.{length, get_or, take}
use Rattle.buffers.proofs.Lists.{below_or_not}
use Rattle.buffers.proofs.Tests.{or_either, or_left, or_right}
use Rattle.directory.specs.Places.{slots, dir_sector}
use Rattle.directory.proofs.Places.{gap_is, slot-sector, slot_within}
use Rattle.steps.specs.Sectors.{is_listed}
use Rattle.plans.proofs.NewFile.{listed_at}
use Rattle.erase_many.specs.EraseMany.{pairs, touches, sectors_from, sectors_with}

-- ---- two slots to a sector

-- the q-th sector of the first side, ten to a track
spread : ℕ → ℕ
spread q = q / 10 * 20 + q % 10

-- the j-th of the directory: past track 4 sector 1
gapped : ℕ → ℕ
gapped j = cond (ltb j 40) j (j + 1)

spread_rises : (p q : ℕ) → p < q → spread p < spread q
unfolding spread
spread_rises p q h = omega arith

gapped_is : (j : ℕ) → ((j < 40) × (gapped j ≡ j)) ⊎ ((40 ≤ j) × (gapped j ≡ j + 1))
unfolding gapped
gapped_is j = ⊎_elim (λ (h : j < 40). inl (h, rw (lt-ltb j 40 h))) (λ (h : 40 ≤ j). inr (h, rw (le-ltb j 40 h))) (below_or_not j 40)

gapped_rises : (j k : ℕ) → j < k → gapped j < gapped k
gapped_rises j k h =
    ⊎_elim
    (λ a. ⊎_elim (λ b. omega (arith, a.1, b.1)) (λ b. omega (arith, a.1, b.1)) (gapped_is k))
    (λ a. ⊎_elim (λ b. omega (arith, a.0, b.0)) (λ b. omega (arith, a.1, b.1)) (gapped_is k))
    (gapped_is j)

-- two slots, by the place that the gap leaves them
spread_half : (p : ℕ) → p / 20 * 20 + p % 20 / 2 ≡ spread (p / 2)
unfolding spread
spread_half p =
    let q : p / 2 / 10 ≡ p / 20 = omega arith in
    omega arith

dir_half : (i : ℕ) → dir_sector i ≡ spread (gapped (i / 2))
unfolding dir_sector gapped
dir_half i =
    ⊎_elim
    (λ a. rw a.1 (spread_half i) ∙ ap spread (low a.0))
    (λ a. rw a.1 (spread_half (i + 2)) ∙ ap spread (high a.0))
    (gap_is i)
  where
    low : i < 80 → i / 2 ≡ gapped (i / 2)
    low h = rw (lt-ltb (i / 2) 40 (omega arith))

    high : 80 ≤ i → (i + 2) / 2 ≡ gapped (i / 2)
    high h = rw (le-ltb (i / 2) 40 (omega arith)) (omega arith)

pub dir_same : (i k : ℕ) → i / 2 ≡ k / 2 → dir_sector i ≡ dir_sector k
dir_same i k e = dir_half i ∙ ap (λ (j : ℕ). spread (gapped j)) e ∙ sym (dir_half k)

pub dir_rises : (i k : ℕ) → i / 2 < k / 2 → dir_sector i < dir_sector k
dir_rises i k h =
    let r = spread_rises (gapped (i / 2)) (gapped (k / 2)) (gapped_rises (i / 2) (k / 2) h) in
    omega (arith, dir_half i, dir_half k)

-- both slots of the j-th sector
pub in_pair : (e : ℕ → Bool) (i : ℕ) → e i ≡ true → touches e (i / 2) ≡ true
in_pair e i h =
    ⊎_elim (λ (q : i ≤ 2 * (i / 2)). let z : i ≡ 2 * (i / 2) = omega arith in or_left (e (2 * (i / 2))) (e (2 * (i / 2) + 1)) (ap e (sym z) ∙ h))
    (λ (q : 2 * (i / 2) < i). let z : i ≡ 2 * (i / 2) + 1 = omega arith in or_right (e (2 * (i / 2))) (e (2 * (i / 2) + 1)) (ap e (sym z) ∙ h))
    (flip (below_or_not (2 * (i / 2)) i))
  where
    flip : {A B : Type 0} → A ⊎ B → B ⊎ A
    flip (inl a) = inr a
    flip (inr b) = inl b

-- a slot whose sector is the j-th
pub pair_slot : (e : ℕ → Bool) (j : ℕ) → touches e j ≡ true → (i : ℕ) × (e i ≡ true) × (i / 2 ≡ j)
pair_slot e j h =
    ⊎_elim (λ a. (2 * j, a, omega arith)) (λ a. (2 * j + 1, a, omega arith)) (or_either (e (2 * j)) (e (2 * j + 1)) h)

-- ---- lists that rise

abbrev pub Rising : List ℕ → Type 0
Rising ss = (j k : ℕ) → j < k → k < length ss → get_or ss j 0 < get_or ss k 0

rising_none : Rising []
rising_none j k a b = absurd (omega arith)

rising-more : (x : ℕ) (xs : List ℕ) → ((k : ℕ) → k < length xs → x < get_or xs k 0) → Rising xs → Rising (x ∷ xs)
rising-more x xs h r j zero a b = absurd (omega arith)
rising-more x xs h r zero (suc k) a b = h k (omega arith)
rising-more x xs h r (suc j) (suc k) a b = r j k (omega arith) (omega arith)

-- the first k + 1 of a list are the first k, and the next
pub listed_next : (a k : ℕ) (xs : List ℕ) → k < length xs → is_listed a (take (suc k) xs) ≡ (is_listed a (take k xs) || eqb a (get_or xs k 0))
listed_next a k [] h = absurd (omega arith)
listed_next a zero (x ∷ xs) h = or-false (eqb a x)
  where
    or-false : (t : Bool) → (t || false) ≡ t
    or-false true = refl
    or-false false = refl
listed_next a (suc k) (x ∷ xs) h =
    ap (λ (t : Bool). eqb a x || t) (listed_next a k xs (omega arith)) ∙ sym (or_assoc (eqb a x) (is_listed a (take k xs)) (eqb a (get_or xs k 0)))
  where
    or_assoc : (s t u : Bool) → ((s || t) || u) ≡ (s || (t || u))
    or_assoc true t u = refl
    or_assoc false t u = refl

-- ---- the sectors of the slots meant

module _ (e : ℕ → Bool) where
  -- of n sectors from the j-th on: a number listed is that of a slot meant
  pub record From (j n s : ℕ) : Type 0 where
    pub slot : ℕ
    pub meant : e slot ≡ true
    pub low : j ≤ slot / 2
    pub high : slot / 2 < j + n
    pub here : dir_sector slot ≡ s

  listed_from : (n j s : ℕ) → is_listed s (sectors_from n j e) ≡ true → From j n s
  unfolding sectors_from
  listed_from zero j s h = absurd (false≢true h)
  listed_from (suc n) j s h = by (touches e j) refl h (listed_from n (suc j) s)
    where
      wider : From (suc j) n s → From j (suc n) s
      wider a = record { slot = a.slot; meant = a.meant; low = omega (arith, a.low); high = omega (arith, a.high); here = a.here }

      by : (t : Bool) → touches e j ≡ t → is_listed s (cond t (dir_sector (2 * j) ∷ sectors_from n (suc j) e) (sectors_from n (suc j) e)) ≡ true
          → (is_listed s (sectors_from n (suc j) e) ≡ true → From (suc j) n s) → From j (suc n) s
      by true q w rest =
          ⊎_elim
          (λ a.
          let p = pair_slot e j q in
          record {
            slot = p.0;
            meant = p.1;
            low = omega (arith, p.2);
            high = omega (arith, p.2);
            here = dir_same p.0 (2 * j) (p.2 ∙ omega arith) ∙ sym (eqb-true s (dir_sector (2 * j)) a);
          })
          (λ a. wider (rest a))
          (or_either (eqb s (dir_sector (2 * j))) (is_listed s (sectors_from n (suc j) e)) w)
      by false q w rest = wider (rest w)

  -- and every slot meant has its sector listed
  from_listed : (n j i : ℕ) → e i ≡ true → j ≤ i / 2 → i / 2 < j + n → is_listed (dir_sector i) (sectors_from n j e) ≡ true
  unfolding sectors_from
  from_listed zero j i h a b = absurd (omega arith)
  from_listed (suc n) j i h a b =
      ⊎_elim (λ (c : j < i / 2). later (touches e j) (from_listed n (suc j) i h (omega arith) (omega arith)))
      (λ (c : i / 2 ≤ j).
      let z : i / 2 ≡ j = omega arith in
      first (touches e j) (ap (touches e) (sym z) ∙ in_pair e i h) (dir_same i (2 * j) (omega arith)))
      (below_or_not j (i / 2))
    where
      later : (t : Bool) → is_listed (dir_sector i) (sectors_from n (suc j) e) ≡ true
          → is_listed (dir_sector i) (cond t (dir_sector (2 * j) ∷ sectors_from n (suc j) e) (sectors_from n (suc j) e)) ≡ true
      later true w = or_right (eqb (dir_sector i) (dir_sector (2 * j))) (is_listed (dir_sector i) (sectors_from n (suc j) e)) w
      later false w = w

      first : (t : Bool) → t ≡ true → dir_sector i ≡ dir_sector (2 * j)
          → is_listed (dir_sector i) (cond t (dir_sector (2 * j) ∷ sectors_from n (suc j) e) (sectors_from n (suc j) e)) ≡ true
      first t w q = rw w (or_left (eqb (dir_sector i) (dir_sector (2 * j))) (is_listed (dir_sector i) (sectors_from n (suc j) e)) (eq-eqb (dir_sector i) (dir_sector (2 * j)) q))

  above : (n j k : ℕ) → k < length (sectors_from n (suc j) e) → dir_sector (2 * j) < get_or (sectors_from n (suc j) e) k 0
  above n j k h =
      let a = listed_from n (suc j) (get_or (sectors_from n (suc j) e) k 0) (listed_at (sectors_from n (suc j) e) k h) in
      let r = dir_rises (2 * j) a.slot (omega (arith, a.low)) in
      omega (arith, a.here)

  rises_from_lem : (n j : ℕ) → Rising (sectors_from n j e)
  unfolding sectors_from
  rises_from_lem zero j = rising_none
  rises_from_lem (suc n) j = by (touches e j) (rises_from_lem n (suc j))
    where
      by : (t : Bool) → Rising (sectors_from n (suc j) e) → Rising (cond t (dir_sector (2 * j) ∷ sectors_from n (suc j) e) (sectors_from n (suc j) e))
      by true r = rising-more (dir_sector (2 * j)) (sectors_from n (suc j) e) (above n j) r
      by false r = r

  few_from : (n j : ℕ) → length (sectors_from n j e) ≤ n
  unfolding sectors_from
  few_from zero j = omega arith
  few_from (suc n) j = by (touches e j) (few_from n (suc j))
    where
      by : (t : Bool) → length (sectors_from n (suc j) e) ≤ n → length (cond t (dir_sector (2 * j) ∷ sectors_from n (suc j) e) (sectors_from n (suc j) e)) ≤ suc n
      by true h = omega arith
      by false h = omega arith

  pub rises : Rising (sectors_with e)
  rises = rises_from_lem pairs 0

  -- 389 numbers always have room
  pub few-sectors : length (sectors_with e) ≤ pairs
  few-sectors = few_from pairs 0

  pub listed_slot : (s : ℕ) → is_listed s (sectors_with e) ≡ true → From 0 pairs s
  listed_slot = listed_from pairs 0

  pub slot_listed : (i : ℕ) → i < slots → e i ≡ true → is_listed (dir_sector i) (sectors_with e) ≡ true
  slot_listed i h q = from_listed pairs 0 i q (omega arith) (omega arith)

-- the slots meant, by any test that says the same of each
pub sectors_cong : (e f : ℕ → Bool) → ((i : ℕ) → i < slots → e i ≡ f i) → sectors_with e ≡ sectors_with f
unfolding sectors_from
sectors_cong e f h = from pairs 0 (omega arith)
  where
    from : (n j : ℕ) → j + n ≤ pairs → sectors_from n j e ≡ sectors_from n j f
    from zero j k = refl
    from (suc n) j k =
        ap₂ (λ (b : Bool) (x : List ℕ). cond b (dir_sector (2 * j) ∷ x) x) (ap₂ ◌||◌ (h (2 * j) (omega arith)) (h (2 * j + 1) (omega arith)))
        (from n (suc j) (omega arith))

-- none is meant
pub sectors-none : (e : ℕ → Bool) → ((i : ℕ) → e i ≡ false) → sectors_with e ≡ []
unfolding sectors_from
sectors-none e h = from pairs 0
  where
    from : (n j : ℕ) → sectors_from n j e ≡ []
    from zero j = refl
    from (suc n) j = rw (h (2 * j), h (2 * j + 1)) (from n (suc j))

-- "The sector number is .. 0 to 1,599."
pub dir_small : (i : ℕ) → i < slots → dir_sector i < 1600
dir_small i h = omega (arith, slot-sector i, slot_within i h)

pub sectors-small : (e : ℕ → Bool) (s : ℕ) → is_listed s (sectors_with e) ≡ true → s < 1600
sectors-small e s h = let a = listed_slot e s h in omega (arith, a.here, dir_small a.slot (omega (arith, a.high)))
