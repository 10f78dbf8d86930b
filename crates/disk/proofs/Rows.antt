-- What it means that no row holds at a file: the rows' tests as facts, both ways.
use Prim.Native.Nat.{ℕ, ◌+◌, ◌-◌, ◌*◌, ◌%◌, ◌≤◌}
use mathlib.Core.Path.{◌≡◌, refl, sym, ap, ◌∙◌}
use mathlib.Core.Bool.{Bool, true, false, not, cond, ◌&&◌, false≢true}
use mathlib.Core.List.{List, [], ◌∷◌, ◌++◌}
use mathlib.Core.Logic.{◌⊎◌, inl, inr, ⊎_elim}
use native.Mathlib.Omega.{arith}
use borrow.Author.Tests.{eqb-true, eq-eqb, leb-true, le-leb, ltb-false, le-ltb, not-false}
use lib.Dec.{eqb, leb, ltb}
use lib.ListN.{get_or}
use Rattle.buffers.proofs.Tests.{and_both, both_and, or_either, either_or, or_neither}
use Rattle.maps.specs.Bits.{has, bits_of}
use Rattle.refusals.specs.Order.{Row, RowsClear}
use Rattle.slots.specs.Slot.{slot_fields, known, carried, spectrum, kind_of, count_of, map_of, first_of, pages_of, remainder_of, length_of, directory_kind}
use Rattle.slots.specs.Rows.{own, directory_rows, file_rows}
use Rattle.chains.specs.Chain.{broken}
use Rattle.headers.specs.Header.{header_differs, header_length, chain_pass_rows, chain_rows}
use Rattle.slots.specs.Tracks.{data_count, data_bit, in_directory}
use Rattle.slots.proofs.KindLaws.{directory-is, is-directory, directory_not, not_directory}
use Rattle.slots.proofs.Tracks.{outside_data, data_outside, empty_outside}
use Rattle.chains.proofs.Laws.{map-small}
use Rattle.disk.specs.Accepted.{Known, Carried, Spectrum, Agrees}

-- ---- Booleans

-- a test that fails where another holds
pub guard : (a b : Bool) → (a && b) ≡ false → a ≡ true → b ≡ false
guard true b e p = e
guard false b e p = absurd (false≢true p)

pub guarded : (a b : Bool) → (a ≡ true → b ≡ false) → (a && b) ≡ false
guarded true b h = h refl
guarded false b h = refl

-- ---- kinds

range : (lo k hi : ℕ) → (leb lo k && leb k hi) ≡ true → (lo ≤ k) × (k ≤ hi)
range lo k hi e = let c = and_both (leb lo k) (leb k hi) e in (leb-true lo k c.0, leb-true k hi c.1)

in_range : (lo k hi : ℕ) → (lo ≤ k) × (k ≤ hi) → (leb lo k && leb k hi) ≡ true
in_range lo k hi h = both_and (leb lo k) (leb k hi) (le-leb lo k h.0) (le-leb k hi h.1)

pub known_is : (k : ℕ) → known k ≡ true → Known k
unfolding known
known_is k e =
    ⊎_elim (λ w. inl (range 1 k 12 w)) (λ w. inr (range 16 k 23 w)) (or_either (leb 1 k && leb k 12) (leb 16 k && leb k 23) e)

pub is_known : (k : ℕ) → Known k → known k ≡ true
unfolding known
is_known k h =
    either_or (leb 1 k && leb k 12) (leb 16 k && leb k 23) (⊎_elim (λ w. inl (in_range 1 k 12 w)) (λ w. inr (in_range 16 k 23 w)) h)

pub carried-is : (k : ℕ) → carried k ≡ true → Carried k
unfolding carried
carried-is k e = range 16 k 20 e

pub is_carried : (k : ℕ) → Carried k → carried k ≡ true
unfolding carried
is_carried k h = in_range 16 k 20 h

pub spectrum-is : (k : ℕ) → spectrum k ≡ true → Spectrum k
unfolding spectrum
spectrum-is k e = range 1 k 4 e

pub is-spectrum : (k : ℕ) → Spectrum k → spectrum k ≡ true
unfolding spectrum
is-spectrum k h = in_range 1 k 4 h

-- ---- rows 2 to 7

-- no row of one slot's own holds: the tests as facts; a directory has no sectors, and any other file has its first
pub record OwnRowsClear (n : ℕ) (s : List ℕ) : Type 0 where
  pub kind : Known (kind_of s)
  pub sectors : ((kind_of s ≡ 21) × (count_of s ≡ 0)) ⊎ ((kind_of s ≡ 21 → ⊥) × (1 ≤ count_of s) × (has (map_of s) (first_of s) ≡ true))
  pub few-sectors : count_of s ≤ data_count n
  pub bits : bits_of (map_of s) ≡ count_of s
  pub data_bits : (b : ℕ) → has (map_of s) b ≡ true → data_bit n b ≡ true
  pub fits : Carried (kind_of s) → 9 + length_of (slot_fields s) ≤ 510 * count_of s

own-directory : (n : ℕ) (s : List ℕ) → kind_of s ≡ 21 → RowsClear (directory_rows (slot_fields s)) → OwnRowsClear n s
unfolding slot_fields
own-directory n s k c =
    let z : count_of s ≡ 0 = eqb-true (count_of s) 0 (not-false (eqb (count_of s) 0) c.0) in
    let m : bits_of (map_of s) ≡ 0 = eqb-true (bits_of (map_of s)) 0 (not-false (eqb (bits_of (map_of s)) 0) c.1.0) in
    record {
      kind = inr (omega arith, omega arith);
      sectors = inl (k, z);
      few-sectors = omega arith;
      bits = m ∙ sym z;
      data_bits = λ b h. outside_data n (map_of s) (empty_outside n (map_of s) m) b (map-small s b h) h;
      fits = λ h. absurd (omega (arith, h.1));
    }

own-file : (n : ℕ) (s : List ℕ) → (kind_of s ≡ 21 → ⊥) → RowsClear (file_rows (data_count n) (in_directory n (map_of s)) (slot_fields s)) → OwnRowsClear n s
unfolding slot_fields
own-file n s k c =
    let q = range 1 (count_of s) (data_count n) (not-false (leb 1 (count_of s) && leb (count_of s) (data_count n)) c.1.0) in
    let either = or_neither (not (has (map_of s) (first_of s))) (in_directory n (map_of s)) c.1.1.1.0 in
    record {
      kind = known_is (kind_of s) (not-false (known (kind_of s)) c.0);
      sectors = inr (k, q.0, not-false (has (map_of s) (first_of s)) either.0);
      few-sectors = q.1;
      bits = eqb-true (bits_of (map_of s)) (count_of s) (not-false (eqb (bits_of (map_of s)) (count_of s)) c.1.1.0);
      data_bits = λ b m. outside_data n (map_of s) either.1 b (map-small s b m) m;
      fits = λ h.
          ltb-false (510 * count_of s) (9 + length_of (slot_fields s))
          (guard (carried (kind_of s)) (ltb (510 * count_of s) (9 + length_of (slot_fields s))) c.1.1.1.1.0 (is_carried (kind_of s) h));
    }

pub own_clear : (n : ℕ) (s : List ℕ) → RowsClear (own n (slot_fields s)) → OwnRowsClear n s
unfolding slot_fields
own_clear n s c = by (directory_kind (kind_of s)) refl c
  where
    by : (t : Bool) → directory_kind (kind_of s) ≡ t → RowsClear (cond t (directory_rows (slot_fields s)) (file_rows (data_count n) (in_directory n (map_of s)) (slot_fields s))) → OwnRowsClear n s
    by true e q = own-directory n s (directory-is (kind_of s) e) q
    by false e q = own-file n s (directory_not (kind_of s) e) q

directory_clear : (n : ℕ) (s : List ℕ) → OwnRowsClear n s → count_of s ≡ 0 → RowsClear (directory_rows (slot_fields s))
unfolding slot_fields
directory_clear n s w z = (ap not (eq-eqb (count_of s) 0 z), (ap not (eq-eqb (bits_of (map_of s)) 0 (w.bits ∙ z)), tt))

file_clear : (n : ℕ) (s : List ℕ) → OwnRowsClear n s → 1 ≤ count_of s → has (map_of s) (first_of s) ≡ true → RowsClear (file_rows (data_count n) (in_directory n (map_of s)) (slot_fields s))
unfolding slot_fields
file_clear n s w some first = (
  ap not (is_known (kind_of s) w.kind),
  (
    ap not (in_range 1 (count_of s) (data_count n) (some, w.few-sectors)),
    (
      ap not (eq-eqb (bits_of (map_of s)) (count_of s) w.bits),
      (
        rw (first, data_outside n (map_of s) (λ b l. w.data_bits b)),
        (
          guarded (carried (kind_of s)) (ltb (510 * count_of s) (9 + length_of (slot_fields s)))
              (λ e. le-ltb (510 * count_of s) (9 + length_of (slot_fields s)) (w.fits (carried-is (kind_of s) e))),
          tt,
        ),
      ),
    ),
  ),
)

pub clear_own : (n : ℕ) (s : List ℕ) → OwnRowsClear n s → RowsClear (own n (slot_fields s))
unfolding slot_fields
clear_own n s w =
    ⊎_elim (λ a. rw (is-directory (kind_of s) a.0) (directory_clear n s w a.1))
    (λ a. rw (not_directory (kind_of s) a.0) (file_clear n s w a.1 a.2)) w.sectors

-- ---- row 11

pub agrees : (s h : List ℕ) → header_differs (slot_fields s) h ≡ false → Agrees s h
unfolding header_differs slot_fields
agrees s h e =
    let a = and_both (eqb (get_or h 0 0) (kind_of s)) (eqb ((get_or h 1 0 + 256 * get_or h 2 0) % 16384) (remainder_of s) && eqb (get_or h 7 0) (pages_of s)) (not-false _ e) in
    let b = and_both (eqb ((get_or h 1 0 + 256 * get_or h 2 0) % 16384) (remainder_of s)) (eqb (get_or h 7 0) (pages_of s)) a.1 in
    record {
      kind = eqb-true (get_or h 0 0) (kind_of s) a.0;
      remainder = eqb-true ((get_or h 1 0 + 256 * get_or h 2 0) % 16384) (remainder_of s) b.0;
      pages = eqb-true (get_or h 7 0) (pages_of s) b.1;
    }

pub agree_same : (s h : List ℕ) → Agrees s h → header_differs (slot_fields s) h ≡ false
unfolding header_differs slot_fields
agree_same s h w =
    ap not
    (both_and (eqb (get_or h 0 0) (kind_of s)) (eqb ((get_or h 1 0 + 256 * get_or h 2 0) % 16384) (remainder_of s) && eqb (get_or h 7 0) (pages_of s))
    (eq-eqb (get_or h 0 0) (kind_of s) w.kind)
    (both_and (eqb ((get_or h 1 0 + 256 * get_or h 2 0) % 16384) (remainder_of s)) (eqb (get_or h 7 0) (pages_of s))
    (eq-eqb ((get_or h 1 0 + 256 * get_or h 2 0) % 16384) (remainder_of s) w.remainder) (eq-eqb (get_or h 7 0) (pages_of s) w.pages)))

-- rows 10, 11 and 25 of a file: where it has sectors its chain is not broken, a carried header agrees, and a Spectrum's body has
-- its sectors
pub record ChainRowsClear (s : List ℕ) (sec : ℕ → List ℕ) : Type 0 where
  pub whole : (kind_of s ≡ 21 → ⊥) → broken (slot_fields s) sec ≡ false
  pub header : Carried (kind_of s) → Agrees s (sec (slot_fields s).first)
  pub long : Spectrum (kind_of s) → 9 + header_length (sec (slot_fields s).first) ≤ 510 * count_of s

pub later_clear : (s : List ℕ) (sec : ℕ → List ℕ) → RowsClear (chain_pass_rows (slot_fields s) sec) → ChainRowsClear s sec
unfolding slot_fields
later_clear s sec c = by (directory_kind (kind_of s)) refl c
  where
    by : (t : Bool) → directory_kind (kind_of s) ≡ t → RowsClear (cond t [] (chain_rows (slot_fields s) sec)) → ChainRowsClear s sec
    by true e q =
        let k : kind_of s ≡ 21 = directory-is (kind_of s) e in
        record { whole = λ h. absurd (h k); header = λ h. absurd (omega (arith, h.1)); long = λ h. absurd (omega (arith, h.1)) }
    by false e q = record {
      whole = λ h. q.0;
      header = λ h. agrees s (sec (slot_fields s).first)
          (guard (carried (kind_of s)) (header_differs (slot_fields s) (sec (slot_fields s).first)) q.1.0 (is_carried (kind_of s) h));
      long = λ h. ltb-false (510 * count_of s) (9 + header_length (sec (slot_fields s).first))
          (guard (spectrum (kind_of s)) (ltb (510 * count_of s) (9 + header_length (sec (slot_fields s).first))) q.1.1.0 (is-spectrum (kind_of s) h));
    }

pub clear_later : (s : List ℕ) (sec : ℕ → List ℕ) → ChainRowsClear s sec → RowsClear (chain_pass_rows (slot_fields s) sec)
unfolding slot_fields
clear_later s sec w = by (directory_kind (kind_of s)) refl
  where
    by : (t : Bool) → directory_kind (kind_of s) ≡ t → RowsClear (cond t [] (chain_rows (slot_fields s) sec))
    by true e = tt
    by false e = (
      w.whole (directory_not (kind_of s) e),
      (
        guarded (carried (kind_of s)) (header_differs (slot_fields s) (sec (slot_fields s).first))
            (λ e. agree_same s (sec (slot_fields s).first) (w.header (carried-is (kind_of s) e))),
        (
          guarded (spectrum (kind_of s)) (ltb (510 * count_of s) (9 + header_length (sec (slot_fields s).first)))
              (λ e. le-ltb (510 * count_of s) (9 + header_length (sec (slot_fields s).first)) (w.long (spectrum-is (kind_of s) e))),
          tt,
        ),
      ),
    )

-- ---- two lists of rows, one after the other

pub clear_parts : (a b : List Row) → RowsClear (a ++ b) → RowsClear a × RowsClear b
clear_parts [] b c = (tt, c)
clear_parts (r ∷ a) b c = let d = clear_parts a b c.1 in ((c.0, d.0), d.1)

pub parts_clear : (a b : List Row) → RowsClear a → RowsClear b → RowsClear (a ++ b)
parts_clear [] b p q = q
parts_clear (r ∷ a) b p q = (p.0, parts_clear a b p.1 q)
