-- The used map against the live slots before: how long it is, which bits it has, and what it shares with another map.
use Prim.Native.Nat.{ℕ, zero, suc, ◌+◌, ◌≤◌, ◌<◌}
use mathlib.Core.Path.{◌≡◌, sym, ap, ◌∙◌}
use mathlib.Core.Bool.{Bool, false, ◌||◌, or-false, true≢false}
use mathlib.Core.List.{List}
use mathlib.Core.Option.{Option, none, some}
use native.Mathlib.Nat.{add-zero, add-suc}
use native.Mathlib.Numerals.{add-one}
use native.Mathlib.Omega.{arith}
use lib.ListN.{length, length-replicate}
use Rattle.buffers.specs.Bytes.{any}
use Rattle.maps.specs.Bits.{has, bits_of, share, clear_map, join}
use Rattle.maps.proofs.Laws.{has_clear, none-share, length-join, has_join, bits_clear, bits-join, share-join}
use Rattle.slots.specs.Slot.{map_of}
use Rattle.directory.specs.Directory.{fold_option, Directory}
use Rattle.surveys.specs.Survey.{earlier, union, counted}
use Rattle.surveys.specs.declared.UsedMap.{UsedMap}

-- ---- one slot more

pub union_dead : (v : Directory) (k : ℕ) → v k ≡ none → union v (k + 1) ≡ union v k
unfolding union
union_dead v k e = rw (add-one, e)

pub union-live : (v : Directory) (k : ℕ) (s : List ℕ) → v k ≡ some s → union v (k + 1) ≡ join (union v k) (map_of s)
unfolding union
union-live v k s e = rw (add-one, e)

-- where no slot is live the union stays
pub union-rest : (v : Directory) (i m : ℕ) → ((j : ℕ) → i ≤ j → v j ≡ none) → union v (i + m) ≡ union v i
unfolding union
union-rest v i zero h = rw add-zero
union-rest v i (suc m) h = rw (add-suc i m, h (i + m) (omega arith)) (union-rest v i m h)

-- ---- the union of the first k

pub length_union : (v : Directory) (k : ℕ) → length (union v k) ≡ 195
unfolding union
length_union v zero = length-replicate {A = ℕ} 195 0
length_union v (suc k) = by (v k) (length_union v k)
  where
    by : (o : Option (List ℕ)) → length (union v k) ≡ 195 → length (fold_option (union v k) (λ s. join (union v k) (map_of s)) o) ≡ 195
    by none h = h
    by (some s) h = length-join (union v k) (map_of s) ∙ h

-- whether a slot's map has bit b, or shares a bit with m
abbrev has_bit : ℕ → Option (List ℕ) → Bool
has_bit b o = fold_option false (λ s. has (map_of s) b) o

abbrev shares_bit : List ℕ → Option (List ℕ) → Bool
shares_bit m o = fold_option false (λ t. share (map_of t) m) o

-- a bit is used where a live slot's map has it
pub has-union : (v : Directory) (k b : ℕ) → b < 1560 → has (union v k) b ≡ any k (λ i. fold_option false (λ s. has (map_of s) b) (v i))
unfolding union any
has-union v zero b h = has_clear b
has-union v (suc k) b h = by (v k) (length_union v k) (has-union v k b h)
  where
    by : (o : Option (List ℕ)) → length (union v k) ≡ 195 → has (union v k) b ≡ any k (λ i. has_bit b (v i))
        → has (fold_option (union v k) (λ s. join (union v k) (map_of s)) o) b ≡ (any k (λ i. has_bit b (v i)) || has_bit b o)
    by none l e = e ∙ sym (or-false (any k (λ i. has_bit b (v i))))
    by (some s) l e = has_join (union v k) (map_of s) b (omega arith) ∙ ap (λ (t : Bool). t || has (map_of s) b) e

-- a map shares a bit with the used map where it does with an earlier live slot's
pub share-union : (v : Directory) (i : ℕ) (m : List ℕ) → share (union v i) m ≡ earlier v i (λ t. share (map_of t) m)
unfolding union earlier any
share-union v zero m = none-share clear_map m (λ b h p q. true≢false (sym p ∙ has_clear b))
share-union v (suc i) m = by (v i) (length_union v i) (share-union v i m)
  where
    by : (o : Option (List ℕ)) → length (union v i) ≡ 195 → share (union v i) m ≡ any i (λ j. shares_bit m (v j))
        → share (fold_option (union v i) (λ s. join (union v i) (map_of s)) o) m ≡ (any i (λ j. shares_bit m (v j)) || shares_bit m o)
    by none l e = e ∙ sym (or-false (any i (λ j. shares_bit m (v j))))
    by (some s) l e = share-join (union v i) (map_of s) m l ∙ ap (λ (t : Bool). t || share (map_of s) m) e

-- ---- with its count

module _ (n : ℕ) (m : List ℕ) (u : UsedMap) (e : u ≡ counted n m) where
  pub counted-bytes : u.bytes ≡ m
  unfolding counted
  counted-bytes = ap (λ (x : UsedMap). x.bytes) e

  pub counted-count : u.count ≡ bits_of m
  unfolding counted
  counted-count = ap (λ (x : UsedMap). x.count) e

  pub counted-tracks : u.tracks ≡ n
  unfolding counted
  counted-tracks = ap (λ (x : UsedMap). x.tracks) e

-- by its fields
pub counted_by : (n : ℕ) (m : List ℕ) (u : UsedMap) → u.bytes ≡ m → u.count ≡ bits_of m → u.tracks ≡ n → u ≡ counted n m
unfolding counted
counted_by n m u e f g = λ i. record { bytes = e i; count = f i; tracks = g i }

pub counted_clear : (n : ℕ) (u : UsedMap) → u.bytes ≡ clear_map → u.count ≡ 0 → u.tracks ≡ n → u ≡ counted n clear_map
counted_clear n u e f g = counted_by n clear_map u e (f ∙ sym bits_clear) g

pub counted-join : (n : ℕ) (u : UsedMap) (m d : List ℕ) → u.bytes ≡ join m d → u.count ≡ bits_of m + bits_of d → u.tracks ≡ n → length m ≡ 195
    → share m d ≡ false → u ≡ counted n (join m d)
counted-join n u m d e f g l a = counted_by n (join m d) u e (f ∙ sym (bits-join m d l a)) g
