-- The index of the live slots by their names, as the code keeps it.
use Rattle.std.specs.Prelude.{ℕ, suc, ◌+◌, ◌%◌, ◌≤◌, ◌<◌, ◌≡◌, Bool, true, false, List, eqb, length, get_or}
use Rattle.std.proofs.Math.Option.{some}
use Rattle.slots.specs.Slot.{name_of}
use Rattle.names.specs.Name.{key_of}
use Rattle.directory.specs.Places.{slots}
use Rattle.directory.specs.Directory.{fold_option, Directory, directory, slots_read}

-- how many buckets there are: a prime, by which names that differ in few bytes scatter
abbrev pub buckets : ℕ
buckets = 251

-- the bucket of a name, the same for all its spellings
unfoldable pub bucket_of : List ℕ → ℕ
bucket_of n = key_of n % buckets

-- slot i is live, and its name is in bucket b
unfoldable pub in_bucket : Directory → ℕ → ℕ → Bool
in_bucket v b i = fold_option false (λ s. eqb (bucket_of (name_of s)) b) (v i)

-- c is the lowest slot of bucket b from slot k on; the number of no slot where there is none
pub record LowestInBucket (v : Directory) (b k c : ℕ) : Type 0 where
  pub least : k ≤ c
  pub most : c ≤ slots
  pub here : c < slots → in_bucket v b c ≡ true
  pub before : (j : ℕ) → k ≤ j → j < c → in_bucket v b j ≡ false

-- the slots from slot k on are in the index: for each bucket its lowest slot, and behind these for each live slot the next of its
-- bucket
pub record IndexedFrom (v : Directory) (k : ℕ) (index : List ℕ) : Type 0 where
  pub long : length index ≡ buckets + slots
  pub first : (b : ℕ) → b < buckets → LowestInBucket v b k (get_or index b 0)
  pub later : (i : ℕ) → k ≤ i → i < slots → (s : List ℕ) → v i ≡ some s → LowestInBucket v (bucket_of (name_of s)) (suc i) (get_or index (buckets + i) 0)

-- room for it: each bucket empty
pub record EmptyIndex (index : List ℕ) : Type 0 where
  pub long : length index ≡ buckets + slots
  pub empty : (b : ℕ) → b < buckets → get_or index b 0 ≡ slots

-- all slots are in the index, and so many are read
pub record Indexed (d index : List ℕ) (end : ℕ) : Type 0 where
  pub entered : IndexedFrom (directory d) 0 index
  pub read : end ≡ slots_read d
