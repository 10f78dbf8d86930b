-- What 26 to 28 rule out, and what lies beneath a directory, without a bound, an order or a walk.
use Rattle.std.specs.Prelude.{ℕ, suc, ◌<◌, ◌≡◌, true, List, ◌∷◌, ◌++◌, ◌⊎◌}
use Rattle.std.proofs.Math.Option.{some}
use Rattle.buffers.specs.Sums.{times}
use Rattle.refusals.specs.Order.{Refusal, refuse}
use Rattle.slots.specs.Slot.{is_directory, code_of, parent_of}
use Rattle.directory.specs.Places.{slots}
use Rattle.directory.specs.Directory.{Directory}

-- slot i is live, and its bytes are s
pub record LiveSlot (v : Directory) (i : ℕ) (s : List ℕ) : Type 0 where
  pub below : i < slots
  pub here : v i ≡ some s

-- slot i is a directory
pub record DirectorySlot (v : Directory) (i : ℕ) (s : List ℕ) : Type 0 where
  pub live : LiveSlot v i s
  pub is-directory : is_directory s ≡ true

-- slot i lies beneath the directory with code c (0: the root): one or more steps to the parent lead from it there. It is in that
-- directory, or in one that lies beneath it
pub data Beneath (v : Directory) (c : ℕ) : ℕ → Type 0 where
  direct : {i : ℕ} {s : List ℕ} → LiveSlot v i s → parent_of s ≡ c → Beneath v c i
  deeper : {i j : ℕ} {s t : List ℕ} → Beneath v c j → DirectorySlot v j t → LiveSlot v i s → parent_of s ≡ code_of t → Beneath v c i

-- ---- the numbers 26 to 28, without tests

-- "a directory with code 0 or an earlier directory's code"
pub record BadCode (v : Directory) (i : ℕ) : Type 0 where
  pub bytes : List ℕ
  pub is-directory : DirectorySlot v i bytes
  pub why : (code_of bytes ≡ 0) ⊎ ((j : ℕ) × (t : List ℕ) × DirectorySlot v j t × (j < i) × (code_of t ≡ code_of bytes))

-- "a live slot's byte 254 is not 0 and no directory's code"
pub record Orphan (v : Directory) (i : ℕ) : Type 0 where
  pub bytes : List ℕ
  pub live : LiveSlot v i bytes
  pub nonzero : parent_of bytes ≡ 0 → ⊥
  pub nowhere : (j : ℕ) (t : List ℕ) → DirectorySlot v j t → code_of t ≡ parent_of bytes → ⊥

-- "a directory lies inside itself at some depth"
pub record InCycle (v : Directory) (i : ℕ) : Type 0 where
  pub bytes : List ℕ
  pub is-directory : DirectorySlot v i bytes
  pub under : Beneath v (code_of bytes) i

abbrev pub WellPlaced : Directory → ℕ → Type 0
WellPlaced v i = (Orphan v i → ⊥) × (InCycle v i → ⊥)

-- "26 over all slots first ..; then by lowest slot and there the lowest number 27 ..; 28"
pub data NestingGives (v : Directory) : Refusal → Type 0 where
  by_code : (i : ℕ) → i < slots → BadCode v i → ((k : ℕ) → k < i → BadCode v k → ⊥) → NestingGives v (refuse 26 (suc i))
  by_parent : ((k : ℕ) → k < slots → BadCode v k → ⊥) → (i : ℕ) → i < slots → Orphan v i → ((k : ℕ) → k < i → WellPlaced v k) → NestingGives v (refuse 27 (suc i))
  by_cycle : ((k : ℕ) → k < slots → BadCode v k → ⊥) → (i : ℕ) → i < slots → (Orphan v i → ⊥) → InCycle v i → ((k : ℕ) → k < i → WellPlaced v k) → NestingGives v (refuse 28 (suc i))

-- every directory has a code of its own, not 0; every live slot is in the root or in a directory; none is inside itself
pub record WellNested (v : Directory) : Type 0 where
  pub own : (i : ℕ) (s : List ℕ) → DirectorySlot v i s → code_of s ≡ 0 → ⊥
  pub unlike : (i j : ℕ) (s t : List ℕ) → DirectorySlot v i s → DirectorySlot v j t → j < i → code_of t ≡ code_of s → ⊥
  pub placed : (i : ℕ) (s : List ℕ) → LiveSlot v i s → (parent_of s ≡ 0 → ⊥) → (j : ℕ) × (t : List ℕ) × DirectorySlot v j t × (code_of t ≡ parent_of s)
  pub apart : (i : ℕ) (s : List ℕ) → DirectorySlot v i s → Beneath v (code_of s) i → ⊥

-- "a directory whose code, not 0, is another live slot's byte 254": slot i, whose bytes are s
pub record Occupied (v : Directory) (i : ℕ) (s : List ℕ) : Type 0 where
  pub is-directory : is_directory s ≡ true
  pub nonzero : code_of s ≡ 0 → ⊥
  pub other : ℕ
  pub bytes : List ℕ
  pub elsewhere : other ≡ i → ⊥
  pub live : LiveSlot v other bytes
  pub inside : parent_of bytes ≡ code_of s

-- ---- "answers how many lie beneath it and fills a lent buffer of numbers with their slots"

-- "each once": the number of each slot that lies beneath the directory with code c, and no other number
pub record ListsEachOnce (v : Directory) (c : ℕ) (l : List ℕ) : Type 0 where
  pub each-once : (i : ℕ) → Beneath v c i → times (suc i) l ≡ 1
  pub no_other : (x : ℕ) → ((i : ℕ) → x ≡ suc i → Beneath v c i → ⊥) → times x l ≡ 0

-- x stands in the list before y
pub record Before (x y : ℕ) (l : List ℕ) : Type 0 where
  pub front : List ℕ
  pub between : List ℕ
  pub rest : List ℕ
  pub whole : l ≡ front ++ (x ∷ between) ++ (y ∷ rest)

-- the directory in slot i, whose code is c, is in the list "directly followed by all that lies beneath it"
pub record Followed (v : Directory) (c i : ℕ) (l : List ℕ) : Type 0 where
  pub front : List ℕ
  pub beneath : List ℕ
  pub rest : List ℕ
  pub whole : l ≡ front ++ (suc i ∷ beneath) ++ rest
  pub holds : ListsEachOnce v c beneath

-- "their slots, each once, in slot order at each level, a directory directly followed by all that lies beneath it": l lists what
-- lies beneath the directory with code c
pub record Lists (v : Directory) (c : ℕ) (l : List ℕ) : Type 0 where
  pub holds : ListsEachOnce v c l
  pub rising : (i j : ℕ) (s t : List ℕ) → i < j → LiveSlot v i s → LiveSlot v j t → parent_of s ≡ parent_of t → Beneath v c i → Before (suc i) (suc j) l
  pub followed : (i : ℕ) (s : List ℕ) → DirectorySlot v i s → Beneath v c i → Followed v (code_of s) i l
