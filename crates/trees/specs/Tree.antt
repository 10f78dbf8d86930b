-- Directories inside directories: codes, the numbers 26 to 28, and what lies beneath a directory. The words of document 02
-- stand above what they define.
use Rattle.std.specs.Prelude.{ℕ, zero, suc, Bool, false, not, cond, ◌&&◌, ◌||◌, List, [], ◌∷◌, eqb}
use Rattle.std.proofs.Math.Option.{none}
use Rattle.buffers.specs.Bytes.{count, any}
use Rattle.buffers.specs.Sums.{concat}
use Rattle.refusals.specs.Order.{Row, ◌when◌, Reply, ◌else◌, row, rows, scan}
use Rattle.slots.specs.Slot.{is_directory, code_of, parent_of}
use Rattle.directory.specs.Places.{slots}
use Rattle.directory.specs.Directory.{fold_option, Directory}
use Rattle.surveys.specs.Survey.{earlier}

-- ---- codes

-- a directory that has this code
unfoldable pub coded : ℕ → List ℕ → Bool
coded c s = is_directory s && eqb (code_of s) c

-- how many directories there are
unfoldable pub directories : Directory → ℕ
directories v = count slots (λ i. fold_option false is_directory (v i))

-- a live slot, anywhere, to which a test applies
abbrev pub anywhere : Directory → (List ℕ → Bool) → Bool
anywhere v t = earlier v slots t

-- ---- upwards

-- the directory that the directory with code c is in, by its code: among the first k slots (26 sees to it that there is one
-- such directory at most); 0 where it is in the root, and where no directory has the code
unfoldable pub parent_code_among : Directory → ℕ → ℕ → ℕ
parent_code_among v zero c = 0
parent_code_among v (suc k) c = fold_option (parent_code_among v k c) (λ s. cond (coded c s) (parent_of s) (parent_code_among v k c)) (v k)

abbrev pub parent_code : Directory → ℕ → ℕ
parent_code v c = parent_code_among v slots c

-- the same, n times
unfoldable pub ancestor_code : Directory → ℕ → ℕ → ℕ
ancestor_code v zero c = c
ancestor_code v (suc n) c = parent_code v (ancestor_code v n c)

-- going up from the directory with code c comes back to it; as many steps as there are directories are enough
unfoldable pub in_cycle : Directory → ℕ → Bool
in_cycle v c = any (directories v) (λ n. eqb (ancestor_code v (suc n) c) c)

-- ---- the numbers 26 to 28

-- "26 .., a directory with code 0 or an earlier directory's code;" at slot i
unfoldable pub code_at : Directory → ℕ → Reply
code_at v i = fold_option none (λ s. row 26 (suc i) (is_directory s && (eqb (code_of s) 0 || earlier v i (coded (code_of s))))) (v i)

abbrev pub nesting_rows : Directory → List ℕ → List Row
nesting_rows v s =
    -- "27, a live slot's byte 254 is not 0 and no directory's code;"
    (27 when not (eqb (parent_of s) 0) && not (anywhere v (coded (parent_of s))))
    -- "28, a directory lies inside itself at some depth."
    ∷ (28 when is_directory s && in_cycle v (code_of s))
    ∷ []

unfoldable pub place_at : Directory → ℕ → Reply
place_at v i = fold_option none (λ s. rows (suc i) (nesting_rows v s)) (v i)

-- "26 over all slots first ..; then by lowest slot and there the lowest number 27 ..; 28"
unfoldable pub tree_reply : Directory → Reply
tree_reply v = scan slots (code_at v) else scan slots (place_at v)

-- ---- what lies beneath

-- slot k in the listing of the directory with code c: its number, "directly followed by all that lies beneath it"
unfoldable pub level_at : Directory → ℕ → (List ℕ → List ℕ) → ℕ → List ℕ
level_at v c below k = fold_option [] (λ s. cond (eqb (parent_of s) c) (suc k ∷ below s) []) (v k)

-- "in slot order at each level"
unfoldable pub level : Directory → ℕ → (List ℕ → List ℕ) → List ℕ
level v c below = concat slots (level_at v c below)

-- all that lies beneath a slot, where n directories are not yet entered: nothing beneath a file
unfoldable pub inside : ℕ → Directory → List ℕ → List ℕ
inside zero v s = []
inside (suc n) v s = cond (is_directory s) (level v (code_of s) (inside n v)) []

-- all that lies beneath the directory with code c (0: the root), "to any depth"
unfoldable pub beneath : ℕ → Directory → ℕ → List ℕ
beneath n v c = level v c (inside n v)

abbrev pub tree : Directory → ℕ → List ℕ
tree v c = beneath (directories v) v c

-- ---- erasing a directory

-- "29, a directory whose code, not 0, is another live slot's byte 254": of slot i, whose bytes are s
unfoldable pub occupied : Directory → ℕ → List ℕ → Bool
occupied v i s =
    is_directory s && (not (eqb (code_of s) 0) && any slots (λ j. not (eqb j i) && fold_option false (λ t. eqb (parent_of t) (code_of s)) (v j)))
