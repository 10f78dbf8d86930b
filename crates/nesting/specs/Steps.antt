-- What the passes keep: a table of the directories by their codes, and what goes by it alone.
use Rattle.std.specs.Prelude.{ℕ, zero, suc, ◌-◌, ◌≡◌, Bool, false, not, cond, ◌&&◌, List, [], ◌∷◌, Result, eqb, length, get_or, IfOk}
use Rattle.std.proofs.Math.Option.{none}
use Rattle.buffers.specs.Bytes.{any}
use Rattle.maps.specs.Bits.{has}
use Rattle.refusals.specs.Order.{Row, ◌when◌, scan}
use Rattle.refusals.specs.Answers.{reply_of}
use Rattle.refusals.specs.declared.Refused.{Refused}
use Rattle.slots.specs.Slot.{is_directory, code_of, parent_of}
use Rattle.directory.specs.Places.{slots}
use Rattle.directory.specs.Directory.{fold_option, Directory, directory}
use Rattle.surveys.specs.Survey.{earlier}
use Rattle.trees.specs.Tree.{coded, directories, parent_code_among, code_at, tree_reply}

-- the table's entry for a code after k slots: 0 where no directory has it, else one more than the code of the directory above
unfoldable pub entry_among : Directory → ℕ → ℕ → ℕ
entry_among v k c = cond (earlier v k (coded c)) (suc (parent_code_among v k c)) 0

pub record Tabled (v : Directory) (above : List ℕ) (m : ℕ) : Type 0 where
  pub entry : (c : ℕ) → get_or above c 0 ≡ entry_among v slots c
  pub root : get_or above 0 0 ≡ 0
  pub number : m ≡ directories v

-- going up by the table
unfoldable pub climb : List ℕ → ℕ → ℕ → ℕ
climb above zero c = c
climb above (suc n) c = get_or above (climb above n c) 0 - 1

unfoldable pub back_by : List ℕ → ℕ → ℕ → Bool
back_by above m c = any m (λ n. eqb (climb above (suc n) c) c)

-- going up from a code that is passed, and not the root's, does not come back to it; and none is above the root
pub record Passed (above passed : List ℕ) (m : ℕ) : Type 0 where
  pub long : length passed ≡ 256
  pub root : get_or above 0 0 ≡ 0
  pub never : (c : ℕ) → (c ≡ 0 → ⊥) → (get_or passed c 0 ≡ 0 → ⊥) → back_by above m c ≡ false

-- in a directory that there is not
unfoldable pub is_orphan : List ℕ → List ℕ → Bool
is_orphan above s = not (eqb (parent_of s) 0) && eqb (get_or above (parent_of s) 0) 0

-- 27 and 28 by the table
abbrev pub nesting_rows_by : List ℕ → ℕ → List ℕ → List Row
nesting_rows_by above m s =
    (27 when is_orphan above s)
    ∷ (28 when is_directory s && back_by above m (code_of s))
    ∷ []

-- what the pass over 26 gives: its reply, and the table and the number where there is none
pub record Tables (d : List ℕ) (r : Result ℕ Refused) (above : List ℕ) : Type 0 where
  pub reply : reply_of r ≡ scan slots (code_at (directory d))
  pub table : IfOk r (λ (n : ℕ). Tabled (directory d) above n)

-- what both passes give: their reply, and how many directories there are where there is none
pub record Nests (d : List ℕ) (r : Result ℕ Refused) : Type 0 where
  pub reply : reply_of r ≡ tree_reply (directory d)
  pub number : IfOk r (λ (n : ℕ). n ≡ directories (directory d))

-- the live slots that are not erased yet: a map has a bit for each that is
unfoldable pub not_erased : Directory → List ℕ → Directory
not_erased v m i = cond (has m i) none (v i)

-- slot j is live, not slot i, and in the directory with the code
unfoldable pub in_other : Directory → ℕ → ℕ → ℕ → Bool
in_other v i code j = not (eqb j i) && fold_option false (λ t. eqb (parent_of t) code) (v j)
