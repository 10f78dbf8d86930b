-- When the listing of a directory is refused, and what it answers else: "A number is given when its row holds and nothing before it in the order does, and only then."
use Rattle.std.specs.Prelude.{ℕ, ◌≤◌, Bool, true, not, ◌&&◌, ◌||◌, List, [], ◌∷◌, ◌≡◌, eqb, length}
use Rattle.std.proofs.Math.Option.{none, some}
use Rattle.buffers.specs.Bytes.{put}
use Rattle.refusals.specs.Order.{Refusal, SlotRow, row_at, FirstSlotRow}
use Rattle.slots.specs.Slot.{is_directory, code_of}
use Rattle.names.specs.Name.{askable}
use Rattle.directory.specs.Directory.{Directory, directory}
use Rattle.directory.specs.Find.{find}
use Rattle.disk.specs.View.{View, view, view_slots}
use Rattle.disk.specs.Check.{check_disk}
use Rattle.files.specs.Calls.{file_named}
use Rattle.files.specs.Refused.{some_named, slot_named, row12, row20}
use Rattle.trees.specs.Tree.{tree_reply, tree}
use Rattle.trees.specs.Beneath.{DirectorySlot, NestingGives, WellNested, Lists}
use Rattle.tree_lists.specs.Call.{asked_code}

-- "an empty one (no 12) for the root"
abbrev pub is_root : List ℕ → Bool
is_root n = eqb (length n) 0

-- "12, 13 (not a directory), 15 and 20", none of the first three for the root; 13 with the slot found
unfoldable pub tree_rows : View → List ℕ → ℕ → List SlotRow
tree_rows l n room =
    row12 (is_root n || askable n)
    ∷ row_at 13 (slot_named l n) (not (is_root n) && (some_named l n && not (is_directory (file_named l n).bytes)))
    ∷ row_at 15 0 (not (is_root n) && not (some_named l n))
    ∷ row20 room (length (tree (view_slots l) (asked_code (view_slots l) n)))
    ∷ []

-- the check refuses the disk; or it does not, and 26 to 28 do, as `NestingGives` has it; or they do not, and of the rows this is the first
pub data RefusesTree (d n : List ℕ) (room : ℕ) (r : Refusal) : Type 0 where
  by_check : check_disk d ≡ some r → RefusesTree d n room r
  by_nesting : check_disk d ≡ none → NestingGives (view_slots (view d)) r → RefusesTree d n room r
  by_row : check_disk d ≡ none → tree_reply (view_slots (view d)) ≡ none → FirstSlotRow r (tree_rows (view d) n room) → RefusesTree d n room r

-- ---- answered

-- the directory asked for has the code c: the root, or one that the name finds
pub data AskedFor (v : Directory) (n : List ℕ) : ℕ → Type 0 where
  the_root : length n ≡ 0 → AskedFor v n 0
  a_directory : {i : ℕ} {s : List ℕ} → askable n ≡ true → find v n ≡ some i → DirectorySlot v i s → AskedFor v n (code_of s)

-- "answers how many lie beneath it and fills a lent buffer of numbers with their slots, each once, in slot order at each level, a
-- directory directly followed by all that lies beneath it": so many are answered, and `now` is the buffer at return
pub record TreeAnswered (d n buf : List ℕ) (many : ℕ) (now : List ℕ) : Type 0 where
  pub accepted : check_disk d ≡ none
  pub nested : WellNested (directory d)
  pub code : ℕ
  pub asked : AskedFor (directory d) n code
  pub list : List ℕ
  pub lists : Lists (directory d) code list
  pub how_many_lem : many ≡ length list
  pub room : length list ≤ length buf
  pub filled : now ≡ put buf 0 list
