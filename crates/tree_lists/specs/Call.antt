-- The call: the numbers of what lies beneath a directory, as a function of the view.
use Rattle.std.specs.Prelude.{ℕ, suc, false, not, cond, List, eqb, ltb, length}
use Rattle.std.proofs.Math.Option.{none, some}
use Rattle.refusals.specs.Order.{refuse, Reply, ◌else◌, row}
use Rattle.refusals.specs.Answers.{done, Out, filled}
use Rattle.slots.specs.Slot.{is_directory, code_of}
use Rattle.names.specs.Name.{askable}
use Rattle.directory.specs.Directory.{fold_option, Directory}
use Rattle.directory.specs.Find.{find}
use Rattle.disk.specs.View.{View, view, view_slots}
use Rattle.disk.specs.Check.{check_view}
use Rattle.trees.specs.Tree.{tree_reply, tree}

-- "before 12, 13 (not a directory), 15": "a directory's name, an empty one (no 12) for the root"
unfoldable pub name_reply : Directory → List ℕ → Reply
name_reply v n =
    cond (eqb (length n) 0) none
    (row 12 0 (not (askable n)) else fold_option (some (refuse 15 0)) (λ i. row 13 (suc i) (not (fold_option false is_directory (v i)))) (find v n))

-- the code of the directory with the name
unfoldable pub asked_code : Directory → List ℕ → ℕ
asked_code v n = cond (eqb (length n) 0) 0 (fold_option 0 (λ i. fold_option 0 code_of (v i)) (find v n))

-- "answers how many lie beneath it and fills a lent buffer of numbers with their slots"; 20 where it is too short
unfoldable pub fill_with : List ℕ → Reply → List ℕ → Out
fill_with l r buf = filled (r else row 20 0 (ltb (length buf) (length l))) (done (length l) 0) l buf

-- "Refusals of this call, after the disk check and before 12, 13 (not a directory), 15 and 20: 26 ..; 27 ..; 28": all but 20
abbrev pub tree_refusal : View → List ℕ → Reply
tree_refusal l n = check_view l else tree_reply (view_slots l) else name_reply (view_slots l) n

-- what lies beneath the directory asked for
abbrev pub tree_of : View → List ℕ → List ℕ
tree_of l n = tree (view_slots l) (asked_code (view_slots l) n)

unfoldable pub tree_view : View → List ℕ → List ℕ → Out
tree_view l n buf = fill_with (tree_of l n) (tree_refusal l n) buf

abbrev pub tree_listing : List ℕ → List ℕ → List ℕ → Out
tree_listing d n buf = tree_view (view d) n buf
