-- The order of marks, of a call in any layer: the app's calls with lists of bytes, and those below them with lists of numbers.
-- The words of document 02 stand above what they define.
use Rattle.std.specs.Prelude.{ℕ, ◌≡◌, List, [], ◌∷◌, ◌++◌, length}
use Rattle.refusals.specs.Order.{Refusal}
use Rattle.refusals.specs.Answers.{done}
use Rattle.plans.specs.Change.{mark, rename}
use Rattle.plans.specs.Plan.{Result, refused_result, new_disk, run_change}
use Rattle.mark_order.specs.MarkCalls.{MarkCall, Different, MarksOneName, OnePair, AllCommuting, ChangeCall, SameAnswer, call_mark, after_marks, EitherOrder, Merged}
use Rattle.mark_order.specs.RenameBack.{StoredName, RenameRestores}

-- "Where every sector list has room": a premise where it is needed. Marks change places without it too, and on every disk: with a
-- list that has no room, or on a disk that is not accepted, a mark is refused in either order.
pub record MarkOrder (call : ChangeCall) (Room : List ℕ → Type 0) : Type 0 where
  -- "hide, show, protect and release on different names give the same disk in either order;"
  pub different : (a b : MarkCall) → Different a b → (d : List ℕ) → EitherOrder call a b d
  -- "that on one name the hide pair and the protect pair commute," and on any two
  pub pairs : (a b : MarkCall) → (OnePair a b → ⊥) → (d : List ℕ) → EitherOrder call a b d
  -- "a mark twice is a mark once,"
  pub twice : (a b : MarkCall) (ts : List MarkCall) → MarksOneName a b → a.sets ≡ b.sets → Room b.list → (d : List ℕ)
      → after_marks call (a ∷ (ts ++ (b ∷ []))) d ≡ after_marks call (ts ++ (b ∷ [])) d
  -- "and the later of a pair holds;" whatever marks lie between
  pub later : (a b : MarkCall) (ts : List MarkCall) → MarksOneName a b → OnePair a b → Room b.list → (d : List ℕ)
      → after_marks call (a ∷ (ts ++ (b ∷ []))) d ≡ after_marks call (ts ++ (b ∷ [])) d
  -- "and that an accepted rename followed by the rename back restores every byte, where the old name, as stored, is the one given
  -- back and is usable as a new one."
  pub back : (d n to old a b : List ℕ) (k f : ℕ) → (call (rename n to) d a).outcome ≡ done k f → StoredName d n old → Room b
      → RenameRestores call d n to old a b
  -- "The app merges marks made on two phones.": however it merges them, the disk is the same
  pub merged : (xs ys zs ws : List MarkCall) → AllCommuting xs ys → Merged xs ys zs → Merged xs ys ws → (d : List ℕ)
      → after_marks call zs d ≡ after_marks call ws d
  -- and a mark answers after any others, on whatever names, what it answers without them
  pub answers : (ts : List MarkCall) (t : MarkCall) (d : List ℕ) → SameAnswer (call_mark call t (after_marks call ts d)) (call_mark call t d)

-- ---- the same of two runs

-- the new disk and the sectors named, or the refusal
abbrev pub run_mark : MarkCall → List ℕ → Result
run_mark t d = run_change (mark t.sets t.name) d (length t.list)

-- b and then a: b names the sectors ts, a names ss, and the disk f is left
pub record OtherWay (a b : MarkCall) (d f ss ts : List ℕ) : Type 0 where
  pub between : List ℕ
  pub first : run_mark b d ≡ new_disk between ts
  pub second : run_mark a between ≡ new_disk f ss

pub record EitherRun (a b : MarkCall) (d : List ℕ) : Type 0 where
  -- where both are accepted in one order, both are in the other, with the same disk and each with the same sectors
  pub both : (e f ss ts : List ℕ) → run_mark a d ≡ new_disk e ss → run_mark b e ≡ new_disk f ts → OtherWay a b d f ss ts
  -- where one of the two is refused, it is refused in the other order too, with the other done
  pub first_stopped : (e ts : List ℕ) (r : Refusal) → run_mark a d ≡ refused_result r → run_mark b d ≡ new_disk e ts → run_mark a e ≡ refused_result r
  pub second_stopped : (e ss : List ℕ) (r : Refusal) → run_mark a d ≡ new_disk e ss → run_mark b e ≡ refused_result r → run_mark b d ≡ refused_result r
