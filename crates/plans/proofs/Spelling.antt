-- Each spelling of a name is erased, renamed, marked and gathered as every other, and as taken for a save.
use Prim.Native.Nat.{ℕ}
use mathlib.Core.Path.{◌≡◌, ap}
use mathlib.Core.List.{List}
use Rattle.names.specs.Name.{Same}
use Rattle.disk.specs.View.{view, view_slots}
use Rattle.disk.specs.Check.{check_disk}
use Rattle.files.proofs.Spelling.{spelt_asked, spelt_found}
use Rattle.plans.specs.Change.{Mark, Change, erase, rename, mark, gather}
use Rattle.plans.specs.Plan.{Plan, taken_at, name_taken, plan_of, plan, plan_result, checked_result, run_change}

-- on every disk, accepted or not, for every two spellings, usable or not: image, list, number answered or refusal
module _ (d m n : List ℕ) (e : Same m n) (room : ℕ) where
  planned : (c c' : Change) → plan c d ≡ plan c' d → run_change c d room ≡ run_change c' d room
  unfolding run_change
  planned c c' z = ap (λ (p : Plan). checked_result (check_disk d) (plan_result d room p)) z

  pub spelt_erase : run_change (erase m) d room ≡ run_change (erase n) d room
  unfolding plan_of
  spelt_erase = planned (erase m) (erase n) (rw (spelt_asked d m n e, spelt_found d m n e))

  -- of the name asked for; a new name is stored as it is typed
  pub spelt_rename : (new : List ℕ) → run_change (rename m new) d room ≡ run_change (rename n new) d room
  unfolding plan_of
  spelt_rename new = planned (rename m new) (rename n new) (rw (spelt_asked d m n e, spelt_found d m n e))

  pub spelt_mark : (k : Mark) → run_change (mark k m) d room ≡ run_change (mark k n) d room
  unfolding plan_of
  spelt_mark k = planned (mark k m) (mark k n) (rw (spelt_asked d m n e, spelt_found d m n e))

  pub spelt_gather : run_change (gather m) d room ≡ run_change (gather n) d room
  unfolding plan_of
  spelt_gather = planned (gather m) (gather n) (rw (spelt_asked d m n e, spelt_found d m n e))

-- 16 of a save
pub spelt_taken : (d m n : List ℕ) → Same m n → name_taken (view_slots (view d)) m ≡ name_taken (view_slots (view d)) n
spelt_taken d m n e = ap taken_at (spelt_found d m n e)
