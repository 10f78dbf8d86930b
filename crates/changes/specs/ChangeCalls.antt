-- What a change gives; once the disk is accepted, by its plan at the slot that it finds by name.
use Rattle.std.specs.Prelude.{ℕ, ◌<◌, true, List, [], ◌∷◌, ◌≡◌, length, Result}
use Rattle.buffers.specs.Bytes.{put}
use Rattle.directory.specs.Places.{slots}
use Rattle.directory.specs.Directory.{directory, slot_or}
use Rattle.disk.specs.View.{View, view}
use Rattle.files.specs.Calls.{file_at}
use Rattle.refusals.specs.Order.{◌else◌}
use Rattle.refusals.specs.Answers.{outcome_of}
use Rattle.refusals.specs.declared.Refused.{Refused}
use Rattle.names.specs.Name.{padded}
use Rattle.steps.specs.Steps.{Step, apply, numbers}
use Rattle.plans.specs.Change.{Change, usable}
use Rattle.plans.specs.Plan.{Plan, planned_steps, plan_unless, rename_taken, is_protected, is_occupied, put_steps, plan_result, Changed, changed, changed_by, change}

-- answer, image and list at return are those of the change
abbrev pub ReturnsChange : Change → List ℕ → List ℕ → Result ℕ Refused → List ℕ → List ℕ → Type 0
ReturnsChange c d buf r d' buf' = changed (outcome_of r) d' buf' ≡ change c d buf

-- by its plan
unfoldable pub plan_call : Plan → List ℕ → List ℕ → Changed
plan_call p d buf = changed_by (plan_result d (length buf) p) d buf

abbrev pub ReturnsPlan : Plan → List ℕ → List ℕ → Result ℕ Refused → List ℕ → List ℕ → Type 0
ReturnsPlan p d buf r d' buf' = changed (outcome_of r) d' buf' ≡ plan_call p d buf

-- what steps leave, d and buf being the image and the list as handed in
pub record Applied (sts : List (Step View)) (d buf d' buf' : List ℕ) (r : ℕ) : Type 0 where
  pub many : r ≡ length (numbers sts)
  pub image : d' ≡ apply d sts
  pub list : buf' ≡ put buf 0 (numbers sts)

-- the plan that puts bytes at place o of slot i
unfoldable pub put_plan : List ℕ → ℕ → ℕ → List ℕ → Plan
put_plan d i o y = planned_steps (put_steps (view d) i (file_at (view d) i) o y)

-- the same, unless the file is protected
unfoldable pub put_unless_protected : List ℕ → ℕ → ℕ → List ℕ → Plan
put_unless_protected d i o y = plan_unless (is_protected i (file_at (view d) i)) (put_plan d i o y)

-- the plan that erases the file in slot i, unless it is protected or a directory that another live slot is in
unfoldable pub erase_plan : List ℕ → ℕ → Plan
erase_plan d i = plan_unless (is_protected i (file_at (view d) i) else is_occupied (directory d) i (file_at (view d) i)) (put_plan d i 0 (0 ∷ []))

-- a new name, unless it is taken
unfoldable pub rename_plan : List ℕ → ℕ → List ℕ → Plan
rename_plan d i new =
    plan_unless (rename_taken (directory d) i (file_at (view d) i) new else is_protected i (file_at (view d) i)) (put_plan d i 1 (padded new))

-- slot i holds a file, with the bytes that are read there
pub record FileInSlot (d : List ℕ) (i : ℕ) : Type 0 where
  pub below : i < slots
  pub bytes : (file_at (view d) i).bytes ≡ slot_or d i

-- a place of such a slot
pub record ByteInSlot (d : List ℕ) (i o : ℕ) : Type 0 where
  pub slot : FileInSlot d i
  pub inside : o < 256

-- such a slot, and a new name that is fit
pub record NewNameInSlot (d : List ℕ) (i : ℕ) (new : List ℕ) : Type 0 where
  pub slot : FileInSlot d i
  pub fit : usable new ≡ true
