-- What a gather comes to: its outcome, the image at return, and the sectors named.
use Rattle.std.specs.Prelude.{ℕ, suc, ◌+◌, ◌≤◌, ◌<◌, List, [], ◌∷◌, ◌++◌, ◌≡◌, length}
use Rattle.std.specs.Prelude as Prelude
use Rattle.std.proofs.Math.Option.{some}
use Rattle.refusals.specs.Order.{row}
use Rattle.refusals.specs.Answers.{done, refused, refusal_of}
use Rattle.refusals.specs.declared.Refused.{Refused}
use Rattle.slots.specs.Slot.{is_directory}
use Rattle.chains.specs.File.{File}
use Rattle.directory.specs.Places.{slots, dir_sector}
use Rattle.directory.specs.Directory.{directory, slot_or}
use Rattle.surveys.specs.declared.UsedMap.{UsedMap}
use Rattle.disk.specs.View.{view}
use Rattle.files.specs.Calls.{file_at}
use Rattle.files.specs.Steps.{CheckedDisk}
use Rattle.plans.specs.Change.{gather}
use Rattle.plans.specs.Gathered.{run_sectors}
use Rattle.plans.specs.Plan.{Plan, plan_unless, move_plan, Result, refused_result, new_disk, plan_result, run_change, Changed, changed}
use Rattle.gathers.specs.declared.Move.{Move}

-- "Data first in chain order, slot sector last": the sectors of a file that was moved
abbrev pub moved_sectors : Move → List ℕ
moved_sectors m = run_sectors m.count m.bit ++ (dir_sector m.slot ∷ [])

-- what a gather answers: the file was moved, it stays where it is, or the call is refused
abbrev pub GatherAnswer : Type 0
GatherAnswer = Prelude.Result (Prelude.Option Move) Refused

-- what the answer stands for, with the image at return
abbrev pub gather_changed : GatherAnswer → List ℕ → Changed
gather_changed (Prelude.Ok Prelude.None) d = changed (done 0 0) d []
gather_changed (Prelude.Ok (Prelude.Some m)) d = changed (done (m.count + 1) 0) d (moved_sectors m)
gather_changed (Prelude.Err r) d = changed (refused (refusal_of r)) d []

abbrev pub changed_by_result : Result → List ℕ → Changed
changed_by_result (refused_result r) d = changed (refused r) d []
changed_by_result (new_disk new ss) d = changed (done (length ss) 0) new ss

-- the change with a list of so many numbers
unfoldable pub gather_call : List ℕ → List ℕ → ℕ → Changed
gather_call n d room = changed_by_result (run_change (gather n) d room) d

-- its plan at the slot that has the name: "A kind 21 is refused 13.", and else the file is moved or left
unfoldable pub gather_plan_at : List ℕ → ℕ → File → Plan
gather_plan_at d i f = plan_unless (row 13 (suc i) (is_directory f.bytes)) (move_plan (view d) i f)

unfoldable pub gather_at_slot : List ℕ → ℕ → ℕ → Changed
gather_at_slot d i room = changed_by_result (plan_result d room (gather_plan_at d i (file_at (view d) i))) d

-- the numbers are those of a slot and of a run of map bits, and a list of so many numbers has room for the sectors
pub record MoveInRange (m : Move) (room : ℕ) : Type 0 where
  pub slot : m.slot < slots
  pub small : m.bit + m.count ≤ 1560
  pub fits : m.count + 1 ≤ room

abbrev pub GatherFits : GatherAnswer → ℕ → Type 0
GatherFits (Prelude.Ok Prelude.None) room = Unit {0}
GatherFits (Prelude.Ok (Prelude.Some m)) room = MoveInRange m room
GatherFits (Prelude.Err r) room = Unit {0}

-- an accepted disk, its used map, and a live slot
pub record LiveSlotOf (d : List ℕ) (u : UsedMap) (i : ℕ) : Type 0 where
  pub disk : CheckedDisk d u
  pub slot : i < slots
  pub live : directory d i ≡ some (slot_or d i)
