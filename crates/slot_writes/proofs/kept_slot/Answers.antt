-- `slot_writes::kept_slot` meets its contract: three pieces of the disk's own bytes.
use mathlib.Core.Path.{ap, ◌∙◌}
use Rattle.buffers.specs.Bytes.{put}
use Rattle.slot_writes.proofs.KeptSlot.{kept-other, kept-first}
use Rattle.slot_writes.proofs.kept_slot.Goals as goal

pub returns-then-i-ne0 : goal.returns-then-i-ne0
returns-then-i-ne0 c = kept-other _ _ _ c.if-i-ne0.true

pub returns : goal.returns
returns c =
    kept-first _ _ _ _ _ _ c.if-i-ne0.false (c.copy_into.ensures ∙ ap (put _ 210) c.part_at.ensures)
    (c.copy_into-2.ensures ∙ ap (put _ 252) c.part_at-2.ensures) (c.copy_into-3.ensures ∙ ap (put _ 255) c.part_at-3.ensures)
