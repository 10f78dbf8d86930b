-- `buffers::part_at` meets its contract.
use native.Mathlib.Nat.{add-sub_cancel_left}
use Rattle.buffers.specs.Bytes.{part}
use Rattle.buffers.proofs.Lists.{part-clipped}
use Rattle.buffers.proofs.part_at.Goals as goal

pub returns : goal.returns
unfolding part
returns c = rw add-sub_cancel_left (part-clipped _ _ _ _ _ c.min-start.ensures c.min.ensures)
