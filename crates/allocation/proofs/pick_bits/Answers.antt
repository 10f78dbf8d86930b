-- `allocation::pick_bits` meets its contract: before each turn `j` of the bits are found among those below `b`.
use Rattle.allocation.proofs.Picked.{picked_done, picked_end}
use Rattle.allocation.proofs.pick_bits.Goals as goal

pub returns-else-j-room : goal.returns-else-j-room
returns-else-j-room c = picked_done _ _ _ _ _ _ c.loop-b.invariant _ c.min-room.ensures c.if-j-room.false

pub returns-after-loop-b : goal.returns-after-loop-b
returns-after-loop-b c = picked_end _ _ _ _ _ _ c.loop-b.invariant c.loop-b-test.false
