-- `points_recording::pieces` is safe: the sectors named stay few.
use Prim.Native.Nat.{◌*◌, ◌≤◌}
use Rattle.points_recording.proofs.pieces.Given as goal

-- at most 1,562 for each piece so far
abbrev pub invariant-loop-k : goal.invariant-loop-k
invariant-loop-k l = l.sectors ≤ 1562 * l.k
