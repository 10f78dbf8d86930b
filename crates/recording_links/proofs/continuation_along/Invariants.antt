-- `recording_links::continuation_along` meets its contract: before each turn the sectors of the first k bits lead on to bit b.
use Rattle.recording_links.proofs.LinkLoop.{Walked}
use Rattle.recording_links.proofs.continuation_along.Given as goal

abbrev pub invariant-loop-k : goal.invariant-loop-k
invariant-loop-k l = Walked l.image l.map l.n l.b l._k
