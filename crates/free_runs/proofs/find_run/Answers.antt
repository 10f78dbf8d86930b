-- `free_runs::find_run` meets its contract: before each turn the last `len` bits before `b` are clear, and no run begins before them.
use mathlib.Core.Path.{sym, ◌∙◌}
use Rattle.free_runs.proofs.Pass.{alike, trail_set, trail_clear, trail_none}
use Rattle.free_runs.proofs.find_run.Goals as goal

pub loop-b-preserved-then-is_set : goal.loop-b-preserved-then-is_set
loop-b-preserved-then-is_set c =
    let l = c.loop-b in
    trail_set _ _ l.len l.b _ l.invariant (alike _ _ _ c.loop-b-test.true c.stretch_at-k.ensures) (sym c.has_bit-is_set.ensures ∙ c.if-is_set.true)

pub loop-b-preserved : goal.loop-b-preserved
loop-b-preserved c =
    let l = c.loop-b in
    trail_clear _ _ l.len l.b _ l.invariant (alike _ _ _ c.loop-b-test.true c.stretch_at-k.ensures) (sym c.has_bit-is_set.ensures ∙ c.if-is_set.false) c.if-count-len.false

pub returns : goal.returns
returns c = let l = c.loop-b in trail_none _ _ l.len l.b l.invariant c.loop-b-test.false
