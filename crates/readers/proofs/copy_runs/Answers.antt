-- `readers::copy_runs` meets its contract: before each turn the bytes of the runs before it stand in front.
use Prim.Native.Nat.{◌≤◌}
use mathlib.Core.Logic.{◌⊎◌, inl, inr}
use borrow.Author.Rules.{rules}
use Rattle.readers.proofs.Runs.{no_run, piece_copy_long, turn, answered}
use Rattle.readers.proofs.copy_runs.Goals as goal
use Rattle.readers.proofs.copy_runs.Goals.{then-loop-done-test+else-at-lt-SECTORS, else-loop-done-test}

pub loop-done-init : goal.loop-done-init
loop-done-init c = no_run _ _ _ _ _ c.requires.offset-small

pub loop-done-preserved : goal.loop-done-preserved
loop-done-preserved c =
    turn _ _ _ _ _ _ _ _ c.loop-done.invariant c.requires.long c.if-at-lt-SECTORS.true c.loop-done-test.true _ _ _ _
    c.min-n.ensures c.part_at.ensures c.copy_into.ensures c.position_at-at.ensures

pub shape_of-out : goal.shape_of-out
shape_of-out c = piece_copy_long c.loop-done.invariant

pub returns : goal.returns
returns c =
    let ended : (c.min-want.result ≤ c.loop-done.done) ⊎ (1600 ≤ c.loop-done.at.sector) = elim c.loop-done-test.branch [ then-loop-done-test+else-at-lt-SECTORS w ↦ inr w.if-at-lt-SECTORS.false | else-loop-done-test w ↦ inl w.loop-done-test.false ] in
    answered _ _ _ _ _ _ _ _ c.loop-done.invariant ended c.requires c.min-want.ensures
