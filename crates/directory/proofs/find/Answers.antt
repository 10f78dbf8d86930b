-- `directory::find` meets its contract: the answer is that of the slots from `i` on.
use mathlib.Core.Path.{sym, ◌∙◌}
use native.Mathlib.Omega.{arith}
use Rattle.refusals.proofs.First.{scan_skip, scan_stop}
use Rattle.names.proofs.Names.{padded-whole}
use Rattle.directory.specs.Places.{slots}
use Rattle.directory.proofs.Named.{named_read, hit_named}
use Rattle.directory.proofs.Search.{find_start, find-rest, find-long}
use Rattle.directory.proofs.find.Goals as goal

pub returns-then-name-gt10 : goal.returns-then-name-gt10
returns-then-name-gt10 c = find-long _ _ c.if-name-gt10.true

pub loop-i-init : goal.loop-i-init
loop-i-init c = (omega arith, c.padded_name-filled.ensures ∙ padded-whole _ (omega arith), find_start _ _)

pub returns-then-is_named : goal.returns-then-is_named
returns-then-is_named c =
    let a = c.loop-i in
    let e = named_read _ _ a.i (omega arith) c.slot_at.ensures c.is_named.ensures in
    sym (a.invariant.2 ∙ scan_stop slots a.i _ a.i (omega arith) (hit_named _ _ a.i _ a.invariant.1 (sym e ∙ c.if-is_named.true)))

pub loop-i-preserved : goal.loop-i-preserved
loop-i-preserved c =
    let a = c.loop-i in
    let e = named_read _ _ a.i (omega arith) c.slot_at.ensures c.is_named.ensures in
    (omega arith, a.invariant.1, a.invariant.2 ∙ scan_skip slots a.i _ (omega arith) (hit_named _ _ a.i _ a.invariant.1 (sym e ∙ c.if-is_named.false)))

pub returns : goal.returns
returns c = let a = c.loop-i in sym (a.invariant.2 ∙ find-rest _ _ a.i (omega arith))
