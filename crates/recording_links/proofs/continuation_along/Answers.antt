-- `recording_links::continuation_along` meets its contract: before each turn the sectors of the first k bits lead on to bit b.
use mathlib.Core.Path.{sym, ◌∙◌}
use Rattle.recording_links.proofs.LinkLoop.{no_first, walk_start, walk_done, walk_short, walk_last, walk_fault, walk_on}
use Rattle.recording_links.proofs.continuation_along.Goals as goal

pub returns-then-first-ge1560 : goal.returns-then-first-ge1560
returns-then-first-ge1560 c = no_first _ _ _ _ c.next_clear-first.ensures c.if-first-ge1560.true

pub loop-k-init : goal.loop-k-init
loop-k-init c = walk_start _ _ _ _ c.next_clear-first.ensures c.if-first-ge1560.false _ c.next_clear-b.ensures

pub returns-then-b-ge1560 : goal.returns-then-b-ge1560
returns-then-b-ge1560 c = walk_short _ _ _ _ _ c.loop-k.invariant c.loop-k-test.true c.if-b-ge1560.true

pub returns-then-c-ge1560 : goal.returns-then-c-ge1560
returns-then-c-ge1560 c =
    walk_last _ _ _ _ _ c.loop-k.invariant c.loop-k-test.true c.if-b-ge1560.false _ c.next_clear-c.ensures c.if-c-ge1560.true

pub returns-then-not-leads_to : goal.returns-then-not-leads_to
returns-then-not-leads_to c =
    walk_fault _ _ _ _ _ c.loop-k.invariant c.loop-k-test.true c.if-b-ge1560.false _ c.next_clear-c.ensures c.if-c-ge1560.false
    (sym c.leads_to.ensures ∙ c.if-not-leads_to.true)

pub loop-k-preserved : goal.loop-k-preserved
loop-k-preserved c =
    walk_on _ _ _ _ _ c.loop-k.invariant c.loop-k-test.true c.if-b-ge1560.false _ c.next_clear-c.ensures c.if-c-ge1560.false
    (sym c.leads_to.ensures ∙ c.if-not-leads_to.false)

pub returns : goal.returns
returns c = walk_done _ _ _ _ _ c.loop-k.invariant c.loop-k-test.false
