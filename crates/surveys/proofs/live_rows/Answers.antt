-- `surveys::live_rows` meets its contract: its own rows first, then the one that the release check asks for, then the two
-- against the slots before it.
use mathlib.Core.Path.{ap, ◌∙◌}
use native.Mathlib.Omega.{arith}
use Rattle.refusals.specs.Answers.{reply_of}
use Rattle.directory.proofs.Ends.{read-most}
use Rattle.surveys.proofs.Pass.{slot-own, slot_waste, slot_shared, slot_twice, slot_clear}
use Rattle.std.proofs.lemmas.Result.{err_from_is_err_and}
use borrow.Author.Rules.{rules}
use Rattle.surveys.proofs.live_rows.Goals as goal

pub overflow_add-slot : goal.overflow_add-slot
overflow_add-slot c = omega (arith, c.requires.slot, read-most c.args.dir.now)

pub returns-in_err-own_at : goal.returns-in_err-own_at
returns-in_err-own_at c = let p = c.requires in let e = err_from_is_err_and c.from_residual.result c.from_residual.ensures.1 in rw (e.1, e.2) (slot-own _ _ _ _ _ _ p.here p.used c.in_err-own_at.ensures)

pub returns-in_err-waste_at : goal.returns-in_err-waste_at
returns-in_err-waste_at c = let p = c.requires in let e = err_from_is_err_and c.from_residual-in_err-waste_at.result c.from_residual-in_err-waste_at.ensures.1 in rw (e.1, e.2) (slot_waste _ _ _ _ _ _ p.here p.used c.in_ok-own_at.ensures c.in_err-waste_at.ensures)

pub returns-then-shares : goal.returns-then-shares
returns-then-shares c =
    let p = c.requires in
    ap reply_of c.refuse.ensures
    ∙ slot_shared _ _ _ _ _ _ p.here p.used c.in_ok-own_at.ensures c.in_ok-waste_at.ensures c.map_of.ensures c.shares.ensures c.if-shares.true

pub returns-then-named_before : goal.returns-then-named_before
returns-then-named_before c =
    let p = c.requires in
    ap reply_of c.refuse-then-named_before.ensures
    ∙ slot_twice _ _ _ _ _ _ p.here p.used c.in_ok-own_at.ensures c.in_ok-waste_at.ensures c.map_of.ensures c.shares.ensures c.if-shares.false
    c.name_of.ensures c.named_before.ensures c.if-named_before.true

pub returns : goal.returns
returns c =
    let p = c.requires in
    slot_clear _ _ _ _ _ _ p.here p.used c.in_ok-own_at.ensures c.in_ok-waste_at.ensures c.map_of.ensures c.shares.ensures c.if-shares.false
    c.name_of.ensures c.named_before.ensures c.if-named_before.false
