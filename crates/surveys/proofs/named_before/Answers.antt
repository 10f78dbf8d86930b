-- `surveys::named_before` meets its contract: where the filter lacks a bit no slot is asked, else no live slot before `j` has the
-- name.
use mathlib.Core.Path.{◌≡◌, sym, ◌∙◌}
use mathlib.Core.Bool.{false}
use native.Mathlib.Omega.{arith}
use Rattle.slots.specs.Slot.{is_named}
use Rattle.directory.proofs.Named.{named_read}
use Rattle.surveys.proofs.Pass.{earlier_start}
use Rattle.surveys.proofs.Filter.{not_named, is_named_lem, key_other, unnoted}
use borrow.Author.Rules.{rules}
use Rattle.surveys.proofs.named_before.Goals as goal
use Rattle.surveys.proofs.named_before.Goals.{else-key_of-key-via-then-key_of-key+else-is_named, else-key_of-key-via-else-key_of-key}

pub returns-then-not-may_contain : goal.returns-then-not-may_contain
returns-then-not-may_contain c =
    sym (unnoted _ _ _ _ c.requires.1 c.key_of-key.ensures c.may_contain.ensures (c.if-not-may_contain.true))

pub loop-j-init : goal.loop-j-init
loop-j-init c = earlier_start _ _

pub returns-then-is_named : goal.returns-then-is_named
returns-then-is_named c =
    let a = c.loop-j in
    let e = named_read _ _ a.j (omega arith) c.slot_at-s.ensures c.is_named.ensures in
    sym (is_named_lem _ _ a.j _ c.loop-j-test.true (sym e ∙ c.if-is_named.true))

pub loop-j-preserved : goal.loop-j-preserved
loop-j-preserved c =
    let a = c.loop-j in
    let other : false ≡ is_named c.slot_at-s.result.now c.args.name.now = elim c.else-key_of-key.branch [ else-key_of-key-via-then-key_of-key+else-is_named w ↦ sym w.if-is_named.false ∙ w.is_named.ensures | else-key_of-key-via-else-key_of-key w ↦ key_other _ _ c.name_of.ensures c.key_of.ensures c.key_of-key.ensures w.if-key_of-key.false ] in
    not_named _ _ a.j (sym (named_read _ _ a.j (omega arith) c.slot_at-s.ensures other)) a.invariant

pub returns : goal.returns
returns c =
    let e : c.loop-j.j ≡ c.args.i = omega arith in
    sym (rw e at c.loop-j.invariant)
