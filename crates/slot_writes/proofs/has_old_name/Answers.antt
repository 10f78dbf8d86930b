-- `slot_writes::has_old_name` meets its contract: the first test that fails, or all that hold.
use mathlib.Core.Path.{sym, ◌∙◌}
use mathlib.Core.Bool.{true≢false}
use native.Mathlib.Omega.{arith}
use borrow.Author.Tests.{le-ltb, ltb-true, ltb-false}
use Rattle.slot_writes.proofs.Dirs.{old_far, old_named, old-last, old_by}
use Rattle.slot_writes.proofs.has_old_name.Goals as goal
use Rattle.slot_writes.proofs.has_old_name.Goals.{then-i-lt-LAST_SLOT, else-i-lt-LAST_SLOT, then-is_nameless, else-is_nameless}

pub returns-then-i-slots_in : goal.returns-then-i-slots_in
returns-then-i-slots_in c =
    let yes = c.if-i-slots_in.true in
    elim c.if-is_nameless.branch [
      | then-is_nameless w ↦
          elim c.if-i-lt-LAST_SLOT.branch [
            | then-i-lt-LAST_SLOT v ↦
                old_by _ _ (omega (arith, v.if-i-lt-LAST_SLOT.true)) v.slot_at.ensures v.is_nameless.ensures (sym v.value-is ∙ w.if-is_nameless.true)
                (omega (arith, ltb-true _ _ (sym w.value-is ∙ yes), w.slots_in.ensures.0)) c.slot_at-then-i-slots_in.ensures c.is_nameless-then-i-slots_in.ensures
            | else-i-lt-LAST_SLOT v ↦ absurd (true≢false (sym w.if-is_nameless.true ∙ v.value-is ∙ le-ltb _ _ v.if-i-lt-LAST_SLOT.false))
          ]
      | else-is_nameless w ↦ absurd (true≢false (sym yes ∙ w.value-is ∙ w.if-is_nameless.false))
    ]

pub returns-else-i-slots_in : goal.returns-else-i-slots_in
returns-else-i-slots_in c =
    let no = c.if-i-slots_in.false in
    elim c.if-is_nameless.branch [
      | then-is_nameless w ↦
          elim c.if-i-lt-LAST_SLOT.branch [
            | then-i-lt-LAST_SLOT v ↦
                no
                ∙ old-last _ _ (omega (arith, v.if-i-lt-LAST_SLOT.true)) v.slot_at.ensures v.is_nameless.ensures (sym v.value-is ∙ w.if-is_nameless.true)
                (omega (arith, ltb-false _ _ (sym w.value-is ∙ no), w.slots_in.ensures.0))
            | else-i-lt-LAST_SLOT v ↦ no ∙ old_far _ _ v.if-i-lt-LAST_SLOT.false
          ]
      | else-is_nameless w ↦
          elim c.if-i-lt-LAST_SLOT.branch [
            | then-i-lt-LAST_SLOT v ↦
                no ∙ old_named _ _ (omega (arith, v.if-i-lt-LAST_SLOT.true)) v.slot_at.ensures v.is_nameless.ensures (sym v.value-is ∙ w.if-is_nameless.false)
            | else-i-lt-LAST_SLOT v ↦ no ∙ old_far _ _ v.if-i-lt-LAST_SLOT.false
          ]
    ]
