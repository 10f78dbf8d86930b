-- `nesting::holds_other` meets its contract: of the first `j` slots none is it.
use Prim.Native.Nat.{◌<◌}
use mathlib.Core.Path.{sym, ◌∙◌}
use native.Mathlib.Omega.{arith}
use Rattle.directory.specs.Directory.{slots_read}
use Rattle.directory.proofs.Ends.{read-most}
use Rattle.directory.proofs.Live.{met_live, met_dead}
use Rattle.nesting.proofs.Others.{left-gone, left-none, other_start, other-same, other_dead, other-elsewhere, other-found, other_end}
use Rattle.nesting.proofs.holds_other.Goals.{else-j-i-via-then-j-i+then-parent_of-code+then-is_live+else-not-has_bit, else-j-i-via-then-j-i+then-parent_of-code+else-is_live, else-j-i-via-then-j-i+else-parent_of-code, else-j-i-via-else-j-i}
use Rattle.nesting.proofs.holds_other.Goals as goal

pub loop-j-init : goal.loop-j-init
loop-j-init c = other_start _ _ _

pub returns : goal.returns
returns c = sym (other_end _ _ _ _ c.loop-j.j c.loop-j.invariant (omega arith))

pub returns-then-not-has_bit : goal.returns-then-not-has_bit
returns-then-not-has_bit c =
    let read : c.loop-j.j < slots_read c.args.dir.now = omega arith in
    sym (other-found _ _ _ _ c.loop-j.j (omega (arith, read, read-most c.args.dir.now)) c.if-j-i.true (sym c.if-not-has_bit.ensures)
    _ (met_live _ _ c.slot_at-s.ensures c.is_live.ensures read c.if-is_live.true) _ c.parent_of.ensures.0 c.if-parent_of-code.true)

pub loop-j-preserved : goal.loop-j-preserved
loop-j-preserved c =
    let a = c.loop-j in
    elim c.else-j-i.branch [
      | else-j-i-via-then-j-i+then-parent_of-code+then-is_live+else-not-has_bit w ↦
          other_dead _ _ _ _ a.j a.invariant (left-gone _ _ _ (sym w.has_bit.ensures ∙ w.if-not-has_bit.false))
      | else-j-i-via-then-j-i+then-parent_of-code+else-is_live w ↦
          other_dead _ _ _ _ a.j a.invariant (left-none _ _ _ (met_dead _ _ c.slot_at-s.ensures w.is_live.ensures w.if-is_live.false))
      | else-j-i-via-then-j-i+else-parent_of-code w ↦
          other-elsewhere _ _ _ _ a.j a.invariant _ c.slot_at-s.ensures _ w.parent_of.ensures.0 w.if-parent_of-code.false
      | else-j-i-via-else-j-i w ↦ other-same _ _ _ _ a.j a.invariant w.if-j-i.false
    ]
