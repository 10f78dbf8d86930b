-- `erase_calls::NameIndex::find_left` meets its contract: no slot below `c` is left and has the name.
use mathlib.Core.Path.{sym, ◌∙◌}
use Rattle.erase_calls.proofs.Seek.{seek_start, seek_less, seek_gone, seek_other, seek_found, seek_none}
use Rattle.erase_calls.proofs.NameIndex.find_left.Goals.{else-not-has_bit-via-then-not-has_bit+else-is_named, else-not-has_bit-via-else-not-has_bit}
use Rattle.erase_calls.proofs.NameIndex.find_left.Goals as goal

pub loop-c-init : goal.loop-c-init
loop-c-init c = seek_start _ _ _ _ c.args.self.now.indexed.entered _ c.bucket_of.ensures.0 c.bucket_of.ensures.1 _ c.from-c.ensures

pub returns-then-is_named : goal.returns-then-is_named
returns-then-is_named c =
    let a = c.loop-c in
    sym (seek_found _ _ _ _ c.args.self.now.indexed.entered a.c a.invariant c.loop-c-test.true _ c.from-c-in-loop-c.ensures (sym c.if-not-has_bit.ensures)
    _ c.slot_at.ensures _ c.is_named.ensures c.requires c.if-is_named.true)

pub loop-c-smaller : goal.loop-c-smaller
loop-c-smaller c =
    let a = c.loop-c in
    seek_less _ _ _ _ c.args.self.now.indexed.entered a.c a.invariant c.loop-c-test.true _ c.from-c-in-loop-c.ensures

pub loop-c-preserved : goal.loop-c-preserved
loop-c-preserved c =
    let a = c.loop-c in
    let x = c.args.self.now.indexed.entered in
    elim c.else-not-has_bit.branch [
      | else-not-has_bit-via-then-not-has_bit+else-is_named w ↦
          seek_other _ _ _ _ x a.c a.invariant c.loop-c-test.true _ c.from-c-in-loop-c.ensures (sym c.has_bit.ensures ∙ w.if-not-has_bit.true)
          _ w.slot_at.ensures _ w.is_named.ensures w.if-is_named.false
      | else-not-has_bit-via-else-not-has_bit w ↦
          seek_gone _ _ _ _ x a.c a.invariant c.loop-c-test.true _ c.from-c-in-loop-c.ensures (sym c.has_bit.ensures ∙ w.if-not-has_bit.false)
    ]

pub returns : goal.returns
returns c = sym (seek_none _ _ _ c.loop-c.c c.loop-c.invariant c.loop-c-test.false c.requires)
