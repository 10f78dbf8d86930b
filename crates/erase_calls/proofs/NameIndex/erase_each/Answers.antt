-- `erase_calls::NameIndex::erase_each` meets its contract: the first `k` names are answered.
use Rattle.erase_calls.proofs.EraseEach.{name-ten, settling_none, settling_more}
use Rattle.erase_calls.proofs.NameIndex.erase_each.Goals as goal

pub loop-k-init : goal.loop-k-init
loop-k-init c = settling_none _ _ _ _ c.requires.none

pub erase_one-erased-requires : goal.erase_one-erased-requires
erase_one-erased-requires c = name-ten _ _ _ c.requires.tens c.loop-k-test.true _ c.part_at-name.ensures

pub loop-k-preserved : goal.loop-k-preserved
loop-k-preserved c =
    let a = c.loop-k in
    settling_more _ _ _ a.k _ _ a.invariant _ c.part_at-name.ensures _ _ c.erase_one-erased.ensures _ c.answer_byte.ensures _ c.copy_into.ensures
