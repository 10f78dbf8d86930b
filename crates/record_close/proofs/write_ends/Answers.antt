-- `record_close::write_ends` meets its contract: one sector alone, or the last and then the first.
use Rattle.record_close.proofs.Ends.{ends_one, ends_two}
use Rattle.record_close.proofs.Whole.{chained_some}
use Rattle.record_close.proofs.write_ends.Goals as goal

pub bounds-bits-0 : goal.bounds-bits-0
bounds-bits-0 c = chained_some _ _ c.requires

pub returns-then-n-lt2 : goal.returns-then-n-lt2
returns-then-n-lt2 c =
    ends_one _ _ c.args.bits.now c.if-n-lt2.true (chained_some _ _ c.requires) (c.requires.bits.small 0 (chained_some _ _ c.requires)) c.from.ensures c.write_first.ensures

pub returns : goal.returns
returns c =
    ends_two _ _ c.args.bits.now c.if-n-lt2.false c.requires.bits.small c.from-2.ensures c.write_last.ensures c.from-3.ensures c.link_of-next.ensures c.from-4.ensures
    c.write_first-2.ensures
