-- `varnucht::varnucht_record_open` meets its contract: the answer is packed whole.
use Rattle.varnucht.proofs.Records.{packed_opening_lem}
use Rattle.varnucht.proofs.varnucht_record_open.Goals as goal

pub returns : goal.returns
returns c = packed_opening_lem _ _ c.pack.ensures _ _ _ _ c.open-opened.ensures
