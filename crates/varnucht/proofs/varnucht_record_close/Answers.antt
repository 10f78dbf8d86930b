-- `varnucht::varnucht_record_close` meets its contract: the answer is packed whole.
use Rattle.varnucht.proofs.Records.{packed_close}
use Rattle.varnucht.proofs.varnucht_record_close.Goals as goal

pub returns : goal.returns
returns c = packed_close _ _ c.pack.ensures _ _ _ _ _ c.close-closed.ensures
