-- `varnucht::varnucht_record_add` meets its contract: the answer is packed whole.
use Rattle.varnucht.proofs.Records.{packed-piece}
use Rattle.varnucht.proofs.varnucht_record_add.Goals as goal

pub returns : goal.returns
returns c = packed-piece _ _ c.pack.ensures _ _ _ _ _ _ _ c.add-wrote.ensures
