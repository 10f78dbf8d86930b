-- `varnucht::varnucht_erase_many` meets its contract: the answer is packed whole.
use Rattle.varnucht.proofs.EraseMany.{packed-many}
use Rattle.varnucht.proofs.varnucht_erase_many.Goals as goal

pub returns : goal.returns
returns c = packed-many _ _ _ _ _ _ _ _ c.erase_many-emptied.ensures _ c.pack.ensures
