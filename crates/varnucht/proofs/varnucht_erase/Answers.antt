-- `varnucht::varnucht_erase` meets its contract: the change's answer is packed whole.
use Rattle.plans.specs.Change.{erase}
use Rattle.varnucht.proofs.Replies.{packed-change}
use Rattle.varnucht.proofs.varnucht_erase.Goals as goal

pub returns : goal.returns
returns c = packed-change (erase _) _ _ _ _ _ c.erase-erased.ensures _ c.pack.ensures
