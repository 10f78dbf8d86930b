-- `varnucht::varnucht_gather` meets its contract: the change's answer is packed whole.
use Rattle.plans.specs.Change.{gather}
use Rattle.varnucht.proofs.Replies.{packed-change}
use Rattle.varnucht.proofs.varnucht_gather.Goals as goal

pub returns : goal.returns
returns c = packed-change (gather _) _ _ _ _ _ c.gather-gathered.ensures _ c.pack.ensures
