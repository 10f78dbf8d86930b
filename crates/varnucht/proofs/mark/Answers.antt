-- `varnucht::mark` meets its contract: the change's answer is packed whole.
use Rattle.plans.specs.Change.{mark}
use Rattle.varnucht.proofs.Replies.{packed-change}
use Rattle.varnucht.proofs.mark.Goals as goal

pub returns : goal.returns
returns c = packed-change (mark _ _) _ _ _ _ _ c.set_mark-marked.ensures _ c.pack.ensures
