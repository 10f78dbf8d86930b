-- `varnucht::varnucht_rename` meets its contract: the change's answer is packed whole.
use Rattle.plans.specs.Change.{rename}
use Rattle.varnucht.proofs.Replies.{packed-change}
use Rattle.varnucht.proofs.varnucht_rename.Goals as goal

pub returns : goal.returns
returns c = packed-change (rename _ _) _ _ _ _ _ c.rename-renamed.ensures _ c.pack.ensures
