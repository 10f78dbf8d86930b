-- `varnucht::varnucht_save` meets its contract: the change's answer is packed whole.
use Rattle.plans.specs.Change.{save}
use Rattle.varnucht.proofs.Replies.{packed-change}
use Rattle.varnucht.proofs.varnucht_save.Goals as goal

pub returns : goal.returns
returns c = packed-change (save _) _ _ _ _ _ c.save-saved.ensures _ c.pack.ensures
