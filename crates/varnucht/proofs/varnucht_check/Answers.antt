-- `varnucht::varnucht_check` meets its contract: the verdict is packed whole.
use Rattle.varnucht.proofs.Bounds.{checking_within}
use Rattle.varnucht.proofs.Replies.{packed_check}
use Rattle.varnucht.proofs.varnucht_check.Goals as goal

pub returns : goal.returns
returns c = packed_check _ (checking_within _) _ c.check.ensures _ c.pack_verdict.ensures
