-- `varnucht::varnucht_check_release` meets its contract: the verdict is packed whole.
use Rattle.varnucht.proofs.Bounds.{releasing_within}
use Rattle.varnucht.proofs.Replies.{packed_check}
use Rattle.varnucht.proofs.varnucht_check_release.Goals as goal

pub returns : goal.returns
returns c = packed_check _ (releasing_within _) _ c.check_release.ensures _ c.pack_verdict.ensures
