-- `varnucht::varnucht_read` meets its contract: the reading's answer is packed whole.
use Rattle.varnucht.proofs.Replies.{packed-read}
use Rattle.varnucht.proofs.varnucht_read.Goals as goal

pub returns : goal.returns
returns c = packed-read _ _ _ c.pack.ensures _ _ _ c.read-copied.ensures
