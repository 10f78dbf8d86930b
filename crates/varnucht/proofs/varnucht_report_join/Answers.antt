-- `varnucht::varnucht_report_join` meets its contract: the answer is packed whole.
use Rattle.varnucht.proofs.Reports.{packed_join}
use Rattle.varnucht.proofs.varnucht_report_join.Goals as goal

pub returns : goal.returns
returns c = packed_join _ _ _ c.pack.ensures _ _ c.join-joined.ensures
