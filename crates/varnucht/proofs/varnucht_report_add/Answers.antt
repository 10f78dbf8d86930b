-- `varnucht::varnucht_report_add` meets its contract: the answer is packed whole.
use Rattle.varnucht.proofs.Reports.{packed-add}
use Rattle.varnucht.proofs.varnucht_report_add.Goals as goal

pub returns : goal.returns
returns c = packed-add _ _ _ c.pack.ensures _ _ c.add-added.ensures
