-- `record_bytes::put_grown` meets its contract: three parts are put.
use Rattle.record_bytes.proofs.Laid.{grown_put}
use mathlib.Core.Path.{ap}
use lib.ListN.{take}
use Rattle.record_bytes.proofs.put_grown.Goals as goal

pub returns : goal.returns
returns c =
    grown_put _ _ (ap (take 4) c.to_le_bytes-long.ensures) c.copy_into.ensures c.copy_into-2.ensures c.copy_into-3.ensures
