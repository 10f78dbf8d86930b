-- `report_bytes::raise` meets its contract: the sum is stored where it was read.
use Rattle.std.proofs.Common.{refl}
use Rattle.report_bytes.proofs.Raising.{raised-there}
use Rattle.report_bytes.proofs.raise.Goals as goal

pub returns : goal.returns
returns c =
    let p = c.requires in
    raised-there _ _ _ p.0 p.1 c.number_at.ensures.0 refl c.put_four.ensures
