-- `report_bytes::count_accepted` meets its contract: the three numbers are raised one after the other.
use Rattle.std.proofs.Common.{arith}
use Rattle.report_bytes.proofs.Raising.{rest-room}
use Rattle.report_bytes.proofs.Counting.{three}
use Rattle.report_bytes.proofs.count_accepted.Goals as goal

pub raise-requires-2 : goal.raise-requires-2
raise-requires-2 c =
    (omega arith, rest-room c.raise.ensures.same c.requires.0)

pub raise-requires-3 : goal.raise-requires-3
raise-requires-3 c =
    (omega arith, rest-room c.raise-2.ensures.same (rest-room c.raise.ensures.same c.requires.0))

pub shape_of-bytes : goal.shape_of-bytes
shape_of-bytes c =
    (three _ _ _ c.raise.ensures c.raise-2.ensures c.raise-3.ensures).same.long

pub returns : goal.returns
returns c =
    three _ _ _ c.raise.ensures c.raise-2.ensures c.raise-3.ensures
