-- `report_bytes::join` meets its contract: 20, 31, or the numbers are added.
use Rattle.std.proofs.Common.{arith, ap}
use Rattle.refusals.specs.Answers.{outcome_of}
use Rattle.report_bytes.proofs.Raising.{numbered_is}
use Rattle.report_bytes.proofs.Kept.{joining_short, joining_other, joining_full, joining_done}
use Rattle.report_bytes.proofs.join.Goals as goal

pub returns-then-bytes-lt-REPORT_BYTES : goal.returns-then-bytes-lt-REPORT_BYTES
returns-then-bytes-lt-REPORT_BYTES c = joining_short _ _ c.if-bytes-lt-REPORT_BYTES.true (ap outcome_of c.refuse.ensures)

pub returns-then-other-lt-REPORT_BYTES : goal.returns-then-other-lt-REPORT_BYTES
returns-then-other-lt-REPORT_BYTES c = joining_other _ _ c.if-bytes-lt-REPORT_BYTES.false c.if-other-lt-REPORT_BYTES.true (ap outcome_of c.refuse-then-other-lt-REPORT_BYTES.ensures)

pub returns-then-disks-gt-MOST_DISKS : goal.returns-then-disks-gt-MOST_DISKS
returns-then-disks-gt-MOST_DISKS c =
    joining_full _ _ c.if-bytes-lt-REPORT_BYTES.false (omega arith) c.disks_in.ensures.0 c.disks_in-2.ensures.0 c.if-disks-gt-MOST_DISKS.true (ap outcome_of c.refuse-then-disks-gt-MOST_DISKS.ensures)

pub returns : goal.returns
returns c =
    let h = c.if-bytes-lt-REPORT_BYTES.false in
    joining_done _ _ h (omega arith) c.disks_in.ensures.0 c.disks_in-2.ensures.0 c.if-disks-gt-MOST_DISKS.false
    (numbered_is _ _ _ h (λ k. omega (arith, c.type_inv.bytes k)) c.add_numbers.ensures)
