-- `report_bytes::add` meets its contract: 20, 31, or the disk is counted.
use Rattle.std.proofs.Common.{arith, ap}
use Rattle.refusals.specs.Answers.{outcome_of}
use Rattle.report_bytes.proofs.Raising.{numbered_is}
use Rattle.report_bytes.proofs.Kept.{adding_short, adding_full, adding_done}
use Rattle.report_bytes.proofs.add.Goals as goal

pub returns-then-bytes-lt-REPORT_BYTES : goal.returns-then-bytes-lt-REPORT_BYTES
returns-then-bytes-lt-REPORT_BYTES c = adding_short _ _ c.if-bytes-lt-REPORT_BYTES.true (ap outcome_of c.refuse.ensures)

pub returns-then-disks-gt-MOST_DISKS : goal.returns-then-disks-gt-MOST_DISKS
returns-then-disks-gt-MOST_DISKS c =
    adding_full _ _ c.if-bytes-lt-REPORT_BYTES.false c.disks_in-disks.ensures.0 c.if-disks-gt-MOST_DISKS.true (ap outcome_of c.refuse-then-disks-gt-MOST_DISKS.ensures)

pub returns : goal.returns
returns c =
    let h = c.if-bytes-lt-REPORT_BYTES.false in
    adding_done _ _ h c.disks_in-disks.ensures.0 c.if-disks-gt-MOST_DISKS.false (numbered_is _ _ _ h (λ k. omega (arith, c.type_inv.bytes k)) c.count_disk.ensures)
