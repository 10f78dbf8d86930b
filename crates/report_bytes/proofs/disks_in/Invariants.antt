-- `report_bytes::disks_in` meets its contract: before each turn the first `k` numbers are added up.
use Rattle.report_bytes.specs.Bytes.{report_numbers_in}
use Rattle.reports.proofs.Raised.{SumLoop}
use Rattle.report_bytes.proofs.disks_in.Given as goal

abbrev pub invariant-loop-k : goal.invariant-loop-k
invariant-loop-k l = SumLoop (report_numbers_in l.bytes) l.disks l.k
