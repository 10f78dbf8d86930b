-- `report_bytes::add_numbers` meets its contract: before each turn the numbers before place `k` are added.
use Rattle.report_bytes.proofs.Counting.{JoinLoop}
use Rattle.report_bytes.proofs.add_numbers.Given as goal

abbrev pub invariant-loop-k : goal.invariant-loop-k
invariant-loop-k l = JoinLoop l.initial.bytes l.other l.bytes l.k
