-- What bytes hold, and what a call leaves of them.
use Rattle.std.specs.Prelude.{ℕ, ◌≤◌, List, ◌≡◌, length, get_or}
use Rattle.refusals.specs.Answers.{done, Out}
use Rattle.reports.specs.Totals.{Disks, ReportMade}
use Rattle.report_bytes.specs.Bytes.{report_bytes, report_numbers_in}

-- bytes that hold the report over these disks
pub record HoldsReport (ds : Disks) (b : List ℕ) : Type 0 where
  pub room : report_bytes ≤ length b
  pub made : ReportMade ds (report_numbers_in b)

-- after a call: the disks in the report, the bytes that hold it, and the bytes past its numbers, which stay
pub record ReportLeft (ds : Disks) (b : List ℕ) (r : Out) : Type 0 where
  pub disks : r.outcome ≡ done (length ds) 0
  pub holds : HoldsReport ds r.buffer
  pub long : length r.buffer ≡ length b
  pub rest : (i : ℕ) → 444 ≤ i → get_or r.buffer i 0 ≡ get_or b i 0
