-- What the two calls give, of every report: also of one that no call of ours made.
use Rattle.std.specs.Prelude.{ℕ, ◌+◌, ◌%◌, ◌^◌, List, ltb, get_or, set}
use Rattle.buffers.specs.Bytes.{tab}
use Rattle.buffers.specs.Sums.{sum}
use Rattle.refusals.specs.Order.{Reply, row}
use Rattle.refusals.specs.Answers.{done, Out, filled}
use Rattle.disk.specs.View.{view}
use Rattle.reports.specs.Numbers.{number_at, report_of}

-- the disks in a report: accepted, and refused by each number
unfoldable pub disks_in : List ℕ → ℕ
disks_in r = sum 33 (λ k. get_or r k 0)

-- a report with one of its numbers raised
unfoldable pub raised_at : List ℕ → ℕ → ℕ → List ℕ
raised_at r k x = set r k ((get_or r k 0 + x) % 2 ^ 32)

-- a report's numbers, each with what comes to it, modulo 2^32
unfoldable pub raised : List ℕ → (ℕ → ℕ) → List ℕ
raised r f = tab 111 (λ k. (get_or r k 0 + f k) % 2 ^ 32)

-- "31, a disk or join that would pass 65,535 disks, the report unchanged."
abbrev pub report_full : ℕ → Reply
report_full disks = row 31 0 (ltb 65535 disks)

-- "Add disks one at a time to a report": its value is the disks in the report after it
unfoldable pub add_disk : List ℕ → List ℕ → Out
add_disk r d = filled (report_full (disks_in r + 1)) (done (disks_in r + 1) 0) (raised r (number_at (report_of (view d)))) r

-- "Two reports join"
unfoldable pub join_reports : List ℕ → List ℕ → Out
join_reports r other = filled (report_full (disks_in r + disks_in other)) (done (disks_in r + disks_in other) 0) (raised r (λ k. get_or other k 0)) r
