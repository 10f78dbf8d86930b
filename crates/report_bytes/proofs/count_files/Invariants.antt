-- `report_bytes::count_files` meets its contract: before each turn the files of the first `i` slots are counted.
use Rattle.std.proofs.Common.{◌-◌}
use Rattle.directory.specs.Places.{slots}
use Rattle.directory.specs.Directory.{directory}
use Rattle.report_bytes.proofs.Counting.{CountLoop}
use Rattle.report_bytes.proofs.count_files.Given as goal

abbrev pub invariant-loop-seen : goal.invariant-loop-seen
invariant-loop-seen l = CountLoop (directory l.image) l.initial.bytes l.bytes l.seen l.i

abbrev pub decreases-loop-seen : goal.decreases-loop-seen
decreases-loop-seen l = slots - l.i
