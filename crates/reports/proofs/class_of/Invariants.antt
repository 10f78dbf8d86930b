-- `reports::class_of` meets its contract: before each turn the count is no less than the least of the class.
use Rattle.reports.proofs.Classes.{ClassLoop}
use Rattle.reports.proofs.class_of.Given as goal

abbrev pub invariant-loop-class : goal.invariant-loop-class
invariant-loop-class l = ClassLoop l.count l.class l.next
