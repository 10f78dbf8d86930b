-- `changes::is_printable` meets its contract: the bytes passed are all of 32 to 126, so the answer is that of the bytes left.
use mathlib.Core.Path.{◌≡◌}
use lib.ListN.{drop}
use Rattle.plans.specs.Change.{all_between}
use Rattle.changes.proofs.is_printable.Given as goal

abbrev pub invariant-loop-b : goal.invariant-loop-b
invariant-loop-b l = all_between 32 l.name 126 ≡ all_between 32 (drop l.b-index l.name) 126
