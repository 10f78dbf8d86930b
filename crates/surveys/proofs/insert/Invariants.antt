-- `surveys::insert` meets its contract: one bit after the other.
use mathlib.Core.Path.{◌≡◌}
use Rattle.surveys.specs.Filter.{inserted_to}
use Rattle.surveys.proofs.insert.Given as goal

abbrev pub invariant-loop-b : goal.invariant-loop-b
invariant-loop-b l = l.filter ≡ inserted_to l.initial.filter l.key l.b-index
