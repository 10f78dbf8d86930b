-- `surveys::may_contain` meets its contract: one bit after the other, up to the first that is clear.
use mathlib.Core.Path.{◌≡◌}
use mathlib.Core.Bool.{false}
use Rattle.surveys.specs.Filter.{lacks_bit}
use Rattle.surveys.proofs.may_contain.Given as goal

abbrev pub invariant-loop-b : goal.invariant-loop-b
invariant-loop-b l = false ≡ lacks_bit l.filter l.key l.b-index
