-- `gathers::map_run` meets its contract: before each turn the bits from `j` on are set.
use Prim.Native.Nat.{◌+◌, ◌-◌, ◌≤◌}
use mathlib.Core.Path.{◌≡◌}
use Rattle.plans.specs.Saving.{map_with}
use Rattle.plans.specs.Gathering.{up_from}
use Rattle.gathers.proofs.map_run.Given as goal

abbrev pub invariant-loop-j : goal.invariant-loop-j
invariant-loop-j l = (l.j ≤ l.n) × (l.map ≡ map_with (up_from (l.n - l.j) (l.b + l.j)))
