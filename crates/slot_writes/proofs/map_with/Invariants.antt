-- `slot_writes::map_with` meets its contract: before each turn the bits from `j` on are set.
use mathlib.Core.Path.{◌≡◌}
use lib.ListN.{drop}
use Rattle.plans.specs.Saving.{map_with}
use Rattle.slot_writes.proofs.map_with.Given as goal

abbrev pub invariant-loop-j : goal.invariant-loop-j
invariant-loop-j l = l.map ≡ map_with (drop l.j l.bits)
