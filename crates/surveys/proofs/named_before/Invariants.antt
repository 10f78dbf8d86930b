-- `surveys::named_before` meets its contract: where the filter lacks a bit no slot is asked, else no live slot before `j` has the
-- name.
use mathlib.Core.Path.{◌≡◌}
use mathlib.Core.Bool.{false}
use Rattle.slots.specs.Slot.{name_of}
use Rattle.names.specs.Name.{same_name}
use Rattle.directory.specs.Directory.{directory}
use Rattle.surveys.specs.Survey.{earlier}
use Rattle.surveys.proofs.named_before.Given as goal

abbrev pub invariant-loop-j : goal.invariant-loop-j
invariant-loop-j l = earlier (directory l.dir) l.j (λ t. same_name (name_of t) l.name) ≡ false
