-- `names::same_name`: what is left to compare is what is left of both names.
use mathlib.Core.Path.{◌≡◌}
use lib.ListN.{length}
use Rattle.names.specs.Name.{same_name}
use Rattle.names.proofs.Names.{same_from}
use Rattle.names.proofs.same_name.Given as goal

abbrev pub invariant-loop-i : goal.invariant-loop-i
invariant-loop-i l = (length l.a ≡ length l.b) × (same_name l.a l.b ≡ same_from l.i l.a l.b)
