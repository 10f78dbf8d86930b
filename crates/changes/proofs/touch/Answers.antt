-- `changes::touch` meets its contract: the list too short, or both written.
use mathlib.Core.Path.{ap}
use native.Mathlib.Omega.{arith}
use Rattle.std.proofs.lemmas.Bool.Decides.{nat_tests}
use Rattle.refusals.specs.Answers.{outcome_of}
use Rattle.changes.proofs.Laws.{touch_short, touch_done, sector-small}
use Rattle.changes.proofs.touch.Goals as goal

pub returns-then-is_empty : goal.returns-then-is_empty
returns-then-is_empty c = touch_short _ _ _ _ _ (grind (arith, nat_tests)) _ (ap outcome_of c.refuse.ensures)

pub overflow_cast-dir_sector : goal.overflow_cast-dir_sector
overflow_cast-dir_sector c = omega (arith, sector-small _ _ c.dir_sector.ensures c.requires.slot.below)

pub returns : goal.returns
returns c =
    touch_done _ _ _ _ _ c.requires.slot.below (grind (arith, nat_tests)) _ c.put_in_slot.ensures _ c.dir_sector.ensures _ c.put_number.ensures
