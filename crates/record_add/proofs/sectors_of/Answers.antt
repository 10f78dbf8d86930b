-- `record_add::sectors_of` meets its contract: what no disk holds is not counted.
use native.Mathlib.Omega.{arith}
use Rattle.record_add.proofs.Longer.{capped_by}
use Rattle.record_add.proofs.sectors_of.Goals as goal

pub returns : goal.returns
returns c = capped_by _ _ _ _ (omega arith) c.saturating_add.ensures c.min.ensures
