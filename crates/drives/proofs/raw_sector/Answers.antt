-- `drives::raw_sector` meets its contract: a refusal's number is not 0, and then the part is empty.
use mathlib.Core.Path.{sym, ◌∙◌}
use Rattle.refusals.proofs.Lowest.{positive}
use Rattle.drives.proofs.Laws.{part-empty}
use Rattle.drives.proofs.raw_sector.Goals as goal

pub returns-in-Err : goal.returns-in-Err
returns-in-Err c = sym (part-empty _ _ _ _ _ (λ e. positive _ (c.in-Err.ensures.refusal ∙ e)))
