-- `surveys::unused` meets its contract.
use mathlib.Core.Path.{refl}
use Rattle.surveys.proofs.Union.{counted_clear}
use Rattle.surveys.proofs.unused.Goals as goal

pub returns : goal.returns
returns c = counted_clear _ _ refl refl refl
