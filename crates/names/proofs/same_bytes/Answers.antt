-- `names::same_bytes` meets its contract.
use mathlib.Core.Path.{◌∙◌}
use Rattle.names.proofs.Names.{pointwise_bytes}
use Rattle.names.proofs.same_bytes.Goals as goal

pub returns : goal.returns
returns c = c.eq.ensures ∙ pointwise_bytes _ _
