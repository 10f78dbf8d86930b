-- `names::padded_name` meets its contract.
use mathlib.Core.Path.{◌∙◌}
use Rattle.names.proofs.Names.{padded-put}
use Rattle.names.proofs.padded_name.Goals as goal

pub returns : goal.returns
returns c = c.copy_into.ensures ∙ padded-put c.args.name.now
