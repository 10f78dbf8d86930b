-- `record_open::fresh` meets its contract.
use Rattle.record_open.proofs.Opening.{fresh_by}
use Rattle.record_open.proofs.fresh.Goals as goal

pub returns : goal.returns
returns c =
    fresh_by _ _ _ _ _ _ _ _ c.padded_name-filled.ensures c.copy_into.ensures c.copy_into-2.ensures
