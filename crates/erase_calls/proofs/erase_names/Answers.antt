-- `erase_calls::erase_names` meets its contract.
use mathlib.Core.Path.{ap}
use Rattle.refusals.specs.Answers.{outcome_of}
use Rattle.erase_calls.proofs.Whole.{short-answers, short-list, all_written}
use Rattle.erase_calls.proofs.Index.{index_empty}
use Rattle.erase_calls.proofs.erase_names.Goals as goal

pub returns-then-answers-many : goal.returns-then-answers-many
returns-then-answers-many c = short-answers _ _ _ _ c.requires c.if-answers-many.true (ap outcome_of c.refuse.ensures)

pub link_names-end-requires : goal.link_names-end-requires
link_names-end-requires c = index_empty

pub returns-then-is_short : goal.returns-then-is_short
returns-then-is_short c =
    short-list _ _ _ _ c.requires c.if-answers-many.false c.is_short.ensures c.if-is_short.true (ap outcome_of c.refuse-then-is_short.ensures)

pub returns : goal.returns
returns c =
    all_written _ _ _ _ c.requires c.if-answers-many.false c.is_short.ensures c.if-is_short.false c.erase_each.ensures c.list_sectors-sectors.ensures c.erase_slots.ensures
