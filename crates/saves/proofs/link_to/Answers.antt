-- `saves::link_to` meets its contract.
use mathlib.Core.Path.{ap, ◌∙◌}
use Rattle.sector_writes.specs.Sector.{link_to_bit}
use Rattle.sector_writes.proofs.Links.{to_none, to_some}
use Rattle.saves.proofs.link_to.Goals as goal

pub returns-then-bits-j : goal.returns-then-bits-j
returns-then-bits-j c = to_none _ _ c.if-bits-j.true

pub returns : goal.returns
returns c =
    to_some _ _ c.if-bits-j.false (c.requires.small _ c.if-bits-j.false) _ (c.link_of.ensures ∙ ap link_to_bit c.from.ensures)
