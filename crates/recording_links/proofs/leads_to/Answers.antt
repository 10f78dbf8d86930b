-- `recording_links::leads_to` meets its contract.
use native.Mathlib.Omega.{arith}
use Rattle.sector_writes.proofs.Links.{end_le}
use Rattle.recording_links.proofs.Leads.{leads_not, leads_so}
use Rattle.recording_links.proofs.leads_to.Goals as goal

pub overflow_add-at : goal.overflow_add-at
overflow_add-at c = omega (arith, end_le _ _ c.bit_place-at.ensures)

pub returns-then-byte_at-link : goal.returns-then-byte_at-link
returns-then-byte_at-link c =
    leads_not _ _ _ _ c.requires.0 c.requires.1 c.bit_place-at.ensures _ c.link_of-link.ensures _ c.byte_at.ensures c.if-byte_at-link.true

pub overflow_add-at-2 : goal.overflow_add-at-2
overflow_add-at-2 c = omega (arith, end_le _ _ c.bit_place-at.ensures)

pub returns : goal.returns
returns c =
    leads_so _ _ _ _ c.requires.0 c.requires.1 c.bit_place-at.ensures _ c.link_of-link.ensures _ c.byte_at.ensures c.if-byte_at-link.false _ c.byte_at-2.ensures
