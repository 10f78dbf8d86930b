-- `varnucht::varnucht_sector` meets its contract: the refusal's number, or the sector's place.
use Rattle.varnucht.proofs.Replies.{sector-refused, sector-placed}
use Rattle.varnucht.proofs.varnucht_sector.Goals as goal

pub returns-in-Ok : goal.returns-in-Ok
returns-in-Ok c = sector-placed _ _ _ _ _ c.in-Ok.ensures.refusal _ c.in-Ok.ensures.place _ c.pack_done.ensures

pub returns-in-Err : goal.returns-in-Err
returns-in-Err c = sector-refused _ _ _ _ _ _ c.in-Err.ensures.refusal _ c.pack_refused.ensures
