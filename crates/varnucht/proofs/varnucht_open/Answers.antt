-- `varnucht::varnucht_open` meets its contract: a refusal is packed as any, and the place with the length.
use Rattle.varnucht.proofs.Reading.{open_no, open_at}
use Rattle.varnucht.proofs.varnucht_open.Goals as goal

pub returns-in-Ok : goal.returns-in-Ok
returns-in-Ok c = open_at _ _ _ c.begin.ensures _ c.in-Ok.is _ c.pack_place.ensures

pub returns-in-Err : goal.returns-in-Err
returns-in-Err c = open_no _ _ _ c.begin.ensures _ c.in-Err.is _ c.pack_refused.ensures
