-- `varnucht::varnucht_next` meets its contract: how many came and where the next byte stands are packed whole.
use Rattle.varnucht.proofs.Reading.{next_reported}
use Rattle.varnucht.proofs.varnucht_next.Goals as goal

pub returns : goal.returns
returns c = let w = c.resume-p.ensures in (next_reported _ _ _ _ w.0 _ c.pack_place.ensures, w.1)
