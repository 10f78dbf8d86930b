-- `catalogue::has_more_tracks` meets its contract: by byte 255, the last of slot 1.
use borrow.Author.Tests.{eq-eqb}
use Rattle.catalogue.proofs.Laws.{no_byte, more_byte}
use Rattle.catalogue.proofs.has_more_tracks.Goals as goal

pub returns-then-n-ne0 : goal.returns-then-n-ne0
returns-then-n-ne0 c = more_byte _ c.num_at-n.ensures.0 c.if-n-ne0.true

pub returns-else-n-ne0 : goal.returns-else-n-ne0
returns-else-n-ne0 c = rw (eq-eqb _ 0 c.if-n-ne0.false) (no_byte _ c.num_at-n.ensures.0 c.if-n-ne0.false)
