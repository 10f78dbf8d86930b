-- `catalogue::put_text` meets its contract: a refusal's line, or those of the slots and the free count.
use mathlib.Core.Path.{sym, ap, ◌∙◌}
use Rattle.text_lines.proofs.Laws.{wrote_then, wrote_as}
use Rattle.catalogue.proofs.Laws.{text-refused, text-accepted}
use Rattle.catalogue.proofs.put_text.Goals as goal

pub returns-in-Err : goal.returns-in-Err
returns-in-Err c = wrote_as _ (text-refused _ _ c.examine.ensures _ c.in-Err.is) c.put_refusal.ensures

pub returns-in-Ok : goal.returns-in-Ok
returns-in-Ok c =
    wrote_as _ (text-accepted _ _ c.examine.ensures _ c.in-Ok.is _ c.free_of.ensures) (wrote_then c.put_lines-at.ensures c.put_free.ensures)
