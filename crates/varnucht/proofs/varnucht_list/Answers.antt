-- `varnucht::varnucht_list` meets its contract: the listing's answer is packed whole.
use mathlib.Core.Path.{sym, ap, ◌∙◌}
use Rattle.std.specs.Prelude.{Result}
use Rattle.refusals.specs.declared.Refused.{Refused}
use Rattle.packing.specs.Packed.{clipped}
use Rattle.files.specs.Calls.{listed_outcome}
use Rattle.files.specs.declared.Listed.{Listed}
use Rattle.varnucht.proofs.Replies.{packed-list}
use Rattle.varnucht.proofs.varnucht_list.Goals as goal

pub returns-in-Ok : goal.returns-in-Ok
returns-in-Ok c =
    packed-list _ _ _ (c.pack_done.ensures ∙ ap (λ (a : Result Listed Refused). clipped (listed_outcome a)) (sym c.in-Ok.is)) _ _ c.list.ensures

pub returns-in-Err : goal.returns-in-Err
returns-in-Err c =
    packed-list _ _ _ (c.pack_refused.ensures ∙ ap (λ (a : Result Listed Refused). clipped (listed_outcome a)) (sym c.in-Err.is)) _ _ c.list.ensures
