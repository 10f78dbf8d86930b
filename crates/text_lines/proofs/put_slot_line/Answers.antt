-- `text_lines::put_slot_line` meets its contract: a line where both tests let it through.
use borrow.Author.Rules.{rules}
use mathlib.Core.Path.{◌≡◌, sym, ◌∙◌}
use borrow.Author.Tests.{not-true, not-false}
use Rattle.text_lines.specs.Lines.{line, slot_line}
use Rattle.text_lines.proofs.Laws.{wrote_none, wrote_as, entry_dead, entry-hidden, entry-line}
use Rattle.text_lines.proofs.put_slot_line.Goals.{then-not-is_live-via-then-not-is_live, then-not-is_live-via-else-not-is_live+then-is_hidden}
use Rattle.text_lines.proofs.put_slot_line.Goals as goal

pub returns-then-not-is_live : goal.returns-then-not-is_live
returns-then-not-is_live c =
    elim c.then-not-is_live.branch [
      | then-not-is_live-via-then-not-is_live w ↦ wrote_none _ _ _ (entry_dead _ _ (sym c.is_live.ensures ∙ w.if-not-is_live.true)) _ c.min.ensures
      | then-not-is_live-via-else-not-is_live+then-is_hidden w ↦
          wrote_none _ _ _ (entry-hidden _ _ (sym c.is_live.ensures ∙ w.if-not-is_live.false) (sym w.is_hidden.ensures ∙ w.if-is_hidden.true)) _ c.min.ensures
    ]

pub returns : goal.returns
returns c =
    let line_here : slot_line c.args.number c.args.s.now ≡ line c.args.number c.args.s.now = entry-line _ _ (sym c.is_live.ensures ∙ c.if-not-is_live.false) (sym c.is_hidden.ensures ∙ c.if-is_hidden.false) in
    wrote_as _ (sym line_here) c.put_line.ensures
