-- `text_lines::put_line` meets its contract: six parts, one after another.
use borrow.Author.Rules.{rules}
use Prim.Native.Nat.{ℕ}
use mathlib.Core.Path.{ap₂, ◌∙◌}
use mathlib.Core.List.{[], ◌∷◌, ◌++◌}
use Rattle.text_lines.specs.Lines.{decimal}
use Rattle.text_lines.proofs.Laws.{wrote_then, wrote_as, line-parts}
use Rattle.text_lines.proofs.put_line.Goals as goal

pub returns : goal.returns
returns c =
    wrote_as _ (ap₂ (λ (x y : ℕ). decimal c.args.number ++ c.mark_of-mark.result ++ c.shown_name-name.result ++ (32 ∷ decimal x) ++ (32 ∷ decimal y) ++ (10 ∷ [])) c.count_of.ensures.0 c.kind_of.ensures.0 ∙ line-parts c.args.number c.args.s.now _ _ c.mark_of-mark.ensures c.shown_name-name.ensures)
    (wrote_then (wrote_then (wrote_then (wrote_then (wrote_then c.put_decimal-a.ensures c.put_bytes-b.ensures) c.put_bytes-c.ensures) c.put_field-d.ensures) c.put_field-e.ensures) c.put_bytes.ensures)
