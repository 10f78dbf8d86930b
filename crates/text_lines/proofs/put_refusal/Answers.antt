-- `text_lines::put_refusal` meets its contract: five parts, one after another.
use borrow.Author.Rules.{rules}
use Prim.Native.Nat.{ℕ}
use mathlib.Core.Path.{ap}
use mathlib.Core.List.{[], ◌∷◌, ◌++◌}
use Rattle.text_lines.specs.Lines.{decimal, refusal_line}
use Rattle.text_lines.proofs.Laws.{wrote_then, wrote_as}
use Rattle.text_lines.proofs.put_refusal.Goals as goal

pub returns : goal.returns
unfolding refusal_line
returns c =
    wrote_as _ (ap (λ (k : ℕ). (114 ∷ 101 ∷ 102 ∷ 117 ∷ 115 ∷ 101 ∷ 100 ∷ 32 ∷ []) ++ decimal k ++ (32 ∷ 115 ∷ 108 ∷ 111 ∷ 116 ∷ 32 ∷ []) ++ decimal c.args.refused.slot ++ (10 ∷ [])) c.number.ensures.0)
    (wrote_then (wrote_then (wrote_then (wrote_then c.put_bytes-a.ensures c.put_decimal-b.ensures) c.put_bytes-c.ensures) c.put_decimal-d.ensures) c.put_bytes.ensures)
