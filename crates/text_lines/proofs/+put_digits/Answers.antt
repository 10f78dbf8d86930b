-- The proof of the recursion put_digits: no digit, one, or those before the last and then the last.
use mathlib.Core.Path.{sym, ap, ◌∙◌}
use mathlib.Core.List.{List, ◌++◌}
use Prim.Native.Nat.{ℕ, ◌-◌, ◌/◌}
use Rattle.text_lines.specs.Lines.{digits}
use Rattle.text_lines.proofs.Laws.{wrote_none, wrote_then, wrote_as, digits-none, digits_one, digits_more}
use Rattle.text_lines.proofs.+put_digits.Goals as goal

pub returns-then-k-eq0 : goal.returns-then-k-eq0
returns-then-k-eq0 t c = wrote_none _ _ _ (digits-none _ _ c.if-k-eq0.true) _ c.min.ensures

pub returns-then-n-lt10 : goal.returns-then-n-lt10
returns-then-n-lt10 t c = wrote_as _ (c.digit-only.ensures ∙ sym (digits_one _ _ c.if-k-eq0.false c.if-n-lt10.true)) c.put_bytes.ensures

pub returns : goal.returns
returns t c =
    let k = c.args.k in
    let n = c.args.n in
    wrote_as (digits k n) (ap (λ (l : List ℕ). digits (k - 1) (n / 10) ++ l) c.digit-last.ensures ∙ sym (digits_more k n c.if-k-eq0.false c.if-n-lt10.false)) (wrote_then c.put_digits-next.ensures c.put_bytes-2.ensures)
