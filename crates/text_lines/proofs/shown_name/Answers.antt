-- `text_lines::shown_name` meets its contract: after k turns the first k bytes are as shown.
use borrow.Author.Rules.{rules}
use Prim.Native.Nat.{◌≤◌, ◌-◌}
use mathlib.Core.Path.{◌≡◌, refl, ap, ◌∙◌}
use native.Mathlib.Omega.{arith}
use lib.ListN.{length, get_or, take, length-set}
use Rattle.buffers.specs.Bytes.{tab}
use Rattle.buffers.proofs.Lists.{fill_more, fill_done}
use Rattle.text_lines.specs.Lines.{shown}
use Rattle.text_lines.proofs.shown_name.Goals as goal

pub loop-k-init : goal.loop-k-init
unfolding tab
loop-k-init c = (refl, refl)

pub loop-k-preserved : goal.loop-k-preserved
loop-k-preserved c =
    let l = c.loop-k in
    (simp length-set l.invariant.0, fill_more _ _ _ _ (omega arith) l.invariant.1 (c.shown_byte.ensures ∙ ap shown c.byte_at.ensures))

pub returns : goal.returns
returns c =
    let l = c.loop-k in
    let e : l.k ≡ 10 = omega arith in
    fill_done _ 10 _ l.invariant.0 (rw e at l.invariant.1) ∙ ap (λ n. tab 10 (λ k. shown (get_or n k 0))) c.name_of-name.ensures
