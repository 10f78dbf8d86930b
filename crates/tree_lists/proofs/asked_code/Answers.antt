-- `tree_lists::asked_code` meets its contract: each way out has the tests that led there.
use mathlib.Core.Path.{sym, ◌∙◌}
use native.Mathlib.Omega.{arith}
use borrow.Author.Tests.{eqb-true, eqb-false}
use Rattle.tree_lists.proofs.Named.{found_below, root-reply, root-code, code-found, unusable, not_found, found-directory, found-file}
use Rattle.tree_lists.proofs.asked_code.Goals as goal

pub returns-then-is_empty : goal.returns-then-is_empty
returns-then-is_empty c =
    let e = eqb-true _ _ (sym c.if-is_empty.ensures) in
    record { reply = sym (root-reply _ _ e); code = (sym (root-code _ _ e), omega arith) }

pub returns-then-not-is_askable : goal.returns-then-not-is_askable
returns-then-not-is_askable c =
    rw c.refuse.ensures (record { reply = sym (unusable _ _ (eqb-false _ _ (sym c.if-is_empty.ensures)) (sym c.if-not-is_askable.ensures)); code = tt })

pub returns-in_default : goal.returns-in_default
returns-in_default c =
    let n = eqb-false _ _ (sym c.if-is_empty.ensures) in
    rw c.refuse-in_default.ensures
    (record { reply = sym (not_found _ _ n (sym c.if-not-is_askable.ensures) (sym c.in_default.ensures)); code = tt })

pub overflow_add-i : goal.overflow_add-i
overflow_add-i c = omega (arith, found_below _ _ _ (sym c.in-Some.ensures))

pub returns-then-not-is_directory : goal.returns-then-not-is_directory
returns-then-not-is_directory c =
    let n = eqb-false _ _ (sym c.if-is_empty.ensures) in
    rw c.refuse-then-not-is_directory.ensures
    (record {
      reply = sym (found-file _ _ n (sym c.if-not-is_askable.ensures) _ (sym c.in-Some.ensures) _ c.slot_at-s.ensures (sym c.if-not-is_directory.ensures));
      code = tt;
    })

pub returns : goal.returns
returns c =
    let n = eqb-false _ _ (sym c.if-is_empty.ensures) in
    record {
      reply = sym (found-directory _ _ n (sym c.if-not-is_askable.ensures) _ (sym c.in-Some.ensures) _ c.slot_at-s.ensures (sym c.if-not-is_directory.ensures));
      code = (c.code_of.ensures.0 ∙ sym (code-found _ _ n _ (sym c.in-Some.ensures) _ c.slot_at-s.ensures), c.code_of.ensures.1);
    }
