-- `buffers::copy_runs` meets its contract: before each turn the first `done` bytes are put, and the last turn puts the others.
use Prim.Native.Nat.{ℕ, ◌+◌, ◌-◌, ◌≤◌}
use mathlib.Core.Path.{◌≡◌, refl, ap, ◌∙◌}
use mathlib.Core.List.{List}
use native.Mathlib.Omega.{arith}
use lib.ListN.{length, take, drop}
use Rattle.buffers.specs.Bytes.{put}
use Rattle.buffers.proofs.Lists.{put-none, put-run, put_all_lem}
use Rattle.buffers.proofs.copy_runs.Goals as goal

-- one run more
run_more : (d o n x : List ℕ) (a j k e : ℕ) → o ≡ put d a (take j x) → n ≡ put o (a + j) (take (j + k - j) (drop j x)) → j ≤ length x → j + k ≡ e → n ≡ put d a (take e x)
run_more d o n x a j k e p q h r =
    q ∙ ap (λ (y : List ℕ). put y (a + j) (take (j + k - j) (drop j x))) p ∙ put-run d a x j (j + k) h (omega arith) ∙ ap (λ (m : ℕ). put d a (take m x)) r

pub loop-done-init : goal.loop-done-init
loop-done-init c = (omega arith, refl, put-none c.args.out.now c.args.at c.args.from.now)

pub loop-done-preserved : goal.loop-done-preserved
loop-done-preserved c =
    let a = c.args in
    let l = c.loop-done in (
      omega arith,
      c.copy_run.auto.out ∙ l.invariant.1,
      run_more _ _ _ a.from.now a.at l.done c.min.result _ l.invariant.2 c.copy_run.ensures l.invariant.0 (omega arith),
    )

pub returns : goal.returns
returns c =
    let a = c.args in
    c.loop-done.invariant.2 ∙ put_all_lem a.out.now a.at a.from.now c.loop-done.done (omega arith)

pub returns-2 : goal.returns-2
returns-2 c =
    let a = c.args in
    let l = c.loop-done in
    run_more _ _ _ a.from.now a.at l.done c.min.result _ l.invariant.2 c.copy_run.ensures l.invariant.0 refl
    ∙ put_all_lem a.out.now a.at a.from.now (l.done + c.min.result) (omega arith)
