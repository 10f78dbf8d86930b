-- The order of marks, of the calls with a list of numbers.
use Prim.Native.Nat.{ℕ, ◌≤◌}
use mathlib.Core.Path.{◌≡◌, refl, subst, fun_ext}
use mathlib.Core.List.{List}
use lib.ListN.{length}
use Rattle.buffers.specs.Bytes.{put}
use Rattle.plans.specs.Plan.{Result, refused_result, new_disk, run_change, changed_by, change}
use Rattle.mark_order.specs.MarkCalls.{ChangeCall}
use Rattle.mark_order.specs.MarkOrder.{MarkOrder}
use Rattle.mark_order.proofs.Layer.{gives, layer, ordered}

-- sectors are put to the front of the list
abbrev front : List ℕ → List ℕ → List ℕ
front b ss = put b 0 ss

change-is : layer length front ≡ change
unfolding change
change-is = fun_ext (λ c. fun_ext (λ d. fun_ext (λ b. by (run_change c d (length b)) d b)))
  where
    by : (x : Result) (d b : List ℕ) → gives length front x d b ≡ changed_by x d b
    by (refused_result r) d b = refl
    by (new_disk new ss) d b = refl

pub order_of_marks : MarkOrder change (λ b. 1 ≤ length b)
order_of_marks =
    subst (λ (call : ChangeCall). MarkOrder call (λ b. 1 ≤ length b)) change-is
    (ordered length front (λ b. 1 ≤ length b) (λ b h. h))
