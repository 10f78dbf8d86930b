-- The order of marks, of what the app gets back: answer, image and the list's bytes.
use Prim.Native.Nat.{ℕ, ◌/◌, ◌≤◌}
use mathlib.Core.Path.{◌≡◌, refl, subst, fun_ext}
use mathlib.Core.List.{List}
use native.Mathlib.Omega.{arith}
use lib.ListN.{length}
use Rattle.buffers.specs.Bytes.{put}
use Rattle.plans.specs.Plan.{Result, refused_result, new_disk, run_change}
use Rattle.byte_lists.specs.Lists.{in_bytes, change_bytes_by, change_bytes}
use Rattle.mark_order.specs.MarkCalls.{ChangeCall}
use Rattle.mark_order.specs.MarkOrder.{MarkOrder}
use Rattle.mark_order.proofs.Layer.{gives, layer, ordered}

-- two bytes to a number
abbrev pairs : List ℕ → ℕ
pairs b = length b / 2

abbrev front : List ℕ → List ℕ → List ℕ
front b ss = put b 0 (in_bytes ss)

changing_is : layer pairs front ≡ change_bytes
unfolding change_bytes
changing_is = fun_ext (λ c. fun_ext (λ d. fun_ext (λ b. by (run_change c d (length b / 2)) d b)))
  where
    by : (x : Result) (d b : List ℕ) → gives pairs front x d b ≡ change_bytes_by x d b
    by (refused_result r) d b = refl
    by (new_disk new ss) d b = refl

-- a list of two bytes has room
pub order_of_bytes : MarkOrder change_bytes (λ b. 2 ≤ length b)
order_of_bytes =
    subst (λ (call : ChangeCall). MarkOrder call (λ b. 2 ≤ length b)) changing_is
    (ordered pairs front (λ b. 2 ≤ length b) (λ b (h : 2 ≤ length b). omega arith))
