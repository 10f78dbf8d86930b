-- What a call gives, by the test that leads there: 31 and the report as it was, or the numbers raised.
use Prim.Native.Nat.{ℕ, ◌≤◌, ◌<◌}
use mathlib.Core.Path.{◌≡◌, refl, sym, ap, ◌∙◌}
use mathlib.Core.List.{List}
use native.Mathlib.Omega.{arith}
use borrow.Author.Tests.{lt-ltb, le-ltb}
use lib.ListN.{length}
use lib.Seq.{take_all}
use Rattle.buffers.specs.Bytes.{put}
use Rattle.buffers.proofs.Lists.{length-tab, length-put, take_put}
use Rattle.refusals.specs.Order.{refuse}
use Rattle.refusals.specs.Answers.{Outcome, done, refused, out, filled}
use Rattle.reports.specs.Calls.{raised, report_full}

pub length-raised : (r : List ℕ) (f : ℕ → ℕ) → length (raised r f) ≡ 111
unfolding raised
length-raised r f = length-tab 111 _

-- as many numbers as there are replace them all
pub put_whole : (r x : List ℕ) → length x ≡ length r → put r 0 x ≡ x
put_whole r x h = sym (take_all (length x) (put r 0 x) (omega (arith, length-put r 0 x))) ∙ take_put r x (put r 0 x) refl (omega arith)

module _ (r : List ℕ) (n : ℕ) (f : ℕ → ℕ) where
  pub full_refused : 65535 < n → {o : Outcome} → o ≡ refused (refuse 31 0) → out o r ≡ filled (report_full n) (done n 0) (raised r f) r
  full_refused h e = ap (λ (o : Outcome). out o r) e ∙ rw (lt-ltb 65535 n h)

  pub full_done : n ≤ 65535 → length r ≡ 111 → {l : List ℕ} → l ≡ raised r f → out (done n 0) l ≡ filled (report_full n) (done n 0) (raised r f) r
  full_done h k e = ap (out (done n 0)) (e ∙ sym (put_whole r (raised r f) (length-raised r f ∙ sym k))) ∙ rw (le-ltb 65535 n h)
