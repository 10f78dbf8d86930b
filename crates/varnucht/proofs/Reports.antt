-- The calls on reports: the outcomes keep to bounds, and are packed whole.
use Prim.Native.Nat.{ℕ, ◌+◌}
use mathlib.Core.Path.{◌≡◌, refl, sym, ap, subst}
use mathlib.Core.List.{List}
use mathlib.Core.Option.{none, some}
use native.Mathlib.Omega.{arith}
use borrow.Author.Tests.{ltb-false}
use lib.Dec.{ltb}
use lib.ListN.{length, get_or}
use Rattle.refusals.specs.Order.{Reply, ◌else◌}
use Rattle.refusals.specs.Answers.{Outcome, done, Out, out, filled}
use Rattle.refusals.proofs.First.{else_none}
use Rattle.plans.proofs.SafeSteps.{row-none}
use Rattle.packing.specs.Packed.{packed, clipped, Within, Unpacked}
use Rattle.packing.proofs.Parts.{within_fits, unpacked}
use Rattle.byte_lists.proofs.Table.{Small, small_else, small_row}
use Rattle.reports.specs.Calls.{disks_in, raised, report_full}
use Rattle.report_bytes.specs.Bytes.{report_bytes, report_numbers_in, four_bytes_each, report_too_short, add_disk_bytes, join_reports_bytes}
use Rattle.varnucht.proofs.Bounds.{within_unless, filled-outcome}
use Rattle.varnucht.proofs.Replies.{packed_within}

-- ---- at most 65,535 disks

small-short : (b : List ℕ) → Small (report_too_short b)
small-short b = small_row 20 0 (ltb (length b) report_bytes) (omega arith) (omega arith)

counted_within : (q : Reply) (n : ℕ) (x b : List ℕ) → Small q → Within (filled (q else report_full n) (done n 0) x b).outcome 65535 0
counted_within q n x b a =
    subst (λ (o : Outcome). Within o 65535 0) (sym (filled-outcome (q else report_full n) (done n 0) x b))
    (within_unless (q else report_full n) n 0 65535 0 (small_else q (report_full n) a (small_row 31 0 (ltb 65535 n) (omega arith) (omega arith)))
    (λ e. (ltb-false 65535 n (row-none 31 0 (ltb 65535 n) (else_none q (report_full n) e).1), omega arith)))

pub adding_within : (b d : List ℕ) → Within (add_disk_bytes b d).outcome 65535 0
unfolding add_disk_bytes
adding_within b d = counted_within (report_too_short b) (disks_in (report_numbers_in b) + 1) _ b (small-short b)

pub joining_within : (b other : List ℕ) → Within (join_reports_bytes b other).outcome 65535 0
unfolding join_reports_bytes
joining_within b other =
    subst (λ (q : Reply). Within (filled q (done n 0) x b).outcome 65535 0) (else_assoc (report_too_short b) (report_too_short other) (report_full n))
    (counted_within (report_too_short b else report_too_short other) n x b (small_else (report_too_short b) (report_too_short other) (small-short b) (small-short other)))
  where
    n : ℕ
    n = disks_in (report_numbers_in b) + disks_in (report_numbers_in other)

    x : List ℕ
    x = four_bytes_each (raised (report_numbers_in b) (λ k. get_or (report_numbers_in other) k 0))

    else_assoc : (p q r : Reply) → ((p else q) else r) ≡ (p else (q else r))
    else_assoc none q r = refl
    else_assoc (some y) q r = refl

-- ---- so every answer can be read in its parts

pub adding_reported : (b d : List ℕ) → Unpacked (add_disk_bytes b d).outcome (packed (add_disk_bytes b d).outcome)
adding_reported b d = unpacked _ (within_fits _ _ _ (omega arith) (omega arith) (adding_within b d))

pub joining_reported : (b other : List ℕ) → Unpacked (join_reports_bytes b other).outcome (packed (join_reports_bytes b other).outcome)
joining_reported b other = unpacked _ (within_fits _ _ _ (omega arith) (omega arith) (joining_within b other))

-- ---- packed whole, with the bytes that the call leaves

module _ (o : Outcome) (b' : List ℕ) (n : ℕ) (q : n ≡ clipped o) (b x : List ℕ) where
  pub packed-add : out o b' ≡ add_disk_bytes b x → (n ≡ packed (add_disk_bytes b x).outcome) × (b' ≡ (add_disk_bytes b x).buffer)
  packed-add e =
      (packed_within (add_disk_bytes b x).outcome 65535 0 (omega arith) (omega arith) (adding_within b x) o (ap (λ (y : Out). y.outcome) e) n q, ap (λ (y : Out). y.buffer) e)

  pub packed_join : out o b' ≡ join_reports_bytes b x → (n ≡ packed (join_reports_bytes b x).outcome) × (b' ≡ (join_reports_bytes b x).buffer)
  packed_join e =
      (packed_within (join_reports_bytes b x).outcome 65535 0 (omega arith) (omega arith) (joining_within b x) o (ap (λ (y : Out). y.outcome) e) n q, ap (λ (y : Out). y.buffer) e)
