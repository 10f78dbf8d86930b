-- What a call on bytes gives: 20, or what the call on the numbers gives, as bytes.
use Rattle.std.proofs.Common.{◌≡◌, ℕ, ◌+◌, ◌<◌, ◌≤◌, List, length, get_or, sym, ap, ◌∙◌, ap₂, le-ltb, lt-ltb}
use mathlib.Core.Option.{none, some}
use Rattle.buffers.specs.Bytes.{put}
use Rattle.refusals.specs.Order.{Reply, refuse}
use Rattle.refusals.specs.Answers.{Outcome, done, refused, Out, out, filled}
use Rattle.disk.specs.View.{view}
use Rattle.reports.specs.Numbers.{number_at, report_of}
use Rattle.reports.specs.Calls.{disks_in, raised, report_full, add_disk, join_reports}
use Rattle.reports.proofs.Called.{length-raised, put_whole}
use Rattle.report_bytes.specs.Bytes.{report_numbers_in, four_bytes_each, add_disk_bytes, join_reports_bytes}
use Rattle.report_bytes.proofs.Fours.{length-numbers}

-- the bytes after a call: those of its numbers at the front, and the rest stays; "Nothing lent changes" where it is refused
abbrev pub bytes_kept : Outcome → List ℕ → List ℕ → List ℕ
bytes_kept (done v f) b r = put b 0 (four_bytes_each r)
bytes_kept (refused x) b r = b

-- the same reply to both
kept-filled : (q : Reply) (n : ℕ) (f : ℕ → ℕ) (r b : List ℕ) → length r ≡ 111 → (o : Outcome) (l : List ℕ) → out o l ≡ filled q (done n 0) (raised r f) r
    → out o (bytes_kept o b l) ≡ filled q (done n 0) (four_bytes_each (raised r f)) b
kept-filled none n f r b h o l e =
    let p : o ≡ done n 0 = ap (λ (x : Out). x.outcome) e in
    let q : l ≡ raised r f = ap (λ (x : Out). x.buffer) e ∙ put_whole r (raised r f) (length-raised r f ∙ sym h) in
    ap₂ (λ (o : Outcome) (l : List ℕ). out o (bytes_kept o b l)) p q
kept-filled (some x) n f r b h o l e =
    let p : o ≡ refused x = ap (λ (x : Out). x.outcome) e in
    ap (λ (o : Outcome). out o (bytes_kept o b l)) p

module _ (b d : List ℕ) where
  pub adding_short : length b < 496 → {o : Outcome} → o ≡ refused (refuse 20 0) → out o b ≡ add_disk_bytes b d
  unfolding add_disk_bytes
  adding_short h e = ap (λ (o : Outcome). out o b) e ∙ rw (lt-ltb (length b) 496 h)

  -- what the call on the numbers gives, as bytes
  pub adding_bytes : 496 ≤ length b → (o : Outcome) (l : List ℕ) → out o l ≡ add_disk (report_numbers_in b) d → out o (bytes_kept o b l) ≡ add_disk_bytes b d
  unfolding add_disk add_disk_bytes
  adding_bytes h o l e =
      kept-filled (report_full (disks_in (report_numbers_in b) + 1)) (disks_in (report_numbers_in b) + 1) (number_at (report_of (view d))) (report_numbers_in b) b (length-numbers b) o l e
      ∙ rw (le-ltb (length b) 496 h)

  pub adding_full : 496 ≤ length b → {x : ℕ} → x ≡ disks_in (report_numbers_in b) → 65535 < x + 1 → {o : Outcome} → o ≡ refused (refuse 31 0) → out o b ≡ add_disk_bytes b d
  unfolding add_disk_bytes
  adding_full h e k q = ap (λ (o : Outcome). out o b) q ∙ rw (le-ltb (length b) 496 h, ← e, lt-ltb 65535 _ k)

  pub adding_done : 496 ≤ length b → {x : ℕ} → x ≡ disks_in (report_numbers_in b) → x + 1 ≤ 65535
      → {b' : List ℕ} → b' ≡ put b 0 (four_bytes_each (raised (report_numbers_in b) (number_at (report_of (view d))))) → out (done (x + 1) 0) b' ≡ add_disk_bytes b d
  unfolding add_disk_bytes
  adding_done h {x} e k q = ap (out (done (x + 1) 0)) q ∙ rw (le-ltb (length b) 496 h, ← e, le-ltb 65535 _ k)

module _ (b other : List ℕ) where
  pub joining_short : length b < 496 → {o : Outcome} → o ≡ refused (refuse 20 0) → out o b ≡ join_reports_bytes b other
  unfolding join_reports_bytes
  joining_short h e = ap (λ (o : Outcome). out o b) e ∙ rw (lt-ltb (length b) 496 h)

  pub joining_other : 496 ≤ length b → length other < 496 → {o : Outcome} → o ≡ refused (refuse 20 0) → out o b ≡ join_reports_bytes b other
  unfolding join_reports_bytes
  joining_other k h e = ap (λ (o : Outcome). out o b) e ∙ rw (le-ltb (length b) 496 k, lt-ltb (length other) 496 h)

  pub joining_bytes : 496 ≤ length b → 496 ≤ length other → (o : Outcome) (l : List ℕ) → out o l ≡ join_reports (report_numbers_in b) (report_numbers_in other)
      → out o (bytes_kept o b l) ≡ join_reports_bytes b other
  unfolding join_reports join_reports_bytes
  joining_bytes h m o l e =
      kept-filled (report_full (disks_in (report_numbers_in b) + disks_in (report_numbers_in other))) (disks_in (report_numbers_in b) + disks_in (report_numbers_in other)) (λ k. get_or (report_numbers_in other) k 0) (report_numbers_in b) b
      (length-numbers b) o l e
      ∙ rw (le-ltb (length b) 496 h, le-ltb (length other) 496 m)

  pub joining_full : 496 ≤ length b → 496 ≤ length other → {x y : ℕ} → x ≡ disks_in (report_numbers_in b) → y ≡ disks_in (report_numbers_in other) → 65535 < x + y
      → {o : Outcome} → o ≡ refused (refuse 31 0) → out o b ≡ join_reports_bytes b other
  unfolding join_reports_bytes
  joining_full h m e f k q = ap (λ (o : Outcome). out o b) q ∙ rw (le-ltb (length b) 496 h, le-ltb (length other) 496 m, ← e, ← f, lt-ltb 65535 _ k)

  pub joining_done : 496 ≤ length b → 496 ≤ length other → {x y : ℕ} → x ≡ disks_in (report_numbers_in b) → y ≡ disks_in (report_numbers_in other) → x + y ≤ 65535
      → {b' : List ℕ} → b' ≡ put b 0 (four_bytes_each (raised (report_numbers_in b) (λ k. get_or (report_numbers_in other) k 0))) → out (done (x + y) 0) b' ≡ join_reports_bytes b other
  unfolding join_reports_bytes
  joining_done h m {x} {y} e f k q = ap (out (done (x + y) 0)) q ∙ rw (le-ltb (length b) 496 h, le-ltb (length other) 496 m, ← e, ← f, le-ltb 65535 _ k)
