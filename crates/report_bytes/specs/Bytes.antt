-- A report as lent bytes: four to a number, low byte first.
use Rattle.std.specs.Prelude.{◌≡◌, ℕ, ◌+◌, ◌*◌, ◌/◌, ◌%◌, ◌≤◌, List, [], ◌∷◌, ◌++◌, length, nat_lt, slice_index}
use Rattle.buffers.specs.Bytes.{tab, word}
use Rattle.refusals.specs.Order.{Reply, ◌else◌, row}
use Rattle.refusals.specs.Answers.{done, Out, filled}
use Rattle.disk.specs.View.{view}
use Rattle.reports.specs.Numbers.{number_at, report_of}
use Rattle.reports.specs.Calls.{disks_in, raised, report_full}

-- 124 numbers, of which the last 13 are kept as they are
abbrev pub report_bytes : ℕ
report_bytes = 496

-- the numbers that bytes hold; bytes past the end count as 0
unfoldable pub report_numbers_in : List ℕ → List ℕ
report_numbers_in b = tab 111 (λ k. word 4 b (4 * k) 0)

-- the bytes of a number, and of numbers one after the other
abbrev pub four_of : ℕ → List ℕ
four_of x = x % 256 ∷ x / 256 % 256 ∷ x / 65536 % 256 ∷ x / 16777216 % 256 ∷ []

unfoldable pub four_bytes_each : List ℕ → List ℕ
four_bytes_each [] = []
four_bytes_each (x ∷ xs) = four_of x ++ four_bytes_each xs

-- bytes before and after numbers at their front were raised: as many, and past the numbers the same
pub record SameRest (b b' : List ℕ) : Type 0 where
  pub long : length b' ≡ length b
  pub rest : (i : ℕ) → 444 ≤ i → slice_index b' i ≡ slice_index b i

-- and the numbers that they then hold
pub record Numbered (b b' r : List ℕ) : Type 0 where
  pub same : SameRest b b'
  pub numbers : report_numbers_in b' ≡ r

-- "a lent output buffer is too short"
abbrev pub report_too_short : List ℕ → Reply
report_too_short b = row 20 0 (nat_lt (length b) report_bytes)

-- a disk added to the report that bytes hold: the numbers are put to their front, and the rest stays
unfoldable pub add_disk_bytes : List ℕ → List ℕ → Out
add_disk_bytes b d =
    let r = report_numbers_in b in
    filled (report_too_short b else report_full (disks_in r + 1)) (done (disks_in r + 1) 0) (four_bytes_each (raised r (number_at (report_of (view d))))) b

-- the report that other bytes hold, joined to it
unfoldable pub join_reports_bytes : List ℕ → List ℕ → Out
join_reports_bytes b other =
    let r = report_numbers_in b in
    let o = report_numbers_in other in
    filled (report_too_short b else report_too_short other else report_full (disks_in r + disks_in o)) (done (disks_in r + disks_in o) 0) (four_bytes_each (raised r (λ k. slice_index o k))) b
