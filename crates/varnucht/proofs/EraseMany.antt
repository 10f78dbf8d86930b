-- Erasing many files: the outcome keeps to bounds, and is packed whole.
use Prim.Native.Nat.{ℕ, ◌/◌}
use mathlib.Core.Path.{◌≡◌, ap}
use mathlib.Core.List.{List}
use mathlib.Core.Option.{none, some}
use native.Mathlib.Omega.{arith}
use lib.Dec.{ltb}
use lib.ListN.{length}
use Rattle.refusals.specs.Order.{Reply, ◌else◌, row}
use Rattle.refusals.specs.Answers.{Outcome}
use Rattle.disk.specs.View.{view}
use Rattle.disk.specs.Check.{check_disk}
use Rattle.plans.specs.Plan.{new_disk, checked_result}
use Rattle.erase_many.specs.EraseMany.{how_many, erased_all, sectors_of_all, not_tens, many_reply, run_many, Erased, erased}
use Rattle.packing.specs.Packed.{packed, clipped, Within, Unpacked}
use Rattle.packing.proofs.Parts.{within_fits, unpacked}
use Rattle.byte_lists.specs.EraseMany.{erase_many_bytes_by, erase_many_bytes}
use Rattle.byte_lists.proofs.Table.{Small, small_else, small_row, check_small}
use Rattle.byte_lists.proofs.EraseMany.{few-changed}
use Rattle.varnucht.specs.Calls.{ReturnsMany}
use Rattle.varnucht.proofs.Bounds.{within_refused}
use Rattle.varnucht.proofs.Replies.{packed_within}

small-many : (d ns : List ℕ) (answers room : ℕ) → Small (many_reply d ns answers room)
unfolding many_reply check_disk
small-many d ns answers room =
    small_else (check_disk d) (row 23 0 (not_tens ns) else row 20 0 (ltb answers (how_many ns)) else row 20 0 (ltb room (length (sectors_of_all d ns)))) (check_small (view d))
    (small_else (row 23 0 (not_tens ns)) (row 20 0 (ltb answers (how_many ns)) else row 20 0 (ltb room (length (sectors_of_all d ns)))) (small_row 23 0 (not_tens ns) (omega arith) (omega arith))
    (small_else (row 20 0 (ltb answers (how_many ns))) (row 20 0 (ltb room (length (sectors_of_all d ns)))) (small_row 20 0 (ltb answers (how_many ns)) (omega arith) (omega arith))
    (small_row 20 0 (ltb room (length (sectors_of_all d ns))) (omega arith) (omega arith))))

-- at most 389 sectors
pub erasing_within : (d ns abuf b : List ℕ) → Within (erase_many_bytes d ns abuf b).outcome 389 0
unfolding erase_many_bytes run_many
erasing_within d ns abuf b = by (many_reply d ns (length abuf) (length b / 2)) (small-many d ns (length abuf) (length b / 2))
  where
    by : (q : Reply) → Small q → Within (erase_many_bytes_by (checked_result q (new_disk (erased_all d ns) (sectors_of_all d ns))) d ns abuf b).outcome 389 0
    by none a = record { refusal = omega arith; slot = omega arith; value = few-changed d ns; free = omega arith }
    by (some r) a = within_refused r 389 0 a

pub erasing_reported : (d ns abuf b : List ℕ) → Unpacked (erase_many_bytes d ns abuf b).outcome (packed (erase_many_bytes d ns abuf b).outcome)
erasing_reported d ns abuf b = unpacked _ (within_fits _ _ _ (omega arith) (omega arith) (erasing_within d ns abuf b))

pub packed-many : (d ns abuf b : List ℕ) (o : Outcome) (d' a' b' : List ℕ) → erased o d' a' b' ≡ erase_many_bytes d ns abuf b → (n : ℕ) → n ≡ clipped o
    → ReturnsMany d ns abuf b n d' a' b'
packed-many d ns abuf b o d' a' b' e n q = (
  packed_within (erase_many_bytes d ns abuf b).outcome 389 0 (omega arith) (omega arith) (erasing_within d ns abuf b) o (ap (λ (x : Erased). x.outcome) e) n q,
  ap (λ (x : Erased). x.image) e,
  ap (λ (x : Erased). x.answers) e,
  ap (λ (x : Erased). x.list) e,
)
