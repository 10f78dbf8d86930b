-- A live slot by its name.
use Rattle.std.specs.Prelude.{ℕ, cond, List}
use Rattle.std.specs.Prelude as Prelude
use Rattle.std.proofs.Math.Option.{Option, none, some}
use Rattle.refusals.specs.Order.{scan}
use Rattle.slots.specs.Slot.{name_of}
use Rattle.names.specs.Name.{same_name, padded}
use Rattle.directory.specs.Places.{slots}
use Rattle.directory.specs.Directory.{fold_option, Directory}

abbrev pub match_at : Directory → List ℕ → ℕ → Option ℕ
match_at v n i = fold_option none (λ s. cond (same_name (name_of s) (padded n)) (some i) none) (v i)

-- the lowest live slot that has the name asked for
unfoldable pub find : Directory → List ℕ → Option ℕ
find v n = scan slots (match_at v n)

-- the same of what the code gives
abbrev pub found_at : Prelude.Option ℕ → Option ℕ
found_at (Prelude.Some i) = some i
found_at Prelude.None = none
