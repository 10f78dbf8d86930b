-- What the calls of this crate leave.
use Rattle.std.specs.Prelude.{ℕ, ◌≡◌, List}
use Rattle.plans.specs.Change.{Change}
use Rattle.plans.specs.Plan.{change}

-- image and list at return are those of the change, whatever it answered
abbrev pub Leaves : Change → List ℕ → List ℕ → List ℕ → List ℕ → Type 0
Leaves c d buf d' buf' = (d' ≡ (change c d buf).image) × (buf' ≡ (change c d buf).list)
