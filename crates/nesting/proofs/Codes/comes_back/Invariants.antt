-- `nesting::Codes::comes_back` meets its contract: `n` steps up have not come back.
use Prim.Native.Nat.{suc}
use mathlib.Core.Path.{◌≡◌}
use mathlib.Core.Bool.{false}
use lib.Dec.{eqb}
use Rattle.buffers.specs.Bytes.{any}
use Rattle.nesting.specs.Steps.{climb}
use Rattle.nesting.proofs.Codes.comes_back.Given as goal

abbrev pub invariant-loop-n : goal.invariant-loop-n
invariant-loop-n l = (l.at ≡ climb l.self.above.now l._n l.code) × (any l._n (λ k. eqb (climb l.self.above.now (suc k) l.code) l.code) ≡ false)
