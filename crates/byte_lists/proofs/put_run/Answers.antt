-- `byte_lists::put_run` meets its contract: before each turn the bytes of the first `j` bits' numbers are put.
use mathlib.Core.Path.{◌≡◌}
use native.Mathlib.Omega.{arith}
use Rattle.gathers.proofs.Listed.{number-place}
use Rattle.byte_lists.proofs.Gathers.{run_none, run_more}
use Rattle.byte_lists.proofs.put_run.Goals as goal

pub loop-j-init : goal.loop-j-init
loop-j-init c = run_none _ _

pub overflow_cast-bit_place : goal.overflow_cast-bit_place
overflow_cast-bit_place c = omega (arith, (number-place _ _ (omega (arith, c.requires.1)) c.bit_place.ensures).1)

pub loop-j-preserved : goal.loop-j-preserved
loop-j-preserved c = rw c.put_pair.ensures (run_more _ _ _ _ c.loop-j.invariant (omega (arith, c.requires.1)) _ c.bit_place.ensures)

pub returns : goal.returns
returns c = let e : c.loop-j.j ≡ c.args.n = omega arith in rw e at c.loop-j.invariant
