-- `byte_lists::put_numbers` meets its contract: before each turn the bytes of the first `j` numbers are put.
use mathlib.Core.Path.{◌≡◌}
use native.Mathlib.Omega.{arith}
use Rattle.byte_lists.proofs.Pairs.{paired_none, paired_more}
use Rattle.byte_lists.proofs.put_numbers.Goals as goal

pub loop-j-init : goal.loop-j-init
loop-j-init c = paired_none _ c.args.numbers.now

pub loop-j-preserved : goal.loop-j-preserved
loop-j-preserved c = rw c.put_pair.ensures (paired_more _ _ _ _ (omega arith) c.loop-j.invariant)

pub returns : goal.returns
returns c = let e : c.loop-j.j ≡ c.args.n = omega arith in rw e at c.loop-j.invariant
