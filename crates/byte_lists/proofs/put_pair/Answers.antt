-- `byte_lists::put_pair` meets its contract: two stores are one put.
use native.Mathlib.Omega.{arith}
use Rattle.byte_lists.proofs.Pairs.{pair_put}
use Rattle.byte_lists.proofs.put_pair.Goals as goal

pub returns : goal.returns
returns c = pair_put _ _ _ (omega arith) c.to_le_bytes-pair.ensures
