-- `names::key_of` meets its contract: two words of the name, each byte with bit 5 set, joined.
use Prim.Native.Nat.{ℕ, ◌<◌}
use native.Mathlib.Omega.{arith}
use lib.ListN.{get_or}
use Rattle.names.proofs.Keys.{key_is}
use Rattle.names.proofs.key_of.Goals as goal

pub returns : goal.returns
returns c =
    let bytes : (b : ℕ) → get_or c.args.name.now b 0 < 256 = λ b. omega (arith, c.type_inv.name b) in
    key_is _ _ _ bytes c.word_at.ensures c.word_at-2.ensures
