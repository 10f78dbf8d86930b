-- `varnucht::varnucht_start` meets its contract: the address is packed whole.
use native.Mathlib.Omega.{arith}
use Rattle.varnucht.proofs.Bounds.{Bytes}
use Rattle.varnucht.proofs.Replies.{packed_start}
use Rattle.varnucht.proofs.varnucht_start.Goals as goal

pub returns : goal.returns
returns c =
    let bytes : Bytes c.args.image.now = λ b. omega (arith, c.type_inv.image b) in
    packed_start _ _ bytes _ c.start-started.ensures _ c.pack.ensures
