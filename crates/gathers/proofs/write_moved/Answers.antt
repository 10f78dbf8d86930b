-- `gathers::write_moved` meets its contract: the data sectors, and then bytes 13 to 209 of the slot.
use mathlib.Core.Path.{◌≡◌}
use native.Mathlib.Omega.{arith}
use Rattle.gathers.specs.Moving.{count_in}
use Rattle.gathers.proofs.Moving.{moved_is}
use Rattle.gathers.proofs.write_moved.Goals as goal

pub link_to-link-requires : goal.link_to-link-requires
link_to-link-requires c =
    let counted : c.count_of-count.result ≡ count_in c.args.image.now c.args.i = cc (c.count_of-count.ensures.0) in
    omega (arith, c.requires.small)

pub map_run-requires : goal.map_run-requires
map_run-requires c =
    let counted : c.count_of-count.result ≡ count_in c.args.image.now c.args.i = cc (c.count_of-count.ensures.0) in
    omega (arith, c.requires.small)

pub returns : goal.returns
returns c =
    let counted : c.count_of-count.result ≡ count_in c.args.image.now c.args.i = cc (c.count_of-count.ensures.0) in
    moved_is _ _ _ _ _ _ _ _ _ _ c.requires.slot counted c.slot_place-at.ensures.0 c.move_chain.ensures c.link_to-link.ensures c.map_run.ensures
    c.copy_into.ensures c.copy_into-2.ensures
