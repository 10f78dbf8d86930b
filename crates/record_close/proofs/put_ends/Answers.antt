-- `record_close::put_ends` meets its contract.
use mathlib.Core.Path.{ap, ◌∙◌}
use lib.ListN.{length-set}
use Rattle.geometry.specs.Disk.{bit_number}
use native.Mathlib.Omega.{arith}
use Rattle.sector_writes.proofs.Links.{number-of}
use Rattle.record_close.proofs.Ends.{room_one, room-both, put_one_end, put_both_ends}
use Rattle.record_close.proofs.put_ends.Goals as goal

pub bounds-list-0 : goal.bounds-list-0
bounds-list-0 c = room_one _ _ c.requires.2

pub returns-then-n-lt2 : goal.returns-then-n-lt2
returns-then-n-lt2 c = put_one_end _ _ c.if-n-lt2.true _ (number-of _ _ (rw c.from.ensures (c.requires.0.small 0 c.requires.1)) c.sector_number-first.ensures ∙ ap bit_number c.from.ensures)

pub bounds-list-0-2 : goal.bounds-list-0-2
bounds-list-0-2 c = room_one _ _ c.requires.2

pub bounds-list-1 : goal.bounds-list-1
bounds-list-1 c = simp length-set (room-both _ _ c.if-n-lt2.false c.requires.2)

pub returns : goal.returns
returns c =
    put_both_ends _ _ c.if-n-lt2.false _ _ (number-of _ _ (rw c.from-2.ensures (c.requires.0.small _ (omega (arith, c.requires.1)))) c.sector_number.ensures ∙ ap bit_number c.from-2.ensures) (number-of _ _ (rw c.from.ensures (c.requires.0.small 0 c.requires.1)) c.sector_number-first.ensures ∙ ap bit_number c.from.ensures)
