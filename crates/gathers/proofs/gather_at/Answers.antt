-- `gathers::gather_at` meets its contract: each way out has the tests that led there.
use mathlib.Core.Path.{◌≡◌, sym, ap, ◌∙◌, subst}
use mathlib.Core.Bool.{false}
use mathlib.Core.Option.{some}
use Rattle.slots.specs.Slot.{is_directory}
use Rattle.directory.specs.Directory.{slot_or}
use Rattle.free_runs.specs.Runs.{lowest_clear}
use Rattle.allocation.specs.Taken.{unavailable_map}
use Rattle.gathers.specs.Moving.{count_in, ChainedSlot, Movable}
use Rattle.gathers.proofs.Bridge.{chain-is, movable}
use Rattle.gathers.proofs.Call.{ends-refused, at-directory, at-order, at_none, at-short, at_moved, at-placed}
use Rattle.gathers.proofs.gather_at.Goals as goal

pub returns-then-is_directory : goal.returns-then-is_directory
returns-then-is_directory c = ends-refused _ _ c.refuse.ensures _ _ _ (at-directory _ _ _ _ c.requires (cc))

pub is_scattered-requires : goal.is_scattered-requires
is_scattered-requires c = subst (λ s. ChainedSlot c.args.image.now s) (sym c.slot_at-s.ensures) (chain-is _ _ _ c.requires (cc))

pub returns-then-not-is_scattered : goal.returns-then-not-is_scattered
returns-then-not-is_scattered c = (at-order _ _ _ _ c.requires (cc) (cc), tt)

pub returns-then-room-count : goal.returns-then-room-count
returns-then-room-count c =
    ends-refused _ _ c.refuse-then-room-count.ensures _ _ _ (at-short _ _ _ _ c.requires (cc) (cc) c.count_of-count.result (cc) c.in-Some.bit (cc (c.in-Some.ensures)) c.if-room-count.true)

pub write_moved-requires : goal.write_moved-requires
write_moved-requires c = movable _ _ _ c.requires (cc) _ (cc (c.in-Some.ensures))

pub returns-in-None : goal.returns-in-None
returns-in-None c =
    ends-refused _ _ c.refuse-in-None.ensures _ _ _ (at_none _ _ _ _ c.requires (cc) (cc) c.count_of-count.result (cc) (cc (c.in-None.ensures)))

pub returns-else-room-count : goal.returns-else-room-count
returns-else-room-count c =
    let other : is_directory (slot_or c.args.image.now c.args.i) ≡ false = cc in
    let count_is : c.count_of-count.result ≡ count_in c.args.image.now c.args.i = cc in
    let run : some c.in-Some.bit ≡ lowest_clear (unavailable_map c.args.used) c.count_of-count.result = cc (c.in-Some.ensures) in (
      at_moved _ _ _ _ c.requires other (cc) _ count_is _ run c.if-room-count.false _ c.write_moved.ensures,
      at-placed _ _ _ _ c.requires other (cc) _ count_is _ run (movable _ _ _ c.requires other _ (cc)) c.if-room-count.false,
    )
