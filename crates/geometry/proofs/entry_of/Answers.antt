-- `geometry::entry_of` meets its contract: the test over the whole table is computed here, at `tt`.
-- Assumes nothing.
use mathlib.Core.Path.{sym}
use Rattle.geometry.specs.Disk.{bit_number, track_of}
use Rattle.geometry.proofs.Table.{places_from, entry}
use Rattle.geometry.proofs.Laws.{place_or_end_lem, place_end}
use Rattle.geometry.proofs.entry_of.Goals as goal

pub returns-then-bit-lt-DATA_SECTORS : goal.returns-then-bit-lt-DATA_SECTORS
unfolding places_from bit_number track_of
returns-then-bit-lt-DATA_SECTORS c =
    let h = c.if-bit-lt-DATA_SECTORS.true in
    rw (entry _ tt c.args.bit h) (sym (place_or_end_lem _ h))

pub returns-else-bit-lt-DATA_SECTORS : goal.returns-else-bit-lt-DATA_SECTORS
returns-else-bit-lt-DATA_SECTORS c = sym (place_end _ c.if-bit-lt-DATA_SECTORS.false)
