-- `record_close::write_recording` meets its contract: the ends of the chain, and then the directory's part.
use mathlib.Core.Path.{ap, ◌∙◌}
use Rattle.sector_writes.specs.Sector.{link_to_bit}
use Rattle.record_close.proofs.Whole.{chained_of, chained_some, recording_written}
use Rattle.record_close.proofs.write_recording.Goals as goal

pub bounds-bits-0 : goal.bounds-bits-0
bounds-bits-0 c = chained_some _ _ (chained_of _ _ _ _ c.requires.0)

pub returns : goal.returns
returns c =
    recording_written _ _ _ _ c.args.image.now c.requires.1 c.requires.0 c.map_with-map.ensures (c.link_of-first.ensures ∙ ap link_to_bit c.from.ensures) c.start_of.ensures c.slot_of-slot.ensures
    c.write_ends.ensures c.put_slot.ensures
