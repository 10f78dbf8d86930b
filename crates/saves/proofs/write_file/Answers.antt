-- `saves::write_file` meets its contract: the data sectors, and then the directory's part.
use Rattle.saves.proofs.Whole.{file-written}
use Rattle.saves.proofs.write_file.Goals as goal

pub returns : goal.returns
returns c =
    file-written _ _ _ _ _ _ _ _ _ c.requires.1 c.requires.0 c.map_with-map.ensures c.link_to-first.ensures c.slot_of-slot.ensures c.header_of-head.ensures c.write_chain.ensures
    c.put_slot.ensures
