-- `saves::write_save` meets its contract: the bits, the file with that chain, and the list.
use native.Mathlib.Omega.{arith}
use Rattle.saves.proofs.Whole.{front_writable, saved-is}
use Rattle.saves.proofs.write_save.Goals as goal

pub write_file-requires : goal.write_file-requires
write_file-requires c = (front_writable _ _ _ _ _ _ _ c.requires.0 _ c.pick_bits.ensures, c.requires.1)

pub to_numbers-requires : goal.to_numbers-requires
to_numbers-requires c = (omega (arith, c.requires.0.room), (front_writable _ _ _ _ _ _ _ c.requires.0 _ c.pick_bits.ensures).bits)

pub returns : goal.returns
returns c =
    let r = c.requires.0 in
    saved-is _ _ _ _ _ _ _ _ _ r.enough r.room _ _ _ c.pick_bits.ensures c.write_file.ensures c.to_numbers.ensures c.put_dirs.ensures r.file.slot r.file.next
