-- `report_bytes::number_at` meets its contract: the bytes are taken low byte first.
use Rattle.std.proofs.Common.{arith, refl}
use Rattle.report_bytes.proofs.Fours.{four_is}
use Rattle.report_bytes.proofs.number_at.Goals as goal

pub returns : goal.returns
returns c = (omega (arith, c.from_le_bytes.ensures, four_is c.args.bytes.now c.args.k _ _ _ _ c.requires.0 refl refl refl refl), omega arith)
