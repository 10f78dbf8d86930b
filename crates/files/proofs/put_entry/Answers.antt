-- `files::put_entry` meets its contract: the two bytes of the number, and then the slot's.
use native.Mathlib.Omega.{arith}
use Rattle.files.proofs.Listing.{put-number}
use borrow.Author.Rules.{rules}
use Rattle.files.proofs.put_entry.Goals as goal

pub returns : goal.returns
returns c = put-number _ _ _ _ c.args.number _ (omega (arith, c.requires.1)) c.to_le_bytes-head.ensures c.copy_into.ensures c.copy_into-2.ensures
