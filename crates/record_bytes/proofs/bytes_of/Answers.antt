-- `record_bytes::bytes_of` meets its contract: part by part, into bytes of 0.
use Rattle.record_bytes.proofs.Laid.{bytes-put}
use borrow.Author.Rules.{rules}
use Rattle.record_bytes.proofs.bytes_of.Goals as goal

pub returns : goal.returns
returns c =
    bytes-put _ c.front_of-front.ensures c.copy_into.ensures c.copy_into-2.ensures c.copy_into-3.ensures c.copy_into-4.ensures c.copy_into-5.ensures c.copy_into-6.ensures c.copy_into-7.ensures
