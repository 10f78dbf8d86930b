-- `record_bytes::put_opened` meets its contract.
use mathlib.Core.Path.{ap, ◌∙◌}
use Rattle.buffers.specs.Bytes.{put}
use borrow.Author.Rules.{rules}
use Rattle.record_bytes.proofs.put_opened.Goals as goal

pub returns : goal.returns
returns c = c.copy_into.ensures ∙ ap (put _ 0) c.bytes_of-all.ensures
