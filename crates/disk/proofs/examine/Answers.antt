-- `disk::examine` meets its contract: it is the check's.
use borrow.Author.Rules.{rules}
use Rattle.disk.specs.Check.{check_disk}
use Rattle.disk.proofs.examine.Goals as goal

pub returns : goal.returns
unfolding check_disk
returns c = c.examine_by.ensures
