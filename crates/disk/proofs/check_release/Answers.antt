-- `disk::check_release` meets its contract: its verdict is that of the release check.
use Rattle.std.proofs.lemmas.Result.{err_from_is_err_and}
use borrow.Author.Rules.{rules}
use Rattle.disk.specs.Check.{check_release}
use Rattle.disk.proofs.check_release.Goals as goal

pub returns-in_err-examine_by : goal.returns-in_err-examine_by
unfolding check_release
returns-in_err-examine_by c =
    let e = err_from_is_err_and c.from_residual.result c.from_residual.ensures.1 in rw (e.1, e.2) c.in_err-examine_by.ensures.reply

pub returns : goal.returns
unfolding check_release
returns c = c.in_ok-examine_by.ensures.reply
