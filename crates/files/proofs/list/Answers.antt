-- `files::list` meets its contract: a refused check is the answer, and of an accepted disk the listing is.
use Rattle.std.proofs.lemmas.Result.{err_from_is_err_and}
use Rattle.files.proofs.Listing.{listing_err, checked_disk}
use borrow.Author.Rules.{rules}
use Rattle.files.proofs.list.Goals as goal

pub list_accepted-requires : goal.list_accepted-requires
list_accepted-requires c = let w = c.in_ok-found.ensures in (checked_disk _ _ w, w.files)

pub returns-in_err-found : goal.returns-in_err-found
returns-in_err-found c =
    let e = err_from_is_err_and c.from_residual.result c.from_residual.ensures.1 in rw (e.1, e.2) (listing_err _ _ _ c.in_err-found.ensures)

pub returns : goal.returns
returns c = c.list_accepted.ensures
