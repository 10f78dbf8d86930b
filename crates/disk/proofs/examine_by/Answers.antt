-- `disk::examine_by` meets its contract: each way out has the tests that led there.
use mathlib.Core.Path.{◌≡◌, sym, ◌∙◌}
use mathlib.Core.Bool.{false}
use Rattle.slots.specs.Tracks.{bad_tracks}
use Rattle.directory.specs.Directory.{label_of}
use Rattle.disk.proofs.Examined.{examined_length, examined_tracks, examined_survey, examined_chains, examined_accepted}
use Rattle.std.proofs.lemmas.Result.{err_from_is_err_and}
use borrow.Author.Rules.{rules}
use Rattle.disk.proofs.examine_by.Goals as goal

pub returns-then-image-ne-IMAGE_SIZE : goal.returns-then-image-ne-IMAGE_SIZE
returns-then-image-ne-IMAGE_SIZE c = rw c.refuse.ensures (examined_length _ _ c.if-image-ne-IMAGE_SIZE.true)

pub returns-then-has_bad_tracks : goal.returns-then-has_bad_tracks
returns-then-has_bad_tracks c =
    rw c.refuse-then-has_bad_tracks.ensures (examined_tracks _ _ c.if-image-ne-IMAGE_SIZE.false (sym c.has_bad_tracks.ensures ∙ c.if-has_bad_tracks.true))

pub all_chains-requires : goal.all_chains-requires
all_chains-requires c = c.in_ok-found.ensures.files

pub returns-in_err-found : goal.returns-in_err-found
returns-in_err-found c =
    let e = err_from_is_err_and c.from_residual.result c.from_residual.ensures.1 in rw (e.1, e.2) (examined_survey _ _ c.if-image-ne-IMAGE_SIZE.false (sym c.has_bad_tracks.ensures ∙ c.if-has_bad_tracks.false) _ (sym c.in_err-found.ensures.reply))

pub returns-in_err-all_chains : goal.returns-in_err-all_chains
returns-in_err-all_chains c =
    let good : bad_tracks (label_of c.args.image.now 255) ≡ false = sym c.has_bad_tracks.ensures ∙ c.if-has_bad_tracks.false in
    let e = err_from_is_err_and c.from_residual-in_err-all_chains.result c.from_residual-in_err-all_chains.ensures.1 in rw (e.1, e.2) (examined_chains _ _ c.if-image-ne-IMAGE_SIZE.false good (sym c.in_ok-found.ensures.reply) _ c.in_err-all_chains.ensures)

pub returns : goal.returns
returns c =
    let good : bad_tracks (label_of c.args.image.now 255) ≡ false = sym c.has_bad_tracks.ensures ∙ c.if-has_bad_tracks.false in
    let w = c.in_ok-found.ensures in
    examined_accepted _ _ c.if-image-ne-IMAGE_SIZE.false good (sym w.reply) _ w.used w.files c.in_ok-all_chains.ensures
