-- `gathers::gather_in` meets its contract: a refused check is the answer; on an accepted disk what is refused by name, or the
-- gather at the slot that has it.
use mathlib.Core.Path.{sym, ap, ◌∙◌}
use Rattle.std.proofs.lemmas.Result.{err_from_is_err_and}
use Rattle.directory.specs.Find.{found_at}
use Rattle.files.specs.Steps.{CheckedDisk}
use Rattle.files.proofs.Listing.{checked_disk}
use Rattle.gathers.proofs.Call.{ends-refused, gather_err, gather_unfit, gather_missing, gather-found, gather_held}
use Rattle.gathers.proofs.gather_in.Goals as goal

pub returns-in_err-survey : goal.returns-in_err-survey
returns-in_err-survey c =
    let p = err_from_is_err_and c.from_residual.result c.from_residual.ensures.1 in
    rw (p.1, p.2) (gather_err _ _ _ _ (sym c.in_err-survey.ensures.reply), tt)

pub returns-then-not-is_askable : goal.returns-then-not-is_askable
returns-then-not-is_askable c =
    let accepted : CheckedDisk c.args.image.now c.in_ok-survey.survey.used = checked_disk _ _ c.in_ok-survey.ensures in
    ends-refused _ _ c.refuse.ensures _ _ _ (gather_unfit _ _ _ accepted.accepted (sym c.is_askable.ensures ∙ c.if-not-is_askable.true))

pub gather_at-requires : goal.gather_at-requires
gather_at-requires c =
    let accepted : CheckedDisk c.args.image.now c.in_ok-survey.survey.used = checked_disk _ _ c.in_ok-survey.ensures in
    gather_held _ _ _ accepted (sym c.is_askable.ensures ∙ c.if-not-is_askable.false) _ (sym c.find.ensures ∙ ap found_at c.in-Some.is)

pub returns-in-None : goal.returns-in-None
returns-in-None c =
    let accepted : CheckedDisk c.args.image.now c.in_ok-survey.survey.used = checked_disk _ _ c.in_ok-survey.ensures in
    ends-refused _ _ c.refuse-in-None.ensures _ _ _
    (gather_missing _ _ _ accepted.accepted (sym c.is_askable.ensures ∙ c.if-not-is_askable.false) (sym c.find.ensures ∙ ap found_at c.in-None.is))

pub returns-in-Some : goal.returns-in-Some
returns-in-Some c =
    let accepted : CheckedDisk c.args.image.now c.in_ok-survey.survey.used = checked_disk _ _ c.in_ok-survey.ensures in (
      c.gather_at.ensures.0
          ∙ gather-found _ _ _ accepted.accepted (sym c.is_askable.ensures ∙ c.if-not-is_askable.false) _ (sym c.find.ensures ∙ ap found_at c.in-Some.is),
      c.gather_at.ensures.1,
    )
