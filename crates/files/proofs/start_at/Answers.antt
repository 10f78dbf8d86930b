-- `files::start_at` meets its contract: each way out has the tests that led there.
use mathlib.Core.Path.{sym, ap, ◌∙◌}
use Rattle.refusals.specs.Answers.{outcome_of}
use Rattle.slots.specs.Slot.{carried, spectrum}
use Rattle.files.proofs.Starting.{at-header, at_not_carried, at_out, at_address}
use borrow.Author.Rules.{rules}
use Rattle.files.proofs.start_at.Goals as goal

pub returns-then-is_spectrum : goal.returns-then-is_spectrum
returns-then-is_spectrum c =
    at-header _ _ _ (ap spectrum (sym c.kind_of-kind.ensures.0) ∙ sym c.is_spectrum.ensures ∙ c.if-is_spectrum.true) _ c.first_sector.ensures _ c.header_start.ensures.0

pub returns-then-not-is_carried : goal.returns-then-not-is_carried
returns-then-not-is_carried c =
    let k = sym c.kind_of-kind.ensures.0 in
    ap outcome_of c.refuse.ensures
    ∙ at_not_carried _ _ _ (ap spectrum k ∙ sym c.is_spectrum.ensures ∙ c.if-is_spectrum.false) (ap carried k ∙ sym c.is_carried.ensures ∙ c.if-not-is_carried.true)

pub returns-then-offset-lt32768 : goal.returns-then-offset-lt32768
returns-then-offset-lt32768 c =
    ap outcome_of c.refuse-then-offset-lt32768.ensures
    ∙ at_out _ _ _ (ap carried (sym c.kind_of-kind.ensures.0) ∙ sym c.is_carried.ensures ∙ c.if-not-is_carried.false) c.offset_of-offset.ensures.0 c.then-offset-lt32768.either

pub returns : goal.returns
returns c =
    at_address _ _ _ (ap carried (sym c.kind_of-kind.ensures.0) ∙ sym c.is_carried.ensures ∙ c.if-not-is_carried.false) c.offset_of-offset.ensures.0
    c.if-offset-lt32768.false c.if-offset-gt49151.false c.page_of.ensures.0
