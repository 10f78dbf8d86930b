-- `catalogue::examine` meets its contract: 1, 24, or what the survey finds.
use native.Mathlib.Omega.{arith}
use mathlib.Core.Path.{sym, ◌∙◌}
use Rattle.catalogue.proofs.Laws.{surveyed-short, surveyed-tracks, surveyed-slots}
use Rattle.catalogue.proofs.examine.Goals as goal

pub returns-then-input-lt40960 : goal.returns-then-input-lt40960
returns-then-input-lt40960 c = surveyed-short _ _ c.if-input-lt40960.true c.refuse.ensures

pub returns-then-has_more_tracks : goal.returns-then-has_more_tracks
returns-then-has_more_tracks c =
    surveyed-tracks _ _ (omega arith) (sym c.has_more_tracks.ensures ∙ c.if-has_more_tracks.true) c.refuse-then-has_more_tracks.ensures

pub returns : goal.returns
returns c = surveyed-slots _ _ (omega arith) (sym c.has_more_tracks.ensures ∙ c.if-has_more_tracks.false) c.survey_slots.ensures
