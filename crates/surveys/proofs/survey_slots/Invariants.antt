-- `surveys::survey_slots` meets its contract: the reply is that of the slots from `i` on, and the used map that of those before.
use Prim.Native.Nat.{◌-◌}
use mathlib.Core.Path.{◌≡◌}
use Rattle.refusals.specs.Order.{scan_from}
use Rattle.directory.specs.Places.{slots}
use Rattle.directory.specs.Directory.{tracks_of, directory}
use Rattle.surveys.specs.Survey.{survey_at, survey_by, union, counted}
use Rattle.surveys.proofs.Filter.{FilterLoop}
use Rattle.surveys.proofs.survey_slots.Given as goal

abbrev pub invariant-loop-i : goal.invariant-loop-i
invariant-loop-i l =
    (l.used ≡ counted (tracks_of l.dir) (union (directory l.dir) l.i)) × (survey_by l.release (tracks_of l.dir) (directory l.dir) ≡ scan_from (slots - l.i) l.i (survey_at l.release (tracks_of l.dir) (directory l.dir))) × FilterLoop l.dir l.i l.filter l.files
