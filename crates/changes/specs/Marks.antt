-- The code's marks, as the definitions name them.
use Rattle.plans.specs.Change.{Mark, hide, show, protect, release}
use Rattle.changes.specs.declared.Marking.{Marking}
use Rattle.changes.specs.declared.Marking.TheVariants.{Hide, Show, Protect, Release}

abbrev pub mark_of : Marking → Mark
mark_of Hide = hide
mark_of Show = show
mark_of Protect = protect
mark_of Release = release
