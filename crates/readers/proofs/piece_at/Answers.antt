-- `readers::piece_at` meets its contract: nothing comes of numbers that can be no reader's, and else the runs.
use mathlib.Core.Path.{refl, sym, ◌∙◌}
use borrow.Author.Rules.{rules}
use Rattle.readers.proofs.PositionAt.{placed, nothing}
use Rattle.readers.proofs.piece_at.Goals as goal

pub copy_runs-requires : goal.copy_runs-requires
copy_runs-requires c = placed _ _ (sym c.is_place.ensures ∙ c.if-is_place.true)

pub returns-then-is_place : goal.returns-then-is_place
returns-then-is_place c = c.copy_runs.ensures

pub returns : goal.returns
returns c = nothing _ _ _ _ refl (sym c.is_place.ensures ∙ c.if-is_place.false)
