-- `tree_lists::Tree::list_code` meets its contract.
use mathlib.Core.Path.{sym, ap}
use Rattle.refusals.specs.Answers.{outcome_of}
use Rattle.tree_lists.proofs.Results.{clean_room, clean_short, clean_listed}
use Rattle.tree_lists.proofs.Tree.list_code.Goals as goal

pub returns-then-not-has_room : goal.returns-then-not-has_room
returns-then-not-has_room c = clean_short _ _ _ c.args.self.now.linked _ _ (sym c.if-not-has_room.ensures) (ap outcome_of c.refuse.ensures)

pub fill-requires : goal.fill-requires
fill-requires c = clean_room _ _ _ c.args.self.now.linked _ c.requires

pub returns : goal.returns
returns c = clean_listed _ _ _ c.args.self.now.linked _ _ _ _ (sym c.if-not-has_room.ensures) c.fill.ensures
