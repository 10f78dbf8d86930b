-- `tree_lists::Tree::has_room` meets its contract: a list as long as there are slots has room, and filling none counts.
use mathlib.Core.Path.{sym, ◌∙◌}
use borrow.Author.Tests.{le-leb}
use Rattle.tree_lists.proofs.Results.{clean_room, room-enough, room-counted}
use Rattle.tree_lists.proofs.Tree.has_room.Goals as goal

pub returns-then-room-ge-SLOTS : goal.returns-then-room-ge-SLOTS
returns-then-room-ge-SLOTS c = le-leb _ _ c.if-room-ge-SLOTS.true ∙ sym (room-enough _ _ _ c.args.self.now.linked _ _ c.if-room-ge-SLOTS.true)

pub fill-requires : goal.fill-requires
fill-requires c = clean_room _ _ _ c.args.self.now.linked _ c.requires

pub returns-else-room-ge-SLOTS : goal.returns-else-room-ge-SLOTS
returns-else-room-ge-SLOTS c = room-counted _ _ _ c.args.self.now.linked _ _ c.fill.ensures
