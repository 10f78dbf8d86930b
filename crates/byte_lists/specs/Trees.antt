-- The listing of a directory with a list of bytes, two to a number.
use Rattle.std.specs.Prelude.{ℕ, ◌/◌, List, ltb, length}
use Rattle.refusals.specs.Order.{◌else◌, row}
use Rattle.refusals.specs.Answers.{done, Out, filled}
use Rattle.disk.specs.View.{view}
use Rattle.tree_lists.specs.Call.{tree_refusal, tree_of}
use Rattle.byte_lists.specs.Lists.{in_bytes}

-- "answers how many lie beneath it and fills a lent buffer of numbers with their slots", "two to a number, low byte first"; 20 where
-- the list has not two bytes for each
unfoldable pub tree_listing_bytes : List ℕ → List ℕ → List ℕ → Out
tree_listing_bytes d n b =
    filled (tree_refusal (view d) n else row 20 0 (ltb (length b / 2) (length (tree_of (view d) n)))) (done (length (tree_of (view d) n)) 0) (in_bytes (tree_of (view d) n)) b
