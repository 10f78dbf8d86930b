-- `varnucht::varnucht_tree` meets its contract: the answer is packed whole.
use Rattle.varnucht.proofs.Trees.{packed-tree}
use Rattle.varnucht.proofs.varnucht_tree.Goals as goal

pub returns : goal.returns
returns c = packed-tree _ _ _ c.pack.ensures _ _ _ c.list_tree-beneath.ensures
