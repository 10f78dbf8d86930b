-- `erase_calls::NameIndex::erase_each` meets its contract: the first `k` names are answered.
use Rattle.directory.specs.Directory.{directory}
use Rattle.erase_calls.proofs.EraseEach.{EraseEachLoop}
use Rattle.erase_calls.proofs.NameIndex.erase_each.Given as goal

abbrev pub invariant-loop-k : goal.invariant-loop-k
invariant-loop-k l = EraseEachLoop (directory l.self.dir.now) l.names l.initial.answers l.k l.answers l.map
