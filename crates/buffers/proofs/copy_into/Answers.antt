-- `buffers::copy_into` meets its contract.
use mathlib.Core.Path.{◌∙◌}
use native.Mathlib.Omega.{arith}
use Rattle.buffers.proofs.Lists.{put_past, put_cut_to}
use Rattle.buffers.proofs.copy_into.Goals as goal

pub returns-then-at-out : goal.returns-then-at-out
returns-then-at-out c = c.copy_runs.ensures ∙ put_cut_to _ _ _ _ c.min-n.ensures c.if-at-out.true

pub returns-else-at-out : goal.returns-else-at-out
returns-else-at-out c = let a = c.args in put_past a.out.now a.at a.from.now (omega arith)
