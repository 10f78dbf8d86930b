-- `buffers::copy_run` meets its contract.
use mathlib.Core.Path.{◌∙◌, ap}
use native.Mathlib.Omega.{arith}
use lib.ListN.{length-take}
use Rattle.buffers.specs.Bytes.{put}
use Rattle.buffers.proofs.Lists.{take_put}
use Rattle.buffers.proofs.copy_run.Goals as goal

pub slice_bounds-copy-end-2 : goal.slice_bounds-copy-end-2
slice_bounds-copy-end-2 c = simp length-take (omega arith)

pub copy-requires-2 : goal.copy-requires-2
copy-requires-2 c = simp length-take (omega arith)

pub returns : goal.returns
returns c =
    let a = c.args in
    c.copy-2.ensures ∙ ap (put a.out.now a.at) (take_put _ a.from.now _ c.copy.ensures (omega arith))
