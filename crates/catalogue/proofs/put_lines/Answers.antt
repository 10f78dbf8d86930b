-- `catalogue::put_lines` meets its contract: after i turns the lines of the first i slots are put.
use borrow.Author.Rules.{rules}
use Prim.Native.Nat.{◌-◌, ◌≤◌}
use mathlib.Core.Path.{◌≡◌, refl}
use native.Mathlib.Omega.{arith}
use lib.ListN.{length}
use Rattle.text_lines.specs.Written.{Wrote}
use Rattle.text_lines.proofs.Laws.{wrote_none, wrote_as}
use Rattle.directory.specs.Directory.{slots_read, directory}
use Rattle.catalogue.specs.Text.{lines}
use Rattle.catalogue.proofs.Laws.{lines_none, lines_turn, lines-read}
use Rattle.catalogue.proofs.put_lines.Goals as goal

pub loop-i-init : goal.loop-i-init
loop-i-init c = (refl, wrote_none _ _ _ (lines_none _) _ (omega arith))

pub loop-i-preserved : goal.loop-i-preserved
loop-i-preserved c =
    let l = c.loop-i in
    (search rules, lines_turn _ l.i (omega arith) c.slot_at.ensures l.invariant.1 c.put_slot_line-at.ensures)

pub returns : goal.returns
returns c =
    let l = c.loop-i in
    let e : l.i ≡ slots_read c.args.dir.now = omega arith in
    wrote_as _ (lines-read _) (rw e at l.invariant.1)
