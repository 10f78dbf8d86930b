-- `slot_erasing::list_sectors` meets its contract: the sectors of the first `j` are listed.
use mathlib.Core.Path.{sym, ◌∙◌}
use native.Mathlib.Omega.{arith}
use Rattle.slot_erasing.proofs.Loops.{listing_none, listing_skip, listing-more, listing_all, pair_sector_small}
use Rattle.slot_erasing.proofs.list_sectors.Goals.{then-is_touched, else-is_touched}
use Rattle.slot_erasing.proofs.list_sectors.Goals as goal

pub loop-j-init : goal.loop-j-init
loop-j-init c = listing_none _ _

pub overflow_cast-dir_sector : goal.overflow_cast-dir_sector
overflow_cast-dir_sector c = omega (arith, pair_sector_small _ _ c.loop-j-test.true c.dir_sector.ensures)

pub overflow_add-at : goal.overflow_add-at
overflow_add-at c = omega (arith, c.loop-j.invariant.few)

pub loop-j-preserved : goal.loop-j-preserved
loop-j-preserved c =
    let a = c.loop-j in
    elim c.if-is_touched.branch [
      | then-is_touched w ↦
          rw (w.list-is, w.at-is)
          (listing-more _ _ a.j _ _ a.invariant c.loop-j-test.true (sym c.is_touched.ensures ∙ w.if-is_touched.true) _ w.dir_sector.ensures _ w.put_number.ensures)
      | else-is_touched w ↦ rw (w.list-is, w.at-is) (listing_skip _ _ a.j _ _ a.invariant (sym c.is_touched.ensures ∙ w.if-is_touched.false))
    ]

pub returns : goal.returns
returns c = listing_all _ _ _ _ _ c.loop-j.invariant (omega arith)
