-- `drives::raw_part` meets its contract: the image is the chosen drive's, and has the place's 512 bytes.
use mathlib.Core.Path.{◌≡◌, sym, ap, ◌∙◌}
use native.Mathlib.Nat.{add-sub_cancel_left}
use native.Mathlib.Omega.{arith}
use lib.ListN.{length}
use borrow.Author.Tests.{eq-eqb, ne_eqb}
use Rattle.geometry.specs.Disk.{image_size}
use Rattle.geometry.proofs.Laws.{SectorAt, spot_at}
use Rattle.drives.specs.Raw.{chosen}
use Rattle.drives.proofs.Laws.{RawAccepted, accepted, part}
use Rattle.drives.proofs.raw_part.Goals.{then-drive-eq1, else-drive-eq1}
use Rattle.drives.proofs.raw_part.Goals as goal

pub overflow_add-result : goal.overflow_add-result
overflow_add-result c =
    let a : SectorAt c.args.track c.args.sector c.in_ok-start.start = spot_at _ _ _ c.in_ok-start.ensures.place in
    omega (arith, a)

pub slice_bounds-result-end : goal.slice_bounds-result-end
slice_bounds-result-end c =
    let a : SectorAt c.args.track c.args.sector c.in_ok-start.start = spot_at _ _ _ c.in_ok-start.ensures.place in
    let right : let x = c.args in RawAccepted x.one.now x.two.now x.drive x.track x.sector = accepted _ _ _ _ _ (sym c.in_ok-start.ensures.refusal) in
    let long : length c.if-drive-eq1.image.now ≡ image_size
    = elim c.if-drive-eq1.branch [
      | then-drive-eq1 w ↦ ap (λ x. length x.now) w.image-is ∙ right.first
      | else-drive-eq1 w ↦ ap (λ x. length x.now) w.image-is ∙ right.second
    ] in
    omega (arith, a, long)

pub returns-clause-part : goal.returns-clause-part
returns-clause-part c =
    let a : SectorAt c.args.track c.args.sector c.in_ok-start.start = spot_at _ _ _ c.in_ok-start.ensures.place in
    let image : c.if-drive-eq1.image.now ≡ chosen c.args.one.now c.args.two.now c.args.drive
    = elim c.if-drive-eq1.branch [
      | then-drive-eq1 w ↦ rw (eq-eqb _ _ w.if-drive-eq1.true) (ap (λ x. x.now) w.image-is)
      | else-drive-eq1 w ↦ rw (ne_eqb _ _ w.if-drive-eq1.false) (ap (λ x. x.now) w.image-is)
    ] in
    rw (part _ _ _ _ _ (sym c.in_ok-start.ensures.refusal), image, add-sub_cancel_left, a.place)
