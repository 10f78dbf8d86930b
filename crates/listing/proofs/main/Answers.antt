-- `listing::main` is safe: what the catalogue answers lies within the page.
use Prim.Native.Nat.{◌≤◌}
use native.Mathlib.Omega.{arith}
use lib.ListN.{length, length-take}
use Rattle.catalogue.proofs.Laws.{answer_within}
use Rattle.listing.proofs.main.Goals as goal

pub slice_bounds-page-end : goal.slice_bounds-page-end
slice_bounds-page-end c = omega (arith, c.catalogue.auto.buf, answer_within _ _ _ _ _ c.in-Ok.is c.catalogue.ensures)

pub slice_bounds-write_all-end : goal.slice_bounds-write_all-end
slice_bounds-write_all-end c =
    let fits : c.in-Ok.n ≤ length c.catalogue.new.buf = omega (arith, c.catalogue.auto.buf, answer_within _ _ _ _ _ c.in-Ok.is c.catalogue.ensures) in
    simp length-take (omega (arith, fits))
