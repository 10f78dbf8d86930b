-- `catalogue::catalogue` meets its contract: the text stands at the front of the page, and is copied where it fits.
use Prim.Native.Nat.{ℕ}
use mathlib.Core.Path.{ap}
use Rattle.refusals.specs.Answers.{outcome_of}
use native.Mathlib.Omega.{arith}
use lib.ListN.{length-take, length-replicate}
use Rattle.text_lines.proofs.Laws.{wrote_long}
use Rattle.catalogue.proofs.Laws.{text-most, catalogue_short, catalogue_done}
use Rattle.catalogue.proofs.catalogue.Goals as goal

pub returns-then-buf-n : goal.returns-then-buf-n
returns-then-buf-n c =
    catalogue_short _ _ (omega (arith, c.put_text-n.ensures.next, c.if-buf-n.true, length-replicate {A = ℕ} 2048 0, text-most c.args.input.now)) _ (ap outcome_of c.refuse.ensures)

pub slice_bounds-page-end : goal.slice_bounds-page-end
slice_bounds-page-end c = omega (arith, c.put_text-n.ensures.next, text-most c.args.input.now)

pub slice_bounds-copy_into-end : goal.slice_bounds-copy_into-end
slice_bounds-copy_into-end c = simp length-take
    (omega (arith, c.put_text-n.ensures.next, wrote_long c.put_text-n.ensures, length-replicate {A = ℕ} 2048 0, text-most c.args.input.now))

pub returns : goal.returns
returns c =
    catalogue_done _ _ _ c.put_text-n.ensures (omega (arith, length-replicate {A = ℕ} 2048 0)) c.if-buf-n.false c.copy_into.ensures
