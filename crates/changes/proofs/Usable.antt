-- A name that is fit for a file has at most ten bytes.
use Prim.Native.Nat.{ℕ}
use mathlib.Core.Path.{◌≡◌, ◌∙◌}
use mathlib.Core.Bool.{true, not, ◌&&◌, and-eq-true_iff}
use mathlib.Core.List.{List}
use borrow.Author.Tests.{leb-true}
use lib.Dec.{eqb, leb}
use lib.ListN.{length, get_or}
use Rattle.buffers.specs.Bytes.{part}
use Rattle.names.specs.Name.{askable, padded}
use Rattle.names.proofs.Names.{padded-whole}
use Rattle.plans.specs.Change.{all_between, usable}

pub usable-padded : (n y : List ℕ) → usable n ≡ true → y ≡ part 0 10 (padded n) → y ≡ padded n
unfolding usable askable
usable-padded n y e p =
    let a = (and-eq-true_iff (askable n) (all_between 32 n 126 && not (eqb (get_or n 0 0) 32))).0 e in
    let b = (and-eq-true_iff (leb 1 (length n) && leb (length n) 10) (not (eqb (get_or n 0 0) 0))).0 a.0 in
    let c = (and-eq-true_iff (leb 1 (length n)) (leb (length n) 10)).0 b.0 in
    p ∙ padded-whole n (leb-true (length n) 10 c.1)
