-- `files::list_accepted` meets its contract: an entry is 258 bytes, so the buffer is long enough for all of them or not.
use mathlib.Core.Path.{ap}
use Prim.Native.Nat.{ℕ, ◌*◌}
use native.Mathlib.Omega.{arith}
use Rattle.directory.proofs.Live.{among_seen}
use Rattle.disk.proofs.Examined.{accepted-size}
use Rattle.files.specs.Calls.{listed_outcome}
use Rattle.files.proofs.Listing.{listing-short, listing-fits}
use borrow.Author.Rules.{rules}
use Rattle.files.proofs.list_accepted.Goals as goal

pub overflow_mul-end : goal.overflow_mul-end
overflow_mul-end c = omega (arith, among_seen _ _ _ c.requires.1)

pub returns-then-buf-end : goal.returns-then-buf-end
returns-then-buf-end c = let p = c.requires in listing-short _ _ _ p.0 _ p.1 c.if-buf-end.true _ (ap listed_outcome c.refuse.ensures)

pub list_into-requires : goal.list_into-requires
list_into-requires c = let p = c.requires in (omega (arith, accepted-size _ p.0.accepted), ap (λ (n : ℕ). 258 * n) p.1)

pub returns : goal.returns
returns c = let p = c.requires in listing-fits _ _ _ p.0 _ p.1 c.if-buf-end.false _ c.free_of.ensures _ c.list_into.ensures
