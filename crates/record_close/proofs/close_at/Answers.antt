-- `record_close::close_at` meets its contract: each way out has the tests that led there.
use mathlib.Core.Path.{refl, ap}
use Rattle.refusals.specs.Answers.{outcome_of}
use Rattle.slots.specs.Slot.{sectors_for}
use Rattle.record_close.proofs.Planned.{open_size, closed-few, closed_large, closed-short, closable, closed-done}
use Rattle.record_close.proofs.close_at.Goals as goal

pub returns-then-kept-gt795591 : goal.returns-then-kept-gt795591
returns-then-kept-gt795591 c = closed_large _ _ _ _ _ c.requires _ refl c.if-kept-gt795591.true _ (ap outcome_of c.refuse.ensures)

pub returns-then-free_of-n : goal.returns-then-free_of-n
unfolding sectors_for
returns-then-free_of-n c = closed-few _ _ _ _ _ c.requires _ c.free_of.ensures c.if-free_of-n.true _ (ap outcome_of c.refuse-then-free_of-n.ensures)

pub returns-then-list-named : goal.returns-then-list-named
unfolding sectors_for
returns-then-list-named c =
    closed-short _ _ _ _ _ c.requires _ c.free_of.ensures _ refl c.if-free_of-n.false _ c.has_old_name-old.ensures _ c.dir_count.ensures.0 _ c.ends_of.ensures.0 c.if-list-named.true _
    (ap outcome_of c.refuse-then-list-named.ensures)

pub write_close-requires : goal.write_close-requires
unfolding sectors_for
write_close-requires c =
    (closable _ _ _ _ _ c.requires _ c.free_of.ensures _ refl c.if-free_of-n.false _ c.has_old_name-old.ensures _ c.dir_count.ensures.0 _ c.ends_of.ensures.0 c.if-list-named.false _ c.unavailable_bits-map.ensures, open_size _ _ _ _ c.requires)

pub returns : goal.returns
unfolding sectors_for
returns c =
    closed-done _ _ _ _ _ c.requires _ c.free_of.ensures _ refl c.if-free_of-n.false _ c.has_old_name-old.ensures _ c.dir_count.ensures.0 _ c.ends_of.ensures.0 c.if-list-named.false _
    c.unavailable_bits-map.ensures _ _ c.write_close.ensures
