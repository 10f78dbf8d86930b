-- `saves::save_at` meets its contract: each way out has the tests that led there.
use mathlib.Core.Path.{refl, ap}
use Rattle.refusals.specs.Answers.{outcome_of}
use Rattle.slots.specs.Slot.{sectors_for}
use Rattle.saves.proofs.Planned.{open_long, save-few, save_large, save-short, savable, save-done}
use Rattle.saves.proofs.save_at.Goals as goal

pub returns-then-body-gt795591 : goal.returns-then-body-gt795591
returns-then-body-gt795591 c =
    save_large _ _ _ _ _ c.args.what.now.exec.now c.args.what.now.info.now _ _ c.requires _ refl c.if-body-gt795591.true _ (ap outcome_of c.refuse.ensures)

pub returns-then-free_of-n : goal.returns-then-free_of-n
unfolding sectors_for
returns-then-free_of-n c = save-few _ _ _ _ _ _ _ _ _ c.requires _ c.free_of.ensures c.if-free_of-n.true _ (ap outcome_of c.refuse-then-free_of-n.ensures)

pub returns-then-list-named : goal.returns-then-list-named
unfolding sectors_for
returns-then-list-named c =
    save-short _ _ _ _ _ _ _ _ _ c.requires _ c.free_of.ensures _ refl c.if-free_of-n.false _ c.has_old_name-old.ensures _ c.dir_count.ensures.0 c.if-list-named.true _ (ap outcome_of c.refuse-then-list-named.ensures)

pub write_save-requires : goal.write_save-requires
unfolding sectors_for
write_save-requires c =
    (savable _ _ _ _ c.args.what.now.name.now c.args.what.now.exec.now c.args.what.now.info.now _ _ c.requires _ c.free_of.ensures _ refl c.if-free_of-n.false _ c.has_old_name-old.ensures _ c.dir_count.ensures.0 c.if-list-named.false _ c.unavailable_bits-map.ensures, open_long _ _ _ _ c.args.what.now.name.now c.requires)

pub returns : goal.returns
unfolding sectors_for
returns c =
    save-done _ _ _ _ _ _ _ _ _ c.requires _ c.free_of.ensures _ refl c.if-free_of-n.false _ c.has_old_name-old.ensures _ c.dir_count.ensures.0 c.if-list-named.false _ c.unavailable_bits-map.ensures _ _ c.write_save.ensures
