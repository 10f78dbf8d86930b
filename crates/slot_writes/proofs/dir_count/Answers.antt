-- `slot_writes::dir_count` meets its contract.
use mathlib.Core.Path.{sym, ap, ◌∙◌}
use native.Mathlib.Omega.{arith}
use lib.ListN.{length}
use Rattle.slot_writes.proofs.Dirs.{two_long, one_long, dirs_none, dirs_some}
use Rattle.slot_writes.proofs.dir_count.Goals as goal

pub returns-then-i-ge-SLOTS : goal.returns-then-i-ge-SLOTS
returns-then-i-ge-SLOTS c = (sym (ap length (dirs_none _ _ c.if-i-ge-SLOTS.true)), omega arith)

pub returns-then-is_apart : goal.returns-then-is_apart
returns-then-is_apart c =
    (sym (ap length (dirs_some _ _ c.if-i-ge-SLOTS.false c.is_behind.ensures) ∙ two_long _ _ c.is_apart.ensures c.if-is_apart.true), omega arith)

pub returns : goal.returns
returns c =
    (sym (ap length (dirs_some _ _ c.if-i-ge-SLOTS.false c.is_behind.ensures) ∙ one_long _ _ c.is_apart.ensures c.if-is_apart.false), omega arith)
