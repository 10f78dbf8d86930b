-- `readers::begin_at` meets its contract: the tests that lead to each answer.
use mathlib.Core.Path.{sym, ap, ◌∙◌}
use borrow.Author.Rules.{rules}
use Rattle.slots.specs.Slot.{readable}
use Rattle.readers.specs.Opening.{file_opening_of}
use Rattle.readers.proofs.Opening.{begin_not, begin_there}
use Rattle.readers.proofs.begin_at.Goals as goal

pub returns-then-not-is_readable : goal.returns-then-not-is_readable
returns-then-not-is_readable c =
    ap file_opening_of c.refuse.ensures ∙ begin_not _ _ _ (ap readable (sym c.kind_of.ensures.0) ∙ sym c.is_readable.ensures ∙ c.if-not-is_readable.true)

pub returns : goal.returns
returns c =
    begin_there _ _ _ _ _ _ (ap readable (sym c.kind_of.ensures.0) ∙ sym c.is_readable.ensures ∙ c.if-not-is_readable.false) c.first_of.ensures.0
    c.bit_place.ensures c.file_length.ensures.0
