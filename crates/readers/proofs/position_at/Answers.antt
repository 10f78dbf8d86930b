-- `readers::position_at` meets its contract: the tests that lead to each answer.
use mathlib.Core.Path.{sym}
use borrow.Author.Rules.{rules}
use Rattle.readers.proofs.Positions.{ahead_in}
use Rattle.readers.proofs.Runs.{position_past}
use Rattle.readers.proofs.position_at.Goals as goal

pub returns-then-offset-lt-PAYLOAD : goal.returns-then-offset-lt-PAYLOAD
returns-then-offset-lt-PAYLOAD c = sym (ahead_in _ _ _ c.if-offset-lt-PAYLOAD.true)

pub returns : goal.returns
returns c = position_past _ _ _ _ _ _ c.if-offset-lt-PAYLOAD.false c.num_at-track.ensures.0 c.num_at-number.ensures.0 c.data_place.ensures
