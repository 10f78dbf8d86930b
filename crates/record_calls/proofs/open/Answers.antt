-- `record_calls::open` meets its contract: what opening refuses, then a record that is too short, or the record.
use mathlib.Core.Path.{ap}
use Rattle.refusals.specs.Answers.{outcome_of}
use Rattle.record_calls.proofs.Called.{opening_refused, opening_short, opening_done}
use Rattle.record_calls.proofs.open.Goals as goal

pub returns-in-Err : goal.returns-in-Err
returns-in-Err c = opening_refused _ _ _ _ (rw c.in-Err.is at c.open-opened.ensures.reply)

pub returns-then-room-lt-RECORD_BYTES : goal.returns-then-room-lt-RECORD_BYTES
returns-then-room-lt-RECORD_BYTES c =
    opening_short _ _ _ (rw c.in-Ok.is at c.open-opened.ensures.reply) c.if-room-lt-RECORD_BYTES.true _ (ap outcome_of c.refuse.ensures)

pub returns-else-room-lt-RECORD_BYTES : goal.returns-else-room-lt-RECORD_BYTES
returns-else-room-lt-RECORD_BYTES c =
    opening_done _ _ _ (rw c.in-Ok.is at c.open-opened.ensures.reply) c.if-room-lt-RECORD_BYTES.false _ (rw c.in-Ok.is at c.open-opened.ensures.opened) _ c.put_opened.ensures
