-- `record_calls::close` meets its contract: a record that is too short, or what the call on the record gives.
use Rattle.record_calls.proofs.Called.{close_short, close_is}
use borrow.Author.Rules.{rules}
use Rattle.record_calls.proofs.close.Goals as goal

pub returns-then-kept-lt-RECORD_BYTES : goal.returns-then-kept-lt-RECORD_BYTES
returns-then-kept-lt-RECORD_BYTES c = close_short _ _ _ c.if-kept-lt-RECORD_BYTES.true _ c.too_short.ensures

pub returns : goal.returns
returns c = close_is _ _ _ c.if-kept-lt-RECORD_BYTES.false _ c.record_in-held.ensures _ _ _ c.close.ensures
