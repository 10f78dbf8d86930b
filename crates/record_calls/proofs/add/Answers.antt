-- `record_calls::add` meets its contract: a record that is too short, or what the call on the record gives, as bytes.
use mathlib.Core.Path.{refl}
use Rattle.std.proofs.lemmas.Result.{err_from_is_err_and}
use Rattle.record_calls.proofs.Called.{piece-short, piece_is}
use Rattle.record_calls.proofs.add.Goals as goal

pub returns-then-kept-lt-RECORD_BYTES : goal.returns-then-kept-lt-RECORD_BYTES
returns-then-kept-lt-RECORD_BYTES c = piece-short _ _ _ c.if-kept-lt-RECORD_BYTES.true _ c.too_short.ensures _

pub returns-in_err-added : goal.returns-in_err-added
returns-in_err-added c =
    let p = err_from_is_err_and c.from_residual.result c.from_residual.ensures.1 in
    rw (p.1, p.2)
    (piece_is _ _ _ c.if-kept-lt-RECORD_BYTES.false _ c.record_in-held.ensures _ _ _ _ c.in_err-added.ensures.0 _ c.in_err-added.ensures.1 _ refl)

pub returns : goal.returns
returns c =
    piece_is _ _ _ c.if-kept-lt-RECORD_BYTES.false _ c.record_in-held.ensures _ _ _ _ c.in_ok-added.ensures.0 _ c.in_ok-added.ensures.1 _ c.put_grown.ensures
