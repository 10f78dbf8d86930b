-- `record_open::open` meets its contract: a refused check is the answer; on an accepted disk what refuses the slot, 19 where no sector is
-- free, or the record.
use mathlib.Core.Path.{sym, ◌∙◌}
use Rattle.std.proofs.lemmas.Result.{err_from_is_err_and}
use Rattle.files.proofs.Listing.{checked_disk}
use Rattle.record_open.proofs.Opening.{reply_err, reply_no_slot, reply-few, running}
use Rattle.record_open.proofs.open.Goals as goal

pub returns-in_err-used : goal.returns-in_err-used
returns-in_err-used c =
    let p = err_from_is_err_and c.from_residual.result c.from_residual.ensures.1 in
    rw (p.1, p.2) (record { reply = sym (reply_err _ _ _ _ _ _ (sym c.in_err-used.ensures.reply)); opened = tt })

pub returns-in_err-slot_for : goal.returns-in_err-slot_for
returns-in_err-slot_for c =
    let p = err_from_is_err_and c.from_residual-in_err-slot_for.result c.from_residual-in_err-slot_for.ensures.1 in
    rw (p.1, p.2) (record { reply = sym (reply_no_slot _ _ _ _ _ (checked_disk _ _ c.in_ok-used.ensures).accepted _ c.in_err-slot_for.ensures); opened = tt })

pub returns-then-free_of-lt1 : goal.returns-then-free_of-lt1
returns-then-free_of-lt1 c =
    rw c.refuse.ensures
    (record {
      reply = sym (reply-few _ _ _ _ _ _ _ (record { disk = checked_disk _ _ c.in_ok-used.ensures; place = c.in_ok-slot_for.ensures }) _ c.free_of.ensures c.if-free_of-lt1.true);
      opened = tt;
    })

pub returns : goal.returns
returns c =
    let r = running _ _ _ _ _ _ _ (record { disk = checked_disk _ _ c.in_ok-used.ensures; place = c.in_ok-slot_for.ensures }) _ c.free_of.ensures c.if-free_of-lt1.false in
    record { reply = r.0; opened = c.fresh.ensures ∙ r.1 }
