-- `changes::taken_by` meets its contract: by the slot that has the new name, and at its own by the bytes.
use mathlib.Core.Path.{sym}
use Rattle.changes.proofs.Usable.{usable-padded}
use Rattle.changes.proofs.Laws.{taken_nowhere, taken_there, taken_here}
use Rattle.changes.proofs.taken_by.Goals.{else-j-i-via-then-j-i+else-not-same_bytes, else-j-i-via-else-j-i}
use Rattle.changes.proofs.taken_by.Goals as goal

pub returns-in_err-j : goal.returns-in_err-j
returns-in_err-j c = rw c.from_residual.ensures (taken_nowhere _ _ _ (sym c.in_err-j.ensures))

pub returns-then-not-same_bytes : goal.returns-then-not-same_bytes
returns-then-not-same_bytes c =
    taken_here _ _ _ _ (sym c.in_ok-j.ensures) c.if-j-i.true c.requires.slot _ _ _ c.slot_at.ensures c.name_of-own.ensures
    (usable-padded _ _ c.requires.fit c.padded_name.ensures) _ _ c.same_bytes.ensures c.if-not-same_bytes.true

pub returns : goal.returns
returns c =
    let found = sym c.in_ok-j.ensures in
    elim c.else-j-i.branch [
      | else-j-i-via-then-j-i+else-not-same_bytes w ↦
          taken_here _ _ _ _ found w.if-j-i.true c.requires.slot _ _ _ c.slot_at.ensures c.name_of-own.ensures
          (usable-padded _ _ c.requires.fit w.padded_name.ensures) _ _ w.same_bytes.ensures w.if-not-same_bytes.false
      | else-j-i-via-else-j-i w ↦ taken_there _ _ _ _ found w.if-j-i.false
    ]
