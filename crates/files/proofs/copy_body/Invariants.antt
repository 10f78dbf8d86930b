-- `files::copy_body` meets its contract: before each turn the bytes of the sectors passed stand in front.
use Prim.Native.Nat.{◌-◌}
use Rattle.files.proofs.Body.{BodyCopyLoop}
use borrow.Author.Rules.{rules}
use Rattle.files.proofs.copy_body.Given as goal

abbrev pub invariant-loop-done : goal.invariant-loop-done
invariant-loop-done l = BodyCopyLoop l.image l.s l.initial.buf l.len l.at l.from l.done l.buf

abbrev pub decreases-loop-done : goal.decreases-loop-done
decreases-loop-done l = l.len - l.done
