-- `gathers::copy_payload` meets its contract: before each turn the first `j` bytes are copied.
use Prim.Native.Nat.{◌-◌}
use Rattle.gathers.proofs.Moving.{PayloadCopyLoop}
use Rattle.gathers.proofs.copy_payload.Given as goal

abbrev pub invariant-loop-j : goal.invariant-loop-j
invariant-loop-j l = PayloadCopyLoop l.initial.image l.from l.to l.image l.j
