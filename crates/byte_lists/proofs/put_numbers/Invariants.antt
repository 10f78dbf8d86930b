-- `byte_lists::put_numbers`: before each turn the bytes of the first `j` numbers are put.
use mathlib.Core.Path.{◌≡◌}
use lib.ListN.{take}
use Rattle.buffers.specs.Bytes.{put}
use Rattle.byte_lists.specs.Lists.{in_bytes}
use Rattle.byte_lists.proofs.put_numbers.Given as goal

abbrev pub invariant-loop-j : goal.invariant-loop-j
invariant-loop-j l = l.list ≡ put l.initial.list 0 (in_bytes (take l.j l.numbers))
