-- `maps::bits_of`: after each turn the bits of the bytes so far are counted.
use Prim.Native.Nat.{◌≤◌, ◌*◌, ◌/◌, ◌+◌, min}
use mathlib.Core.Path.{◌≡◌}
use lib.ListN.{length}
use Rattle.buffers.specs.Bytes.{count}
use Rattle.maps.specs.Bits.{has}
use Rattle.maps.proofs.bits_of.Given as goal

abbrev pub invariant-loop-word : goal.invariant-loop-word
invariant-loop-word l = (l.sum ≤ 64 * l.word-index) × (l.sum ≡ count (64 * l.word-index) (has l.m))

abbrev pub invariant-loop-byte : goal.invariant-loop-byte
invariant-loop-byte l = (l.sum ≤ 8 * (8 * (min 195 (length l.m) / 8) + l.byte-index)) × (l.sum ≡ count (8 * (8 * (min 195 (length l.m) / 8) + l.byte-index)) (has l.m))
