-- `record_close::write_close` meets its contract: the bits, the recording with that chain, and the list.
use Prim.Native.Nat.{ℕ}
use mathlib.Core.Path.{◌≡◌}
use lib.ListN.{length, replicate, length-replicate}
use Rattle.record_close.proofs.Whole.{front_closable, front_ends, closed-made}
use Rattle.record_close.proofs.write_close.Goals as goal

-- the array before its front is filled
room : length (replicate {A = ℕ} 1560 0) ≡ 1560
room = length-replicate {A = ℕ} 1560 0

pub write_recording-requires : goal.write_recording-requires
write_recording-requires c = (front_closable _ _ _ _ _ _ c.requires.0 _ _ room c.pick_bits.ensures, c.requires.1)

pub put_ends-requires : goal.put_ends-requires
put_ends-requires c = front_ends _ _ _ _ _ _ c.requires.0 _ _ room c.pick_bits.ensures

pub returns : goal.returns
returns c =
    closed-made _ _ _ _ _ _ c.requires.0 _ _ room c.pick_bits.ensures _ _ _ _ c.write_recording.ensures c.put_ends.ensures _ c.ends_of.ensures.0
    c.put_dirs.ensures
