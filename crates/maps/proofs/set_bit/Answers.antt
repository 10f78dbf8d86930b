-- `maps::set_bit` meets its contract: one bit is or-ed to its byte, and past the end nothing changes.
use Prim.Native.Nat.{◌/◌, ◌%◌, ◌^◌}
use mathlib.Core.Path.{sym, ap, ◌∙◌}
use native.Mathlib.Nat.{one-mul}
use native.Mathlib.Omega.{arith}
use lib.Bits.{bit_or}
use lib.Dec.{lit<}
use lib.ListN.{get_or, set}
use lib.Pow.{shl_exact}
use lib.Seq.{set_out}
use Rattle.maps.specs.Bits.{with_bit}
use Rattle.maps.proofs.set_bit.Goals as goal

pub returns-then-k-m : goal.returns-then-k-m
unfolding with_bit
returns-then-k-m c =
    let a = c.args in
    ap (λ x. set a.m.now (a.b / 8) (bit_or (get_or a.m.now (a.b / 8) 0) x))
    (shl_exact {a = 1} 1 (a.b % 8) 8 (lit< tt) (omega arith) ∙ one-mul (2 ^ (a.b % 8)))

pub returns-else-k-m : goal.returns-else-k-m
unfolding with_bit
returns-else-k-m c =
    let a = c.args in
    sym (set_out a.m.now (a.b / 8) (bit_or (get_or a.m.now (a.b / 8) 0) (2 ^ (a.b % 8))) c.if-k-m.false)
