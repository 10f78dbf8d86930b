-- `maps::bits_of` meets its contract: the bits of the chunks and of the bytes after them are counted, and past them no bit is set.
use Prim.Native.Nat.{ℕ, ◌+◌, ◌*◌, ◌/◌, ◌<◌, min}
use mathlib.Core.Path.{◌≡◌, refl, ap, ◌∙◌}
use native.Mathlib.Omega.{arith}
use lib.Count.{ones}
use lib.ListN.{length, get_or, take, length-take}
use Rattle.buffers.specs.Bytes.{count, word}
use Rattle.buffers.proofs.Counts.{count_le}
use Rattle.maps.specs.Bits.{has, bits_of}
use Rattle.maps.proofs.Laws.{bits_all, bits_le, chunk_more, rest_more}
use Rattle.maps.proofs.bits_of.Goals as goal

pub loop-word-init : goal.loop-word-init
unfolding count
loop-word-init c = (omega arith, refl)

pub loop-word-preserved : goal.loop-word-preserved
unfolding word
loop-word-preserved c =
    let m = c.args.m.now in
    let i = c.loop-word.word-index in
    let bytes : (b : ℕ) → get_or m b 0 < 256 = λ b. omega (arith, c.type_inv.m b) in
    let e = chunk_more m bytes c.min.result i c.loop-word.sum c.from_le_bytes.result c.as_chunks.result.0.now c.as_chunks.ensures.front (omega arith) c.loop-word.invariant.1 (omega arith) in
    (omega (arith, e, count_le (64 * (i + 1)) (has m)), e)

pub loop-byte-preserved : goal.loop-byte-preserved
loop-byte-preserved c =
    let m = c.args.m.now in
    let k = min 195 (length m) / 8 in
    let t : length (take c.min.result m) / 8 ≡ k = omega (arith, length-take c.min.result m) in
    let j = c.loop-byte.byte-index in
    let bytes : (b : ℕ) → get_or m b 0 < 256 = λ b. omega (arith, c.type_inv.m b) in
    let e = ap (λ (x : ℕ). c.loop-byte.sum + ones x) c.from.ensures ∙ rest_more m bytes c.min.result k j c.loop-byte.sum c.as_chunks.result.1.now (rw t at c.as_chunks.ensures.back) c.loop-byte-test.true c.loop-byte.invariant.1 in
    (omega (arith, e, count_le (8 * (8 * k + (j + 1))) (has m)), e)

pub returns : goal.returns
returns c =
    let m = c.args.m.now in
    let k : 8 * (8 * (min 195 (length m) / 8) + c.loop-byte.byte-index) ≡ 8 * c.min.result = omega (arith, length-take c.min.result m) in
    let e : c.loop-byte.sum ≡ bits_of m = c.loop-byte.invariant.1 ∙ ap (λ (x : ℕ). count x (has m)) k ∙ bits_all m c.min.result c.min.ensures in
    (e, omega (arith, bits_le m))
