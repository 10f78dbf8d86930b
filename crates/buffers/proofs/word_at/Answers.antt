-- `buffers::word_at` meets its contract: the eight bytes are there, or not.
use mathlib.Core.Path.{◌≡◌, sym, ◌∙◌}
use native.Mathlib.Nat.{add-zero}
use native.Mathlib.Omega.{arith}
use Rattle.buffers.specs.Bytes.{word}
use Rattle.buffers.proofs.Lists.{word-there, word_not}
use Rattle.buffers.proofs.word_at.Goals.{then-s-lt8-via-then-s-lt8, then-s-lt8-via-else-s-lt8+then-s-i}
use Rattle.buffers.proofs.word_at.Goals as goal

pub returns-then-s-lt8 : goal.returns-then-s-lt8
returns-then-s-lt8 c = sym (word_not _ _ (elim c.then-s-lt8.branch [ then-s-lt8-via-then-s-lt8 w ↦ omega arith | then-s-lt8-via-else-s-lt8+then-s-i w ↦ omega arith ]))

pub returns : goal.returns
unfolding word
returns c =
    let e : c.from_le_bytes.result ≡ word 8 c.args.s.now c.args.i 0 = rw add-zero (omega (arith, c.from_le_bytes.ensures)) in
    e ∙ sym (word-there _ _ (omega arith))
