-- `saves::to_numbers` meets its contract: before each turn the first `j` bits are turned.
use Rattle.saves.proofs.Numbers.{NumbersLoop}
use Rattle.saves.proofs.to_numbers.Given as goal

abbrev pub invariant-loop-j : goal.invariant-loop-j
invariant-loop-j l = NumbersLoop l.initial.list l.n l.list l.j
