-- `record_add::write_sectors` meets its contract: before each turn the sectors so far are written and named, and the bit is the next one's.
use mathlib.Core.List.{◌++◌}
use Rattle.record_add.proofs.Sectors.{SectorsLoop}
use Rattle.record_add.proofs.write_sectors.Given as goal

abbrev pub invariant-loop-j : goal.invariant-loop-j
invariant-loop-j l = SectorsLoop l.map l.bit l.count l.from (l.front ++ l.back) l.initial.image l.initial.list l.image l.list l.j l.b
