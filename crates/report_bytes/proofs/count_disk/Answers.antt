-- `report_bytes::count_disk` meets its contract: the check refuses the disk, or its sectors and its files are counted.
use Rattle.std.proofs.Common.{arith}
use Rattle.reports.proofs.Disk.{taken, counts_refused, counts_accepted, free-fits}
use Rattle.report_bytes.proofs.Fours.{length-numbers, numbers-small}
use Rattle.report_bytes.proofs.Raising.{rest-room, rest_then}
use Rattle.report_bytes.proofs.count_disk.Goals as goal

pub count_accepted-requires : goal.count_accepted-requires
count_accepted-requires c =
    let w = taken _ _ c.examine.ensures _ c.in-Ok.is in
    (c.requires, omega (arith, w.few), free-fits _ c.free_of.ensures)

pub count_files-requires : goal.count_files-requires
count_files-requires c =
    (rest-room c.count_accepted.ensures.same c.requires, (taken _ _ c.examine.ensures _ c.in-Ok.is).files)

pub returns-in-Err : goal.returns-in-Err
returns-in-Err c =
    let w = c.raise.ensures in
    record {
      same = w.same;
      numbers =
          counts_refused _ _ c.examine.ensures _ (length-numbers _) (numbers-small _ (λ k. omega (arith, c.slice_known-1.given k))) _ c.in-Err.is
          c.number.ensures.0 c.number.ensures.1 w.numbers;
    }

pub returns-in-Ok : goal.returns-in-Ok
returns-in-Ok c =
    let v = c.count_accepted.ensures in
    let w = c.count_files.ensures in
    record {
      same = rest_then v.same w.same;
      numbers =
          counts_accepted _ _ c.examine.ensures _ (length-numbers _) (numbers-small _ (λ k. omega (arith, c.slice_known-1.given k)))
          _ (taken _ _ c.examine.ensures _ c.in-Ok.is) c.free_of.ensures v.numbers w.numbers;
    }
