-- Every starred point is as document 01 says: one claim over the whole table, by a test that computes.
-- Assumes nothing.
use mathlib.Core.Bool.{Bool, true, ◌&&◌}
use mathlib.Core.List.{List, [], ◌∷◌}
use lib.Dec.{T, eqb, eqb→eq}
use Rattle.geometry.specs.Disk.{is_sector, is_data, track_of, bit_of, bit_number}
use Rattle.geometry.proofs.Table.{both_hold}
use Rattle.slots.specs.Slot.{sectors_for}
use Rattle.directory.specs.Places.{past_gap, slot_at}
use Rattle.files.specs.Calls.{address}
use Rattle.starred_points.specs.Starred.{Point, starred, Every}

abbrev right : List Point → Bool
right [] = true
right (p ∷ ps) = eqb p.gives p.says && right ps

each : (ps : List Point) → T (right ps) → Every ps
each [] t = tt
each (p ∷ ps) t =
    let b = both_hold (eqb p.gives p.says) (right ps) t in
    (eqb→eq p.gives p.says b.0, each ps b.1)

pub all : Every starred
unfolding is_sector is_data track_of bit_of bit_number past_gap slot_at address sectors_for
all = each starred tt
