-- "Users type `tunes` and get 15 for `TUNES`": now each spelling of a name reads and starts what every other does.
use Prim.Native.Nat.{ℕ}
use mathlib.Core.Path.{◌≡◌}
use mathlib.Core.List.{List}
use Rattle.names.specs.Name.{Same, askable}
use Rattle.names.proofs.Names.{same-padded, same-askable}
use Rattle.directory.specs.Find.{find}
use Rattle.directory.proofs.Search.{find-same}
use Rattle.disk.specs.View.{view, view_slots}
use Rattle.files.specs.Calls.{file_named, read_reply, read_view, reading, start_reply, start_view, start_address}

-- on every disk, accepted or not, for every two spellings, usable or not
module _ (d m n : List ℕ) (e : Same m n) where
  pub spelt_found : find (view_slots (view d)) m ≡ find (view_slots (view d)) n
  spelt_found = find-same (view_slots (view d)) m n (same-padded m n e)

  pub spelt_asked : askable m ≡ askable n
  spelt_asked = same-askable m n e

  pub spelt_reading : (buf : List ℕ) → reading d m buf ≡ reading d n buf
  unfolding read_view read_reply file_named
  spelt_reading buf = rw (spelt_asked, spelt_found)

  pub spelt_starting : start_address d m ≡ start_address d n
  unfolding start_view start_reply file_named
  spelt_starting = rw (spelt_asked, spelt_found)
