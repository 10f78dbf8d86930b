-- What the pass knows at a live slot, what a map is joined under, and what the pass gives.
use Rattle.std.specs.Prelude.{ℕ, ◌<◌, ◌≡◌, false, List, length, Result, IfOk}
use Rattle.std.proofs.Math.Option.{some}
use Rattle.maps.specs.Bits.{bits_of, share}
use Rattle.refusals.specs.Order.{Reply}
use Rattle.refusals.specs.Answers.{reply_of}
use Rattle.refusals.specs.declared.Refused.{Refused}
use Rattle.directory.specs.Places.{slots}
use Rattle.directory.specs.Directory.{tracks_of, slots_read, directory, live_among}
use Rattle.surveys.specs.Survey.{union, used_map}
use Rattle.surveys.specs.Filter.{Filtered}
use Rattle.surveys.specs.declared.Survey.{Survey}
use Rattle.surveys.specs.declared.UsedMap.{UsedMap}

-- slot i is live and its bytes are s; u is the used map of the slots before it, f has the bits of their names
pub record Reached (d : List ℕ) (i : ℕ) (s u f : List ℕ) : Type 0 where
  pub slot : i < slots_read d
  pub here : directory d i ≡ some s
  pub used : u ≡ union (directory d) i
  pub filtered : Filtered d i f

-- the counts are the maps' own, and no bit is in both
pub record DisjointMaps (u : UsedMap) (m : List ℕ) (own : ℕ) : Type 0 where
  pub long : length u.bytes ≡ 195
  pub count : u.count ≡ bits_of u.bytes
  pub own-count : own ≡ bits_of m
  pub apart : share u.bytes m ≡ false

-- a pass's or a check's reply q, and the used map and the number of files of a disk that it does not refuse
pub record Surveyed (q : Reply) (d : List ℕ) (r : Result Survey Refused) : Type 0 where
  pub reply : reply_of r ≡ q
  pub used : IfOk r (λ s. s.used ≡ used_map (tracks_of d) (directory d))
  pub files : IfOk r (λ s. s.files ≡ live_among (directory d) slots)
