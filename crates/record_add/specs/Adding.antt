-- What the steps of adding a piece are entered with.
use Rattle.std.specs.Prelude.{ℕ, ◌+◌, ◌-◌, ◌≤◌, ◌≡◌, false, cond, List, ltb, length, get_or, take}
use Rattle.buffers.specs.Bytes.{part, put}
use Rattle.refusals.specs.Answers.{Outcome}
use Rattle.slots.specs.Slot.{sectors_for}
use Rattle.surveys.specs.declared.UsedMap.{UsedMap}
use Rattle.disk.specs.View.{View}
use Rattle.files.specs.Steps.{CheckedDisk}
use Rattle.steps.specs.Steps.{Step}
use Rattle.plans.specs.Saving.{satisfying}
use Rattle.plans.specs.Plan.{data_steps, changed}
use Rattle.allocation.specs.Taken.{unavailable_map, unset, lowest_clear_bits, next_clear}
use Rattle.recordings.specs.declared.Record.{Record}
use Rattle.recordings.specs.Recording.{with_piece, chain_of, inner_sectors, disk_moved}
use Rattle.recordings.specs.Record.{last_from, recording_of, zeros}
use Rattle.recordings.specs.Calls.{add_piece_call, added_record}

-- the sectors of a body of so many bytes; one more than there are data sectors where no disk holds it
unfoldable pub sectors_capped : ℕ → ℕ
sectors_capped long = cond (ltb 795591 long) 1561 (sectors_for long)

-- ---- sectors along the clear bits of a map

-- the clear bits from b on
abbrev pub clear_from : List ℕ → ℕ → List ℕ
clear_from m b = satisfying (1560 - b) b (unset m)

-- so many data sectors along them, with the stream from place f on
abbrev pub steps_along : List ℕ → ℕ → ℕ → List ℕ → ℕ → List (Step View)
steps_along st f count m b = take count (data_steps st f (clear_from m b))

-- b is clear, or there is none; the sectors are there, and one more that the last of them leads to; the list has room for their numbers
pub record SectorsAlong (m : List ℕ) (b count f : ℕ) (list : List ℕ) : Type 0 where
  pub first : next_clear m b ≡ b
  pub few : count ≤ 1560
  pub enough : count ≤ length (clear_from m b) - 1
  pub near : f ≤ 510
  pub room : count ≤ length list

-- ---- the bytes that wait

-- what waits of a body of so many bytes, of whose last sector these are the bytes
abbrev pub waiting_bytes : ℕ → List ℕ → List ℕ
waiting_bytes long last = part 0 (long - last_from long) (put (zeros 510) 0 last)

-- ---- a piece

-- the sectors that a piece x completes can be written: they are the next `count` clear bits of m from b on, and one more is there
pub record Completes (m : List ℕ) (b count : ℕ) (k : Record) (x list : List ℕ) : Type 0 where
  pub fits : k.long + length x ≤ 795591
  pub chain : chain_of (with_piece (recording_of k) x) ≡ lowest_clear_bits m (sectors_for (k.long + length x))
  pub there : sectors_for (k.long + length x) ≤ length (satisfying 1560 0 (unset m))
  pub next : b ≡ get_or (satisfying 1560 0 (unset m)) (1 + inner_sectors (sectors_for k.long)) 1560
  pub many : count ≡ inner_sectors (sectors_for (k.long + length x)) - inner_sectors (sectors_for k.long)
  pub room : count ≤ length list

-- an accepted disk that has not moved under a recording; b is the bit of the next sector to be written
pub record PieceReady (d : List ℕ) (u : UsedMap) (k : Record) (b : ℕ) : Type 0 where
  pub disk : CheckedDisk d u
  pub still : disk_moved d (recording_of k) ≡ false
  pub used : k.used ≡ u.bytes
  pub tracks : k.tracks ≡ u.tracks
  pub next : b ≡ get_or (satisfying 1560 0 (unset (unavailable_map u))) (1 + inner_sectors (sectors_capped k.long)) 1560

-- what adding a piece gives
abbrev pub AddsPiece : Record → List ℕ → List ℕ → List ℕ → Outcome → Record → List ℕ → List ℕ → Type 0
AddsPiece k x d buf o k' d' buf' = (changed o d' buf' ≡ add_piece_call k x d buf) × (k' ≡ added_record k x d (length buf))
