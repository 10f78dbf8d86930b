-- How the sectors that the pieces of a recording have written lead on: known by the bits that were free at opening alone.
use Rattle.std.specs.Prelude.{ℕ, ◌+◌, cond, ◌&&◌, List, eqb, get_or, Option, None, Some}
use Rattle.names.specs.Name.{same_bytes}
use Rattle.surveys.specs.declared.UsedMap.{UsedMap}
use Rattle.plans.specs.Saving.{satisfying}
use Rattle.allocation.specs.Taken.{unavailable_map, unset, lowest_clear_bits}
use Rattle.recordings.specs.Recording.{inner_sectors, lacks_link}

-- of n sectors, the bit of the next to be written: "Each after the first is written, with its link, when a byte beyond it comes;";
-- 1,560 where a map has no such clear bit
unfoldable pub next_bit : List ℕ → ℕ → ℕ
next_bit m n = get_or (satisfying 1560 0 (unset m)) (1 + inner_sectors n) 1560

-- along the n lowest clear bits of a map: "a sector that its pieces listed lacks its link"
unfoldable pub continuation_along : List ℕ → List ℕ → ℕ → Option ℕ
continuation_along d m n = cond (lacks_link d (lowest_clear_bits m n)) None (Some (next_bit m n))

-- "the used map or n is not what it was at opening", or that
unfoldable pub continuation_in : List ℕ → UsedMap → List ℕ → ℕ → ℕ → Option ℕ
continuation_in d u was t n = cond (same_bytes u.bytes was && eqb u.tracks t) (continuation_along d (unavailable_map u) n) None
