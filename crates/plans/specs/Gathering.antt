-- What a gather moves, and where to. The words of document 02 stand above what they define.
use Rattle.std.specs.Prelude.{ℕ, zero, suc, ◌+◌, ◌*◌, ◌/◌, ◌%◌, Bool, true, cond, not, ◌&&◌, List, [], ◌∷◌, eqb, get_or}
use Rattle.std.proofs.Math.Option.{Option, none, some}
use Rattle.buffers.specs.Bytes.{tab, any}
use Rattle.refusals.specs.Order.{scan}
use Rattle.slots.specs.Slot.{count_of, first_of}
use Rattle.chains.specs.File.{File}
use Rattle.chains.specs.Chain.{chain_bit}
use Rattle.directory.specs.Directory.{Directory}
use Rattle.plans.specs.Saving.{free_bit, next_track, next_sector, map_with}

-- ---- when, and where to

-- "A file already on consecutive bits in rising order is left": of another some sector is not as many bits above its first as links lead to it
unfoldable pub scattered : File → Bool
scattered f = any (count_of f.bytes) (λ k. not (eqb (chain_bit f.sectors (first_of f.bytes) k) (first_of f.bytes + k)))

-- the count bits from b on
unfoldable pub up_from : ℕ → ℕ → List ℕ
up_from zero b = []
up_from (suc count) b = b ∷ up_from count (suc b)

-- each of them passes a test
unfoldable pub run_at : (ℕ → Bool) → ℕ → ℕ → Bool
run_at p zero b = true
run_at p (suc count) b = p b && run_at p count (suc b)

-- "the lowest run of free map bits of its length that are consecutive": its first bit, with n directory tracks beyond four. "its own
-- sectors don't count as free": they are in the used map
unfoldable pub lowest_run : ℕ → Directory → ℕ → Option ℕ
lowest_run n v count = scan 1560 (λ b. cond (run_at (free_bit n v) count b) (some b) none)

-- ---- what is written

-- "all its payload bytes in their order": 510 of each sector, along the links
unfoldable pub payload_of : File → List ℕ
payload_of f =
    tab (510 * count_of f.bytes) (λ k. get_or (f.sectors (chain_bit f.sectors (first_of f.bytes) (k / 510))) (k % 510) 0)

-- "Only slot bytes 13 to 209 change.": first track and sector, and the map
abbrev pub chain_fields : List ℕ → List ℕ
chain_fields bs = next_track bs ∷ next_sector bs ∷ map_with bs
