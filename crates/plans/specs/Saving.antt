-- What a save writes: its data sectors and its slot. The words of document 01 stand above what they define.
use Rattle.std.specs.Prelude.{ℕ, zero, suc, ◌+◌, ◌-◌, ◌/◌, ◌%◌, Bool, cond, not, ◌&&◌, List, [], ◌∷◌, eqb, ltb, length, get_or, take}
use Rattle.std.proofs.Math.Option.{Option, none, some}
use Rattle.buffers.specs.Bytes.{tab}
use Rattle.geometry.specs.Disk.{track_of, sector_of}
use Rattle.refusals.specs.Order.{scan}
use Rattle.maps.specs.Bits.{has, clear_map, with_bit}
use Rattle.slots.specs.Slot.{sectors_for}
use Rattle.slots.specs.Tracks.{is_label, data_bit}
use Rattle.names.specs.Name.{padded}
use Rattle.directory.specs.Places.{slot_count, slots}
use Rattle.directory.specs.Directory.{fold_option, Directory}
use Rattle.surveys.specs.Survey.{union}
use Rattle.plans.specs.Change.{SaveRequest}

-- ---- how much, and where

-- the numbers that pass a test, rising, among the n from i on
unfoldable pub satisfying : ℕ → ℕ → (ℕ → Bool) → List ℕ
satisfying zero i p = []
satisfying (suc n) i p = cond (p i) (i ∷ satisfying n (suc i) p) (satisfying n (suc i) p)

-- a data sector whose bit is clear in the used map, with n directory tracks beyond four: "a directory sector's bit is never free"
abbrev pub free_bit : ℕ → Directory → ℕ → Bool
free_bit n v b = data_bit n b && not (has (union v slots) b)

-- "the n lowest free map bits, rising, as chain"
unfoldable pub taken_bits : ℕ → Directory → SaveRequest → List ℕ
taken_bits n v w = take (sectors_for (length w.body)) (satisfying 1560 0 (free_bit n v))

-- "and the lowest free slot": the lowest of the directory's that holds no file
unfoldable pub lowest_slot : ℕ → Directory → Option ℕ
lowest_slot n v = scan (slot_count n) (λ i. fold_option (some i) (λ s. none) (v i))

-- its number from 0; 0 where there is none, and the save is refused
abbrev pub taken_slot : ℕ → Directory → ℕ
taken_slot n v = fold_option 0 (λ i. i) (lowest_slot n v)

-- ---- the data sectors

-- "Their length is pages × 16,384 + that remainder."
abbrev pub pages_for : SaveRequest → ℕ
pages_for w = length w.body / 16384

abbrev pub remainder_for : SaveRequest → ℕ
remainder_for w = length w.body % 16384

-- "The first sector begins with nine bytes: kind; remainder (2) and offset (2), both low byte first; two unused; pages;
-- start page. Body bytes follow"
unfoldable pub stream : SaveRequest → List ℕ
stream w =
    w.kind ∷ remainder_for w % 256 ∷ remainder_for w / 256 ∷ w.offset % 256 ∷ w.offset / 256 ∷ 0 ∷ 0 ∷ pages_for w ∷ w.page ∷ w.body

-- "510 payload bytes to a sector": those from place f of the stream, 0 past its end, and then the next track and sector
unfoldable pub sector_bytes : List ℕ → ℕ → ℕ → ℕ → List ℕ
sector_bytes st f t s = tab 512 (λ k. cond (ltb k 510) (get_or st (f + k) 0) (cond (eqb k 510) t s))

-- the address of the next sector of a chain; "The last sector has 0, 0"
abbrev pub next_track : List ℕ → ℕ
next_track [] = 0
next_track (b ∷ bs) = track_of b

abbrev pub next_sector : List ℕ → ℕ
next_sector [] = 0
next_sector (b ∷ bs) = sector_of b

-- the sector of map bit c in a chain that holds the stream from place f on; none of another bit
unfoldable pub chain_sectors : List ℕ → ℕ → List ℕ → ℕ → List ℕ
chain_sectors st f [] c = []
chain_sectors st f (b ∷ bs) c = cond (eqb c b) (sector_bytes st f (next_track bs) (next_sector bs)) (chain_sectors st (f + 510) bs c)

-- ---- the slot

-- the map with these bits set
unfoldable pub map_with : List ℕ → List ℕ
map_with [] = clear_map
map_with (b ∷ bs) = with_bit (map_with bs) b

-- byte k of the slot that a save writes: "Slot bytes not named above are 0, but byte 245 is 255"
unfoldable pub slot_byte : SaveRequest → List ℕ → ℕ → ℕ
slot_byte w bs k =
    cond (ltb k 1) w.kind
    (cond (ltb k 11) (get_or (padded w.name) (k - 1) 0)
    -- "11, 12 sector count, high byte first; 13, 14 first track and sector; 15 to 209 map;"
    (cond (ltb k 12) (length bs / 256)
    (cond (ltb k 13) (length bs % 256)
    (cond (ltb k 14) (next_track bs)
    (cond (ltb k 15) (next_sector bs)
    (cond (ltb k 210) (get_or (map_with bs) (k - 15) 0)
    -- "221 to 231 kind information;" "Kind information shorter than 11 bytes .. filled with 0; any beyond are ignored."
    (cond (ltb k 221) 0
    (cond (ltb k 232) (get_or w.info (k - 221) 0)
    -- "236 start page in bits 0 to 4; 237, 238 offset, low byte first; 239 pages; 240, 241 length mod 16,384, low byte first"
    (cond (ltb k 236) 0
    (cond (ltb k 237) w.page
    (cond (ltb k 238) (w.offset % 256)
    (cond (ltb k 239) (w.offset / 256)
    (cond (ltb k 240) (pages_for w)
    (cond (ltb k 241) (remainder_for w % 256)
    (cond (ltb k 242) (remainder_for w / 256)
    -- "242 to 244 execution bytes", fewer than 3 filled with 0
    (cond (ltb k 245) (get_or w.exec (k - 242) 0)
    (cond (ltb k 246) 255 0)))))))))))))))))

-- the slot that a save writes at slot i of a disk with this label:
-- "a save into slot 1 now keeps bytes 210 to 219, 252, 253 and 255."
unfoldable pub new_slot : (ℕ → ℕ) → ℕ → SaveRequest → List ℕ → List ℕ
new_slot label i w bs = tab 256 (λ k. cond (eqb i 0 && is_label k) (label k) (slot_byte w bs k))
