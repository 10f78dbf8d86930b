-- The pass over rows 2 to 9, a function of the directory alone, and the used map. One pass serves both checks: `release` says
-- whether it is that of the release check, which has row 22 beside.
use Rattle.std.specs.Prelude.{ℕ, zero, suc, ◌-◌, Bool, false, List, [], ◌∷◌, ◌++◌}
use Rattle.std.proofs.Math.Option.{none}
use Rattle.buffers.specs.Bytes.{any}
use Rattle.maps.specs.Bits.{bits_of, share, clear_map, join}
use Rattle.refusals.specs.Order.{Row, ◌when◌, Reply, rows, scan}
use Rattle.slots.specs.Slot.{name_of, map_of, slot_fields}
use Rattle.names.specs.Name.{same_name}
use Rattle.slots.specs.Rows.{own, release_rows}
use Rattle.slots.specs.Tracks.{data_count}
use Rattle.directory.specs.Places.{slots}
use Rattle.directory.specs.Directory.{fold_option, Directory}
use Rattle.surveys.specs.declared.UsedMap.{UsedMap}

-- an earlier live slot to which a test applies
unfoldable pub earlier : Directory → ℕ → (List ℕ → Bool) → Bool
earlier v i t = any i (λ j. fold_option false t (v j))

-- rows 8 and 9 of the live slot i
abbrev pub shared_rows : Directory → ℕ → List ℕ → List Row
shared_rows v i s =
    -- the map shares a bit with an earlier live slot
    (8 when earlier v i (λ t. share (map_of t) (map_of s)))
    -- the name is an earlier live slot's
    ∷ (9 when earlier v i (λ t. same_name (name_of t) (name_of s)))
    ∷ []

-- rows 2 to 9 of the live slot i (3 is given no more), with n directory tracks beyond four, and 22 "directly after 7"
abbrev pub rows_at : Bool → ℕ → Directory → ℕ → List ℕ → List Row
rows_at release n v i s = own n (slot_fields s) ++ (release_rows release (slot_fields s) ++ shared_rows v i s)

-- the first of them that holds; in the first check, where their numbers rise, "at a slot the lowest number"
unfoldable pub survey_at : Bool → ℕ → Directory → ℕ → Reply
survey_at release n v i = fold_option none (λ s. rows (suc i) (rows_at release n v i s)) (v i)

-- "then all slots for 2 to 9, lowest slot first"
unfoldable pub survey_by : Bool → ℕ → Directory → Reply
survey_by release n v = scan slots (survey_at release n v)

abbrev pub survey : ℕ → Directory → Reply
survey n v = survey_by false n v

-- "The used map is the bitwise or of all live maps": of those among the first k slots,
-- starting from "a map with all 195 bytes clear"
unfoldable pub union : Directory → ℕ → List ℕ
union v zero = clear_map
union v (suc k) = fold_option (union v k) (λ s. join (union v k) (map_of s)) (v k)

-- "one record of 195 map bytes together with their count"; "The used-map record carries n"
unfoldable pub counted : ℕ → List ℕ → UsedMap
counted n m = record { bytes = m; count = bits_of m; tracks = n }

unfoldable pub used_map : ℕ → Directory → UsedMap
used_map n v = counted n (union v slots)

-- "Free sectors are 1,560 less that count."; "the free count follows it", the number n that the record carries
unfoldable pub free_of : UsedMap → ℕ
free_of u = data_count u.tracks - u.count

unfoldable pub free : ℕ → Directory → ℕ
free n v = free_of (used_map n v)
