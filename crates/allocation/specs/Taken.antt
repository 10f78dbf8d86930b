-- The slot that a save takes, and the bits of a map.
use Rattle.std.specs.Prelude.{ℕ, ◌-◌, ◌/◌, ◌%◌, Bool, not, ◌&&◌, List, eqb, leb, get_or, take}
use Rattle.std.proofs.Math.Option.{Option, none, some}
use Rattle.maps.specs.Bits.{has, join}
use Rattle.slots.specs.Slot.{carried}
use Rattle.slots.specs.Tracks.{inner_map}
use Rattle.refusals.specs.Order.{refuse, Reply, ◌else◌, row}
use Rattle.directory.specs.Directory.{tracks_of, directory}
use Rattle.surveys.specs.declared.UsedMap.{UsedMap}
use Rattle.files.specs.Calls.{SlotLookup, found_slot, refused_lookup}
use Rattle.plans.specs.Change.{between, usable}
use Rattle.plans.specs.Plan.{name_taken}
use Rattle.plans.specs.Saving.{satisfying, lowest_slot}
use Rattle.allocation.specs.declared.HeaderFields.{HeaderFields}

-- rows 12, 13 and 14, which go by the arguments alone
unfoldable pub request_reply : HeaderFields → List ℕ → Reply
request_reply s n =
    row 12 0 (not (usable n)) else row 13 0 (not (carried s.kind)) else row 14 0 (not (leb s.page 31 && between 32768 s.offset 49151))

abbrev pub free_slot_by : Reply → Option ℕ → SlotLookup
free_slot_by (some r) o = refused_lookup r
free_slot_by none (some i) = found_slot i
free_slot_by none none = refused_lookup (refuse 18 0)

-- the slot that a save takes, or the refusal that stands before it: rows 12, 13, 14 and 16, and 18 where no slot is free
unfoldable pub slot_for_save : List ℕ → HeaderFields → List ℕ → SlotLookup
slot_for_save d s n = free_slot_by (request_reply s n else name_taken (directory d) n) (lowest_slot (tracks_of d) (directory d))

-- ---- the bits taken

-- the used map, and with it the bits inside the directory: "a directory sector's bit is never free"
unfoldable pub unavailable_map : UsedMap → List ℕ
unavailable_map u = join (inner_map u.tracks) u.bytes

abbrev pub unset : List ℕ → ℕ → Bool
unset m b = not (has m b)

-- the n lowest clear bits of a map
unfoldable pub lowest_clear_bits : List ℕ → ℕ → List ℕ
lowest_clear_bits m n = take n (satisfying 1560 0 (unset m))

-- byte b / 8 has all bits set, and bit b is its first
unfoldable pub full_byte : List ℕ → ℕ → Bool
full_byte m b = eqb (b % 8) 0 && eqb (get_or m (b / 8) 0) 255

-- the lowest clear bit of a map that is not below b; 1,560 where there is none
unfoldable pub next_clear : List ℕ → ℕ → ℕ
next_clear m b = get_or (satisfying (1560 - b) b (unset m)) 0 1560
