-- The directory: the bytes of its live slots.
use Rattle.std.specs.Prelude.{ℕ, Bool, true, false, cond, ◌&&◌, List, [], ltb, get_or}
use Rattle.std.proofs.Math.Option.{Option, none, some}
use Rattle.buffers.specs.Bytes.{count}
use Rattle.refusals.specs.Order.{scan}
use Rattle.slots.specs.Slot.{is_live, is_nameless}
use Rattle.slots.specs.Tracks.{is_label, tracks_by}
use Rattle.directory.specs.Places.{slot_count, slots, slot_bytes}

-- by what a slot holds: nothing, or this
module _ {A B : Type 0} where
  abbrev pub fold_option : B → (A → B) → Option A → B
  fold_option b k none = b
  fold_option b k (some a) = k a

abbrev pub Directory : Type 0
Directory = ℕ → Option (List ℕ)

-- the bytes of slot 1 that are the disk's, "erased or unread too"; 0 in place of the others
unfoldable pub label_of : List ℕ → ℕ → ℕ
label_of d k = cond (is_label k) (get_or (slot_bytes d 0) k 0) 0

-- n, the number of directory tracks beyond four
unfoldable pub tracks_of : List ℕ → ℕ
tracks_of d = tracks_by (label_of d 255)

-- how many slots there are, and whether slot i is one of them
abbrev pub slots_in : List ℕ → ℕ
slots_in d = slot_count (tracks_of d)

unfoldable pub is_slot : List ℕ → ℕ → Bool
is_slot d i = ltb i (slots_in d)

-- "a slot whose first name byte is 0 was never used"
unfoldable pub is_nameless_at : List ℕ → ℕ → Bool
is_nameless_at d i = is_nameless (slot_bytes d i)

abbrev pub end_at : List ℕ → ℕ → Option ℕ
end_at d i = cond (is_nameless_at d i) (some i) none

-- the end of the directory: the lowest such slot, where there is one
unfoldable pub end_of : List ℕ → Option ℕ
end_of d = scan (slots_in d) (end_at d)

-- "and directory reading stops there": how many slots are read, all of them where there is no end
unfoldable pub slots_read : List ℕ → ℕ
slots_read d = fold_option (slots_in d) (λ i. i) (end_of d)

-- "Now that slot, whatever its byte 0, and all later ones are unread": slot i is read
unfoldable pub is_read : List ℕ → ℕ → Bool
is_read d i = ltb i (slots_read d)

-- "Byte 0 zero means erased or free." "Erased slots are not examined." Unread ones "count as free: none of them is a live slot"
unfoldable pub directory : List ℕ → Directory
directory d i = cond (is_read d i && is_live (slot_bytes d i)) (some (slot_bytes d i)) none

-- the bytes of a slot, read or not, and none past the last slot
unfoldable pub slot_or : List ℕ → ℕ → List ℕ
slot_or d i = cond (ltb i slots) (slot_bytes d i) []

-- how many of the first k slots are live
unfoldable pub live_among : Directory → ℕ → ℕ
live_among v k = count k (λ i. fold_option false (λ s. true) (v i))
