-- The pieces of an opened file: however the asking is cut, joined they are the body that one read gives.
use Prim.Native.Nat.{ℕ, suc, ◌+◌, ◌-◌, ◌≤◌, ◌<◌, min}
use mathlib.Core.Path.{◌≡◌, refl, sym, ap, ap₂, ◌∙◌}
use mathlib.Core.Bool.{Bool, true, false, not}
use mathlib.Core.List.{List, []}
use mathlib.Core.Option.{some}
use native.Mathlib.Omega.{arith}
use lib.ListN.{length, take}
use lib.Seq.{take_all}
use Rattle.buffers.specs.Bytes.{tab, part}
use Rattle.buffers.proofs.Lists.{length-tab, get_or-tab, tab_of, tab_cong, length_part, part_at}
use Rattle.refusals.specs.Order.{Reply, row}
use Rattle.slots.specs.Slot.{kind_of, readable, slot_fields}
use Rattle.slots.proofs.Tracks.{data_few}
use Rattle.chains.specs.File.{File, file_of}
use Rattle.headers.specs.Header.{file_length, body_byte, body}
use Rattle.directory.specs.Directory.{slot_or}
use Rattle.disk.specs.View.{View, view, view_tracks}
use Rattle.disk.specs.Check.{check_disk}
use Rattle.disk.proofs.View.{view-some}
use Rattle.disk.proofs.Accepted.{accepted-disk, body-fits}
use Rattle.files.specs.Calls.{SlotLookup, found_slot as found, refused_lookup, lookup, file_named, not_readable}
use Rattle.files.specs.Steps.{ReadableSlot}
use Rattle.files.proofs.Named.{lookup_named, LookedUp, named_slot}
use Rattle.files.proofs.Reading.{can_read}
use Rattle.readers.specs.declared.Place.{Place}
use Rattle.readers.specs.Pieces.{read_place, longest, bytes_came, next_bytes, place_after, joined, place_past, total}
use Rattle.readers.specs.Opening.{body_place, opened_at, file_opening_by, open_file_view, open_file}
use Rattle.readers.proofs.Cut.{joined_one}
use Rattle.readers.proofs.Opening.{open_reply, same_opening}
use Rattle.readers.proofs.Body.{body_position, piece_is, piece-came, past_is, place_is}

-- ---- lists made by a rule

part-tab : (a n m : ℕ) (f : ℕ → ℕ) → part a n (tab m f) ≡ tab (min (m - a) n) (λ j. f (a + j))
part-tab a n m f =
    tab_of (min (m - a) n) (λ j. f (a + j)) (part a n (tab m f)) (omega (arith, length_part a n (tab m f), length-tab m f))
    (λ (k : ℕ) (l : k < min (m - a) n). part_at a n (tab m f) k (omega arith) ∙ get_or-tab m f (a + k) (omega arith))

-- ---- an opened file

pub record FileOpened (d n : List ℕ) (p : Place) : Type 0 where
  pub slot : ℕ
  pub readable : ReadableSlot d (slot_or d slot)
  pub few : file_length (file_of d (slot_or d slot)) ≤ longest
  pub file : file_named (view d) n ≡ file_of d (slot_or d slot)
  pub place : p ≡ body_place (file_of d (slot_or d slot))

-- 510 × 1,560 less the nine bytes of the header
pub length-few : (d n : List ℕ) (i : ℕ) → LookedUp d n i → readable (kind_of (slot_or d i)) ≡ true → file_length (file_of d (slot_or d i)) ≤ longest
unfolding check_disk slot_fields file_of
length-few d n i w c =
    let f = named_slot d n i w in
    let g = (accepted-disk (view d) w.accepted).accepted i (file_of d (slot_or d i)) f.below (view-some d i (slot_or d i) f.here) in
    omega (arith, body-fits (view_tracks (view d)) (file_of d (slot_or d i)) g c, g.few-sectors, data_few (view_tracks (view d)))

-- the place of a file's reader past the first t bytes of the body, or past all of them
abbrev past_of : File → ℕ → Place
past_of f t =
    let c = min (file_length f) t in
    read_place (body_position f c).sector (body_position f c).offset (file_length f - c)

module _ (d n : List ℕ) (p : Place) where
  pub opened : open_file d n ≡ opened_at p → FileOpened d n p
  unfolding open_file_view file_of
  opened e = by (lookup (view d) n) refl
    where
      opens : (i : ℕ) → found i ≡ lookup (view d) n → (t : Bool) → readable (kind_of (slot_or d i)) ≡ t
          → file_opening_by (row 13 (suc i) (not t)) (body_place (file_of d (slot_or d i))) ≡ opened_at p → FileOpened d n p
      opens i q false c w = let z : ◌≡◌ {A = ℕ} 0 1 = cc in absurd (omega arith)
      opens i q true c w =
          let m = lookup_named d n i q in
          let z : body_place (file_of d (slot_or d i)) ≡ p = cc in
          record { slot = i; readable = can_read d n i m c; few = length-few d n i m c; file = (named_slot d n i m).file; place = sym z }

      by : (x : SlotLookup) → x ≡ lookup (view d) n → FileOpened d n p
      by (refused_lookup r) q =
          let w : file_opening_by (some r) (body_place (file_named (view d) n)) ≡ opened_at p
          = ap (λ (x : Reply). file_opening_by x (body_place (file_named (view d) n))) (sym (open_reply d n (refused_lookup r) q)) ∙ e in
          let z : ◌≡◌ {A = ℕ} 0 1 = cc in absurd (omega arith)
      by (found i) q =
          let m = named_slot d n i (lookup_named d n i q) in
          opens i q (readable (kind_of (slot_or d i))) refl
          (sym (ap₂ (λ (x : Reply) (f : File). file_opening_by x (body_place f)) (open_reply d n (found i) q ∙ ap (not_readable (suc i)) m.same) m.file) ∙ e)

  module _ (e : open_file d n ≡ opened_at p) where
    abbrev w : FileOpened d n p
    w = opened e

    abbrev s : List ℕ
    s = slot_or d w.slot

    abbrev len : ℕ
    len = file_length (file_of d s)

    body_is : body (file_named (view d) n) ≡ tab len (body_byte (file_of d s))
    unfolding body file_of
    body_is = ap body w.file

    body-long : length (body (file_named (view d) n)) ≡ len
    body-long = ap length body_is ∙ length-tab len (body_byte (file_of d s))

    -- where a reader is: as many bytes further as the buffers held, or at the body's end
    after : (rooms : List ℕ) → place_past d p rooms ≡ place_after d (body_place (file_of d s)) (min len (total rooms))
    after rooms = ap (λ (q : Place). place_past d q rooms) w.place ∙ past_is d s w.readable w.few rooms

    -- which its file decides, and what else lies on the disk does not
    pub place-there : (rooms : List ℕ) → place_past d p rooms ≡ past_of (file_named (view d) n) (total rooms)
    unfolding file_of
    place-there rooms = after rooms ∙ place_is d s w.readable w.few (min len (total rooms)) (omega arith) ∙ ap (λ (f : File). past_of f (total rooms)) (sym w.file)

    -- the piece that is due
    pub each-piece : (rooms : List ℕ) (room : ℕ) → next_bytes d (place_past d p rooms) room ≡ part (total rooms) room (body (file_named (view d) n))
    each-piece rooms room =
        ap (λ (q : Place). next_bytes d q room) (after rooms)
        ∙ piece_is d s w.readable w.few (min len (total rooms)) room (omega arith)
        ∙ due len (total rooms)
        ∙ sym (ap (part (total rooms) room) body_is ∙ part-tab (total rooms) room len (body_byte (file_of d s)))
      where
        due : (m t : ℕ) → tab (min (m - min m t) room) (λ j. body_byte (file_of d s) (min m t + j)) ≡ tab (min (m - t) room) (λ j. body_byte (file_of d s) (t + j))
        due m t =
            let q : min (m - min m t) room ≡ min (m - t) room = omega arith in
            ap (λ (i : ℕ). tab i (λ j. body_byte (file_of d s) (min m t + j))) q
            ∙ tab_cong (min (m - t) room) (λ j. body_byte (file_of d s) (min m t + j)) (λ j. body_byte (file_of d s) (t + j))
            (λ (j : ℕ) (l : j < min (m - t) room). let z : min m t + j ≡ t + j = omega arith in ap (body_byte (file_of d s)) z)

    pub each-came : (rooms : List ℕ) (room : ℕ) → bytes_came d (place_past d p rooms) room ≡ min (length (body (file_named (view d) n)) - total rooms) room
    each-came rooms room =
        ap (λ (q : Place). bytes_came d q room) (after rooms) ∙ piece-came d s w.readable w.few (min len (total rooms)) room (omega arith)
        ∙ less len (length (body (file_named (view d) n))) (total rooms) body-long
      where
        less : (m b t : ℕ) → b ≡ m → min (m - min m t) room ≡ min (b - t) room
        less m b t e = omega arith

    pub each_left : (rooms : List ℕ) → (place_past d p rooms).left ≡ length (body (file_named (view d) n)) - total rooms
    unfolding place_after
    each_left rooms = ap (λ (q : Place). q.left) (after rooms) ∙ less len (length (body (file_named (view d) n))) (total rooms) body-long
      where
        less : (m b t : ℕ) → b ≡ m → m - min m t ≡ b - t
        less m b t e = omega arith

    -- "The pieces joined are the body that one read gives, however the asking is cut.": as far as the buffers hold
    pub joined-first : (rooms : List ℕ) → joined d p rooms ≡ take (total rooms) (body (file_named (view d) n))
    unfolding place_past total part
    joined-first rooms = joined_one d rooms p ∙ each-piece [] (total rooms)

    pub joined-whole : (rooms : List ℕ) → length (body (file_named (view d) n)) ≤ total rooms → joined d p rooms ≡ body (file_named (view d) n)
    joined-whole rooms h = joined-first rooms ∙ take_all (total rooms) (body (file_named (view d) n)) h

-- two disks with one view: every piece of an opened file is the same of both, and where the reader then is
pub same-pieces : (d e : List ℕ) → view d ≡ view e → (n : List ℕ) (p : Place) → open_file d n ≡ opened_at p → (rooms : List ℕ) (room : ℕ)
    → (place_past d p rooms ≡ place_past e p rooms) × (next_bytes d (place_past d p rooms) room ≡ next_bytes e (place_past e p rooms) room)
same-pieces d e q n p b rooms room =
    let c : open_file e n ≡ opened_at p = sym (same_opening d e q n) ∙ b in (
      place-there d n p b rooms ∙ ap (λ (l : View). past_of (file_named l n) (total rooms)) q ∙ sym (place-there e n p c rooms),
      each-piece d n p b rooms room ∙ ap (λ (l : View). part (total rooms) room (body (file_named l n))) q ∙ sym (each-piece e n p c rooms room),
    )
