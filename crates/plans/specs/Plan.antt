-- What each change refuses, and which steps it makes. The words of documents 01 and 02 stand above what they define.
use Rattle.std.specs.Prelude.{ℕ, suc, ◌+◌, Bool, true, false, cond, not, ◌&&◌, List, [], ◌∷◌, ◌++◌, eqb, leb, ltb, length, get_or}
use Rattle.std.proofs.Math.Option.{Option, none, some}
use Rattle.buffers.specs.Bytes.{put}
use Rattle.geometry.specs.Disk.{bit_number, bit_place}
use Rattle.refusals.specs.Order.{Refusal, refuse, Reply, ◌else◌, row}
use Rattle.refusals.specs.Answers.{Outcome, done, refused}
use Rattle.slots.specs.Slot.{is_live, protected, carried, is_directory, name_of, count_of, sectors_for}
use Rattle.names.specs.Name.{same_bytes, same_name, askable, padded}
use Rattle.chains.specs.File.{File}
use Rattle.directory.specs.Places.{slot_at, dir_sector}
use Rattle.directory.specs.Directory.{fold_option, Directory, is_slot, is_nameless_at}
use Rattle.surveys.specs.Survey.{free}
use Rattle.directory.specs.Find.{find}
use Rattle.disk.specs.View.{View, view, view_slots, view_tracks}
use Rattle.disk.specs.Check.{check_disk}
use Rattle.files.specs.Calls.{file_at}
use Rattle.steps.specs.Steps.{Put, Step, apply, numbers}
use Rattle.trees.specs.Tree.{occupied}
use Rattle.plans.specs.Change.{SaveRequest, Change, save, erase, rename, mark, gather, marked_byte, between, usable}
use Rattle.plans.specs.Saving.{taken_bits, lowest_slot, taken_slot, stream, sector_bytes, next_track, next_sector, chain_sectors, new_slot}
use Rattle.plans.specs.Gathering.{scattered, up_from, lowest_run, payload_of, chain_fields}

-- ---- steps

-- one slot of a view changed
unfoldable pub with_slot : View → ℕ → Option File → View
with_slot l i o = record { long = l.long; label = l.label; files = λ j. cond (eqb j i) o (l.files j) }

-- what a slot with these bytes holds
unfoldable pub file_if_live : List ℕ → (ℕ → List ℕ) → Option File
file_if_live s sec = cond (is_live s) (some (record { bytes = s; sectors = sec })) none

abbrev pub one_put : ℕ → List ℕ → List Put
one_put a x = record { place = a; bytes = x } ∷ []

-- bytes at place o of slot i
abbrev pub slot_put : ℕ → ℕ → List ℕ → List Put
slot_put i o y = one_put (slot_at i + o) y

-- bytes put at place o of slot i, which then holds f: a commit
abbrev pub slot_step : View → ℕ → ℕ → List ℕ → Option File → Step View
slot_step l i o y f = record { at = dir_sector i; puts = slot_put i o y; left = some (with_slot l i f) }

-- the data sectors of a chain, each quiet
unfoldable pub data_steps : List ℕ → ℕ → List ℕ → List (Step View)
data_steps st f [] = []
data_steps st f (b ∷ bs) =
    record { at = bit_number b; puts = one_put (bit_place b) (sector_bytes st f (next_track bs) (next_sector bs)); left = none } ∷ data_steps st (f + 510) bs

-- a live slot with other bytes, its sectors kept
abbrev pub put_steps : View → ℕ → File → ℕ → List ℕ → List (Step View)
put_steps l i f o y = slot_step l i o y (file_if_live (put f.bytes o y) f.sectors) ∷ []

-- ---- the directory's part of a save; old: whether an old name stands behind its slot

-- "When a save takes that slot and a next slot exists whose first name byte is not 0": slot i's own is 0, the next one's is not
unfoldable pub old_name : List ℕ → ℕ → Bool
old_name d i = is_nameless_at d i && (is_slot d (suc i) && not (is_nameless_at d (suc i)))

-- slot i and the next one lie in one sector
unfoldable pub same_sector : ℕ → Bool
same_sector i = eqb (dir_sector (suc i)) (dir_sector i)

-- "the save also sets that next slot's bytes 0 and 1 to 0, so that no old name comes back."
abbrev pub no_name : List ℕ
no_name = 0 ∷ 0 ∷ []

abbrev pub end_put : ℕ → List Put
end_put i = slot_put (suc i) 0 no_name

-- a disk so, where there is such a name
abbrev pub without_next_name : Bool → ℕ → List ℕ → List ℕ
without_next_name old i d = cond old (put d (slot_at (suc i) + 0) no_name) d

-- "That sector is written after the data and before the saved slot's sector": where it is another, a quiet step of its own
unfoldable pub end_steps : Bool → ℕ → List (Step View)
end_steps old i = cond (old && not (same_sector i)) (record { at = dir_sector (suc i); puts = end_put i; left = none } ∷ []) []

-- "once if they are the same": then it is put in the saved slot's step
unfoldable pub end_puts : Bool → ℕ → List Put
end_puts old i = cond (old && same_sector i) (end_put i) []

-- the sectors of the directory that are written, in their order
unfoldable pub dir_sectors : Bool → ℕ → List ℕ
dir_sectors old i = cond (old && not (same_sector i)) (dir_sector (suc i) ∷ dir_sector i ∷ []) (dir_sector i ∷ [])

-- bytes put at place o of slot i, which then holds f, with what is put behind it: a commit
abbrev pub end_step : Bool → View → ℕ → ℕ → List ℕ → Option File → Step View
end_step old l i o y f = record { at = dir_sector i; puts = end_puts old i ++ slot_put i o y; left = some (with_slot l i f) }

-- slot i gets these bytes, and then holds the file that they say
abbrev pub slot_steps : Bool → View → ℕ → List ℕ → (ℕ → List ℕ) → List (Step View)
slot_steps old l i s sec = end_steps old i ++ (end_step old l i 0 s (file_if_live s sec) ∷ [])

-- "for a save the n data sectors in chain order and then the directory sector", before that one the one behind the end
abbrev pub save_steps : Bool → View → ℕ → SaveRequest → List ℕ → List (Step View)
save_steps old l i w bs = data_steps (stream w) 0 bs ++ slot_steps old l i (new_slot l.label i w bs) (chain_sectors (stream w) 0 bs)

-- "all its payload bytes in their order, .. chained rising", "Data first in chain order, slot sector last, so demand 3 holds."
abbrev pub gather_steps : View → ℕ → File → List ℕ → List (Step View)
gather_steps l i f bs =
    data_steps (payload_of f) 0 bs ++ (slot_step l i 13 (chain_fields bs) (file_if_live (put f.bytes 13 (chain_fields bs)) (chain_sectors (payload_of f) 0 bs)) ∷ [])

-- ---- what is refused, and what is done

pub data Plan : Type 0 where
  refused_plan : Refusal → Plan
  planned_steps : List (Step View) → Plan

abbrev pub plan_unless : Reply → Plan → Plan
plan_unless (some r) p = refused_plan r
plan_unless none p = p

-- of the live slot that has the name; 15 where none has
abbrev pub plan_by_name : View → List ℕ → (ℕ → File → Plan) → Plan
plan_by_name l n at = fold_option (refused_plan (refuse 15 0)) (λ i. at i (file_at l i)) (find (view_slots l) n)

-- 16, at the slot that has the new name
abbrev pub taken_at : Option ℕ → Reply
taken_at o = fold_option none (λ i. some (refuse 16 (suc i))) o

abbrev pub name_taken : Directory → List ℕ → Reply
name_taken v n = taken_at (find v n)

-- "A rename that alters only the case of its own name": the name is found at the file's own slot, and the ten bytes stored are others
abbrev pub respells : ℕ → ℕ → File → List ℕ → Bool
respells own at f new = eqb at own && not (same_bytes (name_of f.bytes) (padded new))

-- the slot that has the new name of the file in slot i, but none where the rename alters only the case of its own name, which "is
-- allowed; a new name equal to the stored bytes stays refused."
unfoldable pub taken_by : Directory → ℕ → File → List ℕ → Option ℕ
taken_by v i f new = fold_option none (λ j. cond (respells (suc i) (suc j) f new) none (some j)) (find v new)

abbrev pub rename_taken : Directory → ℕ → File → List ℕ → Reply
rename_taken v i f new = taken_at (taken_by v i f new)

-- 17
abbrev pub is_protected : ℕ → File → Reply
is_protected i f = row 17 (suc i) (protected f.bytes)

-- 29, "a directory whose code, not 0, is another live slot's byte 254, after 17"
abbrev pub is_occupied : Directory → ℕ → File → Reply
is_occupied v i f = row 29 (suc i) (occupied v i f.bytes)

-- a save is refused by its arguments and the directory alone: 12, 13, 14, 16, 18, 19
unfoldable pub save_reply : ℕ → Directory → SaveRequest → Reply
save_reply n v w =
    row 12 0 (not (usable w.name)) else row 13 0 (not (carried w.kind))
    else row 14 0 (not (leb w.page 31 && between 32768 w.offset 49151)) else name_taken v w.name
    else row 18 0 (fold_option true (λ i. false) (lowest_slot n v)) else row 19 0 (ltb (free n v) (sectors_for (length w.body)))

-- where the file in slot i goes: "32 (slot 0), exactly when the file must move and no such run exists", "left, with an empty list" when not
unfoldable pub move_plan : View → ℕ → File → Plan
move_plan l i f =
    cond (scattered f)
    (fold_option (refused_plan (refuse 32 0)) (λ b. planned_steps (gather_steps l i f (up_from (count_of f.bytes) b))) (lowest_run (view_tracks l) (view_slots l) (count_of f.bytes)))
    (planned_steps [])

-- old: whether an old name stands behind slot i
unfoldable pub plan_of : (ℕ → Bool) → Change → View → Plan
-- "Erase sets byte 0 to 0 and changes no other byte."
plan_of old (erase n) l =
    plan_unless (row 12 0 (not (askable n)))
    (plan_by_name l n (λ i f. plan_unless (is_protected i f else is_occupied (view_slots l) i f) (planned_steps (put_steps l i f 0 (0 ∷ [])))))
-- "Rename changes bytes 1 to 10"
plan_of old (rename n new) l =
    plan_unless (row 12 0 (not (askable n && usable new)))
    (plan_by_name l n (λ i f. plan_unless (rename_taken (view_slots l) i f new else is_protected i f) (planned_steps (put_steps l i f 1 (padded new)))))
-- "Hide, show, protect, release set or clear one bit; where it is so already the call is accepted."
plan_of old (mark m n) l =
    plan_unless (row 12 0 (not (askable n))) (plan_by_name l n (λ i f. planned_steps (put_steps l i f 0 (marked_byte m (get_or f.bytes 0 0) ∷ []))))
-- "A kind 21 is refused 13."
plan_of old (gather n) l =
    plan_unless (row 12 0 (not (askable n))) (plan_by_name l n (λ i f. plan_unless (row 13 (suc i) (is_directory f.bytes)) (move_plan l i f)))
plan_of old (save w) l =
    plan_unless (save_reply (view_tracks l) (view_slots l) w)
    (planned_steps (save_steps (old (taken_slot (view_tracks l) (view_slots l))) l (taken_slot (view_tracks l) (view_slots l)) w (taken_bits (view_tracks l) (view_slots l) w)))

-- the steps hang on one thing more of the disk than its view, an old name behind the directory's end; what they commit does not
abbrev pub plan : Change → List ℕ → Plan
plan c d = plan_of (old_name d) c (view d)

-- ---- the call

-- a refusal, or the new disk and the sectors in the order of writing
pub data Result : Type 0 where
  refused_result : Refusal → Result
  new_disk : List ℕ → List ℕ → Result

-- with a list of so many numbers
abbrev pub plan_result : List ℕ → ℕ → Plan → Result
plan_result d room (refused_plan r) = refused_result r
plan_result d room (planned_steps sts) = cond (ltb room (length (numbers sts))) (refused_result (refuse 20 0)) (new_disk (apply d sts) (numbers sts))

abbrev pub checked_result : Reply → Result → Result
checked_result (some r) x = refused_result r
checked_result none x = x

unfoldable pub run_change : Change → List ℕ → ℕ → Result
run_change c d room = checked_result (check_disk d) (plan_result d room (plan c d))

-- what a call gives: its outcome, the image and the list at return
pub record Changed : Type 0 where
  pub outcome : Outcome
  pub image : List ℕ
  pub list : List ℕ

abbrev pub changed : Outcome → List ℕ → List ℕ → Changed
changed o d ss = record { outcome = o; image = d; list = ss }

-- "Each change fills a lent buffer of numbers with its sector numbers and answers how many .. Its rest stays."
abbrev pub changed_by : Result → List ℕ → List ℕ → Changed
changed_by (refused_result r) d buf = changed (refused r) d buf
changed_by (new_disk new ss) d buf = changed (done (length ss) 0) new (put buf 0 ss)

unfoldable pub change : Change → List ℕ → List ℕ → Changed
change c d buf = changed_by (run_change c d (length buf)) d buf

-- "those that the change finds by name; a save finds none"
unfoldable pub finds : Change → File → Bool
finds (erase n) f = same_name (name_of f.bytes) (padded n)
finds (rename n new) f = same_name (name_of f.bytes) (padded n)
finds (mark m n) f = same_name (name_of f.bytes) (padded n)
finds (gather n) f = same_name (name_of f.bytes) (padded n)
finds (save w) f = false
