-- The bytes of slot 1 that are the disk's, and the number of slots that they tell.
use Prim.Native.Nat.{ℕ, ◌≤◌, ◌<◌}
use mathlib.Core.Path.{◌≡◌, ap, fun_ext}
use mathlib.Core.Bool.{cond}
use mathlib.Core.List.{List}
use mathlib.Core.Logic.{⊎_elim}
use native.Mathlib.Omega.{arith}
use lib.ListN.{get_or}
use Rattle.buffers.proofs.Lists.{below_or_not, part_at}
use Rattle.slots.specs.Tracks.{is_label, tracks_by}
use Rattle.slots.proofs.Tracks as tracks
use Rattle.directory.specs.Places.{slots, past_gap, slot_at, slot_bytes}
use Rattle.directory.specs.Directory.{label_of, tracks_of, slots_in}
use Rattle.directory.proofs.Places.{slot-few}

pub disk_tracks_few : (d : List ℕ) → tracks_of d ≤ 35
unfolding tracks_of
disk_tracks_few d = tracks.tracks-few (label_of d 255)

-- a slot of the directory is below the most there can be
pub slots-few : (d : List ℕ) → slots_in d ≤ slots
slots-few d = ⊎_elim (λ (h : slots < slots_in d). absurd (omega (arith, (slot-few (tracks_of d) slots (disk_tracks_few d) h).0))) (λ h. h) (below_or_not slots (slots_in d))

-- ---- by slot 1 alone

pub label_agree : (d e : List ℕ) → slot_bytes e 0 ≡ slot_bytes d 0 → label_of e ≡ label_of d
unfolding label_of
label_agree d e q = fun_ext (λ k. ap (λ (s : List ℕ). cond (is_label k) (get_or s k 0) 0) q)

pub tracks_agree : (d e : List ℕ) → label_of e ≡ label_of d → tracks_of e ≡ tracks_of d
unfolding tracks_of
tracks_agree d e q = ap (λ (f : ℕ → ℕ). tracks_by (f 255)) q

-- ---- as the code meets byte 255

pub label-byte : (d : List ℕ) → label_of d 255 ≡ get_or d 255 0
unfolding label_of is_label slot_at past_gap
label-byte d = part_at 0 256 d 255 (omega arith)

pub ruleset label_at = (label-byte)
