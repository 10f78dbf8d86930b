-- The release check: what it accepts, when it gives which number, and that the first check is as it was.
use Prim.Native.Nat.{ℕ, suc, ◌≤◌, ◌<◌}
use mathlib.Core.Path.{◌≡◌, refl, ap}
use mathlib.Core.Bool.{true, false, not}
use mathlib.Core.List.{List, ◌++◌}
use mathlib.Core.Logic.{◌≢◌, ◌↔◌}
use mathlib.Core.Option.{none, some}
use native.Mathlib.Omega.{arith}
use borrow.Author.Tests.{ltb-false, le-ltb}
use lib.Dec.{eqb, ltb}
use Rattle.refusals.specs.Order.{Refusal, ◌else◌, row, rows, scan, RowsClear}
use Rattle.refusals.proofs.Lowest.{lacks, first_lacks}
use Rattle.geometry.specs.Disk.{image_size}
use Rattle.slots.specs.Slot.{slot_fields, kind_of, carried, count_of, length_of, sectors_for}
use Rattle.slots.specs.Rows.{own, wasteful, release_rows}
use Rattle.slots.specs.Tracks.{bad_tracks}
use Rattle.slots.proofs.Least.{sectors-least, sectors-few}
use Rattle.chains.specs.File.{File}
use Rattle.directory.specs.Places.{slots}
use Rattle.directory.specs.Directory.{fold_option}
use Rattle.surveys.specs.Survey.{shared_rows, survey_at, survey_by}
use Rattle.disk.specs.View.{View, view, view_slots, view_tracks}
use Rattle.disk.specs.Check.{chain_at, check_by, check_view, check_disk, check_release}
use Rattle.disk.specs.Given.{CheckGivesBy, CheckGives, by_length, by_tracks, by_slot, by_chain, rows9, rows11}
use Rattle.disk.specs.Release.{NoWasteFile, NoWaste}
use Rattle.disk.proofs.Rows.{guard, guarded, carried-is, is_carried, clear_parts, parts_clear}
use Rattle.disk.proofs.Order.{NoRowHolds, accepted, accepted-only, accepted_by, accepted_by_only, check_given, given_by, given_by_only, rows_by-kind, chain_by_kind, positive_by}

-- ---- row 22 of one slot

lean_is : (s : List ℕ) → wasteful (slot_fields s) ≡ false → NoWasteFile s
unfolding wasteful slot_fields
lean_is s e c k h =
    let least : sectors_for (length_of (slot_fields s)) ≤ k = sectors-few (length_of (slot_fields s)) k h in
    let few : count_of s ≤ sectors_for (length_of (slot_fields s)) =
    ltb-false (sectors_for (length_of (slot_fields s))) (count_of s)
    (guard (carried (kind_of s)) (ltb (sectors_for (length_of (slot_fields s))) (count_of s)) e (is_carried (kind_of s) c)) in
    omega arith

is_lean : (s : List ℕ) → NoWasteFile s → wasteful (slot_fields s) ≡ false
unfolding wasteful slot_fields
is_lean s w =
    guarded (carried (kind_of s)) (ltb (sectors_for (length_of (slot_fields s))) (count_of s))
    (λ e.
    le-ltb (sectors_for (length_of (slot_fields s))) (count_of s)
    (w (carried-is (kind_of s) e) (sectors_for (length_of (slot_fields s))) (sectors-least (length_of (slot_fields s))).0))

-- ---- what it accepts

module _ (l : View) where
  pub lean_view : check_by true l ≡ none → (check_view l ≡ none) × NoWaste l
  lean_view e = (
    accepted-only l
        (record {
          long = a.long;
          tracks = a.tracks;
          survey = λ i f h q.
              let c = parts i f h q in
              parts_clear (own (view_tracks l) (slot_fields f.bytes)) (shared_rows (view_slots l) i f.bytes) c.0 c.1.1;
          chains = a.chains;
        }),
    λ i f h q. lean_is f.bytes (parts i f h q).1.0,
  )
    where
      a : NoRowHolds true l
      a = accepted_by true l e

      parts : (i : ℕ) (f : File) → i < slots → l.files i ≡ some f
          → RowsClear (own (view_tracks l) (slot_fields f.bytes)) × ((wasteful (slot_fields f.bytes) ≡ false) × RowsClear (shared_rows (view_slots l) i f.bytes))
      parts i f h q = clear_parts (own (view_tracks l) (slot_fields f.bytes)) (release_rows true (slot_fields f.bytes) ++ shared_rows (view_slots l) i f.bytes) (a.survey i f h q)

  pub view_lean : check_view l ≡ none → NoWaste l → check_by true l ≡ none
  view_lean e w =
      accepted_by_only true l
      (record {
        long = a.long;
        tracks = a.tracks;
        survey = λ i f h q.
            let c = clear_parts (own (view_tracks l) (slot_fields f.bytes)) (shared_rows (view_slots l) i f.bytes) (a.survey i f h q) in
            parts_clear (own (view_tracks l) (slot_fields f.bytes)) (release_rows true (slot_fields f.bytes) ++ shared_rows (view_slots l) i f.bytes) c.0
            (is_lean f.bytes (w i f h q), c.1);
        chains = a.chains;
      })
    where
      a : NoRowHolds false l
      a = accepted l e

module _ (d : List ℕ) where
  -- exactly the accepted disks on which no carried file has a sector that its length does not need
  pub release_exactly : (check_release d ≡ none) ↔ ((check_disk d ≡ none) × NoWaste (view d))
  unfolding check_release check_disk
  release_exactly = (lean_view (view d), λ w. view_lean (view d) w.0 w.1)

  -- "A second check, beside the first, also refuses ..": what it accepts the first accepts
  pub release-accepts : check_release d ≡ none → check_disk d ≡ none
  release-accepts e = (release_exactly.0 e).0

  -- ---- when it gives which number

  -- a refusal is the first in the order
  pub release-given : (r : Refusal) → check_release d ≡ some r → CheckGivesBy true (view d) r
  unfolding check_release
  release-given = given_by true (view d)

  pub release_given_only : (r : Refusal) → CheckGivesBy true (view d) r → check_release d ≡ some r
  unfolding check_release
  release_given_only = given_by_only true (view d)

  pub release_positive : (r : Refusal) → check_release d ≡ some r → r.number ≢ 0
  unfolding check_release
  release_positive = positive_by true (view d)

  -- "22, in this check alone": the first check never gives it
  pub never_22 : (r : Refusal) → check_disk d ≡ some r → r.number ≢ 22
  unfolding check_disk
  never_22 r e = by (check_given (view d) r e)
    where
      by : CheckGives (view d) r → r.number ≢ 22
      by (by_length n q) = λ z. omega (arith, ap (λ (x : Refusal). x.number) q)
      by (by_tracks n a b q) = λ z. omega (arith, ap (λ (x : Refusal). x.number) q)
      by (by_slot n t w) = first_lacks 22 (rows9 (view d) w.at w.file) r.number (rows_by-kind (λ rs. lacks 22 rs ≡ true) false (view d) w.at w.file refl refl) w.number
      by (by_chain n t c w) = first_lacks 22 (rows11 (view d) w.at w.file) r.number (chain_by_kind (λ rs. lacks 22 rs ≡ true) (view d) w.at w.file refl refl) w.number

-- ---- the first check

-- "Other calls accept such disks still": its rows, and their order, are those that it had before there was a second
pub first-stays : (l : View)
    → check_view l
    ≡ row 1 0 (not (eqb l.long image_size))
    else row 24 0 (bad_tracks (l.label 255))
    else scan slots (λ i. fold_option none (λ s. rows (suc i) (own (view_tracks l) (slot_fields s) ++ shared_rows (view_slots l) i s)) (view_slots l i))
    else scan slots (chain_at l)
unfolding check_by survey_by survey_at
first-stays l = refl
