-- Of an accepted disk the check before a release can refuse 22 alone, at the lowest slot that it is given at: so the ledger says it.
use Prim.Native.Nat.{ℕ, suc, ◌<◌}
use mathlib.Core.Path.{◌≡◌, refl, ap, ap₂, ◌∙◌}
use mathlib.Core.Bool.{true, false}
use mathlib.Core.List.{List, ◌++◌}
use mathlib.Core.Option.{Option, none, some}
use borrow.Author.Tests.{eq-eqb}
use Rattle.refusals.specs.Order.{Row, Reply, ◌else◌, row, rows, RowsClear}
use Rattle.refusals.proofs.First.{clear_rows, scan_cong}
use Rattle.geometry.specs.Disk.{image_size}
use Rattle.slots.specs.Slot.{slot_fields}
use Rattle.slots.specs.Rows.{own, wasteful, release_rows}
use Rattle.slots.proofs.Tracks.{accepted-tracks}
use Rattle.chains.specs.File.{File}
use Rattle.directory.specs.Places.{slots}
use Rattle.directory.specs.Directory.{fold_option}
use Rattle.surveys.specs.Survey.{shared_rows}
use Rattle.surveys.proofs.Pass.{rows_append}
use Rattle.disk.specs.View.{View, view, view_slots, view_tracks}
use Rattle.disk.specs.Check.{check_by, check_view, check_disk, check_release}
use Rattle.disk.specs.Given.{rows_by, rows11}
use Rattle.disk.proofs.Rows.{clear_parts}
use Rattle.disk.proofs.Order.{pass_at, pass, clear_pass, check_passes, NoRowHolds, accepted}
use Rattle.journeys.specs.Ledger.{ledger_release}
use Rattle.journeys.specs.Journey.{entry_of_file, ledger_of}

else_nothing : (a : Reply) → (a else none) ≡ a
else_nothing none = refl
else_nothing (some r) = refl

-- among rows that do not hold only the one between them can be given
between_clear : (s : ℕ) (a b c : List Row) → RowsClear a → RowsClear c → rows s (a ++ (b ++ c)) ≡ rows s b
between_clear s a b c p q =
    rows_append s a (b ++ c) ∙ ap₂ (λ (x y : Reply). x else y) (clear_rows s a p) (rows_append s b c ∙ ap (λ (x : Reply). rows s b else x) (clear_rows s c q))
    ∙ else_nothing (rows s b)

module _ (l : View) (ok : check_view l ≡ none) where
  a : NoRowHolds false l
  a = accepted l ok

  waste_alone : (i : ℕ) (f : File) → i < slots → l.files i ≡ some f → rows (suc i) (rows_by true l i f) ≡ row 22 (suc i) (wasteful (slot_fields f.bytes))
  waste_alone i f h q =
      let c = clear_parts (own (view_tracks l) (slot_fields f.bytes)) (shared_rows (view_slots l) i f.bytes) (a.survey i f h q) in
      between_clear (suc i) (own (view_tracks l) (slot_fields f.bytes)) (release_rows true (slot_fields f.bytes)) (shared_rows (view_slots l) i f.bytes) c.0 c.1

  pub releases_view : check_by true l ≡ ledger_release (ledger_of l)
  unfolding ledger_release ledger_of
  releases_view =
      check_passes true l ∙ rw (eq-eqb l.long image_size a.long, accepted-tracks (l.label 255) a.tracks, clear_pass l (rows11 l) a.chains)
      (else_nothing (pass l (rows_by true l))
      ∙ scan_cong slots (pass_at l (rows_by true l)) (λ i. fold_option none (λ e. row 22 (suc i) (wasteful (slot_fields e.slot))) (fold_option none (λ f. some (entry_of_file f)) (l.files i)))
      (λ i h. by i h (l.files i) refl))
    where
      by : (i : ℕ) → i < slots → (o : Option File) → l.files i ≡ o
          → fold_option none (λ f. rows (suc i) (rows_by true l i f)) o ≡ fold_option none (λ e. row 22 (suc i) (wasteful (slot_fields e.slot))) (fold_option none (λ f. some (entry_of_file f)) o)
      by i h none q = refl
      by i h (some f) q = waste_alone i f h q

pub release : (d : List ℕ) → check_disk d ≡ none → check_release d ≡ ledger_release (ledger_of (view d))
unfolding check_disk check_release
release d ok = releases_view (view d) ok
