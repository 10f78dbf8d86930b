-- A check's reply by the tests that lead to it, with the used map that goes with it.
use Prim.Native.Nat.{ℕ}
use mathlib.Core.Path.{◌≡◌, sym, ap₂, ◌∙◌}
use mathlib.Core.Bool.{Bool, true, false}
use mathlib.Core.List.{List}
use mathlib.Core.Option.{none, some}
use borrow.Author.Tests.{eq-eqb, ne_eqb}
use lib.ListN.{length}
use Rattle.geometry.specs.Disk.{image_size}
use Rattle.refusals.specs.Order.{refuse, ◌else◌, scan}
use Rattle.refusals.specs.Answers.{refusal_of}
use Rattle.refusals.specs.declared.Reason.TheVariants.{NotAnImage, TracksOutOfRange}
use Rattle.refusals.specs.declared.Refused.{Refused}
use Rattle.std.specs.Prelude.{Result, Ok, Err}
use Rattle.slots.specs.Tracks.{bad_tracks}
use Rattle.directory.specs.Places.{slots}
use Rattle.directory.specs.Directory.{Directory, label_of, tracks_of, directory, live_among}
use Rattle.surveys.specs.Survey.{survey_by, used_map}
use Rattle.surveys.specs.Steps.{Surveyed}
use Rattle.surveys.specs.declared.Survey.{Survey}
use Rattle.disk.specs.View.{view, view_slots, view_tracks}
use Rattle.surveys.proofs.Pass.{surveyed_ok, surveyed_err}
use Rattle.disk.specs.Check.{chain_at, check_by, check_disk, Examined}
use Rattle.disk.proofs.View.{view-slots, view-long, view-label, view_extra}
use Rattle.disk.proofs.Order.{accepted}

-- what its caller learns by the answer
pub examined_ok : (d : List ℕ) (r : Result Survey Refused) (s : Survey) → Examined d r → r ≡ Ok s
    → (check_disk d ≡ none) × (s.used ≡ used_map (tracks_of d) (directory d)) × (s.files ≡ live_among (directory d) slots)
examined_ok d r s w e = surveyed_ok (check_disk d) d r s w e

pub examined_err : (d : List ℕ) (r : Result Survey Refused) (f : Refused) → Examined d r → r ≡ Err f → check_disk d ≡ some (refusal_of f)
examined_err d r f w e = surveyed_err (check_disk d) d r f w e

module _ (release : Bool) (d : List ℕ) where
  length-first : (length d ≡ image_size → ⊥) → check_by release (view d) ≡ some (refuse 1 0)
  unfolding check_by
  length-first h = rw (view-long d, ne_eqb (length d) image_size h)

  tracks-first : length d ≡ image_size → bad_tracks (label_of d 255) ≡ true → check_by release (view d) ≡ some (refuse 24 0)
  unfolding check_by view
  tracks-first h t = rw (eq-eqb (length d) image_size h, t)

  -- of an image of the right length, with a number of tracks that there can be: rows 2 to 9, and then rows 10, 11 and 25
  passes : length d ≡ image_size → bad_tracks (label_of d 255) ≡ false → check_by release (view d) ≡ (survey_by release (tracks_of d) (directory d) else scan slots (chain_at (view d)))
  unfolding check_by
  passes h t =
      let e : check_by release (view d) ≡ (survey_by release (view_tracks (view d)) (view_slots (view d)) else scan slots (chain_at (view d))) =
      rw (view-long d, eq-eqb (length d) image_size h, view-label d, t) in
      e ∙ ap₂ (λ (m : ℕ) (v : Directory). survey_by release m v else scan slots (chain_at (view d))) (view_extra d) (view-slots d)

  -- where it refuses nothing else is handed on
  refused_so : (f : Refused) → check_by release (view d) ≡ some (refusal_of f) → Surveyed (check_by release (view d)) d (Err f)
  refused_so f e = record { reply = sym e; used = tt; files = tt }

  pub examined_length : (length d ≡ image_size → ⊥) → Surveyed (check_by release (view d)) d (Err (record { reason = NotAnImage; slot = 0 }))
  examined_length h = refused_so (record { reason = NotAnImage; slot = 0 }) (length-first h)

  pub examined_tracks : length d ≡ image_size → bad_tracks (label_of d 255) ≡ true → Surveyed (check_by release (view d)) d (Err (record { reason = TracksOutOfRange; slot = 0 }))
  examined_tracks h t = refused_so (record { reason = TracksOutOfRange; slot = 0 }) (tracks-first h t)

  module _ (h : length d ≡ image_size) (t : bad_tracks (label_of d 255) ≡ false) where
    pub examined_survey : (f : Refused) → survey_by release (tracks_of d) (directory d) ≡ some (refusal_of f) → Surveyed (check_by release (view d)) d (Err f)
    examined_survey f q = refused_so f (passes h t ∙ rw q)

    module _ (q : survey_by release (tracks_of d) (directory d) ≡ none) where
      chains_then : check_by release (view d) ≡ scan slots (chain_at (view d))
      chains_then = passes h t ∙ rw q

      pub examined_chains : (f : Refused) → some (refusal_of f) ≡ scan slots (chain_at (view d)) → Surveyed (check_by release (view d)) d (Err f)
      examined_chains f e = refused_so f (chains_then ∙ sym e)

      pub examined_accepted : (s : Survey) → s.used ≡ used_map (tracks_of d) (directory d) → s.files ≡ live_among (directory d) slots
          → none ≡ scan slots (chain_at (view d)) → Surveyed (check_by release (view d)) d (Ok s)
      examined_accepted s u f e = record { reply = e ∙ sym chains_then; used = u; files = f }

-- an accepted image has its size
pub accepted-size : (d : List ℕ) → check_disk d ≡ none → length d ≡ image_size
unfolding check_disk
accepted-size d e = sym (view-long d) ∙ (accepted (view d) e).long
