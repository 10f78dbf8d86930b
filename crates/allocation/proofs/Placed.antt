-- The slot that a save takes, as a loop looks for it and by the tests that led there.
use Prim.Native.Nat.{ℕ, suc, ◌+◌, ◌-◌, ◌≤◌, ◌<◌}
use mathlib.Core.Path.{◌≡◌, refl, sym, ap₂, ◌∙◌}
use mathlib.Core.List.{List}
use mathlib.Core.Option.{Option, none, some}
use native.Mathlib.Numerals.{add-one}
use native.Mathlib.Omega.{arith}
use Rattle.refusals.specs.Order.{Refusal, refuse, Reply, ◌else◌, scan_from}
use Rattle.refusals.proofs.First.{scan_start, scan_skip, scan_stop, scan_end}
use Rattle.directory.specs.Directory.{fold_option, Directory, tracks_of, slots_in, directory}
use Rattle.directory.specs.Find.{find}
use Rattle.files.specs.Calls.{found_slot, refused_lookup}
use Rattle.plans.specs.Saving.{lowest_slot}
use Rattle.allocation.specs.declared.HeaderFields.{HeaderFields}
use Rattle.allocation.specs.Taken.{request_reply, free_slot_by, slot_for_save}

-- ---- the lowest slot that holds no file, as a loop looks for it

abbrev pub empty_at : Directory → ℕ → Option ℕ
empty_at v i = fold_option (some i) (λ s. none) (v i)

pub slot_start : (d : List ℕ) → lowest_slot (tracks_of d) (directory d) ≡ scan_from (slots_in d - 0) 0 (empty_at (directory d))
unfolding lowest_slot
slot_start d = scan_start (slots_in d) (empty_at (directory d))

module _ (d : List ℕ) (i : ℕ) (w : lowest_slot (tracks_of d) (directory d) ≡ scan_from (slots_in d - i) i (empty_at (directory d))) where
  pub slot_held : i < slots_in d → (s : List ℕ) → directory d i ≡ some s → lowest_slot (tracks_of d) (directory d) ≡ scan_from (slots_in d - (i + 1)) (i + 1) (empty_at (directory d))
  slot_held h s e = w ∙ scan_skip (slots_in d) i (empty_at (directory d)) h (rw e)

  pub slot-free : i < slots_in d → directory d i ≡ none → some i ≡ lowest_slot (tracks_of d) (directory d)
  slot-free h e = sym (w ∙ scan_stop (slots_in d) i (empty_at (directory d)) i h (rw e))

  pub slot-none : slots_in d ≤ i → none ≡ lowest_slot (tracks_of d) (directory d)
  slot-none h = sym (w ∙ scan_end (slots_in d - i) i (empty_at (directory d)) (omega arith))

-- ---- the slot that a save takes, by the tests that led there

module _ (d : List ℕ) (s : HeaderFields) (n : List ℕ) where
  place_by : {a : Reply} {f o : Option ℕ} → request_reply s n ≡ a → find (directory d) n ≡ f → lowest_slot (tracks_of d) (directory d) ≡ o
      → slot_for_save d s n ≡ free_slot_by (a else fold_option none (λ i. some (refuse 16 (suc i))) f) o
  unfolding slot_for_save
  place_by ea ef eo = ap₂ free_slot_by (ap₂ (λ (p : Reply) (o : Option ℕ). p else fold_option none (λ i. some (refuse 16 (suc i))) o) ea ef) eo

  pub place-asked : (r : Refusal) → request_reply s n ≡ some r → refused_lookup r ≡ slot_for_save d s n
  place-asked r e = sym (place_by e refl refl)

  module _ (e : request_reply s n ≡ none) where
    pub place_named : (i : ℕ) → find (directory d) n ≡ some i → refused_lookup (refuse 16 (i + 1)) ≡ slot_for_save d s n
    place_named i f = rw add-one (sym (place_by e f refl))

    module _ (f : find (directory d) n ≡ none) where
      pub place_full : lowest_slot (tracks_of d) (directory d) ≡ none → refused_lookup (refuse 18 0) ≡ slot_for_save d s n
      place_full o = sym (place_by e f o)

      pub place_at_lem : (i : ℕ) → lowest_slot (tracks_of d) (directory d) ≡ some i → found_slot i ≡ slot_for_save d s n
      place_at_lem i o = sym (place_by e f o)
