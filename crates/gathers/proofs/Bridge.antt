-- From the pieces of the code to the plan: the map's runs are the disk's, the slot's chain is whole, and a free run is apart from it.
use Prim.Native.Nat.{ℕ, ◌+◌, ◌-◌, ◌≤◌, ◌<◌}
use mathlib.Core.Path.{◌≡◌, refl, sym, ap, ap₂, ◌∙◌, fun_ext}
use mathlib.Core.Bool.{Bool, true, false, cond, not, ◌&&◌}
use mathlib.Core.List.{List}
use mathlib.Core.Logic.{◌⊎◌, inl, inr, ⊎_elim}
use mathlib.Core.Option.{Option, none, some}
use native.Mathlib.Omega.{arith}
use borrow.Author.Tests.{lt-ltb, le-ltb, eq-eqb}
use Rattle.buffers.proofs.Lists.{below_or_not, length_part}
use Rattle.maps.specs.Bits.{has}
use Rattle.refusals.specs.Order.{scan}
use Rattle.slots.specs.Slot.{kind_of, directory_kind, is_directory, map_of, slot_fields}
use Rattle.slots.specs.Tracks.{data_bit}
use Rattle.slots.proofs.Tracks.{data_is}
use Rattle.chains.specs.File.{file_of, sectors_of}
use Rattle.chains.proofs.Whole.{of_whole}
use Rattle.directory.specs.Places.{slots}
use Rattle.directory.specs.Directory.{Directory, directory, tracks_of, slot_or}
use Rattle.surveys.specs.Survey.{union, used_map}
use Rattle.surveys.specs.declared.UsedMap.{UsedMap}
use Rattle.surveys.proofs.Union.{counted-bytes, counted-tracks}
use Rattle.disk.specs.View.{view, view_slots, view_tracks}
use Rattle.disk.specs.Accepted.{HasSectors}
use Rattle.disk.proofs.View.{view-slots, view_extra, view-some}
use Rattle.disk.proofs.Examined.{accepted-size}
use Rattle.files.specs.Steps.{CheckedDisk}
use Rattle.plans.specs.Saving.{free_bit}
use Rattle.plans.specs.Gathering.{run_at, lowest_run}
use Rattle.plans.specs.Gathered.{FreeRun}
use Rattle.plans.proofs.Frame.{disk-accepted}
use Rattle.plans.proofs.Runs.{found-run}
use Rattle.plans.proofs.Moved.{has-sectors}
use Rattle.allocation.specs.Taken.{unavailable_map}
use Rattle.allocation.proofs.Unavailable.{shut_is}
use Rattle.free_runs.specs.Runs.{clear_bit, lowest_clear}
use Rattle.gathers.specs.Moving.{count_in, ChainedSlot, Movable}
use Rattle.gathers.specs.Call.{LiveSlotOf}

-- ---- the bits that are free

module _ (d : List ℕ) (u : UsedMap) (a : CheckedDisk d u) where
  free_clear : (b : ℕ) → clear_bit (unavailable_map u) b ≡ free_bit (tracks_of d) (directory d) b
  unfolding used_map
  free_clear b = ⊎_elim inside outside (below_or_not b 1560)
    where
      inside : b < 1560 → clear_bit (unavailable_map u) b ≡ free_bit (tracks_of d) (directory d) b
      inside h =
          ap (λ (t : Bool). t && not (has (unavailable_map u) b)) (lt-ltb b 1560 h) ∙ shut_is u b h
          ∙ ap₂ (λ (n : ℕ) (m : List ℕ). data_bit n b && not (has m b)) (counted-tracks (tracks_of d) (union (directory d) slots) u a.used)
          (counted-bytes (tracks_of d) (union (directory d) slots) u a.used)

      no_data : 1560 ≤ b → (t : Bool) → data_bit (tracks_of d) b ≡ t → t ≡ false
      no_data h true e = absurd (omega (arith, (data_is (tracks_of d) b e).0))
      no_data h false e = refl

      outside : 1560 ≤ b → clear_bit (unavailable_map u) b ≡ free_bit (tracks_of d) (directory d) b
      outside h =
          ap (λ (t : Bool). t && not (has (unavailable_map u) b)) (le-ltb b 1560 h)
          ∙ sym (ap (λ (t : Bool). t && not (has (union (directory d) slots) b)) (no_data h (data_bit (tracks_of d) b) refl))

  -- so the lowest run of the map is the disk's
  pub lowest_clear_lem : (count : ℕ) → lowest_clear (unavailable_map u) count ≡ lowest_run (view_tracks (view d)) (view_slots (view d)) count
  unfolding lowest_clear lowest_run
  lowest_clear_lem count =
      ap (λ (p : ℕ → Bool). scan 1560 (λ b. cond {A = Option ℕ} (run_at p count b) (some b) none)) (fun_ext free_clear)
      ∙ sym (ap₂ (λ (n : ℕ) (v : Directory). scan 1560 (λ b. cond {A = Option ℕ} (run_at (free_bit n v) count b) (some b) none)) (view_extra d) (view-slots d))

-- ---- the slot

module _ (d : List ℕ) (u : UsedMap) (i : ℕ) (w : LiveSlotOf d u i) (other : is_directory (slot_or d i) ≡ false) where
  abbrev s : List ℕ
  s = slot_or d i

  here : (view d).files i ≡ some (file_of d s)
  here = view-some d i s w.live

  no_kind : kind_of s ≡ 21 → ⊥
  unfolding is_directory directory_kind
  no_kind e = let z : true ≡ false = sym (eq-eqb (kind_of s) 21 e) ∙ other in let y : ◌≡◌ {A = ℕ} 0 1 = cc in omega arith

  sectors : HasSectors (file_of d s)
  unfolding file_of
  sectors = has-sectors d (disk-accepted d w.disk.accepted) i (file_of d s) here no_kind

  pub chain-is : ChainedSlot d (slot_or d i)
  unfolding slot_fields file_of
  chain-is = record {
    some = sectors.some-sectors;
    whole = of_whole (slot_fields s) (sectors_of d s) (omega (arith, length_part 15 195 s)) sectors.some-sectors sectors.chain;
  }

  -- a run that is found is apart from the file's own sectors
  module _ (b : ℕ) (e : lowest_clear (unavailable_map u) (count_in d i) ≡ some b) where
    run : FreeRun d (count_in d i) b
    run = (found-run d (count_in d i) b (sym (lowest_clear_lem d u w.disk (count_in d i)) ∙ e)).here

    inside : b + count_in d i ≤ 1560
    inside =
        let n : 1 ≤ count_in d i = chain-is.some in
        let q = data_is (tracks_of d) (b + (count_in d i - 1)) (run.data_bits (count_in d i - 1) (omega arith)) in
        omega (arith, q.0)

    pub movable : Movable d i b
    unfolding file_of
    movable = record {
      slot = w.slot;
      long = accepted-size d w.disk.accepted;
      chain = chain-is;
      small = inside;
      apart = λ c q.
          ⊎_elim inl
          (λ (l : b ≤ c).
          ⊎_elim
          (λ (m : c < b + count_in d i).
          let z : b + (c - b) ≡ c = omega arith in
          absurd (run.unused (c - b) (omega arith) i (file_of d s) here (ap (has (map_of s)) z ∙ q))) inr (below_or_not c (b + count_in d i)))
          (below_or_not c b);
    }
