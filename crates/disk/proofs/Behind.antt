-- What lies behind the end of the directory is not seen: two disks that differ only there have one view.
use Prim.Native.Nat.{ℕ, ◌+◌, ◌≤◌, ◌<◌}
use mathlib.Core.Path.{◌≡◌, refl, sym, ap, ap₂, ◌∙◌, fun_ext}
use mathlib.Core.Bool.{Bool, true, cond, not, ◌&&◌}
use mathlib.Core.List.{List}
use mathlib.Core.Logic.{inl, inr, ⊎_elim}
use mathlib.Core.Option.{none, some}
use native.Mathlib.Omega.{arith}
use lib.Dec.{eqb}
use lib.ListN.{length}
use Rattle.buffers.proofs.Lists.{below_or_not, part_ext}
use Rattle.geometry.specs.Disk.{image_size, bit_place}
use Rattle.maps.specs.Bits.{has}
use Rattle.refusals.specs.Order.{Reply, ◌else◌, row, scan}
use Rattle.refusals.proofs.First.{scan-none}
use Rattle.slots.specs.Slot.{is_live, map_of}
use Rattle.slots.specs.Tracks.{data_bit, bad_tracks}
use Rattle.slots.proofs.Tracks.{outside_data}
use Rattle.chains.specs.File.{file_of, sector_at}
use Rattle.chains.proofs.Laws.{map-small}
use Rattle.directory.specs.Places.{slots, slot_at, slot_bytes}
use Rattle.directory.specs.Directory.{label_of, tracks_of, is_nameless_at, directory}
use Rattle.directory.proofs.Places.{slots_apart, slot_data_apart}
use Rattle.directory.proofs.Label.{disk_tracks_few, tracks_agree}
use Rattle.directory.proofs.Ends.{seen_agree, nameless_agree, unseen-later, unseen_nameless}
use Rattle.directory.proofs.Live.{directory-unseen, directory-some}
use Rattle.surveys.specs.Survey.{survey_at, survey_by}
use Rattle.surveys.proofs.Pass.{passed_at, plain_at}
use Rattle.disk.specs.View.{view, view_slots, view_tracks}
use Rattle.disk.specs.Check.{chain_at, check_by, check_disk}
use Rattle.disk.specs.Behind.{AlikeTo}
use Rattle.disk.proofs.View.{view_agree, view-slots, view_extra, view-some}
use Rattle.disk.proofs.Accepted.{accepted-disk}

module _ (i : ℕ) (d e : List ℕ) (w : AlikeTo i d e) where
  slot_same : (j : ℕ) → j < i → slot_bytes d j ≡ slot_bytes e j
  slot_same j h =
      part_ext (slot_at j) 256 d e w.long
      (λ k l. w.same (slot_at j + k) (λ t m n. inl (omega (arith, slots_apart j t (omega arith)))))

  tracks_same : tracks_of d ≡ tracks_of e
  tracks_same = tracks_agree e d w.label

  sector-same : (b : ℕ) → data_bit (tracks_of d) b ≡ true → sector_at d b ≡ sector_at e b
  sector-same b h =
      part_ext (bit_place b) 512 d e w.long
      (λ k l.
      w.same (bit_place b + k)
      (λ t m n.
      ⊎_elim (λ (q : slot_at t + 256 ≤ bit_place b). inr (omega arith)) (λ (q : bit_place b + 512 ≤ slot_at t). inl (omega arith))
      (slot_data_apart (tracks_of d) b t (disk_tracks_few d) h n)))

  rest : (x : List ℕ) → is_nameless_at x i ≡ true → (j : ℕ) → i ≤ j → directory x j ≡ none
  rest x q j h = directory-unseen x j (unseen-later x i j h (unseen_nameless x i q))

  directory-same : (j : ℕ) → directory d j ≡ directory e j
  unfolding directory
  directory-same j =
      ⊎_elim
      (λ (h : j < i).
      ap₂ (λ (t : Bool) (s : List ℕ). cond (t && is_live s) (some s) none)
      (seen_agree e d j tracks_same (λ k l. nameless_agree e d k (slot_same k (omega arith)))) (slot_same j h))
      (λ h. rest d w.here j h ∙ sym (rest e w.there j h)) (below_or_not j i)

  -- where no live map has a bit inside the directory
  pub same_behind : ((j : ℕ) (s : List ℕ) → directory d j ≡ some s → (b : ℕ) → has (map_of s) b ≡ true → data_bit (tracks_of d) b ≡ true) → view d ≡ view e
  same_behind h = view_agree d e w.long w.label (fun_ext directory-same) (λ j s q b m. sector-same b (h j s q b m))

  -- where no row of the pass holds none has
  survey_outside : (release : Bool) → survey_by release (tracks_of d) (directory d) ≡ none → view d ≡ view e
  unfolding survey_by
  survey_outside release q =
      same_behind (λ j s p b m.
      let h = (directory-some d j s p).0 in
      let c = passed_at (tracks_of d) (directory d) j s p (plain_at release (tracks_of d) (directory d) j s p (scan-none slots (survey_at release (tracks_of d) (directory d)) q j h)) in
      outside_data (tracks_of d) (map_of s) c.outside b (map-small s b m) m)

  -- neither check tells them apart
  pub check_behind : (release : Bool) → check_by release (view d) ≡ check_by release (view e)
  unfolding check_by view view_tracks
  check_behind release = by (survey_by release (view_tracks (view d)) (view_slots (view d))) refl
    where
      first : (x : List ℕ) (q : Reply) → survey_by release (view_tracks (view x)) (view_slots (view x)) ≡ q → check_by release (view x) ≡ (row 1 0 (not (eqb (length x) image_size)) else row 24 0 (bad_tracks (label_of x 255)) else q else scan slots (chain_at (view x)))
      first x q p = rw p

      slots_same : view_slots (view d) ≡ view_slots (view e)
      slots_same = view-slots d ∙ fun_ext directory-same ∙ sym (view-slots e)

      extra_same : view_tracks (view d) ≡ view_tracks (view e)
      extra_same = view_extra d ∙ tracks_same ∙ sym (view_extra e)

      survey-same : survey_by release (view_tracks (view e)) (view_slots (view e)) ≡ survey_by release (view_tracks (view d)) (view_slots (view d))
      survey-same = ap₂ (survey_by release) (sym extra_same) (sym slots_same)

      by : (q : Reply) → survey_by release (view_tracks (view d)) (view_slots (view d)) ≡ q → check_by release (view d) ≡ check_by release (view e)
      by none p = ap (check_by release) (survey_outside release (ap₂ (survey_by release) (sym (view_extra d)) (sym (view-slots d)) ∙ p))
      by (some r) p =
          first d (some r) p
          ∙ ap₂ (λ (n : ℕ) (f : ℕ → ℕ). row 1 0 (not (eqb n image_size)) else row 24 0 (bad_tracks (f 255)) else some r) w.long w.label
          ∙ sym (first e (some r) (survey-same ∙ p))

  -- and an accepted disk has the other's view
  pub accepted_behind : check_disk d ≡ none → view d ≡ view e
  unfolding check_disk file_of
  accepted_behind q =
      same_behind (λ j s p b m.
      let h = (directory-some d j s p).0 in
      rw (view_extra d) at (((accepted-disk (view d) q).accepted j (file_of d s) h (view-some d j s p)).data_bits b m))
