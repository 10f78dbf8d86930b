-- The continuation of a recording on an accepted disk: where it is lost 30 stands, and where it leads on nothing has moved.
use Prim.Native.Nat.{ℕ, ◌+◌, ◌≤◌, ◌<◌, min}
use Rattle.std.specs.Prelude.{Option, None, Some}
use mathlib.Core.Path.{◌≡◌, refl, sym, ap, ap₂, ◌∙◌}
use mathlib.Core.Bool.{Bool, true, false, cond, not, ◌&&◌, ◌||◌}
use mathlib.Core.List.{List}
use mathlib.Core.Logic.{⊎_elim}
use native.Mathlib.Omega.{arith}
use borrow.Author.Tests.{eqb-true, eq-eqb, ne_eqb}
use lib.Dec.{eqb}
use lib.ListN.{length, get_or, take}
use lib.Seq.{take_all}
use Rattle.buffers.proofs.Lists.{below_or_not}
use Rattle.buffers.proofs.Tests.{and_both}
use Rattle.buffers.proofs.Counts.{count_le}
use Rattle.maps.specs.Bits.{has}
use Rattle.slots.specs.Tracks.{data_bit}
use Rattle.names.specs.Name.{same_bytes}
use Rattle.names.proofs.Names.{bytes_are}
use Rattle.directory.specs.Places.{slots}
use Rattle.directory.specs.Directory.{Directory, tracks_of, directory}
use Rattle.surveys.specs.Survey.{union, used_map}
use Rattle.surveys.specs.declared.UsedMap.{UsedMap}
use Rattle.surveys.proofs.Union.{counted-bytes, counted-tracks}
use Rattle.disk.specs.View.{view, view_tracks}
use Rattle.disk.proofs.View.{view-slots, view_extra}
use Rattle.files.specs.Steps.{CheckedDisk}
use Rattle.plans.specs.Saving.{satisfying}
use Rattle.plans.specs.Allowed.{sectors_taken}
use Rattle.plans.proofs.Free.{passing_long}
use Rattle.allocation.specs.Taken.{unavailable_map, unset, lowest_clear_bits}
use Rattle.allocation.proofs.Unavailable.{available_bits_are}
use Rattle.recordings.specs.Recording.{Recording, chain_of, inner_sectors, used_of, lacks_link, disk_moved}
use Rattle.recording_links.specs.LinkedSectors.{next_bit, continuation_along, continuation_in}

-- ---- as the code tells it

module _ (d : List ℕ) (u : UsedMap) (was : List ℕ) (t n : ℕ) (x : Bool) (e : x ≡ same_bytes u.bytes was) where
  by_used_map : (y : Bool) → x ≡ y → continuation_in d u was t n ≡ cond (y && eqb u.tracks t) (continuation_along d (unavailable_map u) n) None
  unfolding continuation_in
  by_used_map y h = ap (λ (s : Bool). cond (s && eqb u.tracks t) (continuation_along d (unavailable_map u) n) None) (sym e ∙ h)

  pub other-map : x ≡ false → None ≡ continuation_in d u was t n
  other-map h = sym (by_used_map false h)

  pub other-tracks : x ≡ true → (u.tracks ≡ t → ⊥) → None ≡ continuation_in d u was t n
  other-tracks h l = sym (by_used_map true h ∙ ap (λ (s : Bool). cond s (continuation_along d (unavailable_map u) n) None) (ne_eqb u.tracks t l))

  pub same_map : x ≡ true → u.tracks ≡ t → (m : List ℕ) → m ≡ unavailable_map u → (r : Option ℕ) → r ≡ continuation_along d m n → r ≡ continuation_in d u was t n
  same_map h l m p r q =
      q ∙ ap (λ (m : List ℕ). continuation_along d m n) p
      ∙ sym (by_used_map true h ∙ ap (λ (s : Bool). cond s (continuation_along d (unavailable_map u) n) None) (eq-eqb u.tracks t l))

-- ---- as a caller needs it

-- where the continuation leads on to bit b
pub record Continues (d : List ℕ) (u : UsedMap) (r : Recording) (n b : ℕ) : Type 0 where
  pub still : disk_moved d r ≡ false
  pub used : r.used ≡ u.bytes
  pub tracks : r.tracks ≡ u.tracks
  pub chain : chain_of r ≡ lowest_clear_bits (unavailable_map u) n
  pub next : b ≡ get_or (satisfying 1560 0 (unset (unavailable_map u))) (1 + inner_sectors n) 1560

take_same : (k n : ℕ) (l : List ℕ) → length l ≤ 1560 → min n 1560 ≡ min k 1560 → take k l ≡ take n l
take_same k n l h e =
    ⊎_elim (λ (m : k < 1560). let z : k ≡ n = omega arith in ap (λ (j : ℕ). take j l) z)
    (λ (m : 1560 ≤ k). take_all k l (omega arith) ∙ sym (take_all n l (omega arith))) (below_or_not k 1560)

-- the used map and n of an accepted disk are those that the check found
module _ (d : List ℕ) (u : UsedMap) (a : CheckedDisk d u) where
  pub used-is : used_of (view d) ≡ u.bytes
  unfolding used_map
  used-is = ap (λ (v : Directory). union v slots) (view-slots d) ∙ sym (counted-bytes (tracks_of d) (union (directory d) slots) u a.used)

  pub tracks-is : view_tracks (view d) ≡ u.tracks
  unfolding used_map
  tracks-is = view_extra d ∙ sym (counted-tracks (tracks_of d) (union (directory d) slots) u a.used)

-- no chain is longer than 1,560, so that a greater number need not be the recording's
module _ (d : List ℕ) (u : UsedMap) (a : CheckedDisk d u) (r : Recording) (n : ℕ) (c : min n 1560 ≡ min (sectors_taken r.request) 1560) where
  pub chain-is : r.used ≡ u.bytes → r.tracks ≡ u.tracks → chain_of r ≡ lowest_clear_bits (unavailable_map u) n
  unfolding chain_of lowest_clear_bits
  chain-is p q =
      ap₂ (λ (m : List ℕ) (t : ℕ). take (sectors_taken r.request) (satisfying 1560 0 (λ b. data_bit t b && not (has m b)))) p q ∙ ap (take (sectors_taken r.request)) (sym (available_bits_are u))
      ∙ take_same (sectors_taken r.request) n (satisfying 1560 0 (unset (unavailable_map u))) (omega (arith, passing_long (unset (unavailable_map u)) 1560 0, count_le 1560 (λ j. unset (unavailable_map u) (0 + j)))) c

  abbrev same : Bool
  same = same_bytes u.bytes r.used && eqb u.tracks r.tracks

  moved_by : (s t : Bool) → same ≡ s → lacks_link d (chain_of r) ≡ t → disk_moved d r ≡ (not s || t)
  unfolding disk_moved
  moved_by s t e f =
      ap₂ (λ (x y : Bool). not x || y) (ap₂ (λ (m : List ℕ) (t : ℕ). same_bytes m r.used && eqb t r.tracks) (used-is d u a) (tracks-is d u a) ∙ e) f

  same-is : same ≡ true → (r.used ≡ u.bytes) × (r.tracks ≡ u.tracks)
  same-is e =
      let b = and_both (same_bytes u.bytes r.used) (eqb u.tracks r.tracks) e in
      (sym (bytes_are u.bytes r.used b.0), sym (eqb-true u.tracks r.tracks b.1))

  -- the continuation by its two tests
  by_tests : (s t : Bool) → same ≡ s → lacks_link d (lowest_clear_bits (unavailable_map u) n) ≡ t → continuation_in d u r.used r.tracks n ≡ cond s (cond t None (Some (next_bit (unavailable_map u) n))) None
  unfolding continuation_in continuation_along
  by_tests s t e f = ap₂ (λ (x y : Bool). cond x (cond y None (Some (next_bit (unavailable_map u) n))) None) e f

  lacks_is : same ≡ true → (t : Bool) → lacks_link d (lowest_clear_bits (unavailable_map u) n) ≡ t → disk_moved d r ≡ t
  lacks_is e t f = let p = same-is e in moved_by true t e (ap (lacks_link d) (chain-is p.0 p.1) ∙ f)

  pub lost_moved : continuation_in d u r.used r.tracks n ≡ None → disk_moved d r ≡ true
  lost_moved e = by same (lacks_link d (lowest_clear_bits (unavailable_map u) n)) refl refl
    where
      by : (s t : Bool) → same ≡ s → lacks_link d (lowest_clear_bits (unavailable_map u) n) ≡ t → disk_moved d r ≡ true
      by false t p q = moved_by false (lacks_link d (chain_of r)) p refl
      by true true p q = lacks_is p true q
      by true false p q = let z : Some (next_bit (unavailable_map u) n) ≡ None = sym (by_tests true false p q) ∙ e in let y : ◌≡◌ {A = ℕ} 0 1 = cc in absurd (omega arith)

  pub on_still : (b : ℕ) → continuation_in d u r.used r.tracks n ≡ Some b → Continues d u r n b
  unfolding next_bit
  on_still b e = by same (lacks_link d (lowest_clear_bits (unavailable_map u) n)) refl refl
    where
      by : (s t : Bool) → same ≡ s → lacks_link d (lowest_clear_bits (unavailable_map u) n) ≡ t → Continues d u r n b
      by false t p q = let z : None ≡ Some b = sym (by_tests false t p q) ∙ e in let y : ◌≡◌ {A = ℕ} 0 1 = cc in absurd (omega arith)
      by true true p q = let z : None ≡ Some b = sym (by_tests true true p q) ∙ e in let y : ◌≡◌ {A = ℕ} 0 1 = cc in absurd (omega arith)
      by true false p q =
          let z : Some (next_bit (unavailable_map u) n) ≡ Some b = sym (by_tests true false p q) ∙ e in
          let y : next_bit (unavailable_map u) n ≡ b = cc in
          let w = same-is p in
          record { still = lacks_is p false q; used = w.0; tracks = w.1; chain = chain-is w.0 w.1; next = sym y }
