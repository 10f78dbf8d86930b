-- The sectors of a gather as pairs of bytes: what a list has got after some of them, and after all.
use Prim.Native.Nat.{ℕ, ◌+◌, ◌*◌, ◌/◌, ◌≤◌, ◌<◌}
use mathlib.Core.Path.{◌≡◌, refl, sym, ap, ◌∙◌}
use mathlib.Core.List.{List, [], ◌∷◌, ◌++◌}
use native.Mathlib.Omega.{arith}
use Rattle.std.specs.Prelude as Prelude
use lib.ListN.{length}
use Rattle.buffers.specs.Bytes.{put}
use Rattle.buffers.proofs.Lists.{length-put, put-none}
use Rattle.refusals.specs.Answers.{done, refused, refusal_of}
use Rattle.refusals.specs.declared.Refused.{Refused}
use Rattle.geometry.specs.Disk.{place_or_end}
use Rattle.directory.specs.Places.{dir_sector_or}
use Rattle.directory.proofs.Places.{dir_placed}
use Rattle.plans.specs.Change.{gather}
use Rattle.plans.specs.Gathering.{up_from}
use Rattle.plans.specs.Gathered.{run_sectors}
use Rattle.plans.specs.Plan.{run_change, changed}
use Rattle.gathers.specs.declared.Move.{Move}
use Rattle.gathers.specs.Call.{moved_sectors, GatherAnswer, gather_changed, gather_call, MoveInRange}
use Rattle.gathers.proofs.Listed.{length-run_sectors, run_snoc, number-place}
use Rattle.gathers.proofs.Call.{reported_refused, reported_stays, reported_went}
use Rattle.byte_lists.specs.Lists.{in_bytes, change_bytes_by, change_bytes}
use Rattle.byte_lists.proofs.Pairs.{pair_next}

-- the list l with the pairs of the first j bits from b on, and with one more
pub run_none : (l : List ℕ) (b : ℕ) → l ≡ put l 0 (in_bytes (run_sectors 0 b))
unfolding up_from in_bytes
run_none l b = put-none l 0 []

pub run_more : (l₀ l : List ℕ) (b j : ℕ) → l ≡ put l₀ 0 (in_bytes (run_sectors j b)) → b + j < 1560 → (p : ℕ) → p ≡ place_or_end (b + j)
    → put l (2 * j) (in_bytes (p / 512 ∷ [])) ≡ put l₀ 0 (in_bytes (run_sectors (j + 1) b))
run_more l₀ l b j w h p e =
    pair_next l₀ (run_sectors j b) j (length-run_sectors j b) l w (p / 512)
    ∙ ap (λ (x : List ℕ). put l₀ 0 (in_bytes x)) (ap (λ (v : ℕ). run_sectors j b ++ (v ∷ [])) (number-place (b + j) p h e).0 ∙ sym (run_snoc j b))

-- and then the slot's sector
module _ (l₀ l : List ℕ) (m : Move) (w : MoveInRange m (length l₀ / 2)) (e : l ≡ put l₀ 0 (in_bytes (run_sectors m.count m.bit))) where
  pub last-room : 2 * m.count + 2 ≤ length l
  last-room = omega (arith, w.fits, ap length e, length-put l₀ 0 (in_bytes (run_sectors m.count m.bit)))

  pub last-is : (s : ℕ) → s ≡ dir_sector_or m.slot → put l (2 * m.count) (in_bytes (s ∷ [])) ≡ put l₀ 0 (in_bytes (moved_sectors m))
  last-is s q =
      pair_next l₀ (run_sectors m.count m.bit) m.count (length-run_sectors m.count m.bit) l e s
      ∙ ap (λ (s : ℕ). put l₀ 0 (in_bytes (run_sectors m.count m.bit ++ (s ∷ [])))) (q ∙ dir_placed m.slot w.slot)

-- ---- the call

module _ (n d b d' : List ℕ) (g : GatherAnswer) (w : gather_changed g d' ≡ gather_call n d (length b / 2)) where
  pub bytes-refused : (r : Refused) → g ≡ Prelude.Err r → changed (refused (refusal_of r)) d' b ≡ change_bytes (gather n) d b
  unfolding change_bytes gather_call in_bytes
  bytes-refused = reported_refused d b d' in_bytes (sym (put-none b 0 [])) (λ x. change_bytes_by x d b) (λ r. refl) (λ new ss. refl) (run_change (gather n) d (length b / 2)) g w

  pub bytes-stays : g ≡ Prelude.Ok Prelude.None → changed (done 0 0) d' b ≡ change_bytes (gather n) d b
  unfolding change_bytes gather_call in_bytes
  bytes-stays = reported_stays d b d' in_bytes (sym (put-none b 0 [])) (λ x. change_bytes_by x d b) (λ r. refl) (λ new ss. refl) (run_change (gather n) d (length b / 2)) g w

  pub bytes_went : (m : Move) → g ≡ Prelude.Ok (Prelude.Some m) → (b' : List ℕ) → b' ≡ put b 0 (in_bytes (moved_sectors m)) → changed (done (m.count + 1) 0) d' b' ≡ change_bytes (gather n) d b
  unfolding change_bytes gather_call in_bytes
  bytes_went = reported_went d b d' in_bytes (sym (put-none b 0 [])) (λ x. change_bytes_by x d b) (λ r. refl) (λ new ss. refl) (run_change (gather n) d (length b / 2)) g w
