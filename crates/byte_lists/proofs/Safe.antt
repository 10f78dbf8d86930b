-- Demand 3 and the unchanged buffers of a refusal, of what the app gets: the image and the list's bytes.
use Prim.Native.Nat.{ℕ, ◌+◌, ◌*◌, ◌/◌, ◌%◌, ◌≤◌}
use mathlib.Core.Path.{◌≡◌, refl, sym, ap, ap₂, ◌∙◌, subst}
use mathlib.Core.List.{List, [], ◌∷◌, ◌++◌}
use mathlib.Core.Option.{none}
use native.Mathlib.Omega.{arith}
use lib.ListN.{length, take, drop, take-append-drop}
use Rattle.buffers.specs.Bytes.{part, put}
use Rattle.buffers.proofs.Lists.{part-put}
use Rattle.refusals.specs.Order.{Refusal}
use Rattle.refusals.specs.Answers.{done, refused}
use Rattle.disk.specs.Check.{check_release}
use Rattle.steps.specs.Sectors.{cut}
use Rattle.plans.specs.Plan.{Result, refused_result, new_disk, Changed}
use Rattle.erase_many.specs.EraseMany.{run_many}
use Rattle.operations.specs.Operations.{Operation, single_change, erase_names, record_piece, record_close, run_operation, changed_of, EachSafe}
use Rattle.operations.proofs.Demand3.{crash, ran_room}
use Rattle.operations.proofs.EraseManyLaws.{ask_released}
use Rattle.byte_lists.specs.Lists.{in_bytes, numbers_in, change_bytes_by, change_bytes}
use Rattle.byte_lists.specs.EraseMany.{erase_many_bytes_by, erase_many_bytes, operation_bytes}
use Rattle.byte_lists.proofs.Pairs.{length_pairs}

-- numbers put in front as bytes are read back
pairs-back : (ss r : List ℕ) → take (length ss) (numbers_in (in_bytes ss ++ r)) ≡ ss
unfolding in_bytes numbers_in
pairs-back [] r = refl
pairs-back (s ∷ ss) r = let e : s % 256 + 256 * (s / 256) ≡ s = omega arith in ap₂ (λ (x : ℕ) (xs : List ℕ). x ∷ xs) e (pairs-back ss r)

put_back : (b ss : List ℕ) → 2 * length ss ≤ length b → take (length ss) (numbers_in (put b 0 (in_bytes ss))) ≡ ss
unfolding part
put_back b ss h =
    let x : List ℕ = in_bytes ss in
    let e : put b 0 x ≡ x ++ drop (length x) (put b 0 x) =
    sym (take-append-drop (length x) (put b 0 x)) ∙ ap (λ (y : List ℕ). y ++ drop (length x) (put b 0 x)) (part-put b 0 x (omega (arith, length_pairs ss))) in
    ap (λ (y : List ℕ). take (length ss) (numbers_in y)) e ∙ pairs-back ss (drop (length x) (put b 0 x))

-- by what it is run with
pub asking_is : (a : Operation) (d b : List ℕ) → operation_bytes a d b ≡ change_bytes_by (run_operation a d (length b / 2)) d b
unfolding change_bytes erase_many_bytes
asking_is (single_change c) d b = refl
asking_is (record_piece r x) d b = refl
asking_is (record_close r) d b = refl
asking_is (erase_names ns abuf) d b = by (run_many ns d (length abuf) (length b / 2))
  where
    by : (x : Result) → changed_of (erase_many_bytes_by x d ns abuf b) ≡ change_bytes_by x d b
    by (refused_result r) = refl
    by (new_disk new ss) = refl

module _ (a : Operation) (d b : List ℕ) where
  -- what holds of the new disk and the sectors named, holds where the call answers how many of the image at return and the first
  -- so many numbers of the list at return
  pub call_of : (P : List ℕ → List ℕ → Type 0) → ((new ss : List ℕ) → run_operation a d (length b / 2) ≡ new_disk new ss → P new ss) → (n f : ℕ) → (operation_bytes a d b).outcome ≡ done n f
      → P (operation_bytes a d b).image (take n (numbers_in (operation_bytes a d b).list))
  call_of P h n f e =
      subst (λ (x : Changed). P x.image (take n (numbers_in x.list))) (sym (asking_is a d b))
      (by (run_operation a d (length b / 2)) refl (sym (ap (λ (x : Changed). x.outcome) (asking_is a d b)) ∙ e))
    where
      by : (x : Result) → run_operation a d (length b / 2) ≡ x → (change_bytes_by x d b).outcome ≡ done n f → P (change_bytes_by x d b).image (take n (numbers_in (change_bytes_by x d b).list))
      by (refused_result r) q w = let z : ◌≡◌ {A = ℕ} 0 1 = cc in absurd (omega arith)
      by (new_disk new ss) q w =
          let m : length ss ≡ n = cc in
          let r = ran_room a d (length b / 2) new ss q in
          let t : take n (numbers_in (put b 0 (in_bytes ss))) ≡ ss = ap (λ (k : ℕ). take k (numbers_in (put b 0 (in_bytes ss)))) (sym m) ∙ put_back b ss (omega (arith, r.1)) in
          subst (P new) (sym t) (h new ss q)

  -- whatever is asked, whatever disk and list: where the call answers how many, the first so many numbers of the list at return are
  -- its sectors, and the image at return is the new disk
  pub crash_bytes : (n f : ℕ) → (operation_bytes a d b).outcome ≡ done n f → EachSafe a d (operation_bytes a d b).image (take n (numbers_in (operation_bytes a d b).list))
  crash_bytes = call_of (EachSafe a d) (λ new ss q. crash a d (length b / 2) new ss (ran_room a d (length b / 2) new ss q).0 q)

  -- and where the release check accepted the disk, it accepts every cut
  pub released_bytes : check_release d ≡ none → (n f : ℕ) → (operation_bytes a d b).outcome ≡ done n f
      → (k : ℕ) → k ≤ length (take n (numbers_in (operation_bytes a d b).list)) → check_release (cut d (operation_bytes a d b).image (take n (numbers_in (operation_bytes a d b).list)) k) ≡ none
  released_bytes ok =
      call_of (λ (new ss : List ℕ). (k : ℕ) → k ≤ length ss → check_release (cut d new ss k) ≡ none) (λ new ss q. ask_released a d ok (length b / 2) new ss q)

  -- a refused call changes neither
  pub refused-bytes : (r : Refusal) → (operation_bytes a d b).outcome ≡ refused r → ((operation_bytes a d b).image ≡ d) × ((operation_bytes a d b).list ≡ b)
  refused-bytes r e =
      subst (λ (x : Changed). (x.image ≡ d) × (x.list ≡ b)) (sym (asking_is a d b)) (by (run_operation a d (length b / 2)) (sym (ap (λ (x : Changed). x.outcome) (asking_is a d b)) ∙ e))
    where
      by : (x : Result) → (change_bytes_by x d b).outcome ≡ refused r → ((change_bytes_by x d b).image ≡ d) × ((change_bytes_by x d b).list ≡ b)
      by (refused_result q) w = (refl, refl)
      by (new_disk new ss) w = let z : ◌≡◌ {A = ℕ} 0 1 = cc in absurd (omega arith)

-- nor, of an erase-many, the answers
pub refused-answers : (d ns abuf b : List ℕ) (r : Refusal) → (erase_many_bytes d ns abuf b).outcome ≡ refused r → (erase_many_bytes d ns abuf b).answers ≡ abuf
unfolding erase_many_bytes
refused-answers d ns abuf b r e = by (run_many ns d (length abuf) (length b / 2)) e
  where
    by : (x : Result) → (erase_many_bytes_by x d ns abuf b).outcome ≡ refused r → (erase_many_bytes_by x d ns abuf b).answers ≡ abuf
    by (refused_result q) w = refl
    by (new_disk new ss) w = let z : ◌≡◌ {A = ℕ} 0 1 = cc in absurd (omega arith)
