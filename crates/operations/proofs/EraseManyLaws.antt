-- What holds of every change, of an erase-many: the release check, other spellings, disks with one view; and an erase-many of no names.
use Prim.Native.Nat.{ℕ, zero, suc, ◌/◌, ◌%◌, ◌≤◌, ◌<◌}
use mathlib.Core.Path.{◌≡◌, refl, sym, ap, ap₂, ◌∙◌, subst₂, fun_ext}
use mathlib.Core.Bool.{Bool, true, false, not, cond, ◌&&◌}
use mathlib.Core.List.{List, []}
use mathlib.Core.Option.{none, some, some-ne-none}
use native.Mathlib.Omega.{arith}
use lib.Dec.{eqb, ltb}
use lib.ListN.{length, take}
use Rattle.buffers.specs.Bytes.{tab, put}
use Rattle.buffers.proofs.Lists.{tab_cong, put-none}
use Rattle.maps.specs.Bits.{has}
use Rattle.refusals.specs.Order.{Reply, ◌else◌, row}
use Rattle.refusals.specs.Answers.{done}
use Rattle.names.specs.Name.{Same}
use Rattle.chains.specs.File.{File}
use Rattle.directory.specs.Places.{slots, dir_sector}
use Rattle.directory.specs.Directory.{Directory, directory}
use Rattle.disk.specs.View.{View, view, view_slots}
use Rattle.disk.specs.Check.{check_view, check_disk, check_release}
use Rattle.disk.specs.Release.{NoWaste}
use Rattle.disk.proofs.View.{view-slots}
use Rattle.disk.proofs.Release.{release_exactly}
use Rattle.steps.specs.Sectors.{is_listed, cut}
use Rattle.plans.specs.Plan.{Result, refused_result, new_disk, checked_result}
use Rattle.plans.proofs.Spelling.{spelt_erase}
use Rattle.plans.proofs.Released.{cut_released}
use Rattle.recordings.proofs.Closing.{close_released, piece_released}
use Rattle.erase_many.specs.EraseMany.{name_at, how_many, single_erase, result_number, disk_or, disk_after_erases, answer_at, answers_to, erased_all, is_erased, sectors_with, sectors_of_all, not_tens, many_reply, run_many, erased, erased_by_result, erase_many}
use Rattle.erase_many.specs.ErasedMap.{erased_map, erased_map_answer}
use Rattle.operations.specs.Operations.{Operation, single_change, erase_names, record_piece, record_close, run_operation}
use Rattle.erase_many.specs.EraseManyCut.{CutLeaves}
use Rattle.erase_many.proofs.Cleared.{without}
use Rattle.erase_many.proofs.Listed.{sectors-none}
use Rattle.erase_many.proofs.Meaning.{gone-never, fewer_left, after_fewer}
use Rattle.erase_many.proofs.ErasedMap.{erased-gone, answers-same, sectors-same}
use Rattle.erase_many.proofs.EraseManyCut.{erase_many-cut}
use Rattle.erase_many.proofs.Refused.{run_grants, many-gives}

-- ---- the release check

-- where no file had a waste sector none has, wherever the erase-many is cut
pub erase_many_released : (d : List ℕ) → check_release d ≡ none → (ns : List ℕ) (k : ℕ) → check_release (cut d (erased_all d ns) (sectors_of_all d ns) k) ≡ none
erase_many_released d e ns k = (release_exactly x).1 (w.accepted, λ i f h q. a.1 i f h (was (is_erased d (erased_all d ns) i && is_listed (dir_sector i) (take k (sectors_of_all d ns))) i f (sym (w.files i) ∙ q)))
  where
    x : List ℕ
    x = cut d (erased_all d ns) (sectors_of_all d ns) k

    a : (check_disk d ≡ none) × NoWaste (view d)
    a = (release_exactly d).0 e

    w : CutLeaves d (erased_all d ns) (sectors_of_all d ns) k
    w = erase_many-cut d a.0 ns k

    was : (t : Bool) (i : ℕ) (f : File) → cond t none ((view d).files i) ≡ some f → (view d).files i ≡ some f
    was true i f q = absurd (some-ne-none f (sym q))
    was false i f q = q

-- whatever is asked: where the release check accepted the disk, it accepts every cut
pub ask_released : (a : Operation) (d : List ℕ) → check_release d ≡ none → (room : ℕ) (new ss : List ℕ) → run_operation a d room ≡ new_disk new ss
    → (k : ℕ) → k ≤ length ss → check_release (cut d new ss k) ≡ none
ask_released (single_change c) d ok room new ss e k h = cut_released d ok room new ss c e k h
ask_released (erase_names ns abuf) d ok room new ss e k h =
    let g = run_grants d ns (length abuf) room new ss e in
    subst₂ (λ (x s : List ℕ). check_release (cut d x s k) ≡ none) g.1 g.2 (erase_many_released d ok ns k)
ask_released (record_piece r x) d ok room new ss e k h = piece_released r x d room new ss ok e k h
ask_released (record_close r) d ok room new ss e k h = close_released r d room new ss ok e k h

-- ---- no names

-- "Names may be none": it is accepted, with an empty list, and nothing changes
pub none-asked : (d : List ℕ) → check_disk d ≡ none → (abuf buf : List ℕ) → erase_many d [] abuf buf ≡ erased (done 0 0) d abuf buf
unfolding disk_after_erases tab
none-asked d ok abuf buf =
    many-gives d [] abuf buf (record { disk = ok; tens = (0, refl); answered = omega arith; list = rw named (omega arith) })
    ∙ ap (λ (ss : List ℕ). erased (done (length ss) 0) d (put abuf 0 []) (put buf 0 ss)) named
    ∙ ap₂ (λ (x y : List ℕ). erased (done 0 0) d x y) (sym (put-none abuf 0 [])) (sym (put-none buf 0 []))
  where
    named : sectors_of_all d [] ≡ []
    named = sectors-none (is_erased d d) (gone-never d)

-- ---- other spellings

module _ (d ms ns : List ℕ) (long : length ms ≡ length ns) (same : (k : ℕ) → k < how_many ns → Same (name_at ms k) (name_at ns k)) where
  spelt_after : (k : ℕ) → k ≤ how_many ns → disk_after_erases d ms k ≡ disk_after_erases d ns k
  unfolding disk_after_erases
  spelt_after zero h = refl
  spelt_after (suc k) h =
      ap (λ (x : List ℕ). disk_or x (single_erase x (name_at ms k))) (spelt_after k (omega arith))
      ∙ ap (disk_or (disk_after_erases d ns k)) (spelt_erase (disk_after_erases d ns k) (name_at ms k) (name_at ns k) (same k (omega arith)) 1)

  spelt_answers : answers_to d ms ≡ answers_to d ns
  unfolding answer_at
  spelt_answers =
      ap (λ (l : ℕ). tab (l / 10) (answer_at d ms)) long
      ∙ tab_cong (how_many ns) (answer_at d ms) (answer_at d ns)
      (λ k h.
      ap (λ (x : List ℕ). result_number (single_erase x (name_at ms k))) (spelt_after k (omega arith))
      ∙ ap result_number (spelt_erase (disk_after_erases d ns k) (name_at ms k) (name_at ns k) (same k h) 1))

  spelt_run : (answers room : ℕ) → run_many ms d answers room ≡ run_many ns d answers room
  unfolding run_many many_reply
  spelt_run answers room =
      ap₂
      (λ (l : ℕ) (new : List ℕ).
      checked_result (check_disk d else row 23 0 (not (eqb (l % 10) 0)) else row 20 0 (ltb answers (l / 10)) else row 20 0 (ltb room (length (sectors_with (is_erased d new)))))
      (new_disk new (sectors_with (is_erased d new))))
      long
      (ap (λ (l : ℕ). disk_after_erases d ms (l / 10)) long ∙ spelt_after (how_many ns) (omega arith))

  -- names in other capitals get the same answers, disk and list, and the same refusal
  pub spelt_erase_many : (abuf buf : List ℕ) → erase_many d ms abuf buf ≡ erase_many d ns abuf buf
  unfolding erase_many
  spelt_erase_many abuf buf =
      ap (λ (x : Result). erased_by_result x d ms abuf buf) (spelt_run (length abuf) (length buf)) ∙ by (run_many ns d (length abuf) (length buf))
    where
      by : (x : Result) → erased_by_result x d ms abuf buf ≡ erased_by_result x d ns abuf buf
      by (refused_result r) = refl
      by (new_disk new ss) = ap (λ (x : List ℕ). erased (done (length ss) 0) new (put abuf 0 x) (put buf 0 ss)) spelt_answers

-- ---- disks with one view

module _ (d e : List ℕ) (q : view d ≡ view e) where
  same_check : check_disk d ≡ check_disk e
  unfolding check_disk
  same_check = ap check_view q

  same-directory : directory d ≡ directory e
  same-directory = sym (view-slots d) ∙ ap view_slots q ∙ view-slots e

  module _ (ok : check_disk d ≡ none) (ns : List ℕ) where
    oke : check_disk e ≡ none
    oke = sym same_check ∙ ok

    -- the same answers and the same sectors
    pub view-answers : answers_to d ns ≡ answers_to e ns
    view-answers = sym (answers-same d ok ns) ∙ ap (λ (v : Directory). tab (how_many ns) (erased_map_answer v ns)) same-directory ∙ answers-same e oke ns

    pub view-sectors : sectors_of_all d ns ≡ sectors_of_all e ns
    view-sectors = sym (sectors-same d ok ns) ∙ ap (λ (v : Directory). sectors_with (has (erased_map v ns (how_many ns)))) same-directory ∙ sectors-same e oke ns

    -- and one view is left
    pub view-left : view (erased_all d ns) ≡ view (erased_all e ns)
    view-left =
        (fewer_left d ok (erased_all d ns) (after_fewer d ok ns (how_many ns))).sees
        ∙ ap₂ (λ (l : View) (g : ℕ → Bool). without l g slots) q (fun_ext (λ i. sym (erased-gone d ok ns (how_many ns) i) ∙ ap (λ (v : Directory). has (erased_map v ns (how_many ns)) i) same-directory ∙ erased-gone e oke ns (how_many ns) i))
        ∙ sym (fewer_left e oke (erased_all e ns) (after_fewer e oke ns (how_many ns))).sees

  -- the same refusal, or none of both
  pub view-reply : (ns : List ℕ) (answers room : ℕ) → many_reply d ns answers room ≡ many_reply e ns answers room
  unfolding many_reply
  view-reply ns answers room = by (check_disk d) refl
    where
      rest : List ℕ → Reply
      rest ss = row 23 0 (not_tens ns) else row 20 0 (ltb answers (how_many ns)) else row 20 0 (ltb room (length ss))

      by : (r : Reply) → check_disk d ≡ r → (check_disk d else rest (sectors_of_all d ns)) ≡ (check_disk e else rest (sectors_of_all e ns))
      by (some r) p = rw (p, sym same_check ∙ p)
      by none p = ap₂ (λ (t : Reply) (ss : List ℕ). t else rest ss) same_check (view-sectors p ns)
