-- The map of the slots erased so far, over the disk as it was, says what single erases in order answer and leave.
use Prim.Native.Nat.{ℕ, zero, suc, ◌+◌, ◌*◌, ◌/◌, ◌%◌, ◌^◌, ◌≤◌, ◌<◌}
use mathlib.Core.Path.{◌≡◌, refl, sym, ap, ap₂, ◌∙◌, subst, fun_ext}
use mathlib.Core.Bool.{Bool, true, false, cond, ◌&&◌, ◌||◌, false≢true}
use mathlib.Core.List.{List, [], ◌∷◌}
use mathlib.Core.Option.{Option, none, some, some-ne-none}
use native.Mathlib.Nat.{add-zero, zero-div}
use native.Mathlib.Omega.{arith}
use borrow.Author.Tests.{eqb-true, ne_eqb, lt-ltb}
use lib.Dec.{eqb, ltb}
use lib.ListN.{length, get_or, replicate, length-replicate}
use Rattle.buffers.specs.Bytes.{tab, put}
use Rattle.buffers.proofs.Lists.{tab_cong}
use Rattle.maps.specs.Bits.{has, with_bit}
use Rattle.maps.proofs.Laws.{has_marked, length_marked}
use Rattle.refusals.specs.Order.{Refusal, refuse}
use Rattle.slots.specs.Slot.{protected}
use Rattle.names.specs.Name.{askable}
use Rattle.chains.specs.File.{File}
use Rattle.directory.specs.Places.{slots, slot_at}
use Rattle.directory.specs.Directory.{fold_option, Directory, directory}
use Rattle.directory.specs.Find.{find}
use Rattle.disk.specs.View.{View, view, view_slots}
use Rattle.disk.specs.Accepted.{AcceptedDisk}
use Rattle.disk.specs.Check.{check_disk}
use Rattle.disk.proofs.View.{view-slots}
use Rattle.disk.proofs.Accepted.{accepted_disk_only}
use Rattle.files.specs.Calls.{file_at}
use Rattle.trees.specs.Tree.{occupied}
use Rattle.steps.specs.Steps.{apply, put_all, numbers}
use Rattle.plans.specs.Plan.{with_slot, put_steps, refused_result, new_disk, plan_of, run_change}
use Rattle.plans.specs.Allowed.{NamedSlot}
use Rattle.plans.proofs.Frame.{disk-accepted, slots-some, holds}
use Rattle.plans.proofs.Named.{found-file}
use Rattle.erase_many.specs.EraseMany.{name_at, how_many, single_erase, result_number, disk_or, disk_after_erases, answer_at, answers_to, erased_all, is_erased, sectors_with, sectors_of_all}
use Rattle.nesting.specs.Steps.{not_erased}
use Rattle.erase_many.specs.ErasedMap.{none_erased, erase_answer, name_answer, erased_with, erased_map, erased_map_answer, slots_cleared}
use Rattle.erase_many.proofs.Cleared.{Lives, without, clear_view, all_emptied}
use Rattle.erase_many.proofs.Listed.{sectors_cong}
use Rattle.erase_many.proofs.Meaning.{after_fewer}

-- ---- a single erase, by what it tests

-- it is refused with the answer, which is not 0; or the answer is 0 and the slot found is emptied
data EraseResult (x n : List ℕ) (a : ℕ) : Type 0 where
  refuses : (r : Refusal) → single_erase x n ≡ refused_result r → r.number ≡ a → (a ≡ 0 → ⊥) → EraseResult x n a
  erases : (i : ℕ) (f : File) (ss : List ℕ) → find (view_slots (view x)) n ≡ some i → (view x).files i ≡ some f → single_erase x n ≡ new_disk (put x (slot_at i) (0 ∷ [])) ss → a ≡ 0 → EraseResult x n a

module _ (x n : List ℕ) (ok : check_disk x ≡ none) where
  abbrev v : Directory
  v = view_slots (view x)

  run_12 : askable n ≡ false → single_erase x n ≡ refused_result (refuse 12 0)
  unfolding run_change plan_of
  run_12 a = rw (ok, a)

  module _ (a : askable n ≡ true) where
    pub run_15 : find (view_slots (view x)) n ≡ none → single_erase x n ≡ refused_result (refuse 15 0)
    unfolding run_change plan_of
    run_15 e = rw (ok, a, e)

    module _ (i : ℕ) (e : find v n ≡ some i) where
      run_17 : protected (file_at (view x) i).bytes ≡ true → single_erase x n ≡ refused_result (refuse 17 (suc i))
      unfolding run_change plan_of
      run_17 p = rw (ok, a, e, p)

      module _ (p : protected (file_at (view x) i).bytes ≡ false) where
        run_29 : occupied v i (file_at (view x) i).bytes ≡ true → single_erase x n ≡ refused_result (refuse 29 (suc i))
        unfolding run_change plan_of
        run_29 o = rw (ok, a, e, p, o)

        run_0 : occupied v i (file_at (view x) i).bytes ≡ false
            → single_erase x n ≡ new_disk (put x (slot_at i + 0) (0 ∷ [])) (numbers (put_steps (view x) i (file_at (view x) i) 0 (0 ∷ [])))
        unfolding run_change plan_of numbers apply put_all
        run_0 o = rw (ok, a, e, p, o)

  alone_by : EraseResult x n (name_answer v n)
  unfolding name_answer erase_answer
  alone_by = name (askable n) refl
    where
      found : askable n ≡ true → (i : ℕ) → find v n ≡ some i → EraseResult x n (fold_option 15 (erase_answer v i) (v i))
      found a i e = rw here (kind (protected f.bytes) refl)
        where
          f : File
          f = file_at (view x) i

          there : NamedSlot x n i (file_at (view x) i)
          there = found-file x n i e

          here : v i ≡ some f.bytes
          here = slots-some (view x) i (file_at (view x) i) there.here

          place : put x (slot_at i + 0) (0 ∷ []) ≡ put x (slot_at i) (0 ∷ [])
          place = ap (λ (p : ℕ). put x p (0 ∷ [])) (add-zero (slot_at i))

          vacant : protected f.bytes ≡ false → (o : Bool) → occupied v i f.bytes ≡ o → EraseResult x n (cond o 29 0)
          vacant p true o = refuses (refuse 29 (suc i)) (run_29 a i e p o) refl (λ z. omega arith)
          vacant p false o =
              erases i f (numbers (put_steps (view x) i f 0 (0 ∷ []))) e there.here
              (run_0 a i e p o ∙ ap (λ (y : List ℕ). new_disk y (numbers (put_steps (view x) i f 0 (0 ∷ [])))) place) refl

          kind : (p : Bool) → protected f.bytes ≡ p → EraseResult x n (cond p 17 (cond (occupied v i f.bytes) 29 0))
          kind true p = refuses (refuse 17 (suc i)) (run_17 a i e p) refl (λ z. omega arith)
          kind false p = vacant p (occupied v i f.bytes) refl

      search : askable n ≡ true → (o : Option ℕ) → find v n ≡ o → EraseResult x n (fold_option 15 (λ i. fold_option 15 (erase_answer v i) (v i)) o)
      search a none e = refuses (refuse 15 0) (run_15 a e) refl (λ z. omega arith)
      search a (some i) e = found a i e

      name : (t : Bool) → askable n ≡ t → EraseResult x n (cond t (fold_option 15 (λ i. fold_option 15 (erase_answer v i) (v i)) (find v n)) 12)
      name true a = search a (find v n) refl
      name false a = refuses (refuse 12 0) (run_12 a) refl (λ z. omega arith)

-- ---- the map as it grows

-- after some names: the disk x, and the map m over the disk d as it was
pub record ErasedMapOf (d m x : List ℕ) : Type 0 where
  pub long : slots ≤ 8 * length m
  pub sees : view x ≡ without (view d) (has m) slots
  pub live : Lives d (has m)

slots-left : (d m x : List ℕ) → ErasedMapOf d m x → view_slots (view x) ≡ not_erased (directory d) m
unfolding view_slots not_erased without
slots-left d m x k = ap view_slots k.sees ∙ fun_ext (λ i. by i (has m i) refl)
  where
    bytes : Option File → Option (List ℕ)
    bytes o = fold_option none (λ f. some f.bytes) o

    by : (i : ℕ) (t : Bool) → has m i ≡ t → bytes (cond (t && ltb i slots) none ((view d).files i)) ≡ cond t none (directory d i)
    by i false p = ap (λ (u : Directory). u i) (view-slots d)
    by i true p = let w = k.live i p in rw (lt-ltb i slots (holds d i w.0 w.1).here)

without_mark : (l : View) (m : List ℕ) (i : ℕ) → i < slots → slots ≤ 8 * length m → with_slot (without l (has m) slots) i none ≡ without l (has (with_bit m i)) slots
unfolding without with_slot
without_mark l m i h k = λ q. record { long = l.long; label = l.label; files = λ j. by j (eqb j i) refl q }
  where
    now : (j : ℕ) (t : Bool) → eqb j i ≡ t → has (with_bit m i) j ≡ (t || has m j)
    now j t q = has_marked m i j (omega arith) ∙ ap (λ (b : Bool). b || has m j) q

    by : (j : ℕ) (t : Bool) → eqb j i ≡ t → cond t none (cond (has m j && ltb j slots) none (l.files j)) ≡ cond (has (with_bit m i) j && ltb j slots) none (l.files j)
    by j true q =
        let z : j ≡ i = eqb-true j i q in
        rw (now j true q, lt-ltb j slots (omega arith))
    by j false q = ap (λ (b : Bool). cond (b && ltb j slots) none (l.files j)) (sym (now j false q))

-- no slot is erased at first
zeros-at : (n k : ℕ) → ◌≡◌ {A = ℕ} (get_or (replicate n 0) k 0) 0
zeros-at zero k = refl
zeros-at (suc n) zero = refl
zeros-at (suc n) (suc k) = zeros-at n k

none-bit : (i : ℕ) → has none_erased i ≡ false
unfolding has none_erased
none-bit i = ap (λ (x : ℕ). eqb (x / 2 ^ (i % 8) % 2) 1) (zeros-at 98 (i / 8)) ∙ rw zero-div

none-linked : (d : List ℕ) → ErasedMapOf d none_erased d
unfolding none_erased without
none-linked d = record {
  long = omega (arith, length-replicate {A = ℕ} 98 0);
  sees = sym (λ q. record { long = (view d).long; label = (view d).label; files = λ i. by i q });
  live = λ i e. absurd (false≢true (sym (none-bit i) ∙ e));
}
  where
    by : (i : ℕ) → cond (has none_erased i && ltb i slots) none ((view d).files i) ≡ (view d).files i
    by i = rw (none-bit i)

cleared_cong : (d : List ℕ) (e f : ℕ → Bool) → ((i : ℕ) → e i ≡ f i) → (m : ℕ) → slots_cleared d e m ≡ slots_cleared d f m
unfolding slots_cleared
cleared_cong d e f h zero = refl
cleared_cong d e f h (suc m) = ap₂ (λ (t : Bool) (x : List ℕ). cond t (put x (slot_at m) (0 ∷ [])) x) (h m) (cleared_cong d e f h m)

module _ (d : List ℕ) (ok : check_disk d ≡ none) where
  linked-accepted : (m x : List ℕ) → ErasedMapOf d m x → AcceptedDisk (view x)
  linked-accepted m x k =
      let a = all_emptied d (disk-accepted d ok) (has m) k.live slots in
      subst AcceptedDisk (a.sees ∙ sym k.sees) a.ok

  linked-ok : (m x : List ℕ) → ErasedMapOf d m x → check_disk x ≡ none
  unfolding check_disk
  linked-ok m x k = accepted_disk_only (view x) (linked-accepted m x k)

  -- one name
  record Next (m x n : List ℕ) : Type 0 where
    linked : ErasedMapOf d (erased_with (directory d) m n) (disk_or x (single_erase x n))
    answers : result_number (single_erase x n) ≡ name_answer (not_erased (directory d) m) n

  next : (m x n : List ℕ) → ErasedMapOf d m x → Next m x n
  unfolding erased_with without
  next m x n k = by (alone_by x n (linked-ok m x k))
    where
      v : Directory
      v = not_erased (directory d) m

      same : view_slots (view x) ≡ v
      same = slots-left d m x k

      settles : name_answer (view_slots (view x)) n ≡ name_answer v n
      settles = ap (λ (u : Directory). name_answer u n) same

      grown : (i : ℕ) (f : File) → (view x).files i ≡ some f → ErasedMapOf d (with_bit m i) (put x (slot_at i) (0 ∷ []))
      grown i f h = record {
        long = rw length_marked k.long;
        sees = clear_view x (linked-accepted m x k) i f h ∙ ap (λ (l : View). with_slot l i none) k.sees ∙ without_mark (view d) m i (holds x i f h).here k.long;
        live = λ j q. lives j (eqb j i) refl (sym (has_marked m i j (omega (arith, k.long, (holds x i f h).here))) ∙ q);
      }
        where
          was : (o : Bool) → cond o none ((view d).files i) ≡ some f → (view d).files i ≡ some f
          was true w = absurd (some-ne-none f (sym w))
          was false w = w

          lives : (j : ℕ) (t : Bool) → eqb j i ≡ t → (eqb j i || has m j) ≡ true → (g : File) × ((view d).files j ≡ some g)
          lives j true p q = rw (eqb-true j i p) (f, was (has m i && ltb i slots) (ap (λ (l : View). l.files i) (sym k.sees) ∙ h))
          lives j false p q = k.live j (sym (ap (λ (t : Bool). t || has m j) p) ∙ q)

      by : EraseResult x n (name_answer (view_slots (view x)) n) → Next m x n
      by (refuses r e q z) = record {
        linked = rw (e, ne_eqb (name_answer v n) 0 (λ w. z (settles ∙ w))) k;
        answers = ap result_number e ∙ q ∙ settles;
      }
      by (erases i f ss p h e z) = record {
        linked = rw (e, sym settles ∙ z, ap (λ (u : Directory). find u n) (sym same) ∙ p) (grown i f h);
        answers = ap result_number e ∙ sym z ∙ settles;
      }

  -- all of them
  linked_all : (ns : List ℕ) (k : ℕ) → ErasedMapOf d (erased_map (directory d) ns k) (disk_after_erases d ns k)
  unfolding erased_map disk_after_erases
  linked_all ns zero = none-linked d
  linked_all ns (suc k) = (next (erased_map (directory d) ns k) (disk_after_erases d ns k) (name_at ns k) (linked_all ns k)).linked

  pub answer_same : (ns : List ℕ) (k : ℕ) → erased_map_answer (directory d) ns k ≡ answer_at d ns k
  unfolding erased_map_answer answer_at
  answer_same ns k = sym (next (erased_map (directory d) ns k) (disk_after_erases d ns k) (name_at ns k) (linked_all ns k)).answers

  -- the map is what is gone
  pub erased-gone : (ns : List ℕ) (k i : ℕ) → has (erased_map (directory d) ns k) i ≡ is_erased d (disk_after_erases d ns k) i
  unfolding is_erased without
  erased-gone ns k i =
      sym (ap (λ (l : View). fold_option false (λ f. fold_option true (λ g. false) (l.files i)) ((view d).files i)) w.sees ∙ by (has m i) refl ((view d).files i) refl)
    where
      m : List ℕ
      m = erased_map (directory d) ns k

      w : ErasedMapOf d m (disk_after_erases d ns k)
      w = linked_all ns k

      by : (t : Bool) → has m i ≡ t → (o : Option File) → (view d).files i ≡ o → fold_option false (λ f. fold_option true (λ g. false) (cond (t && ltb i slots) none o)) o ≡ t
      by true p none q = let a = w.live i p in absurd (some-ne-none a.0 (sym a.1 ∙ q))
      by true p (some f) q = rw (lt-ltb i slots (holds d i f q).here)
      by false p none q = refl
      by false p (some f) q = refl

  -- ---- what the code writes

  pub answers-same : (ns : List ℕ) → tab (how_many ns) (erased_map_answer (directory d) ns) ≡ answers_to d ns
  answers-same ns = tab_cong (how_many ns) (erased_map_answer (directory d) ns) (answer_at d ns) (λ k h. answer_same ns k)

  pub sectors-same : (ns : List ℕ) → sectors_with (has (erased_map (directory d) ns (how_many ns))) ≡ sectors_of_all d ns
  sectors-same ns = sectors_cong (has (erased_map (directory d) ns (how_many ns))) (is_erased d (erased_all d ns)) (λ i h. erased-gone ns (how_many ns) i)

  pub disk-same : (ns : List ℕ) → slots_cleared d (has (erased_map (directory d) ns (how_many ns))) slots ≡ erased_all d ns
  disk-same ns =
      cleared_cong d (has (erased_map (directory d) ns (how_many ns))) (is_erased d (erased_all d ns)) (erased-gone ns (how_many ns)) slots
      ∙ sym (after_fewer d ok ns (how_many ns))
