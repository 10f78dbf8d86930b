-- Each plan by its rows: what it gives is the first row that holds, or none holds.
use Prim.Native.Nat.{ℕ, suc, ◌+◌}
use mathlib.Core.Path.{◌≡◌, refl, sym, ap, ◌∙◌, subst}
use mathlib.Core.Bool.{Bool, true, false, cond, not, ◌&&◌}
use mathlib.Core.List.{List, [], ◌∷◌}
use mathlib.Core.Logic.{inl, inr}
use mathlib.Core.Option.{Option, none, some}
use borrow.Author.Tests.{ltb-false}
use lib.Dec.{leb, ltb}
use lib.ListN.{length, get_or}
use Rattle.buffers.proofs.Counts.{any_some, none_any}
use Rattle.refusals.specs.Order.{Refusal, refuse, Reply, ◌else◌, row, SlotRow, row_at, NoRow, FirstSlotRow}
use Rattle.slots.specs.Slot.{protected, carried, is_directory, count_of, sectors_for}
use Rattle.names.specs.Name.{askable, padded}
use Rattle.chains.specs.File.{File}
use Rattle.directory.specs.Places.{slot_count}
use Rattle.directory.specs.Directory.{fold_option}
use Rattle.surveys.specs.Survey.{free}
use Rattle.directory.specs.Find.{find}
use Rattle.disk.specs.View.{View, view_slots, view_tracks}
use Rattle.disk.specs.Accepted.{AcceptedDisk}
use Rattle.files.specs.Calls.{no_file, file_at, file_named}
use Rattle.files.specs.Refused.{some_named, slot_named, start_outside, row15, row20}
use Rattle.files.proofs.Refused.{some_named_lem, none_named, outside_is}
use Rattle.steps.specs.Steps.{Step, apply, numbers}
use Rattle.steps.proofs.Steps.{length-numbers}
use Rattle.trees.specs.Tree.{occupied}
use Rattle.plans.specs.Change.{SaveRequest, Mark, Change, save, erase, rename, mark, gather, marked_byte, between, usable}
use Rattle.plans.specs.Saving.{taken_bits, lowest_slot, taken_slot}
use Rattle.plans.specs.Gathering.{scattered, up_from, lowest_run}
use Rattle.plans.specs.Plan.{put_steps, dir_sectors, save_steps, gather_steps, Plan, refused_plan, planned_steps, plan_unless, plan_by_name, taken_at, name_taken, respells, taken_by, rename_taken, is_protected, is_occupied, save_reply, move_plan, plan_of, Result, refused_result, new_disk, plan_result}
use Rattle.plans.specs.Refused.{some_free, row14, row16, rename_row16, row17, row29, row18, row19, save_list_length, gather_row13, row32, gather_list_length, change_rows}
use Rattle.plans.specs.Allowed.{sectors_taken}
use Rattle.plans.proofs.Free.{lowest-slot, no_slot, taken_long}
use Rattle.plans.proofs.Saved.{save-long}
use Rattle.plans.proofs.Moved.{gather-long}

-- ---- the first row that holds

-- a result is the first row that holds, or none holds
pub data ResultByRows (rs : List SlotRow) (x : Result) : Type 0 where
  stops : (r : Refusal) → FirstSlotRow r rs → x ≡ refused_result r → ResultByRows rs x
  goes : NoRow rs → (new ss : List ℕ) → x ≡ new_disk new ss → ResultByRows rs x

here : (n s : ℕ) (t : Bool) (rs : List SlotRow) → t ≡ true → ResultByRows (row_at n s t ∷ rs) (refused_result (refuse n s))
here n s t rs e = stops (refuse n s) (inl (e, refl)) refl

later : (n s : ℕ) (t : Bool) (rs : List SlotRow) (x : Result) → t ≡ false → ResultByRows rs x → ResultByRows (row_at n s t ∷ rs) x
later n s t rs x e (stops r f w) = stops r (inr (e, f)) w
later n s t rs x e (goes c new ss w) = goes (e, c) new ss w

-- ---- the tests

module _ (l : View) (n : List ℕ) where
  row17-is : (i : ℕ) → find (view_slots l) n ≡ some i → row17 l n ≡ row_at 17 (suc i) (protected (file_at l i).bytes)
  unfolding slot_named file_named
  row17-is i e = ap (λ (o : Option ℕ). row_at 17 (fold_option 0 suc o) (protected (fold_option no_file (file_at l) o).bytes)) e

  row29-is : (i : ℕ) → find (view_slots l) n ≡ some i → row29 l n ≡ row_at 29 (suc i) (occupied (view_slots l) i (file_at l i).bytes)
  unfolding slot_named file_named
  row29-is i e =
      ap (λ (o : Option ℕ). row_at 29 (fold_option 0 suc o) (fold_option false (λ j. occupied (view_slots l) j (fold_option no_file (file_at l) o).bytes) o)) e

module _ (l : View) where
  abbrev is_free_lem : ℕ → Bool
  is_free_lem i = fold_option true (λ s. false) (view_slots l i)

  pub some-free : (i : ℕ) → lowest_slot (view_tracks l) (view_slots l) ≡ some i → some_free l ≡ true
  unfolding some_free
  some-free i e =
      let w = lowest-slot (view_tracks l) (view_slots l) i e in
      any_some (slot_count (view_tracks l)) is_free_lem i w.below (ap (fold_option true (λ s. false)) w.empty)

  pub none_free : lowest_slot (view_tracks l) (view_slots l) ≡ none → some_free l ≡ false
  unfolding some_free
  none_free e =
      none_any (slot_count (view_tracks l)) is_free_lem (λ k h. ap (fold_option true (λ s. false)) (no_slot (view_tracks l) (view_slots l) e k h).1)

  pub no_free : fold_option true (λ i. false) (lowest_slot (view_tracks l) (view_slots l)) ≡ not (some_free l)
  no_free = by (lowest_slot (view_tracks l) (view_slots l)) refl
    where
      by : (o : Option ℕ) → lowest_slot (view_tracks l) (view_slots l) ≡ o → fold_option true (λ i. false) o ≡ not (some_free l)
      by none q = sym (ap not (none_free q))
      by (some i) q = sym (ap not (some-free i q))

-- ---- a plan by its rows

module _ (d : List ℕ) (room : ℕ) (old : ℕ → Bool) where
  abbrev pub By : List SlotRow → Plan → Type 0
  By rs q = ResultByRows rs (plan_result d room q)

  by_test : (n s : ℕ) (t : Bool) (rs : List SlotRow) (q : Plan) → (t ≡ false → By rs q) → By (row_at n s t ∷ rs) (plan_unless (row n s t) q)
  by_test n s true rs q k = here n s true rs refl
  by_test n s false rs q k = later n s false rs (plan_result d room q) refl (k refl)

  by_else : (a b : Reply) (rs : List SlotRow) (q : Plan) → By rs (plan_unless a (plan_unless b q)) → By rs (plan_unless (a else b) q)
  by_else none b rs q w = w
  by_else (some r) b rs q w = w

  by_room : (sts : List (Step View)) (k : ℕ) → length (numbers sts) ≡ k → By (row20 room k ∷ []) (planned_steps sts)
  by_room sts k e = by (ltb room k) refl (ap (ltb room) e)
    where
      by : (t : Bool) → ltb room k ≡ t → ltb room (length (numbers sts)) ≡ ltb room k → By (row20 room k ∷ []) (planned_steps sts)
      by true q w = stops (refuse 20 0) (inl (q, refl)) (rw (w ∙ q))
      by false q w = goes (q, tt) (apply d sts) (numbers sts) (rw (w ∙ q))

  module _ (l : View) where
    by_found : (n : List ℕ) (at : ℕ → File → Plan) (rs : List SlotRow) → ((i : ℕ) → find (view_slots l) n ≡ some i → By rs (at i (file_at l i)))
        → By (row15 l n ∷ rs) (plan_by_name l n at)
    by_found n at rs k = by (find (view_slots l) n) refl
      where
        by : (o : Option ℕ) → find (view_slots l) n ≡ o → By (row15 l n ∷ rs) (fold_option (refused_plan (refuse 15 0)) (λ i. at i (file_at l i)) o)
        by none q = here 15 0 (not (some_named l n)) rs (ap not (none_named l n q))
        by (some i) q = later 15 0 (not (some_named l n)) rs (plan_result d room (at i (file_at l i))) (ap not (some_named_lem l n i q)) (k i q)

    by_taken : (n : List ℕ) (rs : List SlotRow) (q : Plan) → By rs q → By (row16 l n ∷ rs) (plan_unless (name_taken (view_slots l) n) q)
    unfolding slot_named
    by_taken n rs q k = by (find (view_slots l) n) refl
      where
        by : (o : Option ℕ) → find (view_slots l) n ≡ o
            → By (row_at 16 (fold_option 0 suc o) (some_named l n) ∷ rs) (plan_unless (fold_option none (λ i. some (refuse 16 (suc i))) o) q)
        by none e = later 16 0 (some_named l n) rs (plan_result d room q) (none_named l n e) k
        by (some i) e = here 16 (suc i) (some_named l n) rs (some_named_lem l n i e)

    by_renamed : (n new : List ℕ) (i : ℕ) → find (view_slots l) n ≡ some i → (rs : List SlotRow) (q : Plan) → By rs q
        → By (rename_row16 l n new ∷ rs) (plan_unless (rename_taken (view_slots l) i (file_at l i) new) q)
    unfolding slot_named file_named taken_by
    by_renamed n new i e rs q k = rw e (by (find (view_slots l) new) refl)
      where
        at : (j : ℕ) (t : Bool) → By (row_at 16 (suc j) (not t) ∷ rs) (plan_unless (taken_at (cond t none (some j))) q)
        at j true = later 16 (suc j) false rs (plan_result d room q) refl k
        at j false = here 16 (suc j) true rs refl

        by : (o : Option ℕ) → find (view_slots l) new ≡ o
            → By (row_at 16 (fold_option 0 suc o) (some_named l new && not (respells (suc i) (fold_option 0 suc o) (file_at l i) new)) ∷ rs)
            (plan_unless (taken_at (fold_option none (λ j. cond (respells (suc i) (suc j) (file_at l i) new) none (some j)) o)) q)
        by none z = later 16 0 _ rs (plan_result d room q) (ap (λ (t : Bool). t && not (respells (suc i) 0 (file_at l i) new)) (none_named l new z)) k
        by (some j) z = rw (some_named_lem l new j z) (at j (respells (suc i) (suc j) (file_at l i) new))

    by_protected : (n : List ℕ) (i : ℕ) → find (view_slots l) n ≡ some i → (rs : List SlotRow) (q : Plan) → By rs q
        → By (row17 l n ∷ rs) (plan_unless (is_protected i (file_at l i)) q)
    by_protected n i e rs q k =
        subst (λ (r : SlotRow). By (r ∷ rs) (plan_unless (is_protected i (file_at l i)) q)) (sym (row17-is l n i e))
        (by_test 17 (suc i) (protected (file_at l i).bytes) rs q (λ z. k))

    by_occupied : (n : List ℕ) (i : ℕ) → find (view_slots l) n ≡ some i → (rs : List SlotRow) (q : Plan) → By rs q
        → By (row29 l n ∷ rs) (plan_unless (is_occupied (view_slots l) i (file_at l i)) q)
    by_occupied n i e rs q k =
        subst (λ (r : SlotRow). By (r ∷ rs) (plan_unless (is_occupied (view_slots l) i (file_at l i)) q)) (sym (row29-is l n i e))
        (by_test 29 (suc i) (occupied (view_slots l) i (file_at l i).bytes) rs q (λ z. k))

    by_touch : (i : ℕ) (f : File) (o : ℕ) (y : List ℕ) → By (row20 room 1 ∷ []) (planned_steps (put_steps l i f o y))
    by_touch i f o y = by_room (put_steps l i f o y) 1 (length-numbers (put_steps l i f o y))

    -- ---- each change

    by_save : AcceptedDisk l → (w : SaveRequest) → By (change_rows old (save w) l room) (plan_of old (save w) l)
    unfolding change_rows plan_of save_reply save_list_length
    by_save ok w =
        by_else (row 12 0 (not (usable w.name))) (r13 else r14 else r16 else r18 else r19) _ steps
        (by_test 12 0 (not (usable w.name)) _ _
        (λ a. by_else r13 (r14 else r16 else r18 else r19) _ steps
        (by_test 13 0 (not (carried w.kind)) _ _
        (λ b. by_else r14 (r16 else r18 else r19) _ steps
        (subst (λ (t : Bool). By (row14 w ∷ rows16) (plan_unless (row 14 0 t) (plan_unless (r16 else r18 else r19) steps))) (sym (outside_is w.page w.offset))
        (by_test 14 0 (start_outside w.page w.offset) _ _
        (λ c. by_else r16 (r18 else r19) _ steps
        (by_taken w.name _ (plan_unless (r18 else r19) steps)
        (by_else r18 r19 _ steps
        (subst (λ (t : Bool). By (row18 l ∷ rows19) (plan_unless (row 18 0 t) (plan_unless r19 steps))) (sym (no_free l))
        (by_test 18 0 (not (some_free l)) _ _
        (λ e. by_test 19 0 (ltb (free (view_tracks l) (view_slots l)) sectors_taken) _ _
        (λ f. by_room (save_steps (old slot) l slot w bits) named
        (save-long (old slot) l slot w bits ∙ ap (λ (n : ℕ). n + length (dir_sectors (old slot) slot)) (taken_long l ok w (ltb-false (free (view_tracks l) (view_slots l)) sectors_taken f))))))))))))))))
      where
        sectors_taken : ℕ
        sectors_taken = sectors_for (length w.body)

        slot : ℕ
        slot = taken_slot (view_tracks l) (view_slots l)

        bits : List ℕ
        bits = taken_bits (view_tracks l) (view_slots l) w

        steps : Plan
        steps = planned_steps (save_steps (old slot) l slot w bits)

        named : ℕ
        named = sectors_taken + length (dir_sectors (old slot) slot)

        r13 : Reply
        r13 = row 13 0 (not (carried w.kind))

        r14 : Reply
        r14 = row 14 0 (not (leb w.page 31 && between 32768 w.offset 49151))

        r16 : Reply
        r16 = name_taken (view_slots l) w.name

        r18 : Reply
        r18 = row 18 0 (fold_option true (λ i. false) (lowest_slot (view_tracks l) (view_slots l)))

        r19 : Reply
        r19 = row 19 0 (ltb (free (view_tracks l) (view_slots l)) sectors_taken)

        rows19 : List SlotRow
        rows19 = row19 l w ∷ row20 room named ∷ []

        rows16 : List SlotRow
        rows16 = row16 l w.name ∷ row18 l ∷ rows19

    by_erase : (n : List ℕ) → By (change_rows old (erase n) l room) (plan_of old (erase n) l)
    unfolding change_rows plan_of
    by_erase n =
        by_test 12 0 (not (askable n)) _ _
        (λ a. by_found n (λ i f. plan_unless (is_protected i f else is_occupied (view_slots l) i f) (planned_steps (put_steps l i f 0 (0 ∷ [])))) _
        (λ i e. by_else (is_protected i (file_at l i)) (is_occupied (view_slots l) i (file_at l i)) _ (planned_steps (put_steps l i (file_at l i) 0 (0 ∷ [])))
        (by_protected n i e _ _ (by_occupied n i e _ _ (by_touch i (file_at l i) 0 (0 ∷ []))))))

    by_rename : (n new : List ℕ) → By (change_rows old (rename n new) l room) (plan_of old (rename n new) l)
    unfolding change_rows plan_of
    by_rename n new =
        by_test 12 0 (not (askable n && usable new)) _ _
        (λ a. by_found n (λ i f. plan_unless (rename_taken (view_slots l) i f new else is_protected i f) (planned_steps (put_steps l i f 1 (padded new)))) _
        (λ i e. by_else (rename_taken (view_slots l) i (file_at l i) new) (is_protected i (file_at l i)) _ (planned_steps (put_steps l i (file_at l i) 1 (padded new)))
        (by_renamed n new i e _ _ (by_protected n i e _ _ (by_touch i (file_at l i) 1 (padded new))))))

    by_mark : (m : Mark) (n : List ℕ) → By (change_rows old (mark m n) l room) (plan_of old (mark m n) l)
    unfolding change_rows plan_of
    by_mark m n =
        by_test 12 0 (not (askable n)) _ _
        (λ a. by_found n (λ i f. planned_steps (put_steps l i f 0 (marked_byte m (get_or f.bytes 0 0) ∷ []))) _ (λ i e. by_touch i (file_at l i) 0 _))

    -- of the file in slot i
    by_move : (i : ℕ) (f : File) → By (row32 l f ∷ row20 room (gather_list_length f) ∷ []) (move_plan l i f)
    unfolding move_plan gather_list_length numbers
    by_move i f = by (scattered f) (lowest_run (view_tracks l) (view_slots l) (count_of f.bytes))
      where
        by : (t : Bool) (o : Option ℕ)
            → By (row_at 32 0 (t && fold_option true (λ b. false) o) ∷ row20 room (cond t (count_of f.bytes + 1) 0) ∷ [])
            (cond t (fold_option (refused_plan (refuse 32 0)) (λ b. planned_steps (gather_steps l i f (up_from (count_of f.bytes) b))) o) (planned_steps []))
        by false o = later 32 0 false _ _ refl (by_room [] 0 refl)
        by true none = here 32 0 true _ refl
        by true (some b) = later 32 0 false _ _ refl (by_room (gather_steps l i f (up_from (count_of f.bytes) b)) (count_of f.bytes + 1) (gather-long l i f b))

    -- 13 stands before 15, and is given of a slot found alone
    by_kind : (n : List ℕ) (at : ℕ → File → Plan) (rs : List SlotRow) → ((i : ℕ) → find (view_slots l) n ≡ some i → By rs (at i (file_at l i)))
        → By (gather_row13 l n ∷ row15 l n ∷ rs) (plan_by_name l n (λ i f. plan_unless (row 13 (suc i) (is_directory f.bytes)) (at i f)))
    unfolding slot_named file_named
    by_kind n at rs k = by (find (view_slots l) n) refl
      where
        by : (o : Option ℕ) → find (view_slots l) n ≡ o
            → By (row_at 13 (fold_option 0 suc o) (some_named l n && is_directory (fold_option no_file (file_at l) o).bytes) ∷ row15 l n ∷ rs)
            (fold_option (refused_plan (refuse 15 0)) (λ i. plan_unless (row 13 (suc i) (is_directory (file_at l i).bytes)) (at i (file_at l i))) o)
        by none q =
            later 13 0 (some_named l n && is_directory no_file.bytes) _ _ (ap (λ (t : Bool). t && is_directory no_file.bytes) (none_named l n q))
            (here 15 0 (not (some_named l n)) _ (ap not (none_named l n q)))
        by (some i) q =
            subst (λ (t : Bool). By (row_at 13 (suc i) (t && is_directory (file_at l i).bytes) ∷ row15 l n ∷ rs) (plan_unless (row 13 (suc i) (is_directory (file_at l i).bytes)) (at i (file_at l i))))
            (sym (some_named_lem l n i q))
            (by_test 13 (suc i) (is_directory (file_at l i).bytes) _ _ (λ a. later 15 0 (not (some_named l n)) _ _ (ap not (some_named_lem l n i q)) (k i q)))

    by_gather : (n : List ℕ) → By (change_rows old (gather n) l room) (plan_of old (gather n) l)
    unfolding change_rows plan_of file_named
    by_gather n =
        by_test 12 0 (not (askable n)) _ _
        (λ a. by_kind n (move_plan l) _
        (λ i e.
        subst (λ (o : Option ℕ). By (row32 l (fold_option no_file (file_at l) o) ∷ row20 room (gather_list_length (fold_option no_file (file_at l) o)) ∷ []) (move_plan l i (file_at l i))) (sym e)
        (by_move i (file_at l i))))

    pub result_by_rows : AcceptedDisk l → (c : Change) → By (change_rows old c l room) (plan_of old c l)
    result_by_rows ok (save w) = by_save ok w
    result_by_rows ok (erase n) = by_erase n
    result_by_rows ok (rename n new) = by_rename n new
    result_by_rows ok (mark m n) = by_mark m n
    result_by_rows ok (gather n) = by_gather n
