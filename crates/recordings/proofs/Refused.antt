-- A call of a recording is refused exactly when the check refuses the disk or a row holds that has none before it.
use Prim.Native.Nat.{ℕ, suc, ◌+◌, ◌-◌, ◌*◌, ◌≤◌, ◌<◌}
use mathlib.Core.Path.{◌≡◌, refl, sym, ap, ap₂, ◌∙◌, subst}
use mathlib.Core.Bool.{Bool, true, false, cond, not, true≢false, false≢true}
use mathlib.Core.List.{List, [], ◌∷◌, ◌++◌}
use mathlib.Core.Logic.{inl, inr, ⊎_elim, ◌↔◌}
use mathlib.Core.Option.{Option, none, some, some-ne-none, some-injective}
use native.Mathlib.Nat.{not-suc-le-zero}
use native.Mathlib.Omega.{arith}
use borrow.Author.Tests.{ltb-false, lt-ltb, le-ltb}
use lib.Dec.{ltb}
use lib.ListN.{length, take, drop, length-append, length-drop}
use lib.Seq.{length-take-le}
use Rattle.refusals.specs.Order.{Refusal, refuse, Reply, ◌else◌, row, SlotRow, row_at, FirstSlotRow}
use Rattle.refusals.proofs.First.{else_none, first_row, row_else, row_first, first-row}
use Rattle.slots.specs.Slot.{carried, sectors_for}
use Rattle.slots.proofs.Least.{sectors-some}
use Rattle.directory.specs.Directory.{fold_option}
use Rattle.directory.specs.Find.{find}
use Rattle.surveys.specs.Survey.{free}
use Rattle.disk.specs.View.{View, view, view_slots, view_tracks}
use Rattle.disk.specs.Check.{check_disk}
use Rattle.files.specs.Refused.{some_named, slot_named, start_outside, row20, RefusesBy, by_check, by_row}
use Rattle.files.proofs.Refused.{some_named_lem, none_named, outside_is}
use Rattle.steps.specs.Steps.{Step, apply, numbers}
use Rattle.steps.proofs.Steps.{numbers-append, length-numbers}
use Rattle.plans.specs.Change.{SaveRequest, usable}
use Rattle.plans.specs.Saving.{lowest_slot, stream}
use Rattle.plans.specs.Plan.{data_steps, old_name, planned_steps, plan_unless, name_taken, taken_at, save_reply, refused_result, new_disk, plan_result, checked_result}
use Rattle.plans.specs.Allowed.{sectors_taken}
use Rattle.plans.specs.Refused.{some_free, row16, row18, row19}
use Rattle.plans.proofs.Frame.{disk-accepted}
use Rattle.plans.proofs.Free.{taken_long}
use Rattle.plans.proofs.Ended.{dir_numbers_lem}
use Rattle.plans.proofs.Blocks.{blocks}
use Rattle.plans.proofs.SafeSteps.{row-none, save_tested}
use Rattle.plans.proofs.Rows.{no_free}
use Rattle.recordings.specs.Recording.{Recording, with_body, with_piece, chain_of, inner_sectors, disk_moved, refused_recording, opened_recording, recording_unless, recording_reply, fresh_recording, open_recording, piece_steps, piece_reply, piece_plan, add_piece, close_data, close_steps, close_slot, close_reply, close_plan, close_recording}
use Rattle.recordings.specs.Refused.{save_rows, recording_rows, row30, piece_rows, close_list_length, close_rows}
use Rattle.recordings.proofs.Piece.{still, chain_taken}
use Rattle.recordings.proofs.Close.{one_sector, two_sectors}

-- ---- the first of some rows

pub first-join : (xs ys : List SlotRow) → first_row (xs ++ ys) ≡ (first_row xs else first_row ys)
first-join [] ys = refl
first-join (x ∷ xs) ys = by x.holds (first-join xs ys)
  where
    by : (t : Bool) → first_row (xs ++ ys) ≡ (first_row xs else first_row ys)
        → cond t (some (refuse x.number x.slot)) (first_row (xs ++ ys)) ≡ (cond t (some (refuse x.number x.slot)) (first_row xs) else first_row ys)
    by true e = refl
    by false e = e

-- ---- a save's rows

save-rows : (l : View) (w : SaveRequest) → save_reply (view_tracks l) (view_slots l) w ≡ first_row (save_rows l w)
unfolding save_reply save_rows slot_named
save-rows l w =
    row_else 12 0 (not (usable w.name)) _
    ∙ ap (cond (not (usable w.name)) (some (refuse 12 0)))
    (row_else 13 0 (not (carried w.kind)) _
    ∙ ap (cond (not (carried w.kind)) (some (refuse 13 0)))
    (ap (λ (t : Bool). row 14 0 t else rest) (outside_is w.page w.offset) ∙ row_else 14 0 (start_outside w.page w.offset) rest ∙ ap (cond (start_outside w.page w.offset) (some (refuse 14 0))) named))
  where
    last : Reply
    last = row 18 0 (fold_option true (λ i. false) (lowest_slot (view_tracks l) (view_slots l))) else row 19 0 (ltb (free (view_tracks l) (view_slots l)) (sectors_taken w))

    rest : Reply
    rest = name_taken (view_slots l) w.name else last

    last-rows : last ≡ first_row (row18 l ∷ row19 l w ∷ [])
    last-rows = ap (λ (t : Bool). row 18 0 t else row 19 0 (ltb (free (view_tracks l) (view_slots l)) (sectors_taken w))) (no_free l) ∙ row_else 18 0 (not (some_free l)) (row 19 0 (ltb (free (view_tracks l) (view_slots l)) (sectors_taken w)))

    named : rest ≡ first_row (row16 l w.name ∷ row18 l ∷ row19 l w ∷ [])
    named = by (find (view_slots l) w.name) refl
      where
        by : (o : Option ℕ) → find (view_slots l) w.name ≡ o
            → (taken_at o else last) ≡ cond (some_named l w.name) (some (refuse 16 (fold_option 0 suc o))) (first_row (row18 l ∷ row19 l w ∷ []))
        by none e = rw (none_named l w.name e) last-rows
        by (some i) e = rw (some_named_lem l w.name i e) refl

-- ---- a plan by its rows, and a list of so many numbers

-- the reply of rows, and then 20 by how many numbers the steps name
call-refused : (d : List ℕ) (room : ℕ) (rep : Reply) (rs : List SlotRow) (k : ℕ) (sts : List (Step View)) → rep ≡ first_row rs
    → (check_disk d ≡ none → rep ≡ none → length (numbers sts) ≡ k) → (n : Refusal)
    → (checked_result (check_disk d) (plan_result d room (plan_unless rep (planned_steps sts))) ≡ refused_result n) ↔ RefusesBy d (rs ++ (row20 room k ∷ [])) n
call-refused d room rep rs k sts e long n = (to, from)
  where
    all : Reply
    all = rep else first_row (row20 room k ∷ [])

    all_rows : all ≡ first_row (rs ++ (row20 room k ∷ []))
    all_rows = ap (λ (q : Reply). q else first_row (row20 room k ∷ [])) e ∙ sym (first-join rs (row20 room k ∷ []))

    to : checked_result (check_disk d) (plan_result d room (plan_unless rep (planned_steps sts))) ≡ refused_result n → RefusesBy d (rs ++ (row20 room k ∷ [])) n
    to w = by (check_disk d) refl w
      where
        fit : check_disk d ≡ none → rep ≡ none → (t : Bool) → ltb room k ≡ t → cond t (refused_result (refuse 20 0)) (new_disk (apply d sts) (numbers sts)) ≡ refused_result n → first_row (row20 room k ∷ []) ≡ some n
        fit c q true h x = let z : refuse 20 0 ≡ n = cc in rw h (ap some z)
        fit c q false h x = let z : ◌≡◌ {A = ℕ} 0 1 = cc in absurd (omega arith)

        at : check_disk d ≡ none → (p : Reply) → rep ≡ p → plan_result d room (plan_unless p (planned_steps sts)) ≡ refused_result n → (p else first_row (row20 room k ∷ [])) ≡ some n
        at c (some r) q x = let z : r ≡ n = cc in ap some z
        at c none q x = fit c q (ltb room k) refl (sym (ap (λ (m : ℕ). cond (ltb room m) (refused_result (refuse 20 0)) (new_disk (apply d sts) (numbers sts))) (long c q)) ∙ x)

        by : (o : Reply) → check_disk d ≡ o → checked_result o (plan_result d room (plan_unless rep (planned_steps sts))) ≡ refused_result n → RefusesBy d (rs ++ (row20 room k ∷ [])) n
        by (some r) q x = let z : r ≡ n = cc in by_check (q ∙ ap some z)
        by none q x = by_row q (row_first (rs ++ (row20 room k ∷ [])) n (sym all_rows ∙ at q rep refl x))

    from : RefusesBy d (rs ++ (row20 room k ∷ [])) n → checked_result (check_disk d) (plan_result d room (plan_unless rep (planned_steps sts))) ≡ refused_result n
    from (by_check c) = rw c refl
    from (by_row c f) = rw c (at rep refl (all_rows ∙ first-row (rs ++ (row20 room k ∷ [])) n f))
      where
        fit : (t : Bool) → cond t (some (refuse 20 0)) none ≡ some n → cond t (refused_result (refuse 20 0)) (new_disk (apply d sts) (numbers sts)) ≡ refused_result n
        fit true x = let z : refuse 20 0 ≡ n = some-injective (refuse 20 0) n x in ap refused_result z
        fit false x = absurd (some-ne-none n (sym x))

        at : (p : Reply) → rep ≡ p → (p else first_row (row20 room k ∷ [])) ≡ some n → plan_result d room (plan_unless p (planned_steps sts)) ≡ refused_result n
        at (some r) q x = ap refused_result (some-injective r n x)
        at none q x = ap (λ (m : ℕ). cond (ltb room m) (refused_result (refuse 20 0)) (new_disk (apply d sts) (numbers sts))) (long c q) ∙ fit (ltb room k) x

-- ---- each call

-- opening: "a save's but 20, at opening with an empty body"
pub open_refused : (w : SaveRequest) (d : List ℕ) (n : Refusal) → (open_recording w d ≡ refused_recording n) ↔ RefusesBy d (recording_rows (view d) w) n
unfolding open_recording
open_refused w d n = (λ e. to (check_disk d) refl e, from)
  where
    to : (o : Reply) → check_disk d ≡ o → recording_unless (o else recording_reply w (view d)) (fresh_recording w (view d)) ≡ refused_recording n → RefusesBy d (recording_rows (view d) w) n
    to (some r) q e = let z : r ≡ n = cc in by_check (q ∙ ap some z)
    to none q e = by_row q (row_first (recording_rows (view d) w) n (sym (save-rows (view d) (with_body w [])) ∙ at (recording_reply w (view d)) e))
      where
        at : (p : Reply) → recording_unless p (fresh_recording w (view d)) ≡ refused_recording n → p ≡ some n
        at (some r) x = let z : r ≡ n = cc in ap some z
        at none x = let z : ◌≡◌ {A = ℕ} 0 1 = cc in absurd (omega arith)

    from : RefusesBy d (recording_rows (view d) w) n → recording_unless (check_disk d else recording_reply w (view d)) (fresh_recording w (view d)) ≡ refused_recording n
    from (by_check c) = rw c refl
    from (by_row c f) = rw (c, save-rows (view d) (with_body w []) ∙ first-row (recording_rows (view d) w) n f) refl

-- how many sectors: of a list of data steps as many as bits, of a close one or two and the directory's
pub length_data : (st : List ℕ) (f : ℕ) (bs : List ℕ) → length (data_steps st f bs) ≡ length bs
unfolding data_steps
length_data st f [] = refl
length_data st f (b ∷ bs) = ap suc (length_data st (f + 510) bs)

close_data-long : (w : SaveRequest) (bs : List ℕ) → 1 ≤ length bs → length (numbers (close_data w bs)) ≡ cond (ltb 1 (length bs)) 2 1
unfolding blocks
close_data-long w [] h = absurd (not-suc-le-zero h)
close_data-long w (b ∷ []) h = length-numbers (close_data w (b ∷ [])) ∙ ap length (one_sector w b)
close_data-long w (b ∷ c ∷ cs) h =
    length-numbers (close_data w (b ∷ c ∷ cs)) ∙ ap length (two_sectors w b c cs) ∙ rw (lt-ltb 1 (length (b ∷ c ∷ cs)) (omega arith)) refl

close_long : (d : List ℕ) (r : Recording) → length (chain_of r) ≡ sectors_taken r.request
    → length (numbers (close_steps (old_name d (close_slot d)) d (close_slot d) r.request (chain_of r))) ≡ close_list_length d r
unfolding close_list_length
close_long d r e =
    ap length (numbers-append (close_data r.request (chain_of r)) _) ∙ length-append (numbers (close_data r.request (chain_of r))) _
    ∙ ap₂ ◌+◌
    (close_data-long r.request (chain_of r) (omega (arith, sectors-some (length r.request.body))) ∙ ap (λ (n : ℕ). cond (ltb 1 n) 2 1) e)
    (ap length (dir_numbers_lem (old_name d (close_slot d)) (close_slot d) (view d) 0 _ _))

-- a piece
pub chain_fits : (d : List ℕ) (r : Recording) → check_disk d ≡ none → disk_moved d r ≡ false → (x : List ℕ) → sectors_taken (with_piece r x).request ≤ free (view_tracks (view d)) (view_slots (view d))
    → length (chain_of (with_piece r x)) ≡ sectors_taken (with_piece r x).request
chain_fits d r ok e x f =
    let s = still d r e in
    ap length (chain_taken d (with_piece r x) s.used s.tracks) ∙ taken_long (view d) (disk-accepted d ok) (with_piece r x).request f

pub piece-long : (r : Recording) (x d : List ℕ) → check_disk d ≡ none → piece_reply d r x ≡ none
    → length (numbers (piece_steps r x)) ≡ inner_sectors (sectors_taken (with_piece r x).request) - inner_sectors (sectors_taken r.request)
piece-long r x d ok e =
    let a = else_none (row 30 0 (disk_moved d r)) (row 19 0 (ltb (free (view_tracks (view d)) (view_slots (view d))) (sectors_taken (with_piece r x).request))) e in
    let f = ltb-false (free (view_tracks (view d)) (view_slots (view d))) (sectors_taken (with_piece r x).request) (row-none 19 0 (ltb (free (view_tracks (view d)) (view_slots (view d))) (sectors_taken (with_piece r x).request)) a.1) in
    let c = chain_fits d r ok (row-none 30 0 (disk_moved d r) a.0) x f in
    length-numbers (piece_steps r x)
    ∙ length-take-le (inner_sectors (sectors_taken (with_piece r x).request) - inner_sectors (sectors_taken r.request)) (data_steps (stream (with_piece r x).request) (510 * (1 + inner_sectors (sectors_taken r.request))) (drop (1 + inner_sectors (sectors_taken r.request)) (chain_of (with_piece r x))))
    (omega (arith, c, length_data (stream (with_piece r x).request) (510 * (1 + inner_sectors (sectors_taken r.request))) (drop (1 + inner_sectors (sectors_taken r.request)) (chain_of (with_piece r x))), length-drop (1 + inner_sectors (sectors_taken r.request)) (chain_of (with_piece r x)), sectors-some (length r.request.body), sectors-some (length (with_piece r x).request.body)))

pub piece-refused : (r : Recording) (x d : List ℕ) (room : ℕ) (n : Refusal) → (add_piece r x d room ≡ refused_result n) ↔ RefusesBy d (piece_rows d r x room) n
unfolding add_piece piece_plan piece_rows
piece-refused r x d room n =
    call-refused d room (piece_reply d r x) (row30 d r ∷ row19 (view d) (with_piece r x).request ∷ []) (inner_sectors (sectors_taken (with_piece r x).request) - inner_sectors (sectors_taken r.request)) (piece_steps r x)
    (row_else 30 0 (disk_moved d r) (row 19 0 (ltb (free (view_tracks (view d)) (view_slots (view d))) (sectors_taken (with_piece r x).request)))) (piece-long r x d) n

-- the close
pub close_refused : (r : Recording) (d : List ℕ) (room : ℕ) (n : Refusal) → (close_recording r d room ≡ refused_result n) ↔ RefusesBy d (close_rows d r room) n
unfolding close_recording close_plan close_rows
close_refused r d room n =
    call-refused d room (close_reply d r) (row30 d r ∷ save_rows (view d) r.request) (close_list_length d r) (close_steps (old_name d (close_slot d)) d (close_slot d) r.request (chain_of r))
    (row_else 30 0 (disk_moved d r) (save_reply (view_tracks (view d)) (view_slots (view d)) r.request) ∙ ap (cond (disk_moved d r) (some (refuse 30 0))) (save-rows (view d) r.request)) long n
  where
    long : check_disk d ≡ none → close_reply d r ≡ none → length (numbers (close_steps (old_name d (close_slot d)) d (close_slot d) r.request (chain_of r))) ≡ close_list_length d r
    long ok e =
        let a = else_none (row 30 0 (disk_moved d r)) (save_reply (view_tracks (view d)) (view_slots (view d)) r.request) e in
        let s = still d r (row-none 30 0 (disk_moved d r) a.0) in
        let t = save_tested (view_tracks (view d)) (view_slots (view d)) r.request a.1 in
        close_long d r (ap length (chain_taken d r s.used s.tracks) ∙ taken_long (view d) (disk-accepted d ok) r.request t.room)
