-- The plan of a save on an accepted disk, by the tests that led there, and what the writing is then entered with.
use Prim.Native.Nat.{ℕ, suc, ◌+◌, ◌≤◌, ◌<◌}
use mathlib.Core.Path.{◌≡◌, refl, sym, ap, ap₂, ◌∙◌, subst}
use mathlib.Core.Bool.{Bool, true, false, not, ◌&&◌, and-eq-true_iff}
use mathlib.Core.List.{List}
use mathlib.Core.Option.{Option, none, some}
use native.Mathlib.Omega.{arith}
use borrow.Author.Tests.{lt-ltb, le-ltb, leb-true}
use lib.Dec.{leb, ltb}
use lib.ListN.{length, take}
use Rattle.maps.specs.Bits.{has}
use Rattle.refusals.specs.Order.{Refusal, refuse, Reply, ◌else◌, row}
use Rattle.refusals.specs.Answers.{Outcome, done, refused}
use Rattle.slots.specs.Slot.{carried, sectors_for}
use Rattle.slots.specs.Tracks.{data_bit}
use Rattle.directory.specs.Places.{slots}
use Rattle.directory.specs.Directory.{fold_option, Directory, tracks_of, directory}
use Rattle.surveys.specs.Survey.{union, used_map, free_of, free}
use Rattle.surveys.specs.declared.UsedMap.{UsedMap}
use Rattle.directory.proofs.Label.{slots-few}
use Rattle.surveys.proofs.Union.{counted-bytes, counted-tracks}
use Rattle.disk.specs.View.{View, view}
use Rattle.disk.proofs.View.{view-slots, view_extra}
use Rattle.disk.proofs.Rows.{carried-is}
use Rattle.disk.proofs.Examined.{accepted-size}
use Rattle.disk.specs.Check.{check_disk}
use Rattle.files.specs.Calls.{found_slot, refused_lookup}
use Rattle.files.specs.Steps.{CheckedDisk}
use Rattle.steps.specs.Steps.{Step, numbers}
use Rattle.plans.specs.Change.{SaveRequest, save, between, usable}
use Rattle.plans.specs.Saving.{satisfying, free_bit, taken_bits, lowest_slot, taken_slot}
use Rattle.plans.specs.Plan.{refused_plan, planned_steps, plan_unless, name_taken, save_reply, plan_of, plan, old_name, dir_sectors, save_steps, changed, change}
use Rattle.plans.proofs.Frame.{disk-accepted}
use Rattle.plans.proofs.Free.{taken_run, taken_long, run_at, lowest-slot}
use Rattle.plans.proofs.Ended.{old-is}
use Rattle.plans.proofs.Saved.{save-long}
use Rattle.plans.proofs.SafeSteps.{save_tested}
use Rattle.changes.specs.ChangeCalls.{Applied}
use Rattle.changes.proofs.Laws.{change_planned, settled_no, settled_short, settled_done}
use Rattle.allocation.specs.declared.HeaderFields.{HeaderFields}
use Rattle.allocation.specs.Taken.{request_reply, free_slot_by, slot_for_save, unavailable_map, lowest_clear_bits}
use Rattle.allocation.proofs.Unavailable.{available_bits_are, free_le}
use Rattle.slot_writes.specs.Filed.{directory_sectors}
use Rattle.slot_writes.proofs.Laws.{dirs_are}
use Rattle.saves.specs.Write.{save_request_for, Writable, SaveReady, SaveSlot}

-- ---- the rows of a save, by the slot that it takes

-- the rows in their order
rows-order : (a b c q z : Reply) → (a else b else c else q else z) ≡ (((a else b else c) else q) else z)
rows-order (some r) b c q z = refl
rows-order none (some r) c q z = refl
rows-order none none (some r) q z = refl
rows-order none none none q z = refl

module _ (d : List ℕ) (s : HeaderFields) (name exec info body : List ℕ) where
  abbrev w : SaveRequest
  w = save_request_for s name exec info body

  abbrev fewer : Bool
  fewer = ltb (free (tracks_of d) (directory d)) (sectors_for (length body))

  -- 18 and 19
  abbrev last : Option ℕ → Reply
  last o = row 18 0 (fold_option true (λ i. false) o) else row 19 0 fewer

  reply-is : save_reply (tracks_of d) (directory d) w ≡ ((request_reply s name else name_taken (directory d) name) else last (lowest_slot (tracks_of d) (directory d)))
  unfolding save_reply request_reply
  reply-is =
      rows-order (row 12 0 (not (usable name))) (row 13 0 (not (carried s.kind))) (row 14 0 (not (leb s.page 31 && between 32768 s.offset 49151)))
      (name_taken (directory d) name) (last (lowest_slot (tracks_of d) (directory d)))

  plan-is : (q : Reply) → save_reply (tracks_of d) (directory d) w ≡ q
      → plan (save w) d ≡ plan_unless q (planned_steps (save_steps (old_name d (taken_slot (tracks_of d) (directory d))) (view d) (taken_slot (tracks_of d) (directory d)) w (taken_bits (tracks_of d) (directory d) w)))
  unfolding plan_of
  plan-is q e =
      ap₂ (λ (n : ℕ) (v : Directory). plan_unless (save_reply n v w) (planned_steps (save_steps (old_name d (taken_slot n v)) (view d) (taken_slot n v) w (taken_bits n v w)))) (view_extra d) (view-slots d)
      ∙ ap (λ (q : Reply). plan_unless q (planned_steps (save_steps (old_name d (taken_slot (tracks_of d) (directory d))) (view d) (taken_slot (tracks_of d) (directory d)) w (taken_bits (tracks_of d) (directory d) w)))) e

  -- what refuses the slot refuses the save
  pub reply-refused : (r : Refusal) → refused_lookup r ≡ slot_for_save d s name → save_reply (tracks_of d) (directory d) w ≡ some r
  unfolding slot_for_save
  reply-refused r e = reply-is ∙ by (request_reply s name else name_taken (directory d) name) (lowest_slot (tracks_of d) (directory d)) e
    where
      by : (p : Reply) (o : Option ℕ) → refused_lookup r ≡ free_slot_by p o → (p else last o) ≡ some r
      by (some x) o w = let z : x ≡ r = cc in ap some z
      by none (some i) w = let z : ◌≡◌ {A = ℕ} 0 1 = cc in absurd (omega arith)
      by none none w = let z : refuse 18 0 ≡ r = cc in ap some z

  pub save-refused : (buf : List ℕ) → check_disk d ≡ none → (r : Refusal) → refused_lookup r ≡ slot_for_save d s name → changed (refused r) d buf ≡ change (save w) d buf
  save-refused buf a r e = settled_no d buf r (refused r) refl ∙ change_planned (save w) d buf a (refused_plan r) (plan-is (some r) (reply-refused r e))

  -- a slot that is taken is the lowest, and only 19 is left
  pub taken_at_lem : (i : ℕ) → found_slot i ≡ slot_for_save d s name → (save_reply (tracks_of d) (directory d) w ≡ row 19 0 fewer) × (lowest_slot (tracks_of d) (directory d) ≡ some i)
  unfolding slot_for_save
  taken_at_lem i e = by (request_reply s name else name_taken (directory d) name) (lowest_slot (tracks_of d) (directory d)) reply-is refl e
    where
      by : (p : Reply) (o : Option ℕ) → save_reply (tracks_of d) (directory d) w ≡ (p else last o) → lowest_slot (tracks_of d) (directory d) ≡ o → found_slot i ≡ free_slot_by p o
          → (save_reply (tracks_of d) (directory d) w ≡ row 19 0 fewer) × (lowest_slot (tracks_of d) (directory d) ≡ some i)
      by (some r) o a b w = let z : ◌≡◌ {A = ℕ} 0 1 = cc in absurd (omega arith)
      by none none a b w = let z : ◌≡◌ {A = ℕ} 0 1 = cc in absurd (omega arith)
      by none (some j) a b w = let z : j ≡ i = cc in (a, b ∙ ap some z)

  pub place-few : (i : ℕ) → found_slot i ≡ slot_for_save d s name → i < slots
  place-few i e = omega (arith, (lowest-slot (tracks_of d) (directory d) i (taken_at_lem i e).1).below, slots-few d)

-- ---- the free sectors, and the bits taken of them

free-is : (d : List ℕ) (u : UsedMap) → CheckedDisk d u → (f : ℕ) → f ≡ free_of u → free (tracks_of d) (directory d) ≡ f
unfolding free
free-is d u a f e = sym (e ∙ ap free_of a.used)

taken_is : (d : List ℕ) (u : UsedMap) → CheckedDisk d u → (v : SaveRequest) → lowest_clear_bits (unavailable_map u) (sectors_for (length v.body)) ≡ taken_bits (tracks_of d) (directory d) v
unfolding taken_bits lowest_clear_bits used_map
taken_is d u a v =
    ap (take (sectors_for (length v.body)))
    (available_bits_are u
    ∙ ap₂ (λ (n : ℕ) (m : List ℕ). satisfying 1560 0 (λ b. data_bit n b && not (has m b))) (counted-tracks (tracks_of d) (union (directory d) slots) u a.used)
    (counted-bytes (tracks_of d) (union (directory d) slots) u a.used))

bits-long : (d : List ℕ) → check_disk d ≡ none → (v : SaveRequest) → sectors_for (length v.body) ≤ free (tracks_of d) (directory d)
    → length (taken_bits (tracks_of d) (directory d) v) ≡ sectors_for (length v.body)
bits-long d ok v h = rw (view-slots d, view_extra d) at (taken_long (view d) (disk-accepted d ok) v (rw (view-slots d, view_extra d) h))

pub open_long : (d : List ℕ) (u : UsedMap) (i : ℕ) (s : HeaderFields) (name : List ℕ) → SaveSlot d u i s name → 256 ≤ length d
open_long d u i s name o = omega (arith, accepted-size d o.disk.accepted)

-- ---- at the slot that it takes

module _ (d : List ℕ) (u : UsedMap) (i : ℕ) (s : HeaderFields) (name exec info body buf : List ℕ) (o : SaveSlot d u i s name) (f : ℕ) (e : f ≡ free_of u) where
  abbrev v : SaveRequest
  v = save_request_for s name exec info body

  pub reply-at : (t : Bool) → ltb f (sectors_for (length body)) ≡ t → save_reply (tracks_of d) (directory d) v ≡ row 19 0 t
  reply-at t h = (taken_at_lem d s name exec info body i o.place).0 ∙ ap (row 19 0) (ap (λ (f : ℕ). ltb f (sectors_for (length body))) (free-is d u o.disk f e) ∙ h)

  pub save-few : f < sectors_for (length body) → (x : Outcome) → x ≡ refused (refuse 19 0) → changed x d buf ≡ change (save v) d buf
  save-few h x p =
      settled_no d buf (refuse 19 0) x p
      ∙ change_planned (save v) d buf o.disk.accepted (refused_plan (refuse 19 0))
      (plan-is d s name exec info body (some (refuse 19 0)) (reply-at true (lt-ltb f (sectors_for (length body)) h)))

  -- more than all sectors hold
  pub large_few : 795591 < length body → f < sectors_for (length body)
  unfolding sectors_for
  large_few h = omega (arith, e, free_le u)

  pub save_large : 795591 < length body → (x : Outcome) → x ≡ refused (refuse 19 0) → changed x d buf ≡ change (save v) d buf
  save_large h = save-few (large_few h)

  -- c: how many sectors of the directory
  module _ (n : ℕ) (m : n ≡ sectors_for (length body)) (h : n ≤ f) (old : Bool) (eo : old ≡ old_name d i) (c : ℕ) (e₂ : c ≡ length (directory_sectors old i)) where
    slot-few : i < slots
    slot-few = place-few d s name exec info body i o.place

    next-few : old ≡ true → suc i < slots
    next-few q = omega (arith, (old-is d i (sym eo ∙ q)).1, slots-few d)

    pub ec : c ≡ length (dir_sectors old i)
    ec = e₂ ∙ ap length (dirs_are old i slot-few next-few)

    abbrev steps : List (Step View)
    steps = save_steps old (view d) i v (lowest_clear_bits (unavailable_map u) n)

    pub none_left : save_reply (tracks_of d) (directory d) v ≡ none
    none_left = reply-at false (le-ltb f (sectors_for (length body)) (omega (arith, m)))

    bits_are : lowest_clear_bits (unavailable_map u) n ≡ taken_bits (tracks_of d) (directory d) v
    bits_are = ap (lowest_clear_bits (unavailable_map u)) m ∙ taken_is d u o.disk v

    plan_go : plan (save v) d ≡ planned_steps steps
    plan_go =
        plan-is d s name exec info body none none_left
        ∙ ap₂ (λ (i : ℕ) (bs : List ℕ). planned_steps (save_steps (old_name d i) (view d) i v bs)) (ap (fold_option 0 (λ i. i)) (taken_at_lem d s name exec info body i o.place).1) (sym bits_are)
        ∙ ap (λ (t : Bool). planned_steps (save_steps t (view d) i v (lowest_clear_bits (unavailable_map u) n))) (sym eo)

    pub long : length (lowest_clear_bits (unavailable_map u) n) ≡ n
    long = ap length bits_are ∙ bits-long d o.disk.accepted v (omega (arith, m, free-is d u o.disk f e)) ∙ sym m

    many : length (numbers steps) ≡ n + c
    many = save-long old (view d) i v (lowest_clear_bits (unavailable_map u) n) ∙ ap₂ ◌+◌ long (sym ec)

    pub save-short : length buf < n + c → (x : Outcome) → x ≡ refused (refuse 20 0) → changed x d buf ≡ change (save v) d buf
    save-short l x p = settled_short steps d buf (omega (arith, many)) x p ∙ change_planned (save v) d buf o.disk.accepted (planned_steps steps) plan_go

    -- the file can be written along these bits
    pub shut_writable : Writable i old s body (lowest_clear_bits (unavailable_map u) n)
    unfolding sectors_for
    shut_writable =
        let t = save_tested (tracks_of d) (directory d) v none_left in
        let k = carried-is s.kind t.carried-kind in
        let r = (and-eq-true_iff (leb s.page 31) (between 32768 s.offset 49151)).0 t.range in
        let p : s.page ≤ 31 = leb-true s.page 31 r.0 in
        let q : s.offset ≤ 49151 = leb-true s.offset 49151 ((and-eq-true_iff (leb 32768 s.offset) (leb s.offset 49151)).0 r.1).1 in
        let z : f ≤ 1560 = omega (arith, e, free_le u) in
        record {
          slot = slot-few;
          next = next-few;
          plain = record { kind = omega (arith, k.1); page = omega arith; offset = omega arith; pages = omega (arith, m) };
          bits = record {
            few = omega (arith, long);
            small = λ k j. rw bits_are (run_at (free_bit (tracks_of d) (directory d)) 0 (taken_bits (tracks_of d) (directory d) v) (taken_run (tracks_of d) (directory d) v) k (omega (arith, ap length bits_are))).small;
          };
        }

    module _ (l : n + c ≤ length buf) where
      shut_savable : SaveReady (unavailable_map u) n i old s body buf
      shut_savable = record { sectors = m; file = shut_writable; enough = long; room = omega (arith, ec) }

      -- b is the map of the bits that cannot be taken, as the code has it
      module _ (b : List ℕ) (q : b ≡ unavailable_map u) where
        pub savable : SaveReady b n i old s body buf
        savable = subst (λ (x : List ℕ). SaveReady x n i old s body buf) (sym q) shut_savable

        pub save-done : (d' buf' : List ℕ) → Applied (save_steps old (view d) i v (lowest_clear_bits b n)) d buf d' buf' (n + length (dir_sectors old i))
            → changed (done (n + c) 0) d' buf' ≡ change (save v) d buf
        save-done d' buf' w =
            ap (λ (c : ℕ). changed (done (n + c) 0) d' buf') ec
            ∙ settled_done steps d buf (omega (arith, many)) d' buf' (n + length (dir_sectors old i))
            (subst (λ (x : List ℕ). Applied (save_steps old (view d) i v (lowest_clear_bits x n)) d buf d' buf' (n + length (dir_sectors old i))) q w)
            ∙ change_planned (save v) d buf o.disk.accepted (planned_steps steps) plan_go
