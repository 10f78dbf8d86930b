-- The directory's end: what a save writes behind it is not seen, and keeps old names from coming back.
use Prim.Native.Nat.{ℕ, suc, ◌+◌, ◌*◌, ◌≤◌, ◌<◌}
use mathlib.Core.Path.{◌≡◌, refl, sym, ap, ◌∙◌, subst}
use mathlib.Core.Bool.{Bool, true, false, cond, not, ◌&&◌, true≢false}
use mathlib.Core.List.{List, [], ◌∷◌, ◌++◌, append_assoc}
use mathlib.Core.Logic.{◌⊎◌, inl, inr}
use mathlib.Core.Option.{Option, none}
use native.Mathlib.Omega.{arith}
use borrow.Author.Tests.{ltb-true, lt-ltb, eqb-true, eqb-false, ne_eqb}
use lib.Dec.{eqb, ltb}
use lib.ListN.{length}
use Rattle.buffers.specs.Bytes.{put}
use Rattle.buffers.proofs.Lists.{part-long, put_in}
use Rattle.buffers.proofs.Tests.{and_both}
use Rattle.maps.specs.Bits.{has}
use Rattle.slots.specs.Slot.{is_nameless, map_of}
use Rattle.slots.specs.Tracks.{data_bit}
use Rattle.chains.specs.File.{File, sectors_of, file_of}
use Rattle.directory.specs.Places.{slot_count, slot_at, slot_bytes, dir_sector}
use Rattle.directory.specs.Directory.{tracks_of, slots_in, is_slot, is_nameless_at, is_read}
use Rattle.directory.proofs.Places.{slot_within}
use Rattle.directory.proofs.Label.{slots-few}
use Rattle.directory.proofs.Ends.{seen_next, seen_agree, nameless_agree}
use Rattle.disk.specs.View.{View, view}
use Rattle.disk.specs.Accepted.{AcceptedDisk}
use Rattle.disk.proofs.View.{view_extra}
use Rattle.steps.specs.Sectors.{is_listed, Once}
use Rattle.steps.specs.Steps.{Step, put_all, apply, numbers, commits, last_view, InsideSector, AllInsideSector, StepHolds, StepsHold}
use Rattle.steps.proofs.Sectors.{listed_append, once_snoc}
use Rattle.steps.proofs.Steps.{apply-append, goes_long, goes_append}
use Rattle.plans.specs.Plan.{with_slot, slot_put, slot_step, old_name, same_sector, no_name, end_put, without_next_name, end_steps, end_puts, dir_sectors, end_step}
use Rattle.plans.proofs.Frame.{Reach, holds, inside-slot, there-slot, slot-new, slot_else, files_stay, slot_quiet}
use Rattle.plans.proofs.Free.{FreeSlot}
use Rattle.plans.proofs.Kept.{tracks-view, accepted-long, accepted_data}

-- ---- an old name behind a slot

-- the slot has no name, and the next one exists
pub old-is : (d : List ℕ) (i : ℕ) → old_name d i ≡ true → (is_nameless_at d i ≡ true) × (suc i < slots_in d)
unfolding old_name is_slot
old-is d i e =
    let a = and_both (is_nameless_at d i) (ltb (suc i) (slots_in d) && not (is_nameless_at d (suc i))) e in
    let b = and_both (ltb (suc i) (slots_in d)) (not (is_nameless_at d (suc i))) a.1 in
    (a.0, ltb-true (suc i) (slots_in d) b.0)

-- where there is none behind a slot without a name, the next one has no name either
pub old_not : (d : List ℕ) (i : ℕ) → old_name d i ≡ false → is_nameless_at d i ≡ true → suc i < slots_in d → is_nameless_at d (suc i) ≡ true
unfolding old_name is_slot
old_not d i e n h = by (is_nameless_at d (suc i)) refl
  where
    by : (t : Bool) → is_nameless_at d (suc i) ≡ t → t ≡ true
    by true q = refl
    by false q = absurd (true≢false (sym (rw (n, lt-ltb (suc i) (slots_in d) h, q)) ∙ e))

-- the slot that a save takes is there, and it can be written
pub free-there : (d : List ℕ) (i : ℕ) → FreeSlot (view d) i → i < slots_in d
free-there d i at = subst (λ (n : ℕ). i < slot_count n) (view_extra d) at.below

pub reach_free : (d : List ℕ) (i : ℕ) → FreeSlot (view d) i → Reach d (old_name d i) i
reach_free d i at = record { before = before; next = by (is_nameless_at d i) refl; end = old-is d i }
  where
    before : (j : ℕ) → j < i → is_read d j ≡ true
    before j l = let f = at.before j l in (holds d j f.0 f.1).read

    by : (n : Bool) → is_nameless_at d i ≡ n → old_name d i ≡ false → (is_read d i ≡ true) ⊎ (suc i < slots_in d → is_nameless_at d (suc i) ≡ true)
    by true q e = inr (old_not d i e q)
    by false q e = inl (seen_next d i (free-there d i at) before q)

-- ---- the sectors of the directory

module _ (old : Bool) (i : ℕ) where
  -- a sector of its own behind the end
  abbrev behind : Bool → List (Step View)
  behind t = cond t (record { at = dir_sector (suc i); puts = end_put i; left = none } ∷ []) []

  pub end_commits : commits (end_steps old i) ≡ []
  unfolding end_steps commits
  end_commits = by (old && not (same_sector i))
    where
      by : (t : Bool) → commits (behind t) ≡ []
      by true = refl
      by false = refl

  pub dir_numbers_lem : (l : View) (o : ℕ) (y : List ℕ) (f : Option File) → numbers (end_steps old i ++ (end_step old l i o y f ∷ [])) ≡ dir_sectors old i
  unfolding end_steps numbers dir_sectors
  dir_numbers_lem l o y f = by (old && not (same_sector i))
    where
      by : (t : Bool) → numbers (behind t ++ (end_step old l i o y f ∷ [])) ≡ cond t (dir_sector (suc i) ∷ dir_sector i ∷ []) (dir_sector i ∷ [])
      by true = refl
      by false = refl

  -- one or two
  pub dirs_some : (1 ≤ length (dir_sectors old i)) × (length (dir_sectors old i) ≤ 2)
  unfolding dir_sectors
  dirs_some = by (old && not (same_sector i))
    where
      at : Bool → List ℕ
      at t = cond t (dir_sector (suc i) ∷ dir_sector i ∷ []) (dir_sector i ∷ [])

      by : (t : Bool) → (1 ≤ length (at t)) × (length (at t) ≤ 2)
      by true = (omega arith, omega arith)
      by false = (omega arith, omega arith)

  -- after sectors that are none of the directory's, each once
  pub dirs_once : (n : ℕ) (xs : List ℕ) → Once xs → ((j : ℕ) → j < slot_count n → is_listed (dir_sector j) xs ≡ false) → i < slot_count n → (old ≡ true → suc i < slot_count n)
      → Once (xs ++ dir_sectors old i)
  unfolding dir_sectors same_sector
  dirs_once n xs o u h k = by old refl (eqb (dir_sector (suc i)) (dir_sector i)) refl
    where
      last : Once (xs ++ (dir_sector i ∷ []))
      last = once_snoc xs (dir_sector i) o (u i h)

      by : (t : Bool) → old ≡ t → (v : Bool) → eqb (dir_sector (suc i)) (dir_sector i) ≡ v
          → Once (xs ++ cond (t && not v) (dir_sector (suc i) ∷ dir_sector i ∷ []) (dir_sector i ∷ []))
      by true q true w = last
      by false q v w = last
      by true q false w =
          subst Once (append_assoc xs (dir_sector (suc i) ∷ []) (dir_sector i ∷ []))
          (once_snoc (xs ++ (dir_sector (suc i) ∷ [])) (dir_sector i) (once_snoc xs (dir_sector (suc i)) o (u (suc i) (k q)))
          (listed_append (dir_sector i) xs (dir_sector (suc i) ∷ [])
          ∙ rw (u i h, ne_eqb (dir_sector i) (dir_sector (suc i)) (λ e. eqb-false (dir_sector (suc i)) (dir_sector i) w (sym e)))))

-- ---- the disk that the steps make, of any disk: without an old name behind the slot, and with the slot's bytes

module _ (old : Bool) (i : ℕ) (m : List ℕ) where
  end_made : put_all (apply m (end_steps old i)) (end_puts old i) ≡ without_next_name old i m
  unfolding end_steps end_puts apply put_all
  end_made = by old (same_sector i)
    where
      by : (t u : Bool) → put_all (apply m (behind old i (t && not u))) (cond (t && u) (end_put i) []) ≡ without_next_name t i m
      by true true = refl
      by true false = refl
      by false u = refl

  end_puts_lem : (o : ℕ) (y : List ℕ) → put_all (apply m (end_steps old i)) (end_puts old i ++ slot_put i o y) ≡ put (without_next_name old i m) (slot_at i + o) y
  unfolding end_puts put_all
  end_puts_lem o y = by (old && same_sector i) ∙ ap (λ (x : List ℕ). put x (slot_at i + o) y) end_made
    where
      mid : List ℕ
      mid = apply m (end_steps old i)

      by : (t : Bool) → put_all mid (cond t (end_put i) [] ++ slot_put i o y) ≡ put (put_all mid (cond t (end_put i) [])) (slot_at i + o) y
      by true = refl
      by false = refl

  pub end_apply : (l : View) (o : ℕ) (y : List ℕ) (f : Option File) → apply m (end_steps old i ++ (end_step old l i o y f ∷ [])) ≡ put (without_next_name old i m) (slot_at i + o) y
  unfolding apply
  end_apply l o y f = apply-append (end_steps old i) (end_step old l i o y f ∷ []) m ∙ end_puts_lem o y

-- ---- the disk before the slot is written: m, and without an old name behind the end

module _ (m : List ℕ) (ok : AcceptedDisk (view m)) (i : ℕ) (h : i < slots_in m) (old : Bool) (r : Reach m old i) where
  abbrev ended : List ℕ
  ended = without_next_name old i m

  quiet : old ≡ true → view (put m (slot_at (suc i) + 0) no_name) ≡ view m
  quiet e = slot_quiet m (accepted-long m ok) (suc i) (r.end e).1 0 no_name (omega arith) (accepted_data m ok) i (omega arith) (r.end e).0

  pub end_view : view (without_next_name old i m) ≡ view m
  end_view = by old refl
    where
      by : (t : Bool) → old ≡ t → view (without_next_name t i m) ≡ view m
      by true e = quiet e
      by false e = refl

  end_goes : StepsHold view AcceptedDisk m (end_steps old i)
  unfolding end_steps put_all
  end_goes = by old refl (same_sector i)
    where
      by : (t : Bool) → old ≡ t → (u : Bool) → StepsHold view AcceptedDisk m (behind old i (t && not u))
      by true e false = (
        record {
          there = there-slot m (accepted-long m ok) (suc i) (r.end e).1 0 no_name (omega arith);
          inside = (inside-slot m (accepted-long m ok) (suc i) (r.end e).1 0 no_name (omega arith), tt);
          sees = quiet e;
          ok = ok;
        },
        tt,
      )
      by true e true = tt
      by false e u = tt

  -- the bytes of the slots
  pub end_else : (j : ℕ) → (old ≡ true → j ≡ suc i → ⊥) → slot_bytes (without_next_name old i m) j ≡ slot_bytes m j
  end_else j n = by old refl
    where
      by : (t : Bool) → old ≡ t → slot_bytes (without_next_name t i m) j ≡ slot_bytes m j
      by true e = slot_else m (accepted-long m ok) (suc i) (r.end e).1 0 no_name (omega arith) j (n e)
      by false e = refl

  end_next : old ≡ true → is_nameless_at (put m (slot_at (suc i) + 0) no_name) (suc i) ≡ true
  unfolding is_nameless_at
  end_next e =
      let l = part-long (slot_at (suc i)) 256 m (omega (arith, accepted-long m ok, slot_within (suc i) (omega (arith, (r.end e).1, slots-few m)))) in
      ap is_nameless (slot-new m (accepted-long m ok) (suc i) (r.end e).1 0 no_name (omega arith))
      ∙ ap (λ (x : ℕ). eqb x 0) (put_in (slot_bytes m (suc i)) 0 no_name 1 (omega arith) (omega arith))

  -- and of the data sectors
  pub end_sectors_lem : (x : List ℕ) → ((b : ℕ) → has (map_of x) b ≡ true → data_bit (tracks_of m) b ≡ true) → sectors_of (without_next_name old i m) x ≡ sectors_of m x
  unfolding file_of
  end_sectors_lem x q = by old refl
    where
      by : (t : Bool) → old ≡ t → sectors_of (without_next_name t i m) x ≡ sectors_of m x
      by true e = ap (λ (f : File). f.sectors) (files_stay m (accepted-long m ok) (suc i) (r.end e).1 0 no_name (omega arith) x q)
      by false e = refl

  -- the slot can be written, and behind it no old name stands
  pub end_reach : Reach (without_next_name old i m) false i
  end_reach = record { before = before; next = λ q. by old refl; end = λ q. absurd (true≢false (sym q)) }
    where
      same : (j : ℕ) → j ≤ i → is_read ended j ≡ is_read m j
      same j l = seen_agree m ended j (tracks-view ended m end_view) (λ k q. nameless_agree m ended k (end_else k (λ (t : old ≡ true). omega arith)))

      before : (j : ℕ) → j < i → is_read ended j ≡ true
      before j l = same j (omega arith) ∙ r.before j l

      by : (t : Bool) → old ≡ t → (is_read ended i ≡ true) ⊎ (suc i < slots_in ended → is_nameless_at ended (suc i) ≡ true)
      by true e = inr (λ l. rw e (end_next e))
      by false e = subst (λ (x : List ℕ). (is_read x i ≡ true) ⊎ (suc i < slots_in x → is_nameless_at x (suc i) ≡ true)) (rw e) (r.next e)

  -- ---- bytes put in the slot, in one step with what is put behind it in its sector

  module _ (o : ℕ) (y : List ℕ) (k : o + length y ≤ 256) where
    end_inside : AllInsideSector (dir_sector i) (end_puts old i ++ slot_put i o y)
    unfolding end_puts same_sector
    end_inside = by old refl (eqb (dir_sector (suc i)) (dir_sector i)) refl
      where
        last : InsideSector (dir_sector i) (record { place = slot_at i + o; bytes = y })
        last = inside-slot m (accepted-long m ok) i h o y k

        by : (t : Bool) → old ≡ t → (u : Bool) → eqb (dir_sector (suc i)) (dir_sector i) ≡ u → AllInsideSector (dir_sector i) (cond (t && u) (end_put i) [] ++ slot_put i o y)
        by true e true q = (
          subst (λ (s : ℕ). InsideSector s (record { place = slot_at (suc i) + 0; bytes = no_name })) (eqb-true (dir_sector (suc i)) (dir_sector i) q)
              (inside-slot m (accepted-long m ok) (suc i) (r.end e).1 0 no_name (omega arith)),
          (last, tt),
        )
        by true e false q = (last, tt)
        by false e u q = (last, tt)

    -- they do what they say, where the slot alone does
    pub end_then : (f : Option File) → StepHolds view AcceptedDisk (without_next_name old i m) (slot_step (view (without_next_name old i m)) i o y f) → StepsHold view AcceptedDisk m (end_steps old i ++ (end_step old (view m) i o y f ∷ []))
    unfolding put_all last_view
    end_then f x =
        goes_append view AcceptedDisk (end_steps old i) (end_step old (view m) i o y f ∷ []) m end_goes (
          record {
            there = subst (λ (n : ℕ). dir_sector i * 512 + 512 ≤ n) (sym (goes_long (end_steps old i) m)) (there-slot m (accepted-long m ok) i h o y k);
            inside = end_inside;
            sees = ap view (end_puts_lem old i m o y) ∙ x.sees ∙ ap (λ (v : View). with_slot v i f) end_view;
            ok = subst (λ (v : View). AcceptedDisk (with_slot v i f)) end_view x.ok;
          },
          tt,
        )
