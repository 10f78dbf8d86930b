-- At every cut of a change the slots that were unread stay so, but for the one that a save writes; and where the directory ends
-- after a save that took its end.
use Prim.Native.Nat.{ℕ, suc, ◌+◌, ◌*◌, ◌%◌, ◌≤◌, ◌<◌}
use mathlib.Core.Path.{◌≡◌, refl, sym, ap, ◌∙◌, subst}
use mathlib.Core.Bool.{Bool, true, false, cond, not, ◌&&◌, true≢false}
use mathlib.Core.List.{List, [], ◌∷◌, ◌++◌, append_assoc, map}
use mathlib.Core.Logic.{◌⊎◌, inl, inr, ⊎_elim}
use mathlib.Core.Option.{none, some}
use native.Mathlib.Nat.{eq-or-lt_of_le, not-suc-le-zero}
use native.Mathlib.Omega.{arith}
use borrow.Author.Tests.{ltb-true, ltb-false, eqb-true, eqb-false, ne_eqb, not-true}
use lib.Dec.{eqb, ltb}
use lib.ListN.{length, get_or, take}
use Rattle.buffers.specs.Bytes.{part}
use Rattle.buffers.proofs.Lists.{below_or_not}
use Rattle.buffers.proofs.Tests.{and_both}
use Rattle.geometry.specs.Disk.{bit_number}
use Rattle.slots.specs.Slot.{count_of}
use Rattle.names.specs.Name.{padded}
use Rattle.chains.specs.File.{File}
use Rattle.directory.specs.Places.{slot_count, slot_bytes, dir_sector}
use Rattle.directory.specs.Directory.{label_of, tracks_of, slots_in, is_slot, is_nameless_at, end_of, slots_read, is_read}
use Rattle.directory.proofs.Places.{dir_not_data}
use Rattle.directory.proofs.Label.{disk_tracks_few, tracks_agree}
use Rattle.directory.proofs.Ends.{end_some, some_end, none_end, read_in, read-seen, unseen-read, seen-is, unseen-later, unseen_past, unseen_nameless, seen_next, unread-kept}
use Rattle.disk.specs.View.{view, view_slots, view_tracks}
use Rattle.disk.specs.Check.{check_disk}
use Rattle.disk.proofs.View.{view_extra}
use Rattle.steps.specs.Sectors.{is_listed, cut}
use Rattle.steps.proofs.Sectors.{listed_append, listed_before, cut-old}
use Rattle.plans.specs.Change.{SaveRequest, Change, save, erase, rename, mark, gather}
use Rattle.plans.specs.Gathering.{up_from}
use Rattle.plans.specs.Saving.{free_bit}
use Rattle.plans.specs.Plan.{old_name, same_sector, dir_sectors, with_slot, new_disk, run_change, finds}
use Rattle.plans.specs.Safe.{Safe}
use Rattle.plans.specs.Allowed.{FirstEmptySlot}
use Rattle.plans.specs.After.{marking}
use Rattle.plans.specs.Gathered.{run_sectors}
use Rattle.plans.specs.Unread.{Writes, Unread, end_behind}
use Rattle.plans.proofs.Frame.{disk-accepted, upd_same, upd_other, holds, slot_half, slot_else}
use Rattle.plans.proofs.Kept.{accepted-long, usable-is}
use Rattle.plans.proofs.Free.{Run, run_at, free_data, FreeSlot}
use Rattle.plans.proofs.Runs.{up_long, free-rises}
use Rattle.plans.proofs.Ended.{free-there, reach_free}
use Rattle.plans.proofs.Saved.{save-slots, save-next}
use Rattle.plans.proofs.NewFile.{new_file}
use Rattle.plans.proofs.Moved.{gather-slots}
use Rattle.plans.proofs.SafeSteps.{not_kind_21}
use Rattle.plans.proofs.Effect.{Touched, erasing, erased, marked_so, renamed, Shifted, Gathers, gathers}
use Rattle.plans.proofs.Demand3.{crash_change, run_room}
use Rattle.plans.proofs.ReadBack.{stored}
use Rattle.plans.proofs.Exactly.{first-empty, first_one}
use Rattle.plans.proofs.Takes.{unlisted}

-- a sector that is none but the last of a list is not among the first k, fewer than all
cut-last : (xs : List ℕ) (a k s : ℕ) → k < length (xs ++ (a ∷ [])) → is_listed s xs ≡ false → is_listed s (take k (xs ++ (a ∷ []))) ≡ false
cut-last xs a k s h e = by (is_listed s (take k (xs ++ (a ∷ [])))) refl
  where
    by : (t : Bool) → is_listed s (take k (xs ++ (a ∷ []))) ≡ t → t ≡ false
    by true q = sym (listed_before xs a k s h q) ∙ e
    by false q = refl

-- ---- what a change has to show of the end

module _ (writes : ℕ → Type 0) (d new ss : List ℕ) (whole : cut d new ss (length ss) ≡ new)
    -- its sector is not written before the last
    (early : (k : ℕ) → k < length ss → slots_read d < slots_in d → is_listed (dir_sector (slots_read d)) (take k ss) ≡ false)
    (label : (k : ℕ) → k ≤ length ss → label_of (cut d new ss k) ≡ label_of d) (after : (j : ℕ) → is_read d j ≡ false → (writes j → ⊥) → is_read new j ≡ false) (written : (j : ℕ) → writes j ⊎ (writes j → ⊥)) where
  before : (k : ℕ) → k < length ss → (j : ℕ) → is_read d j ≡ false → is_read (cut d new ss k) j ≡ false
  before k h =
      unread-kept d (cut d new ss k) (tracks_agree d (cut d new ss k) (label k (omega arith)))
      (λ l.
      sym (slot_half (cut d new ss k) (slots_read d)) ∙ ap (part (256 * (slots_read d % 2)) 256) (cut-old d new ss k (dir_sector (slots_read d)) (early k h l))
      ∙ slot_half d (slots_read d))

  stays : (k : ℕ) → k ≤ length ss → (j : ℕ) → is_read d j ≡ false → (writes j → ⊥) → is_read (cut d new ss k) j ≡ false
  stays k h j q n =
      ⊎_elim (λ m. ap (λ (x : List ℕ). is_read x j) (ap (cut d new ss) m ∙ whole) ∙ after j q n) (λ m. before k m j q) (eq-or-lt_of_le h)

  pub unread_of : Unread writes d new ss
  unread_of = record {
    before = before;
    stays = stays;
    live = λ k h j f q e.
        ⊎_elim (λ w. w) (λ n. absurd (true≢false (sym (holds (cut d new ss k) j f e).read ∙ stays k h j q n))) (written j);
  }

-- ---- a change of a slot that is read

touch_unread : (writes : ℕ → Type 0) (d n : List ℕ) (o : ℕ) (y : File → List ℕ) (Also : ℕ → File → Type 0) (new ss : List ℕ) → check_disk d ≡ none
    → cut d new ss (length ss) ≡ new → ((k : ℕ) → k ≤ length ss → label_of (cut d new ss k) ≡ label_of d) → (t : Touched d n o y Also new ss) → o + length (y t.file) ≤ 256 → ((j : ℕ) → writes j → ⊥) → Unread writes d new ss
touch_unread writes d n o y Also new ss ok whole label t k w =
    unread_of writes d new ss whole
    (λ m h l. subst (λ (xs : List ℕ). m < length xs → is_listed (dir_sector (slots_read d)) (take m xs) ≡ false) (sym t.sectors) (λ q. cut-last [] (dir_sector t.slot) m (dir_sector (slots_read d)) q refl) h)
    label
    (λ j q z.
    unread-kept d new (tracks_agree d new (sym (ap label_of whole) ∙ label (length ss) (omega arith)))
    (λ l.
    let r = read-seen d t.slot (holds d t.slot t.file t.found.here).read in
    ap (λ (x : List ℕ). slot_bytes x (slots_read d)) t.disk
    ∙ slot_else d (accepted-long d (disk-accepted d ok)) t.slot (omega (arith, r, read_in d)) o (y t.file) k (slots_read d) (omega arith)) j q)
    (λ j. inr (w j))

-- the sectors of free bits are none of the directory's
pub data_unlisted : (d bs : List ℕ) → Run (free_bit (view_tracks (view d)) (view_slots (view d))) 0 bs → (i : ℕ) → i < slots_in d → is_listed (dir_sector i) (map bit_number bs) ≡ false
data_unlisted d bs r i l =
    unlisted (dir_sector i) bs
    (λ j h q.
    dir_not_data (tracks_of d) (get_or bs j 0) i (disk_tracks_few d)
    (rw (← view_extra d)
    (free_data (view_tracks (view d)) (view_slots (view d)) (get_or bs j 0) (run_at (free_bit (view_tracks (view d)) (view_slots (view d))) 0 bs r j h).passes)) l (sym q))

-- ---- a gather

gather-unread : (d n : List ℕ) (room : ℕ) (new ss : List ℕ) → check_disk d ≡ none → run_change (gather n) d room ≡ new_disk new ss → Unread (Writes (gather n) d) d new ss
gather-unread d n room new ss ok e =
    unread_of (Writes (gather n) d) d new ss s.whole (λ k h l. ⊎_elim (λ a. none_early k h a.2) (λ a. early a k h l) t.done) s.label
    (λ j q z. ⊎_elim (λ a. ap (λ (x : List ℕ). is_read x j) a.1 ∙ q) (λ a. after a j q) t.done) (λ j. inr (λ x. x))
  where
    s : Safe (finds (gather n)) d new ss
    s = crash_change (gather n) d room new ss ok e

    t : Gathers d n new ss
    t = gathers d ok room new ss n e

    none_early : (k : ℕ) → k < length ss → ss ≡ [] → is_listed (dir_sector (slots_read d)) (take k ss) ≡ false
    none_early k h q = absurd (not-suc-le-zero (subst (λ (x : List ℕ). k < length x) q h))

    rises : (a : Shifted d t.slot t.file new ss) → Run (free_bit (view_tracks (view d)) (view_slots (view d))) 0 (up_from (count_of t.file.bytes) a.bit)
    rises a = free-rises d (count_of t.file.bytes) a.bit a.lowest.here

    early : Shifted d t.slot t.file new ss → (k : ℕ) → k < length ss → slots_read d < slots_in d → is_listed (dir_sector (slots_read d)) (take k ss) ≡ false
    early a k h l =
        subst (λ (xs : List ℕ). k < length xs → is_listed (dir_sector (slots_read d)) (take k xs) ≡ false) (sym a.sectors)
        (λ q. cut-last (run_sectors (count_of t.file.bytes) a.bit) (dir_sector t.slot) k (dir_sector (slots_read d)) q
        (data_unlisted d (up_from (count_of t.file.bytes) a.bit) (rises a) (slots_read d) l)) h

    after : Shifted d t.slot t.file new ss → (j : ℕ) → is_read d j ≡ false → is_read new j ≡ false
    after a =
        unread-kept d new (tracks_agree d new (sym (ap label_of s.whole) ∙ s.label (length ss) (omega arith)))
        (λ l.
        let r = read-seen d t.slot (holds d t.slot t.file t.found.here).read in
        ap (λ (x : List ℕ). slot_bytes x (slots_read d)) a.disk
        ∙ gather-slots d (disk-accepted d ok) t.slot t.file t.found.here (not_kind_21 t.file.bytes t.no_directory)
        (up_from (count_of t.file.bytes) a.bit) (rises a) (up_long (count_of t.file.bytes) a.bit) (slots_read d) l (omega arith))

-- ---- a change that writes a new file into the lowest free slot

-- what it leaves: the slot, the one behind the directory's end, and nothing else of the directory; the file is seen there
pub record EntersFile (d new ss : List ℕ) : Type 0 where
  pub slot : ℕ
  pub lowest : FreeSlot (view d) slot
  pub file : File
  pub seen : view new ≡ with_slot (view d) slot (some file)
  pub next : is_nameless_at d slot ≡ true → suc slot < slots_in d → is_nameless_at new (suc slot) ≡ true
  pub others : (j : ℕ) → j < slots_in d → (j ≡ slot → ⊥) → (old_name d slot ≡ true → j ≡ suc slot → ⊥) → slot_bytes new j ≡ slot_bytes d j
  -- the data sectors come first
  pub first : List ℕ
  pub sectors : ss ≡ first ++ dir_sectors (old_name d slot) slot
  pub apart : (j : ℕ) → j < slots_in d → is_listed (dir_sector j) first ≡ false
  pub whole : cut d new ss (length ss) ≡ new
  pub label : (k : ℕ) → k ≤ length ss → label_of (cut d new ss k) ≡ label_of d

module _ (d new ss : List ℕ) (k : EntersFile d new ss) where
  abbrev i : ℕ
  i = k.slot

  taken : FirstEmptySlot d i
  taken = first-empty d i k.lowest

  written : (j : ℕ) → FirstEmptySlot d j ⊎ (FirstEmptySlot d j → ⊥)
  written j = by (eqb j i) refl
    where
      by : (t : Bool) → eqb j i ≡ t → FirstEmptySlot d j ⊎ (FirstEmptySlot d j → ⊥)
      by true q = inl (subst (FirstEmptySlot d) (sym (eqb-true j i q)) taken)
      by false q = inr (λ f. eqb-false j i q (first_one d j i f taken))

  before-read : (j : ℕ) → j < i → is_read d j ≡ true
  before-read j l = let f = k.lowest.before j l in (holds d j f.0 f.1).read

  -- where the slot has no name, it is the end
  is_end : is_nameless_at d i ≡ true → slots_read d ≡ i
  is_end n =
      let a = unseen-read d i (unseen_nameless d i n) in
      ⊎_elim (λ (h : slots_read d < i). let z = read-seen d (slots_read d) (before-read (slots_read d) h) in absurd (omega arith)) (λ (h : i ≤ slots_read d). omega arith)
      (below_or_not (slots_read d) i)

  same-tracks : tracks_of new ≡ tracks_of d
  same-tracks = tracks_agree d new (sym (ap label_of k.whole) ∙ k.label (length ss) (omega arith))

  after : (j : ℕ) → is_read d j ≡ false → (FirstEmptySlot d j → ⊥) → is_read new j ≡ false
  after j q z = by (is_nameless_at d i) refl
    where
      by : (t : Bool) → is_nameless_at d i ≡ t → is_read new j ≡ false
      by true n =
          let a = is_end n in
          let b = unseen-read d j q in
          let away : (j ≡ i → ⊥) = λ m. z (subst (FirstEmptySlot d) (sym m) taken) in
          let c : suc i ≤ j = omega arith in
          ⊎_elim (λ (l : suc i < slots_in d). unseen-later new (suc i) j c (unseen_nameless new (suc i) (k.next n l)))
          (λ (l : slots_in d ≤ suc i). unseen_past new j (omega (arith, ap slot_count same-tracks)))
          (below_or_not (suc i) (slots_in d))
      by false n =
          let r = read-seen d i (seen_next d i (free-there d i k.lowest) before-read n) in
          unread-kept d new same-tracks
          (λ l. k.others (slots_read d) l (omega arith) (λ o. absurd (true≢false (sym ((reach_free d i k.lowest).end o).0 ∙ n)))) j q

  early : (m : ℕ) → m < length ss → slots_read d < slots_in d → is_listed (dir_sector (slots_read d)) (take m ss) ≡ false
  unfolding dir_sectors same_sector
  early m h l = subst (λ (xs : List ℕ). m < length xs → is_listed (dir_sector (slots_read d)) (take m xs) ≡ false) (sym k.sectors) (by (old_name d i && not (same_sector i)) refl) h
    where
      xs : List ℕ
      xs = k.first

      apart : (old_name d i && not (same_sector i)) ≡ true → is_listed (dir_sector (slots_read d)) (xs ++ (dir_sector (suc i) ∷ [])) ≡ false
      apart q =
          let b = and_both (old_name d i) (not (same_sector i)) q in
          let z = is_end ((reach_free d i k.lowest).end b.0).0 in
          let n = eqb-false (dir_sector (suc i)) (dir_sector i) (not-true (eqb (dir_sector (suc i)) (dir_sector i)) b.1) in
          listed_append (dir_sector (slots_read d)) xs (dir_sector (suc i) ∷ [])
          ∙ rw (k.apart (slots_read d) l, ne_eqb (dir_sector (slots_read d)) (dir_sector (suc i)) (λ e. n (sym e ∙ ap dir_sector z)))

      by : (t : Bool) → (old_name d i && not (same_sector i)) ≡ t → m < length (xs ++ cond t (dir_sector (suc i) ∷ dir_sector i ∷ []) (dir_sector i ∷ []))
          → is_listed (dir_sector (slots_read d)) (take m (xs ++ cond t (dir_sector (suc i) ∷ dir_sector i ∷ []) (dir_sector i ∷ []))) ≡ false
      by true q =
          subst (λ (ys : List ℕ). m < length ys → is_listed (dir_sector (slots_read d)) (take m ys) ≡ false) (append_assoc xs (dir_sector (suc i) ∷ []) (dir_sector i ∷ []))
          (λ h. cut-last (xs ++ (dir_sector (suc i) ∷ [])) (dir_sector i) m (dir_sector (slots_read d)) h (apart q))
      by false q = λ h. cut-last xs (dir_sector i) m (dir_sector (slots_read d)) h (k.apart (slots_read d) l)

  pub enters_unread : Unread (FirstEmptySlot d) d new ss
  enters_unread = unread_of (FirstEmptySlot d) d new ss k.whole early k.label after written

  -- ---- where the directory then ends

  -- every slot up to that of the new file is read
  named_now : (j : ℕ) → j ≤ i → is_nameless_at new j ≡ false
  named_now j h =
      ⊎_elim
      (λ (l : j < i).
      let f = k.lowest.before j l in
      read_at_lem j f.0 (ap (λ v. v.files j) k.seen ∙ upd_other (view d) i (some k.file) j (omega arith) ∙ f.1))
      (λ (l : i ≤ j).
      let z : j ≡ i = omega arith in
      ap (is_nameless_at new) z ∙ read_at_lem i k.file (ap (λ v. v.files i) k.seen ∙ upd_same (view d) i (some k.file)))
      (below_or_not j i)
    where
      read_at_lem : (j : ℕ) (f : File) → (view new).files j ≡ some f → is_nameless_at new j ≡ false
      read_at_lem j f q = (seen-is new j (holds new j f q).read).1 j (omega arith)

  end_now : end_of d ≡ some i → end_of new ≡ end_behind d i
  unfolding end_behind is_slot
  end_now q = by (ltb (suc i) (slots_in d)) refl
    where
      by : (t : Bool) → ltb (suc i) (slots_in d) ≡ t → end_of new ≡ cond t (some (suc i)) none
      by true h =
          let l = ltb-true (suc i) (slots_in d) h in
          some_end new (suc i) (record { below = rw same-tracks l; here = k.next (end_some d i q).here l; before = λ j m. named_now j (omega arith) })
      by false h = let l = ltb-false (suc i) (slots_in d) h in none_end new (λ j m. named_now j (omega (arith, ap slot_count same-tracks)))

  pub enters_ends : (j : ℕ) → FirstEmptySlot d j → end_of d ≡ some j → end_of new ≡ end_behind d j
  enters_ends j f q =
      let z : j ≡ i = first_one d j i f taken in
      end_now (q ∙ ap some z) ∙ ap (end_behind d) (sym z)

-- a save
save_enters : (d : List ℕ) → check_disk d ≡ none → (room : ℕ) (w : SaveRequest) (new ss : List ℕ) → run_change (save w) d room ≡ new_disk new ss → EntersFile d new ss
save_enters d ok room w new ss e =
    let k = stored d ok room w new ss e in
    let s = crash_change (save w) d room new ss ok e in
    record {
      slot = k.slot;
      lowest = k.lowest;
      file = new_file (view d).label k.slot w k.bits;
      seen = k.seen;
      next = λ n l. ap (λ (x : List ℕ). is_nameless_at x (suc k.slot)) k.disk ∙ save-next d (disk-accepted d ok) k.slot k.lowest w k.bits k.ready n l;
      others = λ j l n o. ap (λ (x : List ℕ). slot_bytes x j) k.disk ∙ save-slots d (disk-accepted d ok) k.slot k.lowest w k.bits k.ready j l n o;
      first = map bit_number k.bits;
      sectors = k.sectors;
      apart = data_unlisted d k.bits k.ready.run;
      whole = s.whole;
      label = s.label;
    }

-- ---- every change

pub unread-stays : (c : Change) (d : List ℕ) (room : ℕ) (new ss : List ℕ) → check_disk d ≡ none → run_change c d room ≡ new_disk new ss → Unread (Writes c d) d new ss
unread-stays (save w) d room new ss ok e = enters_unread d new ss (save_enters d ok room w new ss e)
unread-stays (erase n) d room new ss ok e =
    let t = erased d ok room new ss n e in
    touch_unread (Writes (erase n) d) d n 0 erasing _ new ss ok (crash_change (erase n) d room new ss ok e).whole (crash_change (erase n) d room new ss ok e).label t (omega arith) (λ j x. x)
unread-stays (rename n to) d room new ss ok e =
    let t = renamed d ok room new ss n to e in
    let l = (usable-is to t.also.name).1 in
    touch_unread (Writes (rename n to) d) d n 1 (λ f. padded to) _ new ss ok (crash_change (rename n to) d room new ss ok e).whole (crash_change (rename n to) d room new ss ok e).label t (omega arith) (λ j x. x)
unread-stays (mark m n) d room new ss ok e =
    let t = marked_so d ok room new ss m n e in
    touch_unread (Writes (mark m n) d) d n 0 (marking m) _ new ss ok (crash_change (mark m n) d room new ss ok e).whole (crash_change (mark m n) d room new ss ok e).label t (omega arith) (λ j x. x)
unread-stays (gather n) d room new ss ok e = gather-unread d n room new ss ok e

-- after a save that took the end the directory ends right behind the new file, or has no end where that is the last slot
pub ends_behind : (d : List ℕ) (room : ℕ) (w : SaveRequest) (new ss : List ℕ) → run_change (save w) d room ≡ new_disk new ss → (i : ℕ) → FirstEmptySlot d i → end_of d ≡ some i
    → end_of new ≡ end_behind d i
ends_behind d room w new ss e = enters_ends d new ss (save_enters d (run_room (save w) d room new ss e).accepted room w new ss e)
