-- Each change does what its name says, and only that: the disk after an accepted erase, rename or mark.
use Prim.Native.Nat.{ℕ, ◌+◌, ◌*◌, ◌/◌, ◌%◌, ◌≤◌, ◌<◌}
use mathlib.Core.Path.{◌≡◌, refl, sym, ap, ap₂, ◌∙◌, subst₂}
use mathlib.Core.Bool.{Bool, true, false, cond, not, ◌&&◌, ◌||◌, or-false, true≢false}
use mathlib.Core.List.{List, [], ◌∷◌}
use mathlib.Core.Logic.{◌⊎◌, inl, inr, ⊎_elim}
use mathlib.Core.Option.{Option, none, some, some-ne-none, some-injective}
use native.Mathlib.Decide.{ℕ_discrete}
use native.Mathlib.Omega.{arith}
use borrow.Author.Tests.{eq-eqb, ne_eqb, eqb-true, eqb-false}
use lib.Dec.{eqb}
use lib.Seq.{ext_get_or}
use lib.ListN.{length, get_or}
use Rattle.buffers.specs.Bytes.{tab, put}
use Rattle.buffers.proofs.Lists.{below_or_not, length-put, part_at, put_in, put-before, put-after}
use Rattle.buffers.proofs.Counts.{count_cong, any_cong, any_some, none_any, count_less}
use Rattle.buffers.proofs.Tests.{and_both}
use Rattle.geometry.specs.Disk.{bit_of}
use Rattle.refusals.specs.Order.{refuse}
use Rattle.maps.specs.Bits.{has, bits_of, join}
use Rattle.maps.proofs.Laws.{bits_le, bits-join, has_join, none-share}
use Rattle.slots.specs.Slot.{is_live, hidden, protected, kind_of, spectrum, name_of, count_of, first_of, map_of, page_of, offset_of, slot_fields, length_of}
use Rattle.names.specs.Name.{same_name, Same, askable, padded}
use Rattle.names.proofs.Names.{same_sym, same_eq, same_of}
use Rattle.slots.specs.Tracks.{data_count, data_bit}
use Rattle.slots.proofs.Tracks.{count_data}
use Rattle.chains.specs.File.{File}
use Rattle.chains.specs.Chain.{chain_bit}
use Rattle.headers.specs.Header.{header_length, header_start, file_length, body_byte, body}
use Rattle.chains.proofs.Laws.{map-small}
use Rattle.directory.specs.Places.{slots, slot_at}
use Rattle.directory.specs.Directory.{fold_option, Directory}
use Rattle.surveys.specs.Survey.{union, counted, used_map, free_of, free}
use Rattle.directory.specs.Find.{find}
use Rattle.directory.proofs.Places.{slot_within}
use Rattle.surveys.proofs.Union.{length_union, has-union}
use Rattle.directory.proofs.Search.{none-find, find-same}
use Rattle.disk.specs.View.{View, view, view_slots, view_tracks}
use Rattle.disk.specs.Check.{check_disk}
use Rattle.disk.specs.Accepted.{Known, AcceptedDisk}
use Rattle.disk.proofs.View.{view-slots, view_extra}
use Rattle.files.specs.Calls.{no_file, file_at, address, file_start}
use Rattle.files.proofs.Named.{lookup-none}
use Rattle.files.proofs.Reading.{read-refused}
use Rattle.files.proofs.Starting.{start_refused}
use Rattle.plans.specs.Change.{Mark, hide, show, protect, release, erase, rename, mark, marked_byte, all_between, usable}
use Rattle.plans.specs.Saving.{free_bit}
use Rattle.plans.specs.Plan.{with_slot, new_disk, run_change}
use Rattle.plans.specs.Allowed.{NamedSlot, EraseAllowed, RenameAllowed}
use Rattle.plans.specs.After.{SameAnswers, NameGone, AfterErase, AfterRename, hidden_by, protected_by, marking, AfterMark}
use Rattle.plans.proofs.Frame.{slots-some, slot-file, disk-accepted, upd_same, upd_other, extra_upd, slots_same, slots-other, entry-live, entry_dead, holds, holds-long}
use Rattle.plans.proofs.Free.{extra_few, used_data}
use Rattle.plans.proofs.Kept.{accepted-apart, accepted-long, usable-is}
use Rattle.plans.proofs.Named.{alone, found_here}
use Rattle.plans.proofs.Effect.{Touched, erasing, erased, marked_so, renamed}
use Rattle.plans.proofs.Demand3.{change-accepted}
use Rattle.plans.proofs.Others.{SameContents, alike_same, same-answers, Unnamed, find_upd, file-other, first-name, name-put}

-- ---- the bytes of the image

module _ (d n : List ℕ) (o : ℕ) (y : File → List ℕ) (Also : ℕ → File → Type 0) (new ss : List ℕ) (t : Touched d n o y Also new ss) where
  long_kept : length new ≡ length d
  long_kept = ap length t.disk ∙ length-put d (slot_at t.slot + o) (y t.file)

  bytes-kept : (k : ℕ) → (k < slot_at t.slot + o) ⊎ (slot_at t.slot + o + length (y t.file) ≤ k) → get_or new k 0 ≡ get_or d k 0
  bytes-kept k h =
      ap (λ (e : List ℕ). get_or e k 0) t.disk
      ∙ ⊎_elim (put-before d (slot_at t.slot + o) (y t.file) k) (put-after d (slot_at t.slot + o) (y t.file) k) h

  -- where what is put is one byte at the slot's first place
  byte-kept : o ≡ 0 → length (y t.file) ≡ 1 → (k : ℕ) → (k ≡ slot_at t.slot → ⊥) → get_or new k 0 ≡ get_or d k 0
  byte-kept z u k h = bytes-kept k (⊎_elim (λ (l : k < slot_at t.slot). inl (omega arith)) (λ (l : slot_at t.slot ≤ k). inr (omega arith)) (below_or_not k (slot_at t.slot)))

  byte_put : AcceptedDisk (view d) → (i : ℕ) → i < length (y t.file) → o + i < 256 → get_or new (slot_at t.slot + (o + i)) 0 ≡ get_or (y t.file) i 0
  byte_put w i h l =
      ap₂ (λ (e : List ℕ) (k : ℕ). get_or e k 0) t.disk (omega arith)
      ∙ put_in d (slot_at t.slot + o) (y t.file) i h (omega (arith, accepted-long d w, slot_within t.slot t.found.below))

pub first_byte : (s : List ℕ) (b : ℕ) → 1 ≤ length s → get_or (put s 0 (b ∷ [])) 0 0 ≡ b
first_byte s b h = put_in s 0 (b ∷ []) 0 (omega arith) (omega arith)

-- ---- a name by the files that have it

module _ (l : View) (w : AcceptedDisk l) (n : List ℕ) (i : ℕ) (f : File) (h : i < slots) (e : l.files i ≡ some f) (q : Same (name_of f.bytes) (padded n)) where
  -- no slot has it where the slot has it no more
  found_none : (o : Option File) → Unnamed n o → find (view_slots (with_slot l i o)) n ≡ none
  found_none o u =
      none-find (view_slots (with_slot l i o)) n
      (λ k m s p r.
      let g = slot-file (with_slot l i o) k s p in
      by k g.0 m g.1 (same_of (ap name_of g.2) (padded n) r) (ℕ_discrete k i))
    where
      by : (k : ℕ) (g : File) → k < slots → (with_slot l i o).files k ≡ some g → Same (name_of g.bytes) (padded n) → Dec (k ≡ i) → ⊥
      by k g m p r (yes z) = u g (sym (upd_same l i o) ∙ ap (with_slot l i o).files (sym z) ∙ p) r
      by k g m p r (no z) = alone l w n i f h e q k g m z (sym (upd_other l i o k z) ∙ p) r

gone_by : (new n : List ℕ) → check_disk new ≡ none → askable n ≡ true → find (view_slots (view new)) n ≡ none → NameGone new n
gone_by new n ok a f =
    let e = lookup-none new n ok a (ap (λ (v : Directory). find v n) (sym (view-slots new)) ∙ f) in
    record { unread = λ buf. sym (read-refused new n buf (refuse 15 0) e); unstarted = sym (start_refused new n (refuse 15 0) e) }

-- ---- the sectors of a file that is erased

-- whether a slot's map has a bit
abbrev bit_at : View → ℕ → ℕ → Bool
bit_at l b j = fold_option false (λ s. has (map_of s) b) (view_slots l j)

-- the used map where slot i is free
abbrev left_map : View → ℕ → List ℕ
left_map l i = union (view_slots (with_slot l i none)) slots

module _ (l : View) (w : AcceptedDisk l) (i : ℕ) (f : File) (h : i < slots) (e : l.files i ≡ some f) where
  module _ (b : ℕ) (m : has (map_of f.bytes) b ≡ true) where
    small : b < 1560
    small = map-small f.bytes b m

    -- no slot that is left has it
    left-none : (j : ℕ) → j < slots → bit_at (with_slot l i none) b j ≡ false
    left-none j k = by (view_slots (with_slot l i none) j) refl
      where
        other : (g : File) → (with_slot l i none).files j ≡ some g → has (map_of g.bytes) b ≡ true → Dec (j ≡ i) → ⊥
        other g p q (yes z) = some-ne-none g (sym p ∙ ap (with_slot l i none).files z ∙ upd_same l i none)
        other g p q (no z) = (accepted-apart l w i j f g h k z e (sym (upd_other l i none j z) ∙ p)).sectors b small q m

        at : (s : List ℕ) → view_slots (with_slot l i none) j ≡ some s → (t : Bool) → has (map_of s) b ≡ t → t ≡ false
        at s p true q = let g = slot-file (with_slot l i none) j s p in absurd (other g.0 g.1 (ap (λ (s : List ℕ). has (map_of s) b) g.2 ∙ q) (ℕ_discrete j i))
        at s p false q = refl

        by : (o : Option (List ℕ)) → view_slots (with_slot l i none) j ≡ o → fold_option false (λ s. has (map_of s) b) o ≡ false
        by none p = refl
        by (some s) p = at s p (has (map_of s) b) refl

    unused : has (left_map l i) b ≡ false
    unused = has-union (view_slots (with_slot l i none)) slots b small ∙ none_any slots (bit_at (with_slot l i none) b) left-none

    freed-bit : free_bit (view_tracks (with_slot l i none)) (view_slots (with_slot l i none)) b ≡ true
    freed-bit = rw (extra_upd l i none, (w.accepted i f h e).data_bits b m, unused)

  -- the used map was what is left, joined with the file's
  used-join : (b : ℕ) → b < 1560 → has (union (view_slots l) slots) b ≡ has (join (left_map l i) (map_of f.bytes)) b
  used-join b k = by (has (map_of f.bytes) b) refl ∙ sym (has_join (left_map l i) (map_of f.bytes) b (omega (arith, length_union (view_slots (with_slot l i none)) slots)))
    where
      here : bit_at l b i ≡ has (map_of f.bytes) b
      here = ap (fold_option false (λ s. has (map_of s) b)) (slots-some l i f e)

      same : has (map_of f.bytes) b ≡ false → (j : ℕ) → Dec (j ≡ i) → bit_at l b j ≡ bit_at (with_slot l i none) b j
      same m j (yes z) = rw z (here ∙ m ∙ sym (ap (fold_option false (λ s. has (map_of s) b)) (slots_same l i none)))
      same m j (no z) = ap (fold_option false (λ s. has (map_of s) b)) (sym (slots-other l i none j z))

      by : (t : Bool) → has (map_of f.bytes) b ≡ t
          → has (union (view_slots l) slots) b ≡ (has (left_map l i) b || has (map_of f.bytes) b)
      by true m = has-union (view_slots l) slots b k ∙ any_some slots (bit_at l b) i h (here ∙ m) ∙ sym (ap₂ ◌||◌ (unused b m) m)
      by false m =
          has-union (view_slots l) slots b k ∙ any_cong slots (bit_at l b) (bit_at (with_slot l i none) b) (λ j p. same m j (ℕ_discrete j i))
          ∙ sym (has-union (view_slots (with_slot l i none)) slots b k) ∙ sym (ap (λ (t : Bool). has (left_map l i) b || t) m ∙ or-false (has (left_map l i) b))

  used-count : bits_of (union (view_slots l) slots) ≡ bits_of (left_map l i) + count_of f.bytes
  unfolding bits_of
  used-count =
      count_cong 1560 (has (union (view_slots l) slots)) (has (join (left_map l i) (map_of f.bytes))) used-join
      ∙ bits-join (left_map l i) (map_of f.bytes) (length_union (view_slots (with_slot l i none)) slots)
      (none-share (left_map l i) (map_of f.bytes) (λ b k p q. true≢false (sym p ∙ unused b q)))
      ∙ ap (λ (c : ℕ). bits_of (left_map l i) + c) (w.accepted i f h e).bits

  pub freed-count : free (view_tracks (with_slot l i none)) (view_slots (with_slot l i none)) ≡ free (view_tracks l) (view_slots l) + count_of f.bytes
  unfolding free free_of used_map counted bits_of
  freed-count =
      omega (
        arith,
        used-count,
        ap data_count (extra_upd l i none),
        count_data (view_tracks l) (extra_few l),
        count_less 1560 (data_bit (view_tracks l)) (has (union (view_slots l) slots)) (used_data l w),
      )

-- ---- a file whose name or marks are other

pub cond_equal : (a b : Bool) (x y z w : ℕ) → a ≡ b → x ≡ y → z ≡ w → cond a x z ≡ cond b y w
cond_equal a b x y z w p q r = rw (p, q, r)

-- with the kind and every byte from 11 on as they were
alike_by : (f : File) (s : List ℕ) → kind_of s ≡ kind_of f.bytes → ((j : ℕ) → 11 ≤ j → get_or s j 0 ≡ get_or f.bytes j 0) → SameContents (record { bytes = s; sectors = f.sectors }) f
unfolding slot_fields length_of file_length file_start body body_byte
alike_by f s p r =
    let n : length_of (slot_fields s) ≡ length_of (slot_fields f.bytes) = rw (r 239 (omega arith), r 240 (omega arith), r 241 (omega arith)) in
    let b : first_of s ≡ first_of f.bytes = ap₂ bit_of (r 13 (omega arith)) (r 14 (omega arith)) in
    let o : offset_of s ≡ offset_of f.bytes = rw (r 237 (omega arith), r 238 (omega arith)) in
    let g : page_of s ≡ page_of f.bytes = rw (r 236 (omega arith)) in
    let m : file_length (record { bytes = s; sectors = f.sectors }) ≡ file_length f =
    cond_equal (spectrum (kind_of s)) (spectrum (kind_of f.bytes)) _ _ _ _ (ap spectrum p) (ap (λ (b : ℕ). header_length (f.sectors b)) b) n in
    record {
      kind = p;
      long = m;
      bodies = ap₂ (λ (n b : ℕ). tab n (λ k. get_or (f.sectors (chain_bit f.sectors b ((9 + k) / 510))) ((9 + k) % 510) 0)) m b;
      offset = o;
      start = cond_equal (spectrum (kind_of s)) (spectrum (kind_of f.bytes)) _ _ _ _ (ap spectrum p) (ap (λ (b : ℕ). header_start (f.sectors b)) b) (ap₂ address g o);
    }

-- slot i holds g in place of f
module _ (d new : List ℕ) (i : ℕ) (f g : File) (e : (view d).files i ≡ some f) (s : view new ≡ with_slot (view d) i (some g)) where
  pub swap_here : (view new).files i ≡ some g
  swap_here = rw s (upd_same (view d) i (some g))

  swap_alike : SameContents g f → (j : ℕ) → SameContents (file_at (view new) j) (file_at (view d) j)
  swap_alike a j = by (ℕ_discrete j i)
    where
      by : Dec (j ≡ i) → SameContents (file_at (view new) j) (file_at (view d) j)
      by (yes z) =
          subst₂ SameContents (sym (ap (file_at (view new)) z ∙ ap (fold_option no_file (λ f. f)) swap_here)) (sym (ap (file_at (view d)) z ∙ ap (fold_option no_file (λ f. f)) e)) a
      by (no z) = alike_same (file_at (view new) j) (file_at (view d) j) (ap (λ (l : View). file_at l j) s ∙ file-other (view d) i (some g) j z)

  pub swap_answers : SameContents g f → check_disk d ≡ none → check_disk new ≡ none → (m n : List ℕ) → askable m ≡ askable n
      → find (view_slots (view new)) m ≡ find (view_slots (view d)) n → SameAnswers new m d n
  unfolding check_disk
  swap_answers a p q m n t z =
      let w = same-answers (view new) (view d) q p m n t z (λ j u. swap_alike a j) in
      record { readings = w.0; starts = w.1 }

  -- with the same name, every name finds what it found
  pub swap_find : name_of g.bytes ≡ name_of f.bytes → (m : List ℕ) → find (view_slots (view new)) m ≡ find (view_slots (view d)) m
  swap_find q m =
      ap (λ (l : View). find (view_slots l) m) s
      ∙ find_upd (view d) i (some g) m
      (ap (fold_option none (λ s. cond (same_name (name_of s) (padded m)) (some i) none)) (slots_same (view d) i (some g))
      ∙ ap (λ (x : List ℕ). cond (same_name x (padded m)) (some i) none) q
      ∙ sym (ap (fold_option none (λ s. cond (same_name (name_of s) (padded m)) (some i) none)) (slots-some (view d) i f e)))

-- ---- marks

hidden-bit : (k : Mark) (x : ℕ) → eqb (marked_byte k x / 128 % 2) 1 ≡ hidden_by k (eqb (x / 128 % 2) 1)
hidden-bit hide x = eq-eqb ((x % 128 + 128) / 128 % 2) 1 (omega arith)
hidden-bit show x = ne_eqb (x % 128 / 128 % 2) 1 (omega arith)
hidden-bit protect x = let e : (x / 128 * 128 + 64 + x % 64) / 128 % 2 ≡ x / 128 % 2 = omega arith in rw e
hidden-bit release x = let e : (x / 128 * 128 + x % 64) / 128 % 2 ≡ x / 128 % 2 = omega arith in rw e

protected-bit : (k : Mark) (x : ℕ) → eqb (marked_byte k x / 64 % 2) 1 ≡ protected_by k (eqb (x / 64 % 2) 1)
protected-bit hide x = let e : (x % 128 + 128) / 64 % 2 ≡ x / 64 % 2 = omega arith in rw e
protected-bit show x = let e : x % 128 / 64 % 2 ≡ x / 64 % 2 = omega arith in rw e
protected-bit protect x = eq-eqb ((x / 128 * 128 + 64 + x % 64) / 64 % 2) 1 (omega arith)
protected-bit release x = ne_eqb ((x / 128 * 128 + x % 64) / 64 % 2) 1 (omega arith)

pub kind-bits : (k : Mark) (x : ℕ) → marked_byte k x % 64 ≡ x % 64
kind-bits hide x = omega arith
kind-bits show x = omega arith
kind-bits protect x = omega arith
kind-bits release x = omega arith

-- a known kind leaves the slot live
pub known_some : (j : ℕ) → Known j → 1 ≤ j
known_some j h = ⊎_elim (λ p. p.0) (λ p. let q : 16 ≤ j = p.0 in omega arith) h

pub marked_some : (k : Mark) (x : ℕ) → 1 ≤ x % 64 → marked_byte k x ≡ 0 → ⊥
marked_some k x h e = omega (arith, kind-bits k x)

-- the first byte of the slot found, on the disk
first-here : (d n : List ℕ) (i : ℕ) (f : File) → NamedSlot d n i f → get_or f.bytes 0 0 ≡ get_or d (slot_at i) 0
first-here d n i f w =
    ap (λ (s : List ℕ). get_or s 0 0) (sym (holds d i f w.here).bytes) ∙ part_at (slot_at i) 256 d 0 (omega arith) ∙ ap (λ (k : ℕ). get_or d k 0) (omega arith)

-- ---- each change

module _ (d : List ℕ) (ok : check_disk d ≡ none) (room : ℕ) (new ss : List ℕ) where
  old-accepted : AcceptedDisk (view d)
  old-accepted = disk-accepted d ok

  pub after-erase : (n : List ℕ) → run_change (erase n) d room ≡ new_disk new ss → AfterErase d n new ss
  after-erase n e =
      let t = erased d ok room new ss n e in
      let l = holds-long d t.slot t.file t.found.here (accepted-long d old-accepted) in
      let z : view new ≡ with_slot (view d) t.slot none =
      t.seen ∙ ap (with_slot (view d) t.slot) (entry_dead (put t.file.bytes 0 (0 ∷ [])) t.file.sectors (rw (first_byte t.file.bytes 0 (omega arith)))) in
      record {
        slot = t.slot;
        file = t.file;
        found = t.found;
        long = long_kept d n 0 erasing (EraseAllowed d) new ss t;
        byte = ap (λ (k : ℕ). get_or new k 0) (omega arith) ∙ byte_put d n 0 erasing (EraseAllowed d) new ss t old-accepted 0 (omega arith) (omega arith);
        bytes = byte-kept d n 0 erasing (EraseAllowed d) new ss t refl refl;
        sectors = t.sectors;
        empty = rw z (upd_same (view d) t.slot none);
        gone = gone_by new n (change-accepted (erase n) d room new ss ok e) t.askable-name
            (rw z (found_none (view d) old-accepted n t.slot t.file t.found.below t.found.here t.found.name none (λ f p q. some-ne-none f (sym p))));
        freed = rw (← view-slots new, ← view_extra new, z) (freed-bit (view d) old-accepted t.slot t.file t.found.below t.found.here);
        more = rw (← view-slots new, ← view-slots d, ← view_extra new, ← view_extra d, z) (freed-count (view d) old-accepted t.slot t.file t.found.below t.found.here);
      }

  pub after-rename : (n to : List ℕ) → run_change (rename n to) d room ≡ new_disk new ss → AfterRename d n to new ss
  unfolding usable
  after-rename n to e =
      let t = renamed d ok room new ss n to e in
      let f : File = t.file in
      let l = holds-long d t.slot f t.found.here (accepted-long d old-accepted) in
      let u = usable-is to t.also.name in
      let g : File = record { bytes = put f.bytes 1 (padded to); sectors = f.sectors } in
      let live : is_live g.bytes ≡ true = rw (put-before f.bytes 1 (padded to) 0 (omega arith)) (holds d t.slot f t.found.here).alive in
      let z : view new ≡ with_slot (view d) t.slot (some g) = t.seen ∙ ap (with_slot (view d) t.slot) (entry-live g.bytes f.sectors live) in
      let named : name_of g.bytes ≡ padded to = name-put f.bytes (padded to) u.1 (omega arith) in
      let here : (view new).files t.slot ≡ some g = swap_here d new t.slot f g t.found.here z in
      let a : SameContents g f = alike_by f g.bytes (ap (λ (x : ℕ). x % 64) (put-before f.bytes 1 (padded to) 0 (omega arith)))
      (λ j h. put-after f.bytes 1 (padded to) j (omega (arith, u.1))) in
      let now : check_disk new ≡ none = change-accepted (rename n to) d room new ss ok e in
      let found : find (view_slots (view new)) to ≡ find (view_slots (view d)) n = found_here (view new) (disk-accepted new now) to t.slot g t.found.below here (same_eq (name_of g.bytes) (padded to) named)
      ∙ sym (found_here (view d) old-accepted n t.slot f t.found.below t.found.here t.found.name) in
      record {
        slot = t.slot;
        file = f;
        found = t.found;
        long = long_kept d n 1 (λ f. padded to) (RenameAllowed d to) new ss t;
        name = λ k h. byte_put d n 1 (λ f. padded to) (RenameAllowed d to) new ss t old-accepted k (omega (arith, u.1)) (omega arith);
        bytes = λ k h. bytes-kept d n 1 (λ f. padded to) (RenameAllowed d to) new ss t k (⊎_elim inl (λ (x : slot_at t.slot + 11 ≤ k). inr (omega (arith, u.1))) h);
        sectors = t.sectors;
        now = record { below = t.found.below; here = here; name = same_eq (name_of g.bytes) (padded to) named };
        answers = swap_answers d new t.slot f g t.found.here z a ok now to n
            ((and_both (askable to) (all_between 32 to 126 && not (eqb (get_or to 0 0) 32)) t.also.name).0 ∙ sym t.askable-name) found;
        gone = λ v. gone_by new n now t.askable-name
            (rw z
            (found_none (view d) old-accepted n t.slot f t.found.below t.found.here t.found.name (some g)
            (λ h p q. v (same_sym (padded to) (padded n) (same_of (sym named ∙ ap (λ (f : File). name_of f.bytes) (some-injective g h p)) (padded n) q)))));
        respelt = λ v. swap_answers d new t.slot f g t.found.here z a ok now n n refl (find-same (view_slots (view new)) n to v ∙ found);
      }

  pub after-mark : (k : Mark) (n : List ℕ) → run_change (mark k n) d room ≡ new_disk new ss → AfterMark k d n new ss
  after-mark k n e =
      let t = marked_so d ok room new ss k n e in
      let f : File = t.file in
      let x : ℕ = get_or f.bytes 0 0 in
      let l = holds-long d t.slot f t.found.here (accepted-long d old-accepted) in
      let b : get_or (put f.bytes 0 (marking k f)) 0 0 ≡ marked_byte k x = first_byte f.bytes (marked_byte k x) (omega arith) in
      let g : File = record { bytes = put f.bytes 0 (marking k f); sectors = f.sectors } in
      let live : is_live g.bytes ≡ true = rw (b, ne_eqb (marked_byte k x) 0 (marked_some k x (known_some (x % 64) (old-accepted.accepted t.slot f t.found.below t.found.here).kind))) in
      let z : view new ≡ with_slot (view d) t.slot (some g) = t.seen ∙ ap (with_slot (view d) t.slot) (entry-live g.bytes f.sectors live) in
      let kept : kind_of g.bytes ≡ kind_of f.bytes = ap (λ (x : ℕ). x % 64) b ∙ kind-bits k x in
      let a : SameContents g f = alike_by f g.bytes kept (λ j h. put-after f.bytes 0 (marking k f) j (omega arith)) in
      let named : name_of g.bytes ≡ name_of f.bytes = first-name f.bytes (marked_byte k x) in
      record {
        slot = t.slot;
        file = f;
        found = t.found;
        long = long_kept d n 0 (marking k) (λ i f. Unit {0}) new ss t;
        byte = ap (λ (k : ℕ). get_or new k 0) (omega arith) ∙ byte_put d n 0 (marking k) (λ i f. Unit {0}) new ss t old-accepted 0 (omega arith) (omega arith)
            ∙ ap (marked_byte k)
            (first-here d n t.slot f t.found);
        bytes = byte-kept d n 0 (marking k) (λ i f. Unit {0}) new ss t refl refl;
        sectors = t.sectors;
        now = record { below = t.found.below; here = swap_here d new t.slot f g t.found.here z; name = same_of named (padded n) t.found.name };
        hides = ap (λ (x : ℕ). eqb (x / 128 % 2) 1) b ∙ hidden-bit k x;
        protects = ap (λ (x : ℕ). eqb (x / 64 % 2) 1) b ∙ protected-bit k x;
        kind = kept;
        answers = λ m.
            swap_answers d new t.slot f g t.found.here z a ok (change-accepted (mark k n) d room new ss ok e) m m refl (swap_find d new t.slot f g t.found.here z named m);
      }

-- "where it is so already the call is accepted": then a byte is what the mark makes of it
marked_already : (k : Mark) (x : ℕ) → x < 256 → hidden_by k (eqb (x / 128 % 2) 1) ≡ eqb (x / 128 % 2) 1
    → protected_by k (eqb (x / 64 % 2) 1) ≡ eqb (x / 64 % 2) 1 → marked_byte k x ≡ x
marked_already hide x h p q = let z = eqb-true (x / 128 % 2) 1 (sym p) in omega arith
marked_already show x h p q = let z = eqb-false (x / 128 % 2) 1 (sym p) in omega arith
marked_already protect x h p q = let z = eqb-true (x / 64 % 2) 1 (sym q) in omega arith
marked_already release x h p q = let z = eqb-false (x / 64 % 2) 1 (sym q) in omega arith

-- and the disk stays as it is
pub mark_already : (k : Mark) (d n new ss : List ℕ) → (t : AfterMark k d n new ss) → get_or d (slot_at t.slot) 0 < 256
    → hidden_by k (hidden t.file.bytes) ≡ hidden t.file.bytes → protected_by k (protected t.file.bytes) ≡ protected t.file.bytes → new ≡ d
mark_already k d n new ss t h p q = ext_get_or 0 new d t.long (λ j u. by j (ℕ_discrete j (slot_at t.slot)))
  where
    e : get_or t.file.bytes 0 0 ≡ get_or d (slot_at t.slot) 0
    e = first-here d n t.slot t.file t.found

    by : (j : ℕ) → Dec (j ≡ slot_at t.slot) → get_or new j 0 ≡ get_or d j 0
    by j (yes z) = ap (λ (j : ℕ). get_or new j 0) z ∙ t.byte ∙ ap (marked_byte k) (sym e) ∙ marked_already k (get_or t.file.bytes 0 0) (rw e h) p q ∙ e ∙ ap (λ (j : ℕ). get_or d j 0) (sym z)
    by j (no z) = t.bytes j z
