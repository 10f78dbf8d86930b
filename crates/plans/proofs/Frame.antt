-- What bytes put into one slot, or into one data sector, change of a view, and what they leave.
use Prim.Native.Nat.{ℕ, suc, ◌+◌, ◌*◌, ◌%◌, ◌≤◌, ◌<◌}
use mathlib.Core.Path.{◌≡◌, refl, sym, ap, ap₂, ◌∙◌, fun_ext}
use mathlib.Core.Bool.{Bool, true, false, cond, ◌&&◌, false≢true}
use mathlib.Core.List.{List}
use mathlib.Core.Logic.{◌⊎◌, inl, inr, ⊎_elim}
use mathlib.Core.Option.{Option, none, some, some-ne-none, some-injective}
use native.Mathlib.Omega.{arith}
use borrow.Author.Tests.{eqb-true, eqb-false, eq-eqb, ne_eqb}
use lib.Dec.{eqb}
use lib.ListN.{length, get_or}
use Rattle.buffers.specs.Bytes.{part, put}
use Rattle.buffers.proofs.Lists.{below_or_not, length-put, part-long, part-put, part_put_before, part_put_after, part-part, part_at, put_in, put-before, put-after, put_is}
use Rattle.geometry.specs.Disk.{image_size, bit_number, bit_place}
use Rattle.geometry.proofs.Laws.{place_inside, number_injective}
use Rattle.maps.specs.Bits.{has}
use Rattle.slots.specs.Slot.{is_live, is_nameless, map_of}
use Rattle.slots.specs.Tracks.{is_label, data_bit}
use Rattle.chains.specs.File.{File, sector_at, sectors_of, file_of}
use Rattle.chains.proofs.Laws.{map-small, sectors-own, file_agree}
use Rattle.directory.specs.Places.{slots, slot_at, slot_bytes, dir_sector}
use Rattle.directory.specs.Directory.{fold_option, label_of, tracks_of, slots_in, is_nameless_at, is_read, directory}
use Rattle.directory.proofs.Places.{slot-first, slot_within, slot-sector, slots_apart, dir_not_data, slot_data_apart}
use Rattle.directory.proofs.Label.{disk_tracks_few, slots-few, label_agree, tracks_agree}
use Rattle.directory.proofs.Ends.{seen-is, seen-lower, seen_next, seen_agree, nameless_agree, unseen-later, unseen_past, unseen_nameless}
use Rattle.directory.proofs.Live.{directory-some, directory-live, directory_dead, directory-unseen}
use Rattle.disk.specs.View.{View, view, view_slots, view_tracks}
use Rattle.disk.specs.Check.{check_disk}
use Rattle.disk.specs.Accepted.{AcceptedDisk}
use Rattle.disk.proofs.View.{view-some, view-none, view_agree}
use Rattle.disk.proofs.Accepted.{accepted-disk}
use Rattle.steps.specs.Sectors.{sector}
use Rattle.steps.specs.Steps.{InsideSector}
use Rattle.steps.proofs.Steps.{put_other}
use Rattle.plans.specs.Plan.{with_slot, file_if_live}

-- ---- the directory of a view, and a view with one slot changed

pub slots-some : (l : View) (i : ℕ) (f : File) → l.files i ≡ some f → view_slots l i ≡ some f.bytes
unfolding view_slots
slots-some l i f e = ap (fold_option none (λ f. some f.bytes)) e

-- the file in a live slot of a view's directory
pub slot-file : (l : View) (i : ℕ) (s : List ℕ) → view_slots l i ≡ some s → (f : File) × (l.files i ≡ some f) × (f.bytes ≡ s)
unfolding view_slots
slot-file l i s e = by (l.files i) refl e
  where
    by : (o : Option File) → l.files i ≡ o → fold_option none (λ f. some f.bytes) o ≡ some s → (f : File) × (l.files i ≡ some f) × (f.bytes ≡ s)
    by none q w = absurd (some-ne-none s (sym w))
    by (some f) q w = (f, q, some-injective f.bytes s w)

pub slot-none : (l : View) (i : ℕ) → view_slots l i ≡ none → l.files i ≡ none
unfolding view_slots
slot-none l i e = by (l.files i) refl e
  where
    by : (o : Option File) → l.files i ≡ o → fold_option none (λ f. some f.bytes) o ≡ none → l.files i ≡ none
    by none q w = q
    by (some f) q w = absurd (some-ne-none f.bytes w)

-- an accepted disk is accepted
pub disk-accepted : (d : List ℕ) → check_disk d ≡ none → AcceptedDisk (view d)
unfolding check_disk
disk-accepted d ok = accepted-disk (view d) ok

module _ (l : View) (i : ℕ) (o : Option File) where
  pub upd_same : (with_slot l i o).files i ≡ o
  unfolding with_slot
  upd_same = rw (eq-eqb i i refl)

  pub upd_other : (j : ℕ) → (j ≡ i → ⊥) → (with_slot l i o).files j ≡ l.files j
  unfolding with_slot
  upd_other j n = rw (ne_eqb j i n)

  pub upd_long : (with_slot l i o).long ≡ l.long
  unfolding with_slot
  upd_long = refl

  pub upd_label : (with_slot l i o).label ≡ l.label
  unfolding with_slot
  upd_label = refl

  pub extra_upd : view_tracks (with_slot l i o) ≡ view_tracks l
  unfolding view_tracks with_slot
  extra_upd = refl

  pub slots_same : view_slots (with_slot l i o) i ≡ fold_option none (λ f. some f.bytes) o
  unfolding view_slots
  slots_same = ap (fold_option none (λ f. some f.bytes)) upd_same

  pub slots-other : (j : ℕ) → (j ≡ i → ⊥) → view_slots (with_slot l i o) j ≡ view_slots l j
  unfolding view_slots
  slots-other j n = ap (fold_option none (λ f. some f.bytes)) (upd_other j n)

-- ---- what a slot with these bytes holds

module _ (s : List ℕ) (sec : ℕ → List ℕ) where
  pub entry-live : is_live s ≡ true → file_if_live s sec ≡ some (record { bytes = s; sectors = sec })
  unfolding file_if_live
  entry-live e = rw e

  pub entry_dead : is_live s ≡ false → file_if_live s sec ≡ none
  unfolding file_if_live
  entry_dead e = rw e

  -- where it holds a file, it is live and that is the file
  pub entry_alive : (f : File) → file_if_live s sec ≡ some f → is_live s ≡ true
  unfolding file_if_live
  entry_alive f e = by (is_live s) e
    where
      by : (t : Bool) → cond t (some (record { bytes = s; sectors = sec })) none ≡ some f → t ≡ true
      by true w = refl
      by false w = absurd (some-ne-none f (sym w))

  pub entry-is : (f : File) → file_if_live s sec ≡ some f → f ≡ record { bytes = s; sectors = sec }
  entry-is f e = sym (some-injective (record { bytes = s; sectors = sec }) f (sym (entry-live (entry_alive f e)) ∙ e))

-- ---- a live slot

-- slot i of an image is live, and f is its file
pub record LiveFile (d : List ℕ) (i : ℕ) (f : File) : Type 0 where
  pub here : i < slots
  pub read : is_read d i ≡ true
  pub live : directory d i ≡ some f.bytes
  pub bytes : slot_bytes d i ≡ f.bytes
  pub alive : is_live f.bytes ≡ true
  pub sectors : sectors_of d f.bytes ≡ f.sectors

module _ (d : List ℕ) (i : ℕ) (f : File) (e : (view d).files i ≡ some f) where
  pub holds : LiveFile d i f
  unfolding view file_of
  holds = by (directory d i) refl e
    where
      by : (o : Option (List ℕ)) → directory d i ≡ o → fold_option none (λ s. some (file_of d s)) o ≡ some f → LiveFile d i f
      by none q w = absurd (some-ne-none f (sym w))
      by (some s) q w =
          let z : file_of d s ≡ f = some-injective (file_of d s) f w in
          let b : s ≡ f.bytes = ap (λ (f : File). f.bytes) z in
          let p = directory-some d i s q in
          record {
            here = p.0;
            read = p.3;
            live = q ∙ ap {B = Option (List ℕ)} some b;
            bytes = sym p.1 ∙ b;
            alive = ap is_live (sym b) ∙ p.2;
            sectors = ap (sectors_of d) (sym b) ∙ ap (λ (f : File). f.sectors) z;
          }

  pub holds-long : length d ≡ image_size → length f.bytes ≡ 256
  holds-long z = ap length (sym holds.bytes) ∙ part-long (slot_at i) 256 d (omega (arith, slot_within i holds.here))

  pub holds-sector : (b : ℕ) → has (map_of f.bytes) b ≡ true → sector_at d b ≡ f.sectors b
  holds-sector b m = sym (sectors-own d f.bytes b m) ∙ ap (λ (s : ℕ → List ℕ). s b) holds.sectors

  -- it has a name
  pub holds_named : is_nameless f.bytes ≡ false
  unfolding is_nameless_at
  holds_named = ap is_nameless (sym holds.bytes) ∙ (seen-is d i holds.read).1 i (omega arith)

-- the file of a slot that is read, live or not
pub view-entry : (d : List ℕ) (i : ℕ) → is_read d i ≡ true → (view d).files i ≡ file_if_live (slot_bytes d i) (sectors_of d (slot_bytes d i))
unfolding file_of
view-entry d i h = by (is_live (slot_bytes d i)) refl
  where
    by : (t : Bool) → is_live (slot_bytes d i) ≡ t → (view d).files i ≡ file_if_live (slot_bytes d i) (sectors_of d (slot_bytes d i))
    by true q = view-some d i (slot_bytes d i) (directory-live d i h q) ∙ sym (entry-live (slot_bytes d i) (sectors_of d (slot_bytes d i)) q)
    by false q = view-none d i (directory_dead d i q) ∙ sym (entry_dead (slot_bytes d i) (sectors_of d (slot_bytes d i)) q)

-- an image with the same bytes in a slot, which is read as before, says the same of it
directory-stays : (d e : List ℕ) (j : ℕ) → is_read e j ≡ is_read d j → slot_bytes e j ≡ slot_bytes d j → directory e j ≡ directory d j
unfolding directory
directory-stays d e j n q = ap₂ (λ (t : Bool) (s : List ℕ). cond (t && is_live s) (some s) none) n q

-- a slot is half of its sector
pub slot_half : (d : List ℕ) (i : ℕ) → part (256 * (i % 2)) 256 (sector d (dir_sector i)) ≡ slot_bytes d i
slot_half d i = part-part (dir_sector i * 512) 512 (256 * (i % 2)) 256 d (omega arith) ∙ ap (λ (a : ℕ). part a 256 d) (omega (arith, slot-sector i))

-- Slot i can be written: those before it are read. Where an old name stands behind it (old), it is the directory's end; where
-- none does, it is read, or the next slot, if there is one, has no name either.
pub record Reach (d : List ℕ) (old : Bool) (i : ℕ) : Type 0 where
  pub before : (j : ℕ) → j < i → is_read d j ≡ true
  pub next : old ≡ false → (is_read d i ≡ true) ⊎ (suc i < slots_in d → is_nameless_at d (suc i) ≡ true)
  pub end : old ≡ true → (is_nameless_at d i ≡ true) × (suc i < slots_in d)

pub reach_read : (d : List ℕ) (i : ℕ) → is_read d i ≡ true → Reach d false i
reach_read d i e = record { before = λ j h. seen-lower d i j (omega arith) e; next = λ q. inl e; end = λ q. absurd (false≢true q) }

-- slot 1 is there on every disk
pub first_slot : (d : List ℕ) → 0 < slots_in d
first_slot d = slot-first (tracks_of d) 0 (omega arith)

-- by the bytes of the slots alone
pub reach_agree : (d e : List ℕ) → ((j : ℕ) → j < slots_in d → slot_bytes e j ≡ slot_bytes d j) → (old : Bool) (i : ℕ) → i < slots_in d → Reach d old i → Reach e old i
reach_agree d e s old i h r = record {
  before = λ j l. same_seen j (omega arith) ∙ r.before j l;
  next = λ q. ⊎_elim (λ w. inl (same_seen i h ∙ w)) (λ w. inr (λ l. let m = rw tracks_same at l in nameless_agree d e (suc i) (s (suc i) m) ∙ w m)) (r.next q);
  end = λ q. let w = r.end q in (nameless_agree d e i (s i h) ∙ w.0, rw tracks_same w.1);
}
  where
    tracks_same : tracks_of e ≡ tracks_of d
    tracks_same = tracks_agree d e (label_agree d e (s 0 (first_slot d)))

    same_seen : (j : ℕ) → j < slots_in d → is_read e j ≡ is_read d j
    same_seen j l = seen_agree d e j tracks_same (λ k m. nameless_agree d e k (s k (omega arith)))

-- no live file's map has a bit inside the directory
abbrev pub AllData : List ℕ → Type 0
AllData d = (j : ℕ) (s : List ℕ) → directory d j ≡ some s → (b : ℕ) → has (map_of s) b ≡ true → data_bit (tracks_of d) b ≡ true

-- x has, where it comes to slot 1, the disk's own bytes as they stand
abbrev pub Keeps : List ℕ → ℕ → List ℕ → Type 0
Keeps d i x = (k : ℕ) → is_label k ≡ true → i ≡ 0 → get_or x k 0 ≡ get_or (slot_bytes d i) k 0

-- ---- bytes put inside one slot

-- what is put inside a part
part_put_inside : (d : List ℕ) (a n o : ℕ) (y : List ℕ) → a + n ≤ length d → o + length y ≤ n → part a n (put d (a + o) y) ≡ put (part a n d) o y
part_put_inside d a n o y h k =
    let l : length (part a n d) ≡ n = part-long a n d h in
    put_is (part a n d) o y (part a n (put d (a + o) y)) (part-long a n (put d (a + o) y) (rw length-put h) ∙ sym l)
    (λ i p q.
    part_at a n (put d (a + o) y) (o + i) (omega arith) ∙ ap (λ (t : ℕ). get_or (put d (a + o) y) t 0) (omega arith)
    ∙ put_in d (a + o) y i p (omega arith))
    (λ t p. part_at a n (put d (a + o) y) t (omega arith) ∙ put-before d (a + o) y (a + t) (omega arith) ∙ sym (part_at a n d t (omega arith)))
    (λ t p q. part_at a n (put d (a + o) y) t (omega arith) ∙ put-after d (a + o) y (a + t) (omega arith) ∙ sym (part_at a n d t (omega arith)))

module _ (d : List ℕ) (z : length d ≡ image_size) (i : ℕ) (h : i < slots_in d) (o : ℕ) (y : List ℕ) (k : o + length y ≤ 256) where
  abbrev new : List ℕ
  new = put d (slot_at i + o) y

  small : i < slots
  small = omega (arith, slots-few d)

  -- as a step's bytes in the slot's sector
  pub inside-slot : InsideSector (dir_sector i) (record { place = slot_at i + o; bytes = y })
  inside-slot = record { low = omega (arith, slot-sector i); high = omega (arith, slot-sector i) }

  pub there-slot : dir_sector i * 512 + 512 ≤ length d
  there-slot = omega (arith, slot-sector i, slot_within i small)

  pub slot-new : slot_bytes (put d (slot_at i + o) y) i ≡ put (slot_bytes d i) o y
  slot-new = part_put_inside d (slot_at i) 256 o y (omega (arith, slot_within i small)) k

  pub slot_else : (j : ℕ) → (j ≡ i → ⊥) → slot_bytes (put d (slot_at i + o) y) j ≡ slot_bytes d j
  slot_else j n =
      ⊎_elim (λ (l : j < i). part_put_before d (slot_at i + o) y (slot_at j) 256 (omega (arith, slots_apart j i l)))
      (λ (l : i ≤ j). part_put_after d (slot_at i + o) y (slot_at j) 256 (omega (arith, slots_apart i j (omega arith))))
      (below_or_not j i)

  pub data_stays : (b : ℕ) → data_bit (tracks_of d) b ≡ true → sector_at (put d (slot_at i + o) y) b ≡ sector_at d b
  data_stays b l =
      put_other (dir_sector i) (record { place = slot_at i + o; bytes = y }) d inside-slot (bit_number b)
      (dir_not_data (tracks_of d) b i (disk_tracks_few d) l h)

  pub files_stay : (s : List ℕ) → ((b : ℕ) → has (map_of s) b ≡ true → data_bit (tracks_of d) b ≡ true) → file_of (put d (slot_at i + o) y) s ≡ file_of d s
  files_stay s m = file_agree new d s (λ b q. data_stays b (m b q))

  nameless_else : (j : ℕ) → (j ≡ i → ⊥) → is_nameless_at new j ≡ is_nameless_at d j
  nameless_else j n = nameless_agree d new j (slot_else j n)

  -- behind a slot without a name nothing is seen to change
  pub slot_quiet : AllData d → (e : ℕ) → e < i → is_nameless_at d e ≡ true → view (put d (slot_at i + o) y) ≡ view d
  slot_quiet all e l n =
      view_agree new d (length-put d (slot_at i + o) y) same-label (fun_ext same) (λ j s q b m. data_stays b (all j s (sym (same j) ∙ q) b m))
    where
      same-label : label_of new ≡ label_of d
      same-label = label_agree d new (slot_else 0 (omega arith))

      rest : (x : List ℕ) → is_nameless_at x e ≡ true → (j : ℕ) → e ≤ j → directory x j ≡ none
      rest x q j k = directory-unseen x j (unseen-later x e j k (unseen_nameless x e q))

      same : (j : ℕ) → directory new j ≡ directory d j
      same j =
          ⊎_elim
          (λ (k : j < e).
          directory-stays d new j (seen_agree d new j (tracks_agree d new same-label) (λ t h. nameless_else t (omega arith))) (slot_else j (omega arith)))
          (λ (k : e ≤ j). rest new (nameless_else e (omega arith) ∙ n) j k ∙ sym (rest d n j k)) (below_or_not j e)

  -- where slot 1 keeps the disk's bytes the label stays
  module _ (kept : Keeps d i (put (slot_bytes d i) o y)) where
    pub label-new : label_of (put d (slot_at i + o) y) ≡ label_of d
    unfolding label_of
    label-new = by (eqb i 0) refl
      where
        here : i ≡ 0 → (j : ℕ) (t : Bool) → is_label j ≡ t → cond t (get_or (slot_bytes new 0) j 0) 0 ≡ cond t (get_or (slot_bytes d 0) j 0) 0
        here z j true e =
            ap (λ (m : ℕ). get_or (slot_bytes new m) j 0) (sym z) ∙ ap (λ (s : List ℕ). get_or s j 0) slot-new ∙ kept j e z
            ∙ ap (λ (m : ℕ). get_or (slot_bytes d m) j 0) z
        here z j false e = refl

        by : (t : Bool) → eqb i 0 ≡ t → label_of new ≡ label_of d
        by false q = label_agree d new (slot_else 0 (λ z. eqb-false i 0 q (sym z)))
        by true q = fun_ext (λ j. here (eqb-true i 0 q) j (is_label j) refl)

    pub tracks-new : tracks_of (put d (slot_at i + o) y) ≡ tracks_of d
    tracks-new = tracks_agree d new label-new

  -- with a name, slot i is read then, and of the others those that were
  module _ (r : Reach d false i) (n : is_nameless (put (slot_bytes d i) o y) ≡ false) (kept : Keeps d i (put (slot_bytes d i) o y)) where
    same-tracks : tracks_of new ≡ tracks_of d
    same-tracks = tracks-new kept

    named_new : is_nameless_at new i ≡ false
    unfolding is_nameless_at
    named_new = ap is_nameless slot-new ∙ n

    seen-before : (j : ℕ) → j < i → is_read new j ≡ is_read d j
    seen-before j l = seen_agree d new j same-tracks (λ k m. nameless_else k (omega arith))

    pub seen_here : is_read (put d (slot_at i + o) y) i ≡ true
    seen_here = seen_next new i (rw same-tracks h) (λ j l. seen-before j l ∙ r.before j l) named_new

    -- behind an end with no old name
    unseen_behind : (e : List ℕ) → (suc i < slots_in e → is_nameless_at e (suc i) ≡ true) → (j : ℕ) → i < j → is_read e j ≡ false
    unseen_behind e q j l =
        ⊎_elim (λ m. unseen-later e (suc i) j l (unseen_nameless e (suc i) (q m)))
        (λ (m : slots_in e ≤ suc i). unseen_past e j (omega arith))
        (below_or_not (suc i) (slots_in e))

    pub seen_else : (j : ℕ) → (j ≡ i → ⊥) → is_read (put d (slot_at i + o) y) j ≡ is_read d j
    seen_else j u =
        ⊎_elim (seen-before j)
        (λ (l : i ≤ j).
        ⊎_elim (λ s. seen_agree d new j same-tracks (λ k m. by k s (eqb k i) refl))
        (λ q. unseen_behind new (λ m. nameless_else (suc i) (omega arith) ∙ q (rw same-tracks at m)) j (omega arith) ∙ sym (unseen_behind d q j (omega arith)))
        (r.next refl))
        (below_or_not j i)
      where
        by : (k : ℕ) → is_read d i ≡ true → (t : Bool) → eqb k i ≡ t → is_nameless_at new k ≡ is_nameless_at d k
        by k s true e = ap (is_nameless_at new) (eqb-true k i e) ∙ named_new ∙ sym ((seen-is d i s).1 i (omega arith)) ∙ ap (is_nameless_at d) (sym (eqb-true k i e))
        by k s false e = nameless_else k (eqb-false k i e)

    -- the view changes in that slot alone: it then holds what its new bytes say
    pub slot-view : AllData d → (x : List ℕ) (sec : ℕ → List ℕ) → put (slot_bytes d i) o y ≡ x → sectors_of d x ≡ sec
        → (is_live x ≡ true → (b : ℕ) → has (map_of x) b ≡ true → data_bit (tracks_of d) b ≡ true)
        → view (put d (slot_at i + o) y) ≡ with_slot (view d) i (file_if_live x sec)
    unfolding view with_slot file_of
    slot-view all x sec ex es dx = λ q. record { long = length-put d (slot_at i + o) y q; label = label-new kept q; files = λ j. by j (eqb j i) refl q }
      where
        held_by : (t : Bool) → is_live x ≡ t → file_if_live x (sectors_of new x) ≡ file_if_live x sec
        held_by true e = ap (file_if_live x) (ap (λ (f : File). f.sectors) (files_stay x (dx e)) ∙ es)
        held_by false e = entry_dead x (sectors_of new x) e ∙ sym (entry_dead x sec e)

        here : (view new).files i ≡ file_if_live x sec
        here = view-entry new i seen_here ∙ ap (λ (s : List ℕ). file_if_live s (sectors_of new s)) (slot-new ∙ ex) ∙ held_by (is_live x) refl

        there : (j : ℕ) (v : Option (List ℕ)) → directory d j ≡ v → fold_option none (λ s. some (file_of new s)) v ≡ fold_option none (λ s. some (file_of d s)) v
        there j none e = refl
        there j (some s) e = ap {B = Option File} some (files_stay s (all j s e))

        by : (j : ℕ) (t : Bool) → eqb j i ≡ t → (view new).files j ≡ cond t (file_if_live x sec) ((view d).files j)
        by j true q = ap (view new).files (eqb-true j i q) ∙ here
        by j false q =
            ap (fold_option none (λ s. some (file_of new s))) (directory-stays d new j (seen_else j (eqb-false j i q)) (slot_else j (eqb-false j i q)))
            ∙ there j (directory d j) refl

-- ---- a data sector put

module _ (d : List ℕ) (z : length d ≡ image_size) (c : ℕ) (hc : c < 1560) (x : List ℕ) (hx : length x ≡ 512) where
  abbrev after : List ℕ
  after = put d (bit_place c) x

  -- as a step's bytes
  pub inside_data : InsideSector (bit_number c) (record { place = bit_place c; bytes = x })
  inside_data = record { low = omega arith; high = omega arith }

  pub there_data : bit_number c * 512 + 512 ≤ length d
  there_data = omega (arith, place_inside c hc)

  pub sector-new : sector_at (put d (bit_place c) x) c ≡ x
  sector-new = ap (λ (n : ℕ). part (bit_place c) n after) (sym hx) ∙ part-put d (bit_place c) x (omega (arith, place_inside c hc))

  -- by sector numbers, and by map bits
  pub number_else : (t : ℕ) → (t ≡ bit_number c → ⊥) → sector (put d (bit_place c) x) t ≡ sector d t
  number_else = put_other (bit_number c) (record { place = bit_place c; bytes = x }) d inside_data

  pub sector_else : (b : ℕ) → b < 1560 → (b ≡ c → ⊥) → sector_at (put d (bit_place c) x) b ≡ sector_at d b
  sector_else b hb n = number_else (bit_number b) (λ q. n (number_injective b c hb hc q))

  module _ (dc : data_bit (tracks_of d) c ≡ true) where
    pub slots_stay : (i : ℕ) → i < slots_in d → slot_bytes (put d (bit_place c) x) i ≡ slot_bytes d i
    slots_stay i h =
        ⊎_elim (λ l. part_put_before d (bit_place c) x (slot_at i) 256 l)
        (λ (l : bit_place c + 512 ≤ slot_at i). part_put_after d (bit_place c) x (slot_at i) 256 (omega arith))
        (slot_data_apart (tracks_of d) c i (disk_tracks_few d) dc h)

    pub label-stays : label_of (put d (bit_place c) x) ≡ label_of d
    label-stays = label_agree d after (slots_stay 0 (first_slot d))

    pub tracks_stay : tracks_of (put d (bit_place c) x) ≡ tracks_of d
    tracks_stay = tracks_agree d after label-stays

    -- the view stays where the sector is no live file's
    pub data_quiet : ((j : ℕ) (g : File) → (view d).files j ≡ some g → has (map_of g.bytes) c ≡ true → ⊥) → view (put d (bit_place c) x) ≡ view d
    unfolding file_of
    data_quiet free =
        view_agree after d (length-put d (bit_place c) x) label-stays (fun_ext same)
        (λ i s q b m.
        sector_else b (map-small s b m)
        (λ w. free i (file_of d s) (view-some d i s (sym (same i) ∙ q)) (ap (has (map_of s)) (sym w) ∙ m)))
      where
        same : (i : ℕ) → directory after i ≡ directory d i
        same i =
            ⊎_elim
            (λ (h : i < slots_in d).
            directory-stays d after i (seen_agree d after i tracks_stay (λ j k. nameless_agree d after j (slots_stay j (omega arith)))) (slots_stay i h))
            (λ h. directory-unseen after i (unseen_past after i (rw tracks_stay h)) ∙ sym (directory-unseen d i (unseen_past d i h)))
            (below_or_not i (slots_in d))
