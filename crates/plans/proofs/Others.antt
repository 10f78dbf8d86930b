-- Every other file stays: each name that a changed slot had not and has not gets the whole answers it got before.
use Prim.Native.Nat.{ℕ, suc, ◌≤◌}
use mathlib.Core.Path.{◌≡◌, refl, sym, ap, ap₂, ◌∙◌}
use mathlib.Core.Bool.{Bool, true, false, cond, not}
use mathlib.Core.List.{List, [], ◌∷◌}
use mathlib.Core.Option.{Option, none, some, some-ne-none, some-injective}
use native.Mathlib.Decide.{ℕ_discrete}
use native.Mathlib.Omega.{arith}
use lib.Dec.{ltb}
use lib.ListN.{length, get_or}
use Rattle.buffers.specs.Bytes.{put}
use Rattle.buffers.proofs.Lists.{part-put, part_put_after}
use Rattle.refusals.specs.Order.{refuse, ◌else◌, row}
use Rattle.refusals.specs.Answers.{Outcome, done, refused, unless, Out, out, filled}
use Rattle.refusals.proofs.First.{scan_cong}
use Rattle.slots.specs.Slot.{kind_of, name_of, offset_of}
use Rattle.names.specs.Name.{same_name, Same, askable, padded}
use Rattle.names.proofs.Names.{same_sym, same_via, same_of}
use Rattle.chains.specs.File.{File}
use Rattle.headers.specs.Header.{file_length, body}
use Rattle.directory.specs.Places.{slots}
use Rattle.directory.specs.Directory.{fold_option, Directory, directory}
use Rattle.directory.specs.Find.{match_at, find}
use Rattle.directory.proofs.Search.{find-some}
use Rattle.disk.specs.View.{View, view, view_slots}
use Rattle.disk.specs.Check.{check_view, check_disk}
use Rattle.disk.proofs.View.{view-slots}
use Rattle.files.specs.Calls.{no_file, file_at, file_named, not_readable, start_out_of_range, read_reply, read_view, start_reply, file_start, start_view}
use Rattle.plans.specs.Change.{Mark, erase, rename, mark, marked_byte}
use Rattle.plans.specs.Plan.{with_slot, file_if_live, new_disk, run_change}
use Rattle.plans.specs.Allowed.{NamedSlot, EraseAllowed, RenameAllowed}
use Rattle.plans.specs.After.{SameAnswers, marking}
use Rattle.plans.proofs.Frame.{disk-accepted, upd_other, slots_same, slots-other, entry-is, holds-long}
use Rattle.plans.proofs.Kept.{accepted-long, usable-is}
use Rattle.plans.proofs.Demand3.{change-accepted}
use Rattle.plans.proofs.Effect.{Touched, erasing, erased, marked_so, renamed}

-- ---- what the answers hang on

-- two files of which reading and the start address say the same
pub record SameContents (f g : File) : Type 0 where
  pub kind : kind_of f.bytes ≡ kind_of g.bytes
  pub long : file_length f ≡ file_length g
  pub bodies : body f ≡ body g
  pub offset : offset_of f.bytes ≡ offset_of g.bytes
  pub start : file_start f ≡ file_start g

pub alike_same : (f g : File) → f ≡ g → SameContents f g
alike_same f g e = record {
  kind = ap (λ (f : File). kind_of f.bytes) e;
  long = ap file_length e;
  bodies = ap body e;
  offset = ap (λ (f : File). offset_of f.bytes) e;
  start = ap file_start e;
}

-- the answers on an accepted disk: whether the name can be asked for, the slot found, and the files in the slots
abbrev read_by_lem : List ℕ → Bool → Option ℕ → (ℕ → File) → Out
read_by_lem buf t o at =
    filled
    (row 12 0 (not t) else fold_option (some (refuse 15 0)) (λ i. not_readable (suc i) (at i) else row 20 0 (ltb (length buf) (file_length (at i)))) o)
    (done (file_length (fold_option no_file at o)) 0) (body (fold_option no_file at o)) buf

abbrev start_by_lem : Bool → Option ℕ → (ℕ → File) → Outcome
start_by_lem t o at =
    unless (row 12 0 (not t) else fold_option (some (refuse 15 0)) (λ i. not_readable (suc i) (at i) else start_out_of_range (suc i) (at i)) o)
    (done (file_start (fold_option no_file at o)) 0)

pub read_by : (l : View) → check_view l ≡ none → (n buf : List ℕ) → read_view l n buf ≡ read_by_lem buf (askable n) (find (view_slots l) n) (file_at l)
unfolding read_view read_reply file_named
read_by l ok n buf = rw ok

pub start_by : (l : View) → check_view l ≡ none → (n : List ℕ) → start_view l n ≡ start_by_lem (askable n) (find (view_slots l) n) (file_at l)
unfolding start_view start_reply file_named
start_by l ok n = rw ok

module _ (t : Bool) (f g : ℕ → File) where
  read_alike : (buf : List ℕ) (o : Option ℕ) → ((i : ℕ) → o ≡ some i → SameContents (f i) (g i)) → read_by_lem buf t o f ≡ read_by_lem buf t o g
  read_alike buf none a = refl
  read_alike buf (some i) a = let w = a i refl in rw (w.kind, w.long, w.bodies)

  start_alike : (o : Option ℕ) → ((i : ℕ) → o ≡ some i → SameContents (f i) (g i)) → start_by_lem t o f ≡ start_by_lem t o g
  start_alike none a = refl
  start_alike (some i) a = let w = a i refl in rw (w.kind, w.offset, w.start)

-- two accepted views, and a name of each: where the slot found is one and its files are alike, so are the whole answers
pub same-answers : (k l : View) → check_view k ≡ none → check_view l ≡ none → (m n : List ℕ) → askable m ≡ askable n → find (view_slots k) m ≡ find (view_slots l) n
    → ((i : ℕ) → find (view_slots l) n ≡ some i → SameContents (file_at k i) (file_at l i))
    → ((buf : List ℕ) → read_view k m buf ≡ read_view l n buf) × (start_view k m ≡ start_view l n)
same-answers k l p q m n t e a = (
  λ buf.
      read_by k p m buf ∙ ap₂ (λ (t : Bool) (o : Option ℕ). read_by_lem buf t o (file_at k)) t e
      ∙ read_alike (askable n) (file_at k) (file_at l) buf (find (view_slots l) n) a ∙ sym (read_by l q n buf),
  start_by k p m ∙ ap₂ (λ (t : Bool) (o : Option ℕ). start_by_lem t o (file_at k)) t e ∙ start_alike (askable n) (file_at k) (file_at l) (find (view_slots l) n) a
      ∙ sym (start_by l q n),
)

-- a name that cannot be asked for is refused 12 on every accepted view
pub unusable_same : (k l : View) → check_view k ≡ none → check_view l ≡ none → (m : List ℕ) → askable m ≡ false
    → ((buf : List ℕ) → read_view k m buf ≡ read_view l m buf) × (start_view k m ≡ start_view l m)
unusable_same k l p q m u = (λ buf. reads k p buf ∙ sym (reads l q buf), begins k p ∙ sym (begins l q))
  where
    reads : (l : View) → check_view l ≡ none → (buf : List ℕ) → read_view l m buf ≡ out (refused (refuse 12 0)) buf
    reads l e buf = read_by l e m buf ∙ ap (λ (t : Bool). read_by_lem buf t (find (view_slots l) m) (file_at l)) u

    begins : (l : View) → check_view l ≡ none → start_view l m ≡ refused (refuse 12 0)
    begins l e = start_by l e m ∙ ap (λ (t : Bool). start_by_lem t (find (view_slots l) m) (file_at l)) u

-- ---- a view with one slot changed

-- what a slot holds, if anything, has not the name
abbrev pub Unnamed : List ℕ → Option File → Type 0
Unnamed m o = (f : File) → o ≡ some f → Same (name_of f.bytes) (padded m) → ⊥

bytes-unnamed : (m : List ℕ) (o : Option File) → Unnamed m o → (s : List ℕ) → fold_option none (λ f. some f.bytes) o ≡ some s → Same (name_of s) (padded m) → ⊥
bytes-unnamed m none u s e q = some-ne-none s (sym e)
bytes-unnamed m (some f) u s e q = u f refl (same_of (ap name_of (some-injective f.bytes s e)) (padded m) q)

no_hit : (v : Directory) (m : List ℕ) (i : ℕ) → ((s : List ℕ) → v i ≡ some s → Same (name_of s) (padded m) → ⊥) → match_at v m i ≡ none
no_hit v m i u = by (v i) refl
  where
    named : (s : List ℕ) (t : Bool) → v i ≡ some s → same_name (name_of s) (padded m) ≡ t → cond {A = Option ℕ} t (some i) none ≡ none
    named s true p q = absurd (u s p q)
    named s false p q = refl

    by : (o : Option (List ℕ)) → v i ≡ o → fold_option none (λ s. cond (same_name (name_of s) (padded m)) (some i) none) o ≡ none
    by none p = refl
    by (some s) p = named s (same_name (name_of s) (padded m)) p refl

pub file-other : (l : View) (i : ℕ) (o : Option File) (j : ℕ) → (j ≡ i → ⊥) → file_at (with_slot l i o) j ≡ file_at l j
file-other l i o j n = ap (fold_option no_file (λ f. f)) (upd_other l i o j n)

module _ (l : View) (i : ℕ) (o : Option File) (m : List ℕ) where
  -- where the slot answers to the name as it did, so does the disk
  pub find_upd : match_at (view_slots (with_slot l i o)) m i ≡ match_at (view_slots l) m i → find (view_slots (with_slot l i o)) m ≡ find (view_slots l) m
  unfolding find
  find_upd e = scan_cong slots (match_at (view_slots (with_slot l i o)) m) (match_at (view_slots l) m) (λ j h. by j (ℕ_discrete j i))
    where
      by : (j : ℕ) → Dec (j ≡ i) → match_at (view_slots (with_slot l i o)) m j ≡ match_at (view_slots l) m j
      by j (yes q) = rw q e
      by j (no q) = ap (fold_option none (λ s. cond (same_name (name_of s) (padded m)) (some j) none)) (slots-other l i o j q)

  module _ (was : Unnamed m (l.files i)) (now : Unnamed m o) where
    slot-unnamed : (s : List ℕ) → view_slots l i ≡ some s → Same (name_of s) (padded m) → ⊥
    unfolding view_slots
    slot-unnamed = bytes-unnamed m (l.files i) was

    find-other : find (view_slots (with_slot l i o)) m ≡ find (view_slots l) m
    find-other =
        find_upd
        (no_hit (view_slots (with_slot l i o)) m i (λ s e. bytes-unnamed m o now s (sym (slots_same l i o) ∙ e))
        ∙ sym (no_hit (view_slots l) m i slot-unnamed))

    -- the slot found by the name is another
    found-other : (j : ℕ) → find (view_slots l) m ≡ some j → j ≡ i → ⊥
    found-other j e q =
        let w = find-some (view_slots l) m j e in
        slot-unnamed w.bytes (ap (view_slots l) (sym q) ∙ w.here) w.name

    pub other_name : check_view l ≡ none → check_view (with_slot l i o) ≡ none
        → (find (view_slots (with_slot l i o)) m ≡ find (view_slots l) m) × ((buf : List ℕ) → read_view (with_slot l i o) m buf ≡ read_view l m buf)
        × (start_view (with_slot l i o) m ≡ start_view l m)
    other_name p q =
        let a = same-answers (with_slot l i o) l q p m m refl find-other (λ j e. alike_same (file_at (with_slot l i o) j) (file_at l j) (file-other l i o j (found-other j e))) in
        (find-other, a.0, a.1)

-- ---- the disk after a change of one slot

module _ (d new : List ℕ) (i : ℕ) (o : Option File) (e : view new ≡ with_slot (view d) i o) where
  pub others : check_disk d ≡ none → check_disk new ≡ none → (m : List ℕ) → Unnamed m ((view d).files i) → Unnamed m o → SameAnswers new m d m
  unfolding check_disk
  others p q m was now =
      let a = other_name (view d) i o m was now p (ap check_view (sym e) ∙ q) in
      record {
        readings = λ buf. ap (λ (l : View). read_view l m buf) e ∙ a.1 buf;
        starts = ap (λ (l : View). start_view l m) e ∙ a.2;
      }

  -- every other listing entry: its slot is free, or has these bytes, as it was
  pub other-slots : (j : ℕ) → (j ≡ i → ⊥) → directory new j ≡ directory d j
  other-slots j n =
      ap (λ (v : Directory). v j) (sym (view-slots new)) ∙ ap (λ (l : View). view_slots l j) e ∙ slots-other (view d) i o j n
      ∙ ap (λ (v : Directory). v j) (view-slots d)

-- ---- each change

-- the file in the slot that a change finds has the name it asks for, and no other
pub found-unnamed : (d n : List ℕ) (i : ℕ) (f : File) → NamedSlot d n i f → (m : List ℕ) → (Same (padded m) (padded n) → ⊥) → Unnamed m ((view d).files i)
found-unnamed d n i f w m u g e q =
    let z : f ≡ g = some-injective f g (sym w.here ∙ e) in
    u (same_via (name_of f.bytes) (padded m) (padded n) (same_of (ap (λ (f : File). name_of f.bytes) z) (padded m) q) w.name)

-- another first byte leaves the name, and ten bytes from byte 1 are it
pub first-name : (s : List ℕ) (b : ℕ) → name_of (put s 0 (b ∷ [])) ≡ name_of s
first-name s b = part_put_after s 0 (b ∷ []) 1 10 (omega arith)

pub name-put : (s x : List ℕ) → length x ≡ 10 → 11 ≤ length s → name_of (put s 1 x) ≡ x
name-put s x l h = rw l at (part-put s 1 x (omega arith))

-- a slot in which no file has the name that the change asks for stays
pub touched_slots : (d n : List ℕ) (o : ℕ) (y : File → List ℕ) (Also : ℕ → File → Type 0) (new ss : List ℕ) → Touched d n o y Also new ss
    → (j : ℕ) → Unnamed n ((view d).files j) → directory new j ≡ directory d j
touched_slots d n o y Also new ss t j u =
    other-slots d new t.slot (file_if_live (put t.file.bytes o (y t.file)) t.file.sectors) t.seen j
    (λ q. u t.file (ap (view d).files q ∙ t.found.here) t.found.name)

-- every name but n, where what the slot holds after the change has not that name either
touched_others : (d n : List ℕ) (o : ℕ) (y : File → List ℕ) (Also : ℕ → File → Type 0) (new ss : List ℕ) → check_disk d ≡ none → check_disk new ≡ none
    → (t : Touched d n o y Also new ss) → (m : List ℕ) → (Same (padded m) (padded n) → ⊥) → (Same (name_of (put t.file.bytes o (y t.file))) (padded m) → ⊥)
    → SameAnswers new m d m
touched_others d n o y Also new ss ok now t m u v =
    let s : List ℕ = put t.file.bytes o (y t.file) in
    others d new t.slot (file_if_live s t.file.sectors) t.seen ok now m (found-unnamed d n t.slot t.file t.found m u)
    (λ f e q. v (same_of (ap (λ (f : File). name_of f.bytes) (sym (entry-is s t.file.sectors f e))) (padded m) q))

module _ (d : List ℕ) (ok : check_disk d ≡ none) (room : ℕ) (new ss : List ℕ) where
  -- for every name but the one of an erase or a mark
  pub erase-others : (n : List ℕ) → run_change (erase n) d room ≡ new_disk new ss → (m : List ℕ) → (Same (padded m) (padded n) → ⊥) → SameAnswers new m d m
  erase-others n e m u =
      let t = erased d ok room new ss n e in
      touched_others d n 0 erasing (EraseAllowed d) new ss ok (change-accepted (erase n) d room new ss ok e) t m u
      (λ q. u (same_via (name_of t.file.bytes) (padded m) (padded n) (same_of (sym (first-name t.file.bytes 0)) (padded m) q) t.found.name))

  pub mark-others : (k : Mark) (n : List ℕ) → run_change (mark k n) d room ≡ new_disk new ss → (m : List ℕ) → (Same (padded m) (padded n) → ⊥) → SameAnswers new m d m
  mark-others k n e m u =
      let t = marked_so d ok room new ss k n e in
      touched_others d n 0 (marking k) (λ i f. Unit {0}) new ss ok (change-accepted (mark k n) d room new ss ok e) t m u
      (λ q. u (same_via (name_of t.file.bytes) (padded m) (padded n) (same_of (sym (first-name t.file.bytes (marked_byte k (get_or t.file.bytes 0 0)))) (padded m) q) t.found.name))

  -- the two of a rename
  pub rename-others : (n to : List ℕ) → run_change (rename n to) d room ≡ new_disk new ss → (m : List ℕ) → (Same (padded m) (padded n) → ⊥) → (Same (padded m) (padded to) → ⊥)
      → SameAnswers new m d m
  rename-others n to e m u v =
      let t = renamed d ok room new ss n to e in
      let l = holds-long d t.slot t.file t.found.here (accepted-long d (disk-accepted d ok)) in
      touched_others d n 1 (λ f. padded to) (RenameAllowed d to) new ss ok (change-accepted (rename n to) d room new ss ok e) t m u
      (λ q. v (same_sym (padded to) (padded m) (same_of (sym (name-put t.file.bytes (padded to) (usable-is to t.also.name).1 (omega arith))) (padded m) q)))
