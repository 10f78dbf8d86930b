-- A disk stays accepted where one slot is changed to an accepted file apart from all others; erase, the marks and rename change one so.
use Prim.Native.Nat.{ℕ, ◌+◌, ◌-◌, ◌*◌, ◌%◌, ◌≤◌, ◌<◌}
use mathlib.Core.Path.{◌≡◌, refl, sym, ap, ◌∙◌}
use mathlib.Core.Bool.{Bool, true, false, cond, not, ◌&&◌, and-eq-true_iff, true≢false}
use mathlib.Core.List.{List, [], ◌∷◌}
use mathlib.Core.Logic.{◌⊎◌, inl, inr, ⊎_elim}
use mathlib.Core.Option.{Option, some}
use native.Mathlib.Omega.{arith}
use borrow.Author.Tests.{leb-true, eqb-true, eqb-false, ne_eqb, not-true}
use lib.Dec.{eqb, leb}
use lib.ListN.{length, get_or, replicate, get_or-append}
use Rattle.buffers.specs.Bytes.{put}
use Rattle.buffers.proofs.Lists.{below_or_not, part-put, part_put_after, put_in, put-before, put-after}
use Rattle.geometry.specs.Disk.{image_size, bit_of}
use Rattle.maps.specs.Bits.{has}
use Rattle.slots.specs.Slot.{is_live, is_nameless, kind_of, name_of, count_of, map_of, slot_fields}
use Rattle.names.specs.Name.{Same, askable, padded}
use Rattle.names.proofs.Names.{same_sym, same_to, length-padded}
use Rattle.slots.proofs.Tracks.{label-high}
use Rattle.chains.specs.File.{File, sector_at, sectors_of, file_of}
use Rattle.directory.specs.Places.{slots, slot_bytes}
use Rattle.directory.specs.Directory.{tracks_of, slots_in}
use Rattle.directory.proofs.Label.{slots-few}
use Rattle.directory.proofs.Ends.{seen-is}
use Rattle.directory.proofs.Live.{directory-some}
use Rattle.disk.specs.View.{View, view, view_tracks}
use Rattle.disk.specs.Accepted.{HasSectors, AcceptedFile, AcceptedDisk}
use Rattle.disk.proofs.View.{view-long, view_extra, view-some}
use Rattle.steps.specs.Steps.{Step, put_all, StepHolds}
use Rattle.plans.specs.Change.{Mark, hide, show, protect, release, marked_byte, all_between, usable}
use Rattle.plans.specs.Plan.{with_slot, file_if_live, slot_step}
use Rattle.plans.specs.Allowed.{NameUnusedBut}
use Rattle.plans.proofs.Frame.{upd_same, upd_other, upd_long, upd_label, extra_upd, entry_alive, entry-is, LiveFile, holds, holds-long, holds_named, Reach, reach_read, inside-slot, there-slot, slot-view, AllData, Keeps}

-- ---- files apart

-- two files share no sector and differ in name
pub record DisjointFiles (g f : File) : Type 0 where
  pub sectors : (b : ℕ) → b < 1560 → has (map_of g.bytes) b ≡ true → has (map_of f.bytes) b ≡ true → ⊥
  pub names : Same (name_of g.bytes) (name_of f.bytes) → ⊥

pub apart_sym : (g f : File) → DisjointFiles g f → DisjointFiles f g
apart_sym g f a = record { sectors = λ b h p q. a.sectors b h q p; names = λ e. a.names (same_sym (name_of f.bytes) (name_of g.bytes) e) }

pub accepted-apart : (l : View) → AcceptedDisk l → (i j : ℕ) (f g : File) → i < slots → j < slots → (j ≡ i → ⊥) → l.files i ≡ some f → l.files j ≡ some g → DisjointFiles g f
accepted-apart l w i j f g h k n p q =
    ⊎_elim (λ (m : j < i). record { sectors = w.sectors i j f g m h p q; names = w.names i j f g m h p q })
    (λ (m : i ≤ j).
    let t : i < j = omega arith in
    apart_sym f g (record { sectors = w.sectors j i g f t k q p; names = w.names j i g f t k q p }))
    (below_or_not j i)

-- ---- one slot changed

same_or_not : (i j : ℕ) → (i ≡ j) ⊎ (i ≡ j → ⊥)
same_or_not i j = by (eqb i j) refl
  where
    by : (t : Bool) → eqb i j ≡ t → (i ≡ j) ⊎ (i ≡ j → ⊥)
    by true e = inl (eqb-true i j e)
    by false e = inr (eqb-false i j e)

pub accepted_upd : (l : View) → AcceptedDisk l → (i : ℕ) → i < slots → (o : Option File)
    → ((f : File) → o ≡ some f → AcceptedFile (view_tracks l) f)
    → ((f : File) (j : ℕ) (g : File) → o ≡ some f → j < slots → (j ≡ i → ⊥) → l.files j ≡ some g → DisjointFiles g f)
    → AcceptedDisk (with_slot l i o)
accepted_upd l w i h o good apart = record {
  long = upd_long l i o ∙ w.long;
  tracks = rw (upd_label l i o) w.tracks;
  accepted = λ j f k e. rw (extra_upd l i o) (⊎_elim (λ s. good f (here j f s e)) (λ n. w.accepted j f k (there j f n e)) (same_or_not j i));
  sectors = λ j k f g m t p q. (both j k f g m t p q).sectors;
  names = λ j k f g m t p q. (both j k f g m t p q).names;
}
  where
    here : (j : ℕ) (f : File) → j ≡ i → (with_slot l i o).files j ≡ some f → o ≡ some f
    here j f s e = sym (upd_same l i o) ∙ ap (with_slot l i o).files (sym s) ∙ e

    there : (j : ℕ) (f : File) → (j ≡ i → ⊥) → (with_slot l i o).files j ≡ some f → l.files j ≡ some f
    there j f n e = sym (upd_other l i o j n) ∙ e

    both : (j k : ℕ) (f g : File) → k < j → j < slots → (with_slot l i o).files j ≡ some f → (with_slot l i o).files k ≡ some g → DisjointFiles g f
    both j k f g m t p q =
        ⊎_elim (λ (s : j ≡ i). apart f k g (here j f s p) (omega arith) (omega arith) (there k g (omega arith) q))
        (λ n.
        ⊎_elim (λ (s : k ≡ i). apart_sym f g (apart g j f (here k g s q) t n (there j f n p)))
        (λ v. accepted-apart l w j k f g t (omega arith) (omega arith) (there j f n p) (there k g v q)) (same_or_not k i))
        (same_or_not j i)

pub accepted-long : (d : List ℕ) → AcceptedDisk (view d) → length d ≡ image_size
accepted-long d w = sym (view-long d) ∙ w.long

-- disks with one view have as many tracks
pub tracks-view : (d e : List ℕ) → view d ≡ view e → tracks_of d ≡ tracks_of e
tracks-view d e q = sym (view_extra d) ∙ ap view_tracks q ∙ view_extra e

-- no file of an accepted disk has a bit inside the directory
pub accepted_data : (d : List ℕ) → AcceptedDisk (view d) → AllData d
unfolding file_of
accepted_data d w j s e b m =
    rw (← view_extra d) ((w.accepted j (file_of d s) (directory-some d j s e).0 (view-some d j s e)).data_bits b m)

-- bytes put inside a slot that can be written do what their step says, where the slot then has a name, and the file that it holds,
-- if any, is accepted and apart from the others
pub slot_does : (d : List ℕ) → AcceptedDisk (view d) → (i : ℕ) → i < slots_in d → (o : ℕ) (y : List ℕ) → o + length y ≤ 256 → (x : List ℕ) (sec : ℕ → List ℕ)
    → put (slot_bytes d i) o y ≡ x → sectors_of d x ≡ sec → Reach d false i → is_nameless x ≡ false → Keeps d i x
    → (is_live x ≡ true → AcceptedFile (view_tracks (view d)) (record { bytes = x; sectors = sec }))
    → (is_live x ≡ true → (j : ℕ) (g : File) → j < slots → (j ≡ i → ⊥) → (view d).files j ≡ some g → DisjointFiles g (record { bytes = x; sectors = sec }))
    → StepHolds view AcceptedDisk d (slot_step (view d) i o y (file_if_live x sec))
unfolding put_all
slot_does d w i h o y k x sec ex es r n kept good apart = record {
  there = there-slot d (accepted-long d w) i h o y k;
  inside = (inside-slot d (accepted-long d w) i h o y k, tt);
  sees = slot-view d (accepted-long d w) i h o y k r (ap is_nameless ex ∙ n) (λ j e z. ap (λ (s : List ℕ). get_or s j 0) ex ∙ kept j e z) (accepted_data d w) x sec ex es
      (λ a b m. rw (← view_extra d) ((good a).data_bits b m));
  ok = accepted_upd (view d) w i (omega (arith, slots-few d)) (file_if_live x sec) (λ f q. rw (entry-is x sec f q) (good (entry_alive x sec f q)))
      (λ f j g q m n p. rw (entry-is x sec f q) (apart (entry_alive x sec f q) j g m n p));
}

-- ---- a name that can be given

pub usable-is : (n : List ℕ) → usable n ≡ true → (get_or (padded n) 0 0 ≡ 0 → ⊥) × (length (padded n) ≡ 10)
unfolding usable askable padded
usable-is n e =
    let a = ((and-eq-true_iff (askable n) (all_between 32 n 126 && not (eqb (get_or n 0 0) 32))).0 e).0 in
    let b = (and-eq-true_iff (leb 1 (length n) && leb (length n) 10) (not (eqb (get_or n 0 0) 0))).0 a in
    let c = (and-eq-true_iff (leb 1 (length n)) (leb (length n) 10)).0 b.0 in (
      λ q. eqb-false (get_or n 0 0) 0 (not-true (eqb (get_or n 0 0) 0) b.1)
          (sym (get_or-append n (replicate (10 - length n) 32) 0 0 (leb-true 1 (length n) c.0)) ∙ q),
      length-padded n (leb-true (length n) 10 c.1),
    )

-- ---- a live slot whose map stays

-- the one step of `touch`
abbrev pub touch_step : View → ℕ → File → ℕ → List ℕ → Step View
touch_step l i f o y = slot_step l i o y (file_if_live (put f.bytes o y) f.sectors)

module _ (d : List ℕ) (w : AcceptedDisk (view d)) (i : ℕ) (f : File) (e : (view d).files i ≡ some f) where
  own : LiveFile d i f
  own = holds d i f e

  long : length f.bytes ≡ 256
  long = holds-long d i f e (accepted-long d w)

  was : AcceptedFile (view_tracks (view d)) f
  was = w.accepted i f own.here e

  -- bytes put before byte 11: name and marks
  module _ (o : ℕ) (y : List ℕ) (k : o + length y ≤ 11) where
    abbrev now : List ℕ
    now = put f.bytes o y

    rest : (j : ℕ) → 11 ≤ j → get_or now j 0 ≡ get_or f.bytes j 0
    rest j a = put-after f.bytes o y j (omega arith)

    map-kept : map_of now ≡ map_of f.bytes
    map-kept = part_put_after f.bytes o y 15 195 (omega arith)

    sectors-kept : sectors_of d now ≡ f.sectors
    unfolding sectors_of
    sectors-kept = ap {B = ℕ → List ℕ} (λ (m : List ℕ) (b : ℕ). cond (has m b) (sector_at d b) []) map-kept ∙ own.sectors

    touch_does : is_nameless now ≡ false → (is_live now ≡ true → AcceptedFile (view_tracks (view d)) (record { bytes = now; sectors = f.sectors }))
        → (is_live now ≡ true → (j : ℕ) (g : File) → j < slots → (j ≡ i → ⊥) → (view d).files j ≡ some g → DisjointFiles g (record { bytes = now; sectors = f.sectors }))
        → StepHolds view AcceptedDisk d (touch_step (view d) i f o y)
    touch_does n =
        slot_does d w i (seen-is d i own.read).0 o y (omega arith) now f.sectors (ap (λ (s : List ℕ). put s o y) own.bytes) sectors-kept
        (reach_read d i own.read) n
        (λ j l z. rest j (omega (arith, label-high j l)) ∙ ap (λ (s : List ℕ). get_or s j 0) (sym own.bytes))

    -- with the kind kept and a name
    module _ (p : kind_of now ≡ kind_of f.bytes) (q : is_nameless now ≡ false) where
      facts_kept : slot_fields now ≡ slot_fields f.bytes
      unfolding slot_fields
      facts_kept = λ t. record {
        kind = p t;
        count = rest 11 (omega arith) t * 256 + rest 12 (omega arith) t;
        first = bit_of (rest 13 (omega arith) t) (rest 14 (omega arith) t);
        map = map-kept t;
        pages = rest 239 (omega arith) t;
        remainder = (rest 240 (omega arith) t + 256 * rest 241 (omega arith) t) % 16384;
      }

      has_kept : count_of now ≡ count_of f.bytes → HasSectors f → HasSectors (record { bytes = now; sectors = f.sectors })
      has_kept c h = record {
        some-sectors = rw c h.some-sectors;
        first_data = rw (rest 13 (omega arith), rest 14 (omega arith)) h.first_data;
        first-own = rw (map-kept, rest 13 (omega arith), rest 14 (omega arith)) h.first-own;
        chain = rw facts_kept h.chain;
      }

      accepted-kept : AcceptedFile (view_tracks (view d)) (record { bytes = now; sectors = f.sectors })
      accepted-kept =
          let c : count_of now ≡ count_of f.bytes = rw (rest 11 (omega arith), rest 12 (omega arith)) in
          record {
            kind = rw p was.kind;
            sectors = ⊎_elim (λ a. inl (p ∙ a.0, c ∙ a.1)) (λ a. inr (λ z. a.0 (sym p ∙ z), has_kept c a.1)) was.sectors;
            few-sectors = rw c was.few-sectors;
            bits = rw (map-kept, c) was.bits;
            data_bits = rw map-kept was.data_bits;
            fits = rw (p, facts_kept, c) was.fits;
            header = λ v.
                let a = was.header (rw p at v) in
                rw facts_kept
                (record {
                  kind = a.kind ∙ sym p;
                  remainder = rw (rest 240 (omega arith), rest 241 (omega arith)) a.remainder;
                  pages = a.pages ∙ sym (rest 239 (omega arith));
                });
            spectrum-fits = rw (p, facts_kept, c) was.spectrum-fits;
          }

      -- and a name that no other file has
      kept_does : ((j : ℕ) (g : File) → j < slots → (j ≡ i → ⊥) → (view d).files j ≡ some g → Same (name_of g.bytes) (name_of now) → ⊥)
          → StepHolds view AcceptedDisk d (touch_step (view d) i f o y)
      kept_does fresh =
          touch_does q (λ a. accepted-kept)
          (λ a j g m n v. record {
            sectors = rw map-kept (accepted-apart (view d) w i j f g own.here m n e v).sectors;
            names = fresh j g m n v;
          })

  -- ---- erase, the marks, rename

  first_byte : (b : ℕ) → get_or (put f.bytes 0 (b ∷ [])) 0 0 ≡ b
  first_byte b = let z = long in put_in f.bytes 0 (b ∷ []) 0 (omega arith) (omega arith)

  first_named : (b : ℕ) → is_nameless (put f.bytes 0 (b ∷ [])) ≡ false
  first_named b = ap (λ (x : ℕ). eqb x 0) (put-after f.bytes 0 (b ∷ []) 1 (omega arith)) ∙ holds_named d i f e

  pub erase_does : StepHolds view AcceptedDisk d (touch_step (view d) i f 0 (0 ∷ []))
  erase_does =
      let dead : is_live (put f.bytes 0 (0 ∷ [])) ≡ false = rw (first_byte 0) in
      touch_does 0 (0 ∷ []) (omega arith) (first_named 0) (λ a. absurd (true≢false (sym a ∙ dead))) (λ a. absurd (true≢false (sym a ∙ dead)))

  pub mark_does : (m : Mark) → StepHolds view AcceptedDisk d (touch_step (view d) i f 0 (marked_byte m (get_or f.bytes 0 0) ∷ []))
  mark_does m =
      kept_does 0 (b ∷ []) (omega arith) (ap (λ (a : ℕ). a % 64) (first_byte b) ∙ kind m (get_or f.bytes 0 0))
      (first_named b)
      (λ j g l n v t. (accepted-apart (view d) w i j f g own.here l n e v).names
      (same_to (name_of g.bytes) (part_put_after f.bytes 0 (b ∷ []) 1 10 (omega arith)) t))
    where
      b : ℕ
      b = marked_byte m (get_or f.bytes 0 0)

      kind : (m : Mark) (x : ℕ) → marked_byte m x % 64 ≡ x % 64
      kind hide x = omega arith
      kind show x = omega arith
      kind protect x = omega arith
      kind release x = omega arith

  pub rename_does : (new : List ℕ) → usable new ≡ true → NameUnusedBut d i new → StepHolds view AcceptedDisk d (touch_step (view d) i f 1 (padded new))
  rename_does new u free =
      let a = usable-is new u in
      let z = long in
      let named : name_of (put f.bytes 1 (padded new)) ≡ padded new = rw a.1 at (part-put f.bytes 1 (padded new) (omega arith)) in
      kept_does 1 (padded new) (omega arith) (ap (λ (b : ℕ). b % 64) (put-before f.bytes 1 (padded new) 0 (omega arith)))
      (ne_eqb (get_or (put f.bytes 1 (padded new)) 1 0) 0 (λ v. a.0 (sym (put_in f.bytes 1 (padded new) 0 (omega arith) (omega arith)) ∙ v)))
      (λ j g l n v t. free j g n v (same_to (name_of g.bytes) named t))
