-- Demand 3 of each sector of an erase-many, and what it finds by name.
use Prim.Native.Nat.{ℕ, zero, suc, ◌+◌, ◌≤◌, ◌<◌}
use mathlib.Core.Path.{◌≡◌, refl, sym, ap, ◌∙◌, subst}
use mathlib.Core.Bool.{Bool, true, false, cond, ◌&&◌, ◌||◌, true≢false}
use mathlib.Core.List.{List, [], ◌∷◌}
use mathlib.Core.Logic.{◌↔◌}
use mathlib.Core.Option.{none, some, some-ne-none}
use native.Mathlib.Omega.{arith}
use borrow.Author.Tests.{eqb-true, eqb-false, eq-eqb}
use lib.Dec.{eqb}
use lib.ListN.{length, get_or, take}
use Rattle.buffers.specs.Bytes.{any}
use Rattle.buffers.proofs.Counts.{any_some, some-any}
use Rattle.buffers.proofs.Tests.{and_both, both_and, or_right}
use Rattle.maps.specs.Bits.{has}
use Rattle.slots.specs.Slot.{name_of, map_of}
use Rattle.names.specs.Name.{Same, same_name}
use Rattle.names.proofs.Names.{same_refl, same_sym, same_to}
use Rattle.chains.specs.File.{File, sector_at}
use Rattle.directory.specs.Places.{slots, slot_bytes, dir_sector}
use Rattle.directory.specs.Directory.{label_of}
use Rattle.disk.specs.View.{view}
use Rattle.disk.specs.Check.{check_disk}
use Rattle.files.specs.Calls.{listing, reading, start_address}
use Rattle.steps.specs.Sectors.{sector, is_listed, cut}
use Rattle.steps.proofs.Sectors.{length_cut, cut-old, cut-new, cut-none, cut_all}
use Rattle.plans.specs.Safe.{Safe}
use Rattle.plans.proofs.Frame.{disk-accepted, holds, holds-sector}
use Rattle.plans.proofs.Kept.{accepted-apart}
use Rattle.plans.proofs.NewFile.{listed_at}
use Rattle.erase_many.specs.EraseMany.{is_erased, sectors_with}
use Rattle.operations.specs.Operations.{finds_in}
use Rattle.erase_many.specs.EraseManyCut.{CutLeaves}
use Rattle.erase_many.proofs.Listed.{listed_next, sectors-small}
use Rattle.erase_many.proofs.Meaning.{gone_was, Fewer}
use Rattle.erase_many.proofs.EraseManyCut.{fewer_long, cut_leaves}

-- ---- a change of one sector

-- disks that differ in one sector, both accepted, with one label, and every file that is not found on both
record OneSector (finds : File → Bool) (old new : List ℕ) (s : ℕ) : Type 0 where
  small : s < 1600
  long : length new ≡ length old
  other : (t : ℕ) → is_listed t (s ∷ []) ≡ false → sector new t ≡ sector old t
  was : check_disk old ≡ none
  now : check_disk new ≡ none
  label : label_of new ≡ label_of old
  stay : (i : ℕ) (f : File) → (view old).files i ≡ some f → finds f ≡ false → (view new).files i ≡ some f

module _ (finds : File → Bool) (old new : List ℕ) (s : ℕ) (w : OneSector finds old new s) where
  at : ℕ → List ℕ
  at k = cut old new (s ∷ []) k

  whole : cut old new (s ∷ []) 1 ≡ new
  whole = cut_all old new (s ∷ []) w.long w.other

  -- what holds of the old disk and of the new one holds of both cuts
  both : (P : List ℕ → Type 0) → P old → P new → (k : ℕ) → k ≤ 1 → P (cut old new (s ∷ []) k)
  both P a b zero h = subst P (sym (cut-none old new (s ∷ []))) a
  both P a b (suc zero) h = subst P (sym whole) b
  both P a b (suc (suc k)) h = absurd (omega arith)

  first : {A : Type 0} (p : List ℕ → A) (k : ℕ) → k < 1 → p (cut old new (s ∷ []) k) ≡ p old
  first p zero h = ap p (cut-none old new (s ∷ []))
  first p (suc k) h = absurd (omega arith)

  one_safe : Safe finds old new (s ∷ [])
  one_safe = record {
    once = (refl, tt);
    small = λ t e. rw (eqb-true t s (or_no (eqb t s) e)) w.small;
    unnamed = w.other;
    long = w.long;
    accepts = both (λ x. check_disk x ≡ none) w.was w.now;
    listings = λ k h buf. first (λ x. listing x buf) k h;
    readings = λ k h n buf. first (λ x. reading x n buf) k h;
    starts = λ k h n. first (λ x. start_address x n) k h;
    label = both (λ x. label_of x ≡ label_of old) refl w.label;
    whole = whole;
    slots_kept = λ k h i f e q.
        both (λ x. slot_bytes x i ≡ slot_bytes old i) refl ((holds new i f (w.stay i f e q)).bytes ∙ sym (holds old i f e).bytes) k h;
    sectors_kept = λ k h i f e q b m.
        let n : has (map_of f.bytes) b ≡ true = ap (λ (x : List ℕ). has (map_of x) b) (sym (holds old i f e).bytes) ∙ m in
        both (λ x. sector_at x b ≡ sector_at old b) refl (holds-sector new i f (w.stay i f e q) b n ∙ sym (holds-sector old i f e b n)) k h;
  }
    where
      or_no : (t : Bool) → (t || false) ≡ true → t ≡ true
      or_no true e = refl
      or_no false e = e

-- ---- what a sector finds

-- a file that is gone and lies in the sector is found
hit : (d new : List ℕ) (s i : ℕ) (f : File) → (view d).files i ≡ some f → is_erased d new i ≡ true → dir_sector i ≡ s → finds_in d new s f ≡ true
unfolding finds_in
hit d new s i f e g q =
    let w = holds d i f e in
    any_some slots _ i w.here
    (both_and (is_erased d new i && eqb (dir_sector i) s) _ (both_and (is_erased d new i) (eqb (dir_sector i) s) g (eq-eqb (dir_sector i) s q))
    (same_to (name_of f.bytes) (ap name_of (sym w.bytes)) (same_refl (name_of f.bytes))))

-- and no other live file: on an accepted disk no two have one name
found-gone : (d : List ℕ) → check_disk d ≡ none → (new : List ℕ) (s i : ℕ) (f : File) → (view d).files i ≡ some f → finds_in d new s f ≡ true
    → (is_erased d new i ≡ true) × (dir_sector i ≡ s)
unfolding finds_in
found-gone d ok new s i f e q =
    let a = some-any slots _ q in
    let j : ℕ = a.0 in
    let b = and_both (is_erased d new j && eqb (dir_sector j) s) (same_name (name_of f.bytes) (name_of (slot_bytes d j))) a.2 in
    let c = and_both (is_erased d new j) (eqb (dir_sector j) s) b.0 in
    let w = gone_was d new j c.0 in
    at j w.file w.before c.0 (eqb-true (dir_sector j) s c.1) b.1 (eqb j i) refl
  where
    at : (j : ℕ) (g : File) → (view d).files j ≡ some g → is_erased d new j ≡ true → dir_sector j ≡ s → Same (name_of f.bytes) (name_of (slot_bytes d j)) → (t : Bool) → eqb j i ≡ t
        → (is_erased d new i ≡ true) × (dir_sector i ≡ s)
    at j g h p r n true t = let z : j ≡ i = eqb-true j i t in (ap (is_erased d new) (sym z) ∙ p, ap dir_sector (sym z) ∙ r)
    at j g h p r n false t =
        let a = accepted-apart (view d) (disk-accepted d ok) i j f g (holds d i f e).here (holds d j g h).here (eqb-false j i t) e h in
        absurd (a.names (same_sym (name_of f.bytes) (name_of g.bytes) (same_to (name_of f.bytes) (ap name_of (holds d j g h).bytes) n)))

-- ---- each sector of an erase-many

module _ (d : List ℕ) (ok : check_disk d ≡ none) (new : List ℕ) (z : Fewer d new) (k : ℕ) (h : k < length (sectors_with (is_erased d new))) where
  abbrev ss : List ℕ
  ss = sectors_with (is_erased d new)

  abbrev s : ℕ
  s = get_or ss k 0

  here : CutLeaves d new ss k
  here = cut_leaves d ok new z k

  next : CutLeaves d new ss (suc k)
  next = cut_leaves d ok new z (suc k)

  stays : (i : ℕ) (f : File) → (view (cut d new ss k)).files i ≡ some f → finds_in d new s f ≡ false → (view (cut d new ss (suc k))).files i ≡ some f
  stays i f e n = next.files i ∙ by (is_erased d new i) refl (is_listed (dir_sector i) (take k ss)) refl (sym (here.files i) ∙ e)
    where
      last : is_erased d new i ≡ true → (view d).files i ≡ some f → (t : Bool) → eqb (dir_sector i) s ≡ t → cond t none ((view d).files i) ≡ some f
      last g w true q = absurd (true≢false (sym (hit d new s i f w g (eqb-true (dir_sector i) s q)) ∙ n))
      last g w false q = w

      by : (t : Bool) → is_erased d new i ≡ t → (u : Bool) → is_listed (dir_sector i) (take k ss) ≡ u → cond (t && u) none ((view d).files i) ≡ some f
          → cond (t && is_listed (dir_sector i) (take (suc k) ss)) none ((view d).files i) ≡ some f
      by false g u q w = w
      by true g true q w = absurd (some-ne-none f (sym w))
      by true g false q w = rw (listed_next (dir_sector i) k ss h, q) (last g w (eqb (dir_sector i) s) refl)

  sector_changes : OneSector (finds_in d new s) (cut d new ss k) (cut d new ss (suc k)) s
  sector_changes = record {
    small = sectors-small (is_erased d new) s (listed_at ss k h);
    long = length_cut d new ss (suc k) ∙ sym (length_cut d new ss k);
    other = λ t e. by t (is_listed t (take k ss)) refl e;
    was = here.accepted;
    now = next.accepted;
    label = next.label ∙ sym here.label;
    stay = stays;
  }
    where
      by : (t : ℕ) (u : Bool) → is_listed t (take k ss) ≡ u → (eqb t s || false) ≡ false → sector (cut d new ss (suc k)) t ≡ sector (cut d new ss k) t
      by t true q e =
          let l : is_listed t (take (suc k) ss) ≡ true = listed_next t k ss h ∙ ap (λ (b : Bool). b || eqb t s) q in
          cut-new d new ss (suc k) (fewer_long d ok new z) t l ∙ sym (cut-new d new ss k (fewer_long d ok new z) t q)
      by t false q e =
          let l : is_listed t (take (suc k) ss) ≡ false = listed_next t k ss h ∙ ap (λ (b : Bool). b || eqb t s) q ∙ or_no (eqb t s) e in
          cut-old d new ss (suc k) t l ∙ sym (cut-old d new ss k t q)
        where
          or_no : (b : Bool) → (b || false) ≡ false → b ≡ false
          or_no true e = e
          or_no false e = refl

  pub sector-safe : Safe (finds_in d new (get_or (sectors_with (is_erased d new)) k 0)) (cut d new (sectors_with (is_erased d new)) k) (cut d new (sectors_with (is_erased d new)) (suc k)) (get_or (sectors_with (is_erased d new)) k 0 ∷ [])
  sector-safe = one_safe (finds_in d new s) (cut d new ss k) (cut d new ss (suc k)) s sector_changes

  -- the live files that it finds are those that it erases
  pub sector-finds : (i : ℕ) (f : File) → (view (cut d new (sectors_with (is_erased d new)) k)).files i ≡ some f
      → (finds_in d new (get_or (sectors_with (is_erased d new)) k 0) f ≡ true) ↔ ((view (cut d new (sectors_with (is_erased d new)) (suc k))).files i ≡ none)
  sector-finds i f e = (
    λ q.
        let w = found-gone d ok new s i f there q in
        let l : is_listed (dir_sector i) (take (suc k) ss) ≡ true =
        listed_next (dir_sector i) k ss h ∙ or_right (is_listed (dir_sector i) (take k ss)) (eqb (dir_sector i) s) (eq-eqb (dir_sector i) s w.1) in
        next.files i ∙ rw (w.0, l),
    λ q. erased (finds_in d new s f) refl q,
  )
    where
      was : (t : Bool) → cond t none ((view d).files i) ≡ some f → (view d).files i ≡ some f
      was true w = absurd (some-ne-none f (sym w))
      was false w = w

      there : (view d).files i ≡ some f
      there = was (is_erased d new i && is_listed (dir_sector i) (take k ss)) (sym (here.files i) ∙ e)

      erased : (t : Bool) → finds_in d new s f ≡ t → (view (cut d new ss (suc k))).files i ≡ none → t ≡ true
      erased true p q = refl
      erased false p q = absurd (some-ne-none f (sym (stays i f e p) ∙ q))
