-- The pass over rows 2 to 9: the reply at a slot by its own rows and by those against the slots before it, and what holds
-- of a slot that has none.
use Prim.Native.Nat.{ℕ, suc, ◌+◌, ◌-◌, ◌≤◌, ◌<◌}
use mathlib.Core.Path.{◌≡◌, refl, sym, ap, ap₂, subst, ◌∙◌}
use mathlib.Core.Bool.{Bool, true, false, cond, not, true≢false}
use mathlib.Core.List.{List, [], ◌∷◌, ◌++◌}
use mathlib.Core.Option.{Option, none, some}
use native.Mathlib.Numerals.{add-one}
use native.Mathlib.Omega.{arith}
use borrow.Author.Tests.{not-false, leb-true, eqb-true}
use lib.Dec.{eqb, leb}
use lib.ListN.{length}
use Rattle.buffers.proofs.Counts.{any_none, none_any, some-any, count_less}
use Rattle.buffers.proofs.Tests.{or_neither, and_both}
use Rattle.buffers.specs.Bytes.{any}
use Rattle.maps.specs.Bits.{has, bits_of, share, clear_map, join}
use Rattle.refusals.specs.Order.{Refusal, refuse, Reply, ◌else◌, Row, rows, scan_from, RowsClear, rises}
use Rattle.refusals.specs.Answers.{refusal_of, reply_of}
use Rattle.refusals.specs.declared.Refused.{Refused}
use Rattle.std.specs.Prelude.{Result, Ok, Err}
use Rattle.refusals.proofs.First.{else_none, rows_clear, scan_start, scan_stop, scan-none, none-scan_from}
use Rattle.slots.specs.Slot.{kind_of, directory_kind, count_of, first_of, name_of, map_of, slot_fields}
use Rattle.names.specs.Name.{same_name}
use Rattle.slots.specs.Rows.{own, own_reply, release_rows, directory_rows, file_rows}
use Rattle.slots.specs.Tracks.{data_count, data_bit, in_directory}
use Rattle.slots.proofs.Tracks.{count_data, outside_data, empty_outside}
use Rattle.directory.specs.Places.{slots}
use Rattle.directory.specs.Directory.{fold_option, Directory, tracks_of, slots_read, directory, live_among}
use Rattle.surveys.specs.Survey.{earlier, shared_rows, rows_at, survey_at, survey_by, survey, union, counted, used_map}
use Rattle.surveys.specs.Filter.{Filtered}
use Rattle.surveys.specs.Steps.{DisjointMaps, Reached, Surveyed}
use Rattle.surveys.specs.declared.Survey.{Survey}
use Rattle.surveys.specs.declared.UsedMap.{UsedMap}
use Rattle.directory.proofs.Ends.{read-most}
use Rattle.directory.proofs.Live.{directory-unread, live-read}
use Rattle.surveys.proofs.Union.{union_dead, union-live, union-rest, length_union, has-union, share-union, counted-bytes, counted-count, counted-tracks}

-- ---- an earlier live slot, as a loop looks for it

abbrev tried : Directory → (List ℕ → Bool) → ℕ → Bool
tried v t j = fold_option false t (v j)

pub earlier_start : (v : Directory) (t : List ℕ → Bool) → earlier v 0 t ≡ false
unfolding earlier any
earlier_start v t = refl

-- there is none: the test applies to no live slot before
pub earlier-none : (v : Directory) (t : List ℕ → Bool) (i : ℕ) → earlier v i t ≡ false → (j : ℕ) (s : List ℕ) → j < i → v j ≡ some s → t s ≡ false
unfolding earlier
earlier-none v t i e j s h p = sym (ap (fold_option false t) p) ∙ any_none i (tried v t) e j h

pub none-earlier : (v : Directory) (t : List ℕ → Bool) (i : ℕ) → ((j : ℕ) (s : List ℕ) → j < i → v j ≡ some s → t s ≡ false) → earlier v i t ≡ false
unfolding earlier
none-earlier v t i h = none_any i (tried v t) (λ j l. by (v j) (λ s p. h j s l p))
  where
    by : (o : Option (List ℕ)) → ((s : List ℕ) → o ≡ some s → t s ≡ false) → fold_option false t o ≡ false
    by none k = refl
    by (some s) k = k s refl

-- ---- the reply at a slot

pub rows_append : (s : ℕ) (a b : List Row) → rows s (a ++ b) ≡ (rows s a else rows s b)
rows_append s [] b = refl
rows_append s (r ∷ a) b = by r.holds (rows_append s a b)
  where
    by : (t : Bool) → rows s (a ++ b) ≡ (rows s a else rows s b)
        → cond t (some (refuse r.number s)) (rows s (a ++ b)) ≡ (cond t (some (refuse r.number s)) (rows s a) else rows s b)
    by true e = refl
    by false e = e

-- "at a slot the lowest number": the rows stand in the order of their numbers
pub survey-rises : (n : ℕ) (v : Directory) (i : ℕ) (s : List ℕ) → rises (rows_at false n v i s) ≡ true
unfolding slot_fields
survey-rises n v i s = by (directory_kind (kind_of s))
  where
    by : (t : Bool) → rises (cond t (directory_rows (slot_fields s)) (file_rows (data_count n) (in_directory n (map_of s)) (slot_fields s)) ++ shared_rows v i s) ≡ true
    by true = refl
    by false = refl

pub survey_dead : (release : Bool) (n : ℕ) (v : Directory) (i : ℕ) → v i ≡ none → survey_at release n v i ≡ none
unfolding survey_at
survey_dead release n v i e = rw e

pub survey-live : (release : Bool) (n : ℕ) (v : Directory) (i : ℕ) (s : List ℕ) → v i ≡ some s
    → survey_at release n v i ≡ (own_reply n (suc i) s else rows (suc i) (release_rows release (slot_fields s)) else rows (suc i) (shared_rows v i s))
unfolding survey_at own_reply
survey-live release n v i s e =
    rw e (rows_append (suc i) (own n (slot_fields s)) (release_rows release (slot_fields s) ++ shared_rows v i s))
    ∙ ap (λ (q : Reply). own_reply n (suc i) s else q) (rows_append (suc i) (release_rows release (slot_fields s)) (shared_rows v i s))

-- as the code meets a live slot: u is the used map so far
module _ (release : Bool) (n : ℕ) (v : Directory) (i : ℕ) (s u : List ℕ) (here : v i ≡ some s) (used : u ≡ union v i) where
  at_slot : survey_at release n v i
      ≡ (own_reply n (i + 1) s else rows (i + 1) (release_rows release (slot_fields s)) else
      cond (share u (map_of s)) (some (refuse 8 (i + 1))) (cond (earlier v i (λ t. same_name (name_of t) (name_of s))) (some (refuse 9 (i + 1))) none))
  at_slot = survey-live release n v i s here ∙ rw (add-one, used, share-union v i (map_of s))

  pub slot-own : {f : Refusal} → some f ≡ own_reply n (i + 1) s → some f ≡ survey_at release n v i
  slot-own e = sym (at_slot ∙ rw (← e))

  -- its own rows hold nowhere
  module _ (e : none ≡ own_reply n (i + 1) s) where
    pub slot_waste : {f : Refusal} → some f ≡ rows (i + 1) (release_rows release (slot_fields s)) → some f ≡ survey_at release n v i
    slot_waste z = sym (at_slot ∙ rw (← e, ← z))

    -- nor does row 22; q says whether its map m shares a bit with the used map
    module _ (z : none ≡ rows (i + 1) (release_rows release (slot_fields s))) {m : List ℕ} (em : m ≡ map_of s) {q : Bool} (eq : q ≡ share u m) where
      shares : {t : Bool} → q ≡ t → share u (map_of s) ≡ t
      shares x = ap (share u) (sym em) ∙ sym eq ∙ x

      pub slot_shared : q ≡ true → some (refuse 8 (i + 1)) ≡ survey_at release n v i
      slot_shared x = sym (at_slot ∙ rw (← e, ← z, shares x))

      -- p says whether a slot before it has its name
      module _ (x : q ≡ false) {m2 : List ℕ} (en : m2 ≡ name_of s) {p : Bool} (ep : p ≡ earlier v i (λ t. same_name (name_of t) m2)) where
        twice : {t : Bool} → p ≡ t → earlier v i (λ t. same_name (name_of t) (name_of s)) ≡ t
        twice y = ap (λ (l : List ℕ). earlier v i (λ t. same_name (name_of t) l)) (sym en) ∙ sym ep ∙ y

        pub slot_twice : p ≡ true → some (refuse 9 (i + 1)) ≡ survey_at release n v i
        slot_twice y = sym (at_slot ∙ rw (← e, ← z, shares x, twice y))

        pub slot_clear : p ≡ false → none ≡ survey_at release n v i
        slot_clear y = sym (at_slot ∙ rw (← e, ← z, shares x, twice y))

-- a slot that either pass leaves is one that the first leaves
pub plain_at : (release : Bool) (n : ℕ) (v : Directory) (i : ℕ) (s : List ℕ) → v i ≡ some s → survey_at release n v i ≡ none → survey_at false n v i ≡ none
plain_at release n v i s e h =
    let a = else_none (own_reply n (suc i) s) (rows (suc i) (release_rows release (slot_fields s)) else rows (suc i) (shared_rows v i s)) (sym (survey-live release n v i s e) ∙ h) in
    let b = else_none (rows (suc i) (release_rows release (slot_fields s))) (rows (suc i) (shared_rows v i s)) a.1 in
    survey-live false n v i s e ∙ rw (a.0, b.1)

-- ---- a live slot at which no row holds

pub record NoRowAtSlot (n : ℕ) (v : Directory) (i : ℕ) (s : List ℕ) : Type 0 where
  pub most : count_of s ≤ data_count n
  pub bits : bits_of (map_of s) ≡ count_of s
  pub outside : in_directory n (map_of s) ≡ false
  pub unshared : earlier v i (λ t. share (map_of t) (map_of s)) ≡ false
  pub single : earlier v i (λ t. same_name (name_of t) (name_of s)) ≡ false

-- a directory has no sectors, and any other file as many as its map has bits
pub passed_at : (n : ℕ) (v : Directory) (i : ℕ) (s : List ℕ) → v i ≡ some s → survey_at false n v i ≡ none → NoRowAtSlot n v i s
unfolding survey_at slot_fields
passed_at n v i s e h = by (directory_kind (kind_of s)) (rows_clear (suc i) (rows_at false n v i s) (rw e at h))
  where
    by : (t : Bool) → RowsClear (cond t (directory_rows (slot_fields s)) (file_rows (data_count n) (in_directory n (map_of s)) (slot_fields s)) ++ shared_rows v i s) → NoRowAtSlot n v i s
    by true c =
        let z : count_of s ≡ 0 = eqb-true (count_of s) 0 (not-false (eqb (count_of s) 0) c.0) in
        let m : bits_of (map_of s) ≡ 0 = eqb-true (bits_of (map_of s)) 0 (not-false (eqb (bits_of (map_of s)) 0) c.1.0) in
        record {
          most = omega arith;
          bits = m ∙ sym z;
          outside = empty_outside n (map_of s) m;
          unshared = c.1.1.0;
          single = c.1.1.1.0;
        }
    by false c = record {
      most = leb-true (count_of s) (data_count n) (and_both (leb 1 (count_of s)) (leb (count_of s) (data_count n)) (not-false _ c.1.0)).1;
      bits = eqb-true (bits_of (map_of s)) (count_of s) (not-false _ c.1.1.0);
      outside = (or_neither (not (has (map_of s) (first_of s))) (in_directory n (map_of s)) c.1.1.1.0).1;
      unshared = c.1.1.1.1.1.0;
      single = c.1.1.1.1.1.1.0;
    }

-- every live slot of a directory that is not refused
pub survey_passed : (n : ℕ) (v : Directory) → survey n v ≡ none → (i : ℕ) (s : List ℕ) → i < slots → v i ≡ some s → NoRowAtSlot n v i s
unfolding survey_by
survey_passed n v e i s h p = passed_at n v i s p (scan-none slots (survey_at false n v) e i h)

-- where no row holds, the used bits are data bits, and no more than these
pub used_data : (n : ℕ) (v : Directory) → survey n v ≡ none → (b : ℕ) → b < 1560 → has (union v slots) b ≡ true → data_bit n b ≡ true
used_data n v e b h q =
    let j = some-any slots (λ i. fold_option false (λ s. has (map_of s) b) (v i)) (sym (has-union v slots b h) ∙ q) in
    by j.0 j.1 (v j.0) refl j.2
  where
    by : (i : ℕ) → i < slots → (o : Option (List ℕ)) → v i ≡ o → fold_option false (λ s. has (map_of s) b) o ≡ true → data_bit n b ≡ true
    by i k none p m = absurd (true≢false (sym m))
    by i k (some s) p m = outside_data n (map_of s) (survey_passed n v e i s k p).outside b h m

pub used-few : (n : ℕ) (v : Directory) → n ≤ 35 → survey n v ≡ none → bits_of (union v slots) ≤ data_count n
unfolding bits_of
used-few n v h e =
    omega (arith, count_data n h, count_less 1560 (data_bit n) (has (union v slots)) (used_data n v e))

-- ---- the pass, turn by turn: the used map so far, and the reply of the slots from i on

pub survey_start : (release : Bool) (n : ℕ) (v : Directory) → survey_by release n v ≡ scan_from (slots - 0) 0 (survey_at release n v)
unfolding survey_by
survey_start release n v = scan_start slots (survey_at release n v)

pub used_start : (n : ℕ) (v : Directory) (u : UsedMap) → u ≡ counted n clear_map → u ≡ counted n (union v 0)
unfolding union
used_start n v u e = e

pub used_dead : (n : ℕ) (v : Directory) (i : ℕ) (u : UsedMap) → u ≡ counted n (union v i) → v i ≡ none → u ≡ counted n (union v (i + 1))
used_dead n v i u e p = e ∙ ap (counted n) (sym (union_dead v i p))

module _ (d : List ℕ) (n i : ℕ) (u : UsedMap) (used : u ≡ counted n (union (directory d) i)) (s : List ℕ) (here : directory d i ≡ some s) where
  pub reached : i < slots_read d → {f : List ℕ} → Filtered d i f → Reached d i s u.bytes f
  reached h k = record { slot = h; here = here; used = counted-bytes n (union (directory d) i) u used; filtered = k }

  -- past its rows: m is its map, k its count
  module _ {m : List ℕ} (em : m ≡ map_of s) where
    pub apart : {k : ℕ} → k ≡ count_of s → (release : Bool) → survey_at release n (directory d) i ≡ none → DisjointMaps u m k
    apart ek release e =
        let c = counted-bytes n (union (directory d) i) u used in
        let h = passed_at n (directory d) i s here (plain_at release n (directory d) i s here e) in
        record {
          long = ap length c ∙ length_union (directory d) i;
          count = counted-count n (union (directory d) i) u used ∙ ap bits_of (sym c);
          own-count = ek ∙ sym h.bits ∙ ap bits_of (sym em);
          apart = ap₂ share c em ∙ share-union (directory d) i (map_of s) ∙ h.unshared;
        }

    pub used-more : (w : UsedMap) → w ≡ counted u.tracks (join u.bytes m) → w ≡ counted n (union (directory d) (i + 1))
    used-more w e =
        e ∙ ap₂ (λ (a : ℕ) (b : List ℕ). counted a (join b m)) (counted-tracks n (union (directory d) i) u used) (counted-bytes n (union (directory d) i) u used)
        ∙ ap (λ (b : List ℕ). counted n (join (union (directory d) i) b)) em ∙ ap (counted n) (sym (union-live (directory d) i s here))

-- what the pass gives: at a slot that is refused, and at the end
module _ (release : Bool) (d : List ℕ) (i : ℕ) (left : survey_by release (tracks_of d) (directory d) ≡ scan_from (slots - i) i (survey_at release (tracks_of d) (directory d))) where
  pub pass_stops : (f : Refused) → i < slots_read d → some (refusal_of f) ≡ survey_at release (tracks_of d) (directory d) i
      → Surveyed (survey_by release (tracks_of d) (directory d)) d (Err f)
  pass_stops f h e = record {
    reply = sym (left ∙ scan_stop slots i (survey_at release (tracks_of d) (directory d)) (refusal_of f) (omega (arith, read-most d)) (sym e));
    used = tt;
    files = tt;
  }

  -- past the slots that are read no row holds
  pub pass_ends : slots_read d ≤ i → i ≤ slots → (r : Survey) → r.used ≡ counted (tracks_of d) (union (directory d) i) → r.files ≡ live_among (directory d) i
      → Surveyed (survey_by release (tracks_of d) (directory d)) d (Ok r)
  unfolding used_map
  pass_ends h l r w f =
      let n : i + (slots - i) ≡ slots = omega arith in
      let dead : (j : ℕ) → i ≤ j → directory d j ≡ none = λ j k. directory-unread d j (omega arith) in
      let z : survey_by release (tracks_of d) (directory d) ≡ none = left ∙ none-scan_from (slots - i) i (survey_at release (tracks_of d) (directory d)) (λ j k m. survey_dead release (tracks_of d) (directory d) j (dead j k)) in
      record {
        reply = sym z;
        used = w ∙ ap (counted (tracks_of d)) (sym (ap (union (directory d)) (sym n) ∙ union-rest (directory d) i (slots - i) dead));
        files = f ∙ sym (live-read d i slots h l);
      }

-- what its caller learns by the answer
pub surveyed_ok : (q : Reply) (d : List ℕ) (r : Result Survey Refused) (s : Survey) → Surveyed q d r → r ≡ Ok s
    → (q ≡ none) × (s.used ≡ used_map (tracks_of d) (directory d)) × (s.files ≡ live_among (directory d) slots)
surveyed_ok q d r s h e =
    let w : Surveyed q d (Ok s) = subst (Surveyed q d) e h in
    (sym w.reply, w.used, w.files)

pub surveyed_err : (q : Reply) (d : List ℕ) (r : Result Survey Refused) (f : Refused) → Surveyed q d r → r ≡ Err f → q ≡ some (refusal_of f)
surveyed_err q d r f h e = sym h.reply ∙ ap reply_of e
