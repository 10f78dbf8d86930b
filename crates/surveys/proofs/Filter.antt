-- A name before a slot, by the filter and by its key; and what the pass keeps beside the used map: the filter of the names so
-- far, and how many slots are live.
use Prim.Native.Nat.{ℕ, zero, suc, ◌+◌, ◌*◌, ◌≤◌, ◌<◌}
use mathlib.Core.Path.{◌≡◌, refl, sym, ap, ap₂, ◌∙◌}
use mathlib.Core.Bool.{Bool, true, false, not, or-true, and-false, true≢false}
use mathlib.Core.List.{List}
use mathlib.Core.Logic.{⊎_elim}
use mathlib.Core.Option.{Option, none, some, some-ne-none, some-injective}
use native.Mathlib.Omega.{arith}
use native.Mathlib.Numerals.{add-one}
use borrow.Author.Tests.{eq-eqb, not-true, not-false}
use lib.Dec.{eqb}
use lib.ListN.{length, get_or}
use Rattle.buffers.specs.Bytes.{any}
use Rattle.buffers.proofs.Counts.{any-more, any_some, any_none, none_any}
use Rattle.buffers.proofs.Lists.{below_or_not}
use Rattle.maps.specs.Bits.{has, with_bit}
use Rattle.maps.proofs.Laws.{length_marked, has_marked}
use Rattle.slots.specs.Slot.{name_of, is_named, is_live}
use Rattle.names.specs.Name.{same_name, key_of}
use Rattle.names.proofs.Keys.{keys_differ}
use Rattle.directory.specs.Directory.{fold_option, directory, live_among}
use Rattle.surveys.specs.Survey.{earlier}
use Rattle.surveys.specs.Filter.{key_bit, key_bits, lacks_bit, may_contain, inserted_to, inserted, Filtered}
use Rattle.directory.proofs.Live.{among_dead, among_live, among_few, among_none}
use Rattle.directory.proofs.Named.{named}

-- ---- the bits of a key

module _ (f : List ℕ) (b : ℕ) (h : b < 8 * length f) where
  marked_sets : has (with_bit f b) b ≡ true
  marked_sets = has_marked f b b h ∙ rw (eq-eqb b b refl)

  marked_keeps : (c : ℕ) → has f c ≡ true → has (with_bit f b) c ≡ true
  marked_keeps c e = has_marked f b c h ∙ rw e (or-true (eqb c b))

pub key_bit-small : (key j : ℕ) → key_bit key j < 8192
unfolding key_bit
key_bit-small key zero = omega arith
key_bit-small key (suc j) = omega arith

-- each among the four
each_bit : (key j : ℕ) → j < 4 → get_or (key_bits key) j 0 ≡ key_bit key j
each_bit key zero h = refl
each_bit key (suc zero) h = refl
each_bit key (suc (suc zero)) h = refl
each_bit key (suc (suc (suc zero))) h = refl
each_bit key (suc (suc (suc (suc j)))) h = absurd (omega arith)

pub key_bits-at : {bits : List ℕ} (key j : ℕ) → bits ≡ key_bits key → j < 4 → get_or bits j 0 ≡ key_bit key j
key_bits-at key j e h = ap (λ (l : List ℕ). get_or l j 0) e ∙ each_bit key j h

module _ (f : List ℕ) (key : ℕ) where
  pub length_noted : (n : ℕ) → length (inserted_to f key n) ≡ length f
  unfolding inserted_to
  length_noted zero = refl
  length_noted (suc n) = length_marked (inserted_to f key n) (key_bit key n) ∙ length_noted n

  pub noted_more : (n : ℕ) {g x : List ℕ} {b : ℕ} → g ≡ inserted_to f key n → b ≡ key_bit key n → x ≡ with_bit g b → x ≡ inserted_to f key (n + 1)
  unfolding inserted_to
  noted_more n p q r = rw add-one (r ∙ ap₂ with_bit p q)

  -- the bits looked at so far: none lacks
  pub lacks_none : false ≡ lacks_bit f key 0
  unfolding lacks_bit any
  lacks_none = refl

  pub lacks_more : (n : ℕ) → false ≡ lacks_bit f key n → {b : ℕ} {t : Bool} → b ≡ key_bit key n → t ≡ has f b → t ≡ true → false ≡ lacks_bit f key (n + 1)
  unfolding lacks_bit
  lacks_more n e p q r =
      let h : has f (key_bit key n) ≡ true = ap (has f) (sym p) ∙ sym q ∙ r in
      sym (any-more n (λ j. not (has f (key_bit key j))) ∙ rw (← e, h))

  pub lacks_one : (n : ℕ) → n < 4 → {b : ℕ} {t : Bool} → b ≡ key_bit key n → t ≡ has f b → t ≡ false → false ≡ may_contain f key
  unfolding may_contain lacks_bit
  lacks_one n h p q r =
      let e : has f (key_bit key n) ≡ false = ap (has f) (sym p) ∙ sym q ∙ r in
      sym (ap not (any_some 4 (λ j. not (has f (key_bit key j))) n h (rw e)))

  module _ (l : length f ≡ 1024) where
    in_filter : (n j : ℕ) → key_bit key j < 8 * length (inserted_to f key n)
    in_filter n j = omega (arith, key_bit-small key j, length_noted n)

    -- the bits that are set stay
    bit_keeps : (n c : ℕ) → has f c ≡ true → has (inserted_to f key n) c ≡ true
    unfolding inserted_to
    bit_keeps zero c e = e
    bit_keeps (suc n) c e = marked_keeps (inserted_to f key n) (key_bit key n) (in_filter n n) c (bit_keeps n c e)

    -- and the key's are set
    bit-sets : (n j : ℕ) → j < n → has (inserted_to f key n) (key_bit key j) ≡ true
    unfolding inserted_to
    bit-sets zero j h = absurd (omega arith)
    bit-sets (suc n) j h =
        ⊎_elim (λ (k : j < n). marked_keeps (inserted_to f key n) (key_bit key n) (in_filter n n) (key_bit key j) (bit-sets n j k))
        (λ (k : n ≤ j). let z : j ≡ n = omega arith in ap (λ (i : ℕ). has (with_bit (inserted_to f key n) (key_bit key n)) (key_bit key i)) z ∙ marked_sets (inserted_to f key n) (key_bit key n) (in_filter n n))
        (below_or_not j n)

    pub noted_keeps : (k : ℕ) → may_contain f k ≡ true → may_contain (inserted f key) k ≡ true
    unfolding may_contain lacks_bit
    noted_keeps k e =
        let o : any 4 (λ j. not (has f (key_bit k j))) ≡ false = not-true _ e in
        ap not (none_any 4 (λ j. not (has (inserted f key) (key_bit k j))) (λ j h.
        rw (bit_keeps 4 (key_bit k j) (not-false _ (any_none 4 (λ j. not (has f (key_bit k j))) o j h)))))

    pub noted_sets : may_contain (inserted f key) key ≡ true
    unfolding may_contain lacks_bit
    noted_sets = ap not (none_any 4 (λ j. not (has (inserted f key) (key_bit key j))) (λ j h. rw (bit-sets 4 j h)))

-- ---- a name before a slot

module _ (d n : List ℕ) where
  -- the filter lacks a bit of its key
  pub unnoted : (i : ℕ) (f : List ℕ) → Filtered d i f → {key : ℕ} {t : Bool} → key ≡ key_of n → t ≡ may_contain f key → t ≡ false
      → earlier (directory d) i (λ t. same_name (name_of t) n) ≡ false
  unfolding earlier
  unnoted i f w {key} p q r = none_any i (named d n) (λ j h. by j h (directory d j) refl)
    where
      by : (j : ℕ) → j < i → (o : Option (List ℕ)) → directory d j ≡ o → fold_option false (λ t. same_name (name_of t) n) o ≡ false
      by j h none e = refl
      by j h (some t) e =
          keys_differ (name_of t) n
          (λ x. true≢false (sym (w.bits j t h e) ∙ ap (may_contain f) (x ∙ sym p) ∙ sym q ∙ r))

  module _ (j : ℕ) where
    pub not_named : named d n j ≡ false → earlier (directory d) j (λ t. same_name (name_of t) n) ≡ false → earlier (directory d) (j + 1) (λ t. same_name (name_of t) n) ≡ false
    unfolding earlier
    not_named p e = any-more j (named d n) ∙ rw (e, p)

    pub is_named_lem : (i : ℕ) → j < i → named d n j ≡ true → earlier (directory d) i (λ t. same_name (name_of t) n) ≡ true
    unfolding earlier
    is_named_lem i h p = any_some i (named d n) j h p

-- a slot whose name has another key has another name
pub key_other : (s n : List ℕ) {m : List ℕ} {k key : ℕ} → m ≡ name_of s → k ≡ key_of m → key ≡ key_of n → (k ≡ key → ⊥) → false ≡ is_named s n
unfolding is_named
key_other s n {m} {k} {key} p q r x = sym (rw (keys_differ (name_of s) n (λ y. x (q ∙ ap key_of p ∙ y ∙ sym r))) (and-false (is_live s)))

-- ---- turn by turn

pub record FilterLoop (d : List ℕ) (i : ℕ) (f : List ℕ) (files : ℕ) : Type 0 where
  pub filtered : Filtered d i f
  pub live : files ≡ live_among (directory d) i

pub kept-none : (d f : List ℕ) → length f ≡ 1024 → FilterLoop d 0 f 0
kept-none d f l = record { filtered = record { long = l; bits = λ j t h e. absurd (omega arith) }; live = sym (among_none (directory d)) }

pub kept-few : (d : List ℕ) (i : ℕ) (f : List ℕ) (files : ℕ) → FilterLoop d i f files → files ≤ i
kept-few d i f files w = omega (arith, w.live, among_few (directory d) i)

module _ (d : List ℕ) (i : ℕ) (f : List ℕ) (files : ℕ) (w : FilterLoop d i f files) where
  pub kept_dead : directory d i ≡ none → FilterLoop d (i + 1) f files
  kept_dead e = record { filtered = record { long = w.filtered.long; bits = bits }; live = w.live ∙ sym (among_dead (directory d) i e) }
    where
      bits : (j : ℕ) (t : List ℕ) → j < i + 1 → directory d j ≡ some t → may_contain f (key_of (name_of t)) ≡ true
      bits j t h p =
          ⊎_elim (λ l. w.filtered.bits j t l p) (λ (l : i ≤ j). let z : j ≡ i = omega arith in absurd (some-ne-none t (sym p ∙ ap (directory d) z ∙ e)))
          (below_or_not j i)

  pub kept-live : (s : List ℕ) → directory d i ≡ some s → {n : List ℕ} {key : ℕ} {g : List ℕ} → n ≡ name_of s → key ≡ key_of n → g ≡ inserted f key → FilterLoop d (i + 1) g (files + 1)
  kept-live s e {n} {key} {g} p q r =
      record {
        filtered = record { long = ap length r ∙ length_noted f key 4 ∙ w.filtered.long; bits = bits };
        live = ap (λ (x : ℕ). x + 1) w.live ∙ sym (among_live (directory d) i s e);
      }
    where
      bits : (j : ℕ) (t : List ℕ) → j < i + 1 → directory d j ≡ some t → may_contain g (key_of (name_of t)) ≡ true
      bits j t h x =
          ap (λ (m : List ℕ). may_contain m (key_of (name_of t))) r
          ∙ ⊎_elim (λ (l : j < i). noted_keeps f key w.filtered.long (key_of (name_of t)) (w.filtered.bits j t l x))
          (λ (l : i ≤ j).
          let z : j ≡ i = omega arith in
          let y : t ≡ s = some-injective t s (sym x ∙ ap (directory d) z ∙ e) in
          ap (may_contain (inserted f key)) (ap (λ (m : List ℕ). key_of (name_of m)) y ∙ sym (q ∙ ap key_of p)) ∙ noted_sets f key w.filtered.long) (below_or_not j i)
