-- The table of the directories by their codes: what it holds after i slots, and what goes by it.
use Prim.Native.Nat.{ℕ, zero, suc, ◌+◌, ◌-◌, ◌≤◌, ◌<◌}
use mathlib.Core.Path.{◌≡◌, refl, sym, ap, ap₂, ◌∙◌, subst}
use mathlib.Core.Bool.{Bool, true, false, not, cond, ◌&&◌, ◌||◌, true≢false}
use mathlib.Core.List.{List, [], ◌∷◌}
use mathlib.Core.Option.{Option, none, some}
use native.Mathlib.Nat.{add-zero, add_assoc}
use native.Mathlib.Numerals.{add-one}
use native.Mathlib.Omega.{arith}
use borrow.Author.Tests.{eqb-true, eqb-false, eq-eqb, ne_eqb}
use lib.Dec.{eqb}
use lib.ListN.{length, get_or, set, replicate, length-set}
use lib.Seq.{get_or-set_same, get_or-set_other}
use Rattle.buffers.specs.Bytes.{count, any}
use Rattle.buffers.proofs.Counts.{count-more, count_le, any-more, any_some, any_cong}
use Rattle.refusals.specs.Order.{refuse, ◌when◌, row, rows, scan_from, scan}
use Rattle.refusals.proofs.First.{scan_start, scan_skip, scan_stop, scan_end}
use Rattle.slots.specs.Slot.{is_directory, code_of, parent_of}
use Rattle.directory.specs.Places.{slots}
use Rattle.directory.specs.Directory.{fold_option, Directory}
use Rattle.surveys.specs.Survey.{earlier}
use Rattle.trees.specs.Tree.{coded, directories, parent_code_among, parent_code, ancestor_code, in_cycle, code_at, nesting_rows, place_at}
use Rattle.nesting.specs.Steps.{entry_among, Tabled, climb, back_by, is_orphan, nesting_rows_by}
use Rattle.trees.proofs.Up.{Coded, is-coded, coded-is, up_from}
use Rattle.trees.proofs.Numbers.{code-live, code_dead, place-live, coded-earlier}

-- ---- one slot more

module _ (v : Directory) (i : ℕ) where
  -- a slot that is no directory with the code leaves the entry as it is
  entry-same : (c : ℕ) → fold_option false (coded c) (v i) ≡ false → entry_among v (i + 1) c ≡ entry_among v i c
  unfolding entry_among earlier parent_code_among
  entry-same c e =
      ap₂ (λ (b : Bool) (x : ℕ). cond b (suc x) 0) (any-more i (λ j. fold_option false (coded c) (v j)) ∙ or-false (any i (λ j. fold_option false (coded c) (v j))) e) (ap (λ (m : ℕ). parent_code_among v m c) (add-one i) ∙ by (v i) e)
    where
      or-false : (a : Bool) {b : Bool} → b ≡ false → (a || b) ≡ a
      or-false true q = refl
      or-false false q = q

      by : (o : Option (List ℕ)) → fold_option false (coded c) o ≡ false → fold_option (parent_code_among v i c) (λ s. cond (coded c s) (parent_of s) (parent_code_among v i c)) o ≡ parent_code_among v i c
      by none q = refl
      by (some s) q = rw q

  entry_new : (s : List ℕ) → v i ≡ some s → is_directory s ≡ true → entry_among v (i + 1) (code_of s) ≡ parent_of s + 1
  unfolding entry_among earlier parent_code_among
  entry_new s e d =
      let q : coded (code_of s) s ≡ true = is-coded (code_of s) s d refl in
      let w : fold_option false (coded (code_of s)) (v i) ≡ true = ap (fold_option false (coded (code_of s))) e ∙ q in
      ap₂ (λ (b : Bool) (x : ℕ). cond b (suc x) 0) (any_some (i + 1) (λ j. fold_option false (coded (code_of s)) (v j)) i (omega arith) w)
      (ap (λ (m : ℕ). parent_code_among v m (code_of s)) (add-one i) ∙ rw (e, q)) ∙ sym (add-one (parent_of s))

  -- an entry that is not 0 is an earlier directory's
  entry_free : (c : ℕ) → entry_among v i c ≡ 0 → earlier v i (coded c) ≡ false
  unfolding entry_among
  entry_free c e = by (earlier v i (coded c)) e
    where
      by : (b : Bool) → cond b (suc (parent_code_among v i c)) 0 ≡ 0 → b ≡ false
      by true q = absurd (omega arith)
      by false q = refl

  entry_taken : (c : ℕ) → (entry_among v i c ≡ 0 → ⊥) → earlier v i (coded c) ≡ true
  unfolding entry_among
  entry_taken c n = by (earlier v i (coded c)) n
    where
      by : (b : Bool) → (cond b (suc (parent_code_among v i c)) 0 ≡ 0 → ⊥) → b ≡ true
      by true q = refl
      by false q = absurd (q refl)

-- ---- the pass over 26

pub zeros-at : (n k : ℕ) → ◌≡◌ {A = ℕ} (get_or (replicate n 0) k 0) 0
zeros-at zero k = refl
zeros-at (suc n) zero = refl
zeros-at (suc n) (suc k) = zeros-at n k

pub record TableLoop (v : Directory) (above : List ℕ) (number i : ℕ) : Type 0 where
  pub long : length above ≡ 256
  pub entry : (c : ℕ) → get_or above c 0 ≡ entry_among v i c
  pub root : get_or above 0 0 ≡ 0
  pub counted : number ≡ count i (λ j. fold_option false is_directory (v j))
  pub rest : scan slots (code_at v) ≡ scan_from (slots - i) i (code_at v)

not_coded : (c : ℕ) (s : List ℕ) → (is_directory s ≡ true → code_of s ≡ c → ⊥) → coded c s ≡ false
not_coded c s h = by (coded c s) refl
  where
    by : (b : Bool) → coded c s ≡ b → b ≡ false
    by true e = let w = coded-is c s e in absurd (h w.0 w.1)
    by false e = refl

module _ (v : Directory) where
  pub tabling_none : (above : List ℕ) → length above ≡ 256 → ((c : ℕ) → get_or above c 0 ≡ 0) → TableLoop v above 0 0
  unfolding entry_among earlier any count
  tabling_none above l z = record { long = l; entry = z; root = z 0; counted = refl; rest = scan_start slots (code_at v) }

  module _ (above : List ℕ) (number i : ℕ) (t : TableLoop v above number i) (h : i < slots) where
    -- a slot that is no directory
    pub tabling_same : fold_option false is_directory (v i) ≡ false → code_at v i ≡ none → TableLoop v above number (i + 1)
    tabling_same d e = record {
      long = t.long;
      entry = λ c. t.entry c ∙ sym (entry-same v i c (by c (v i) d));
      root = t.root;
      counted = t.counted ∙ sym (count-more i (λ j. fold_option false is_directory (v j)) ∙ rw d (omega arith));
      rest = t.rest ∙ scan_skip slots i (code_at v) h e;
    }
      where
        by : (c : ℕ) (o : Option (List ℕ)) → fold_option false is_directory o ≡ false → fold_option false (coded c) o ≡ false
        by c none q = refl
        by c (some s) q = not_coded c s (λ w z. true≢false (sym w ∙ q))

    pub tabling_dead : v i ≡ none → TableLoop v above number (i + 1)
    tabling_dead e = tabling_same (ap (fold_option false is_directory) e) (code_dead v i e)

    pub tabling_file : (s : List ℕ) → v i ≡ some s → is_directory s ≡ false → TableLoop v above number (i + 1)
    tabling_file s e d = tabling_same (ap (fold_option false is_directory) e ∙ d) (code-live v i s e ∙ rw d)

    module _ (s : List ℕ) (e : v i ≡ some s) (d : is_directory s ≡ true) (c : ℕ) (w : c ≡ code_of s) where
      -- a directory with a code of its own
      pub tabling_directory : (c ≡ 0 → ⊥) → get_or above c 0 ≡ 0 → c < 256 → (p : ℕ) → p ≡ parent_of s → TableLoop v (set above c (p + 1)) (number + 1) (i + 1)
      tabling_directory n z l p q = record {
        long = simp length-set t.long;
        entry = λ x. at x (eqb x c) refl;
        root = get_or-set_other above c 0 (p + 1) 0 (λ y. n (sym y)) ∙ t.root;
        counted = ap (λ (x : ℕ). x + 1) t.counted ∙ sym (count-more i (λ j. fold_option false is_directory (v j)) ∙ rw (e, d));
        rest = t.rest ∙ scan_skip slots i (code_at v) h (code-live v i s e ∙ free);
      }
        where
          zero_not : eqb (code_of s) 0 ≡ false
          zero_not = ne_eqb (code_of s) 0 (λ y. n (w ∙ y))

          unused : earlier v i (coded (code_of s)) ≡ false
          unused = entry_free v i (code_of s) (sym (t.entry (code_of s)) ∙ ap (λ (x : ℕ). get_or above x 0) (sym w) ∙ z)

          free : row 26 (suc i) (is_directory s && (eqb (code_of s) 0 || earlier v i (coded (code_of s)))) ≡ none
          free = rw (d, zero_not, unused)

          at : (x : ℕ) (b : Bool) → eqb x c ≡ b → get_or (set above c (p + 1)) x 0 ≡ entry_among v (i + 1) x
          at x true y =
              let k : x ≡ c = eqb-true x c y in
              rw k (get_or-set_same above c (p + 1) 0 (omega (arith, t.long)) ∙ ap (λ (m : ℕ). m + 1) q ∙ sym (entry_new v i s e d) ∙ ap (entry_among v (i + 1)) (sym w))
          at x false y =
              get_or-set_other above c x (p + 1) 0 (eqb-false x c y) ∙ t.entry x
              ∙ sym (entry-same v i x (ap (fold_option false (coded x)) e ∙ not_coded x s (λ g k. eqb-false x c y (sym k ∙ sym w))))

      -- a directory with code 0, and one with an earlier one's
      refusing : (eqb (code_of s) 0 || earlier v i (coded (code_of s))) ≡ true → scan slots (code_at v) ≡ some (refuse 26 (i + 1))
      refusing y =
          t.rest ∙ scan_stop slots i (code_at v) (refuse 26 (i + 1)) h
          (code-live v i s e ∙ rw (d, y) (ap (λ (x : ℕ). some (refuse 26 x)) (sym (add-one i))))

      pub refused-zero : c ≡ 0 → scan slots (code_at v) ≡ some (refuse 26 (i + 1))
      refused-zero z = refusing (ap (λ (b : Bool). b || earlier v i (coded (code_of s))) (eq-eqb (code_of s) 0 (sym w ∙ z)))

      pub refused-twice : (get_or above c 0 ≡ 0 → ⊥) → scan slots (code_at v) ≡ some (refuse 26 (i + 1))
      refused-twice n = refusing (ap (λ (b : Bool). eqb (code_of s) 0 || b) (entry_taken v i (code_of s) (λ q. n (ap (λ (x : ℕ). get_or above x 0) w ∙ t.entry (code_of s) ∙ q))) ∙ or-true (eqb (code_of s) 0))
        where
          or-true : (b : Bool) → (b || true) ≡ true
          or-true true = refl
          or-true false = refl

  -- past the slots that are read there is none
  tabling_rest : (above : List ℕ) (number i m : ℕ) → TableLoop v above number i → i + m ≤ slots → ((j : ℕ) → i ≤ j → v j ≡ none) → TableLoop v above number (i + m)
  tabling_rest above number i zero t h e = subst (TableLoop v above number) (sym (add-zero i)) t
  tabling_rest above number i (suc m) t h e =
      subst (TableLoop v above number) (add_assoc i m 1 ∙ ap (λ (k : ℕ). i + k) (add-one m))
      (tabling_dead above number (i + m) (tabling_rest above number i m t (omega arith) e) (omega arith) (e (i + m) (omega arith)))

  pub tabling_end : (above : List ℕ) (number i : ℕ) → TableLoop v above number i → i ≤ slots → ((j : ℕ) → i ≤ j → v j ≡ none) → TableLoop v above number slots
  tabling_end above number i t h e =
      let z : i + (slots - i) ≡ slots = omega arith in
      subst (TableLoop v above number) z (tabling_rest above number i (slots - i) t (omega arith) e)

  pub tabling_all : (above : List ℕ) (number : ℕ) → TableLoop v above number slots → Tabled v above number
  unfolding directories
  tabling_all above number t = record { entry = t.entry; root = t.root; number = t.counted }

  pub tabling_few : (above : List ℕ) (number i : ℕ) → TableLoop v above number i → number ≤ i
  tabling_few above number i t = omega (arith, t.counted, count_le i (λ j. fold_option false is_directory (v j)))

  pub tabling_clean : (above : List ℕ) (number : ℕ) → TableLoop v above number slots → scan slots (code_at v) ≡ none
  tabling_clean above number t = t.rest ∙ scan_end (slots - slots) slots (code_at v) (omega arith)

-- ---- going up by the table

module _ (v : Directory) (above : List ℕ) (number : ℕ) (t : Tabled v above number) where
  entry_up : (c : ℕ) → get_or above c 0 - 1 ≡ parent_code v c
  unfolding entry_among
  entry_up c = ap (λ (x : ℕ). x - 1) (t.entry c) ∙ by (earlier v slots (coded c)) refl
    where
      none_above : (x : ℕ) → parent_code v c ≡ x → earlier v slots (coded c) ≡ false → x ≡ 0
      none_above zero q e = refl
      none_above (suc x) q e =
          let w : Coded v c = up_from v slots c (omega arith) (λ z. omega arith) in
          absurd (true≢false (sym (coded-earlier v slots c w w.is-directory.live.below) ∙ e))

      by : (b : Bool) → earlier v slots (coded c) ≡ b → cond b (suc (parent_code v c)) 0 - 1 ≡ parent_code v c
      by true e = omega arith
      by false e = let z : parent_code v c ≡ 0 = none_above (parent_code v c) refl e in omega arith

  climb_up : (n c : ℕ) → climb above n c ≡ ancestor_code v n c
  unfolding climb ancestor_code
  climb_up zero c = refl
  climb_up (suc n) c = ap (λ (x : ℕ). get_or above x 0 - 1) (climb_up n c) ∙ entry_up (ancestor_code v n c)

  back_is : (c : ℕ) → back_by above number c ≡ in_cycle v c
  unfolding back_by in_cycle
  back_is c = ap (λ (m : ℕ). any m (λ n. eqb (climb above (suc n) c) c)) t.number ∙ any_cong (directories v) _ _ (λ k l. ap (λ (x : ℕ). eqb x c) (climb_up (suc k) c))

  missing : (c : ℕ) → eqb (get_or above c 0) 0 ≡ not (earlier v slots (coded c))
  unfolding entry_among
  missing c = ap (λ (x : ℕ). eqb x 0) (t.entry c) ∙ by (earlier v slots (coded c))
    where
      by : (b : Bool) → eqb (cond b (suc (parent_code_among v slots c)) 0) 0 ≡ not b
      by true = ne_eqb (suc (parent_code_among v slots c)) 0 (λ q. omega arith)
      by false = refl

  pub placing_is : (slot : ℕ) (s : List ℕ) → rows slot (nesting_rows_by above number s) ≡ rows slot (nesting_rows v s)
  unfolding is_orphan
  placing_is slot s =
      ap₂ (λ (a b : Bool). rows slot ((27 when not (eqb (parent_of s) 0) && a) ∷ (28 when is_directory s && b) ∷ [])) (missing (parent_of s)) (back_is (code_of s))

  pub place_met : (slot : ℕ) (s : List ℕ) (i : ℕ) → v i ≡ some s → slot ≡ i + 1 → rows slot (nesting_rows_by above number s) ≡ place_at v i
  place_met slot s i e q = placing_is slot s ∙ ap (λ (x : ℕ). rows x (nesting_rows v s)) (q ∙ add-one i) ∙ sym (place-live v i s e)

-- ---- at a slot, as the code meets it

module _ (above s : List ℕ) (p : ℕ) (e : p ≡ parent_of s) where
  pub in_the_root : p ≡ 0 → is_orphan above s ≡ false
  unfolding is_orphan
  in_the_root z = rw (eq-eqb (parent_of s) 0 (sym e ∙ z))

  pub in_one : (p ≡ 0 → ⊥) → (x : ℕ) → x ≡ get_or above p 0 → eqb x 0 ≡ is_orphan above s
  unfolding is_orphan
  in_one n x q =
      let z : eqb (parent_of s) 0 ≡ false = ne_eqb (parent_of s) 0 (λ w. n (e ∙ w)) in
      rw z (ap (λ (y : ℕ). eqb y 0) (q ∙ ap (λ (y : ℕ). get_or above y 0) e))

module _ (slot : ℕ) (above : List ℕ) (m : ℕ) (s : List ℕ) where
  pub rows-nowhere : is_orphan above s ≡ true → rows slot (nesting_rows_by above m s) ≡ some (refuse 27 slot)
  rows-nowhere e = rw e

  module _ (e : is_orphan above s ≡ false) where
    pub rows-file : is_directory s ≡ false → rows slot (nesting_rows_by above m s) ≡ none
    rows-file d = rw (e, d)

    module _ (d : is_directory s ≡ true) (c : ℕ) (q : c ≡ code_of s) (b : Bool) (w : b ≡ back_by above m c) where
      back : b ≡ back_by above m (code_of s)
      back = w ∙ ap (back_by above m) q

      pub rows_inside : b ≡ true → rows slot (nesting_rows_by above m s) ≡ some (refuse 28 slot)
      rows_inside t = rw (e, d, ← back, t)

      pub rows-directory : b ≡ false → rows slot (nesting_rows_by above m s) ≡ none
      rows-directory t = rw (e, d, ← back, t)

-- ---- as the loop meets it

module _ (above : List ℕ) (c : ℕ) where
  pub climb-more : (n at r : ℕ) → at ≡ climb above n c → r ≡ get_or above at 0 - 1 → r ≡ climb above (n + 1) c
  unfolding climb
  climb-more n at r p q = rw (add-one n) (q ∙ ap (λ (x : ℕ). get_or above x 0 - 1) p)

  pub back_none : any 0 (λ n. eqb (climb above (suc n) c) c) ≡ false
  unfolding any
  back_none = refl

  pub back_more : (n r : ℕ) → any n (λ n. eqb (climb above (suc n) c) c) ≡ false → r ≡ climb above (n + 1) c → (r ≡ c → ⊥) → any (n + 1) (λ n. eqb (climb above (suc n) c) c) ≡ false
  back_more n r e p h =
      let z : eqb (climb above (suc n) c) c ≡ false = ne_eqb (climb above (suc n) c) c (λ q. h (p ∙ ap (λ (m : ℕ). climb above m c) (add-one n) ∙ q)) in
      any-more n (λ n. eqb (climb above (suc n) c) c) ∙ rw (e, z)

  pub back_found : (m n r : ℕ) → n < m → r ≡ climb above (n + 1) c → r ≡ c → back_by above m c ≡ true
  unfolding back_by
  back_found m n r l p q =
      any_some m (λ n. eqb (climb above (suc n) c) c) n l (eq-eqb (climb above (suc n) c) c (sym (p ∙ ap (λ (m : ℕ). climb above m c) (add-one n)) ∙ q))

  pub back-never : (m n : ℕ) → n ≡ m → any n (λ n. eqb (climb above (suc n) c) c) ≡ false → back_by above m c ≡ false
  unfolding back_by
  back-never m n e p = rw e at p
