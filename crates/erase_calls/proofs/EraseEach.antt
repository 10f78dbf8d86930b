-- The names answered, one after the other.
use Prim.Native.Nat.{ℕ, zero, suc, ◌+◌, ◌*◌, ◌≤◌, ◌<◌}
use mathlib.Core.Path.{◌≡◌, refl, sym, ap, ap₂, ◌∙◌}
use mathlib.Core.Bool.{Bool, true, false, cond}
use mathlib.Core.List.{List, [], ◌∷◌}
use mathlib.Core.Option.{Option, none, some}
use native.Mathlib.Numerals.{add-one}
use native.Mathlib.Omega.{arith}
use lib.Dec.{eqb}
use lib.ListN.{length}
use Rattle.std.specs.Prelude.{Result, Ok, Err}
use Rattle.buffers.specs.Bytes.{tab, part, put}
use Rattle.buffers.proofs.Lists.{tab-more, length-tab, part-long, put-none, put-append, length-put}
use Rattle.maps.specs.Bits.{with_bit}
use Rattle.maps.proofs.Laws.{length_marked}
use Rattle.refusals.specs.declared.Reason.{Reason}
use Rattle.refusals.specs.declared.Reason.TheVariants.{NameNotUsable, NameNotFound, FileProtected, DirectoryNotEmpty}
use Rattle.slots.specs.Slot.{protected}
use Rattle.names.specs.Name.{askable}
use Rattle.directory.specs.Directory.{fold_option, Directory, directory, slot_or}
use Rattle.directory.specs.Find.{find}
use Rattle.directory.proofs.Ends.{slot_read}
use Rattle.directory.proofs.Live.{directory-some}
use Rattle.directory.proofs.Search.{find-some}
use Rattle.trees.specs.Tree.{occupied}
use Rattle.nesting.specs.Steps.{not_erased}
use Rattle.nesting.proofs.Others.{left_was}
use Rattle.erase_many.specs.EraseMany.{name_at}
use Rattle.erase_many.specs.ErasedMap.{none_erased, erase_answer, name_answer, erased_with, erased_map, erased_map_answer}
use Rattle.erase_calls.specs.Erasing.{number_or_done, OneErased, AllErased}

-- ---- one name

module _ (d m n : List ℕ) where
  -- the bytes of the slot that was found
  slot-left : (i : ℕ) → find (not_erased (directory d) m) n ≡ some i → (s : List ℕ) → s ≡ slot_or d i → not_erased (directory d) m i ≡ some s
  slot-left i e s p =
      let f = find-some (not_erased (directory d) m) n i e in
      let w = directory-some d i f.bytes (left_was (directory d) m i f.bytes f.here) in
      f.here ∙ ap some (w.1 ∙ sym (slot_read d i f.below) ∙ sym p)

  settled : (r : Result (Unit {0}) Reason) → name_answer (not_erased (directory d) m) n ≡ number_or_done r → (after : List ℕ)
      → after ≡ cond (eqb (number_or_done r) 0) (fold_option m (with_bit m) (find (not_erased (directory d) m) n)) m → OneErased (directory d) m n r after
  unfolding erased_with
  settled r e after p = record { number = sym e; map = rw e p }

  pub settled_12 : askable n ≡ false → OneErased {A = Unit {0}} (directory d) m n (Err NameNotUsable) m
  unfolding name_answer
  settled_12 a = settled (Err NameNotUsable) (rw a) m refl

  module _ (a : askable n ≡ true) where
    pub settled_15 : find (not_erased (directory d) m) n ≡ none → OneErased {A = Unit {0}} (directory d) m n (Err NameNotFound) m
    unfolding name_answer
    settled_15 e = settled (Err NameNotFound) (rw (a, e)) m refl

    module _ (i : ℕ) (e : find (not_erased (directory d) m) n ≡ some i) (s : List ℕ) (p : s ≡ slot_or d i) where
      pub settled_17 : protected s ≡ true → OneErased {A = Unit {0}} (directory d) m n (Err FileProtected) m
      unfolding name_answer erase_answer
      settled_17 b = settled (Err FileProtected) (rw (a, e, slot-left i e s p, b)) m refl

      module _ (b : protected s ≡ false) where
        pub settled_29 : occupied (not_erased (directory d) m) i s ≡ true → OneErased {A = Unit {0}} (directory d) m n (Err DirectoryNotEmpty) m
        unfolding name_answer erase_answer
        settled_29 o = settled (Err DirectoryNotEmpty) (rw (a, e, slot-left i e s p, b, o)) m refl

        pub settled_0 : occupied (not_erased (directory d) m) i s ≡ false → (g : List ℕ) → g ≡ with_bit m i → OneErased {A = Unit {0}} (directory d) m n (Ok tt) g
        unfolding name_answer erase_answer
        settled_0 o g q = settled (Ok tt) (rw (a, e, slot-left i e s p, b, o)) g (q ∙ sym (ap (fold_option m (with_bit m)) e))

-- the map keeps its length
one_long : (v : Directory) (m n : List ℕ) → length (erased_with v m n) ≡ length m
unfolding erased_with
one_long v m n = by (eqb (name_answer (not_erased v m) n) 0) (find (not_erased v m) n)
  where
    by : (t : Bool) (o : Option ℕ) → length (cond t (fold_option m (with_bit m) o) m) ≡ length m
    by true none = refl
    by true (some i) = length_marked m i
    by false o = refl

erased-long : (v : Directory) (ns : List ℕ) (k : ℕ) → length (erased_map v ns k) ≡ length none_erased
unfolding erased_map
erased-long v ns zero = refl
erased-long v ns (suc k) = one_long v (erased_map v ns k) (name_at ns k) ∙ erased-long v ns k

-- ---- all names

pub name-ten : (ns : List ℕ) (many k : ℕ) → 10 * many ≤ length ns → k < many → (n : List ℕ) → n ≡ part (10 * k) 10 ns → length n ≡ 10
name-ten ns many k h l n e = ap length e ∙ part-long (10 * k) 10 ns (omega arith)

pub record EraseEachLoop (v : Directory) (ns buf : List ℕ) (k : ℕ) (now m : List ℕ) : Type 0 where
  pub answers : now ≡ put buf 0 (tab k (erased_map_answer v ns))
  pub map : m ≡ erased_map v ns k

module _ (v : Directory) (ns buf : List ℕ) where
  pub settling_none : (m : List ℕ) → m ≡ none_erased → EraseEachLoop v ns buf 0 buf m
  unfolding tab erased_map
  settling_none m e = record { answers = put-none buf 0 []; map = e }

  module _ (k : ℕ) (now m : List ℕ) (s : EraseEachLoop v ns buf k now m) where
    pub settling_more : (n : List ℕ) → n ≡ part (10 * k) 10 ns → (o : Result (Unit {0}) Reason) (after : List ℕ) → OneErased v m n o after
        → (r : ℕ) → r ≡ number_or_done o → (g : List ℕ) → g ≡ put now k (r ∷ []) → EraseEachLoop v ns buf (k + 1) g after
    unfolding erased_map erased_map_answer name_at
    settling_more n q o after t r u g p =
        let f : ℕ → ℕ = erased_map_answer v ns in
        let x : r ≡ f k = u ∙ t.number ∙ ap₂ (λ (m n : List ℕ). name_answer (not_erased v m) n) s.map q in
        let z : length (tab k f) ≡ k = length-tab k f in
        record {
          answers =
              p ∙ ap₂ (λ (y : List ℕ) (a : ℕ). put y k (a ∷ [])) s.answers x
              ∙ ap (λ (a : ℕ). put (put buf 0 (tab k f)) a (f k ∷ [])) (omega arith)
              ∙ put-append buf 0 (tab k f) (f k ∷ []) ∙ ap (put buf 0) (sym (tab-more k f));
          map = t.map ∙ ap₂ (erased_with v) s.map q ∙ ap (erased_map v ns) (sym (add-one k));
        }

    pub settling_long : length now ≡ length buf
    settling_long = ap length s.answers ∙ length-put buf 0 (tab k (erased_map_answer v ns))

    pub settling_wide : (m₀ : List ℕ) → m₀ ≡ none_erased → length m ≡ length m₀
    settling_wide m₀ e = ap length s.map ∙ erased-long v ns k ∙ ap length (sym e)

    pub settling_all : (many : ℕ) → k ≡ many → AllErased v ns many buf now m
    settling_all many e = record { answers = rw e at s.answers; map = rw e at s.map }
