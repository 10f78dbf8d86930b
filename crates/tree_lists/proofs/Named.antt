-- 12, 13 and 15 of a directory's name, and its code, as the code meets them.
use Prim.Native.Nat.{ℕ, ◌+◌, ◌<◌}
use mathlib.Core.Path.{◌≡◌, sym, ap, ◌∙◌}
use mathlib.Core.Bool.{true, false}
use mathlib.Core.List.{List}
use mathlib.Core.Option.{none, some}
use native.Mathlib.Numerals.{add-one}
use borrow.Author.Tests.{eq-eqb, ne_eqb}
use lib.ListN.{length}
use Rattle.refusals.specs.Order.{refuse}
use Rattle.slots.specs.Slot.{is_directory, code_of}
use Rattle.names.specs.Name.{askable}
use Rattle.directory.specs.Places.{slots}
use Rattle.directory.specs.Directory.{directory, slot_or}
use Rattle.directory.specs.Find.{find}
use Rattle.directory.proofs.Ends.{slot_read}
use Rattle.directory.proofs.Live.{directory-some}
use Rattle.directory.proofs.Search.{find-some}
use Rattle.tree_lists.specs.Call.{name_reply, asked_code}

-- the slot found, by its bytes
pub found-slot : (d n : List ℕ) (i : ℕ) → find (directory d) n ≡ some i → (s : List ℕ) → s ≡ slot_or d i → directory d i ≡ some s
found-slot d n i e s p =
    let f = find-some (directory d) n i e in
    let w = directory-some d i f.bytes f.here in
    f.here ∙ ap some (w.1 ∙ sym (slot_read d i f.below) ∙ sym p)

pub found_below : (d n : List ℕ) (i : ℕ) → find (directory d) n ≡ some i → i < slots
found_below d n i e = (find-some (directory d) n i e).below

module _ (d n : List ℕ) where
  pub root-reply : length n ≡ 0 → name_reply (directory d) n ≡ none
  unfolding name_reply
  root-reply e = rw (eq-eqb (length n) 0 e)

  pub root-code : length n ≡ 0 → asked_code (directory d) n ≡ 0
  unfolding asked_code
  root-code e = rw (eq-eqb (length n) 0 e)

  module _ (h : length n ≡ 0 → ⊥) where
    pub code-found : (i : ℕ) → find (directory d) n ≡ some i → (s : List ℕ) → s ≡ slot_or d i → asked_code (directory d) n ≡ code_of s
    unfolding asked_code
    code-found i e s p = rw (ne_eqb (length n) 0 h, e, found-slot d n i e s p)

    pub unusable : askable n ≡ false → name_reply (directory d) n ≡ some (refuse 12 0)
    unfolding name_reply
    unusable e = rw (ne_eqb (length n) 0 h, e)

    module _ (a : askable n ≡ true) where
      pub not_found : find (directory d) n ≡ none → name_reply (directory d) n ≡ some (refuse 15 0)
      unfolding name_reply
      not_found e = rw (ne_eqb (length n) 0 h, a, e)

      pub found-directory : (i : ℕ) → find (directory d) n ≡ some i → (s : List ℕ) → s ≡ slot_or d i → is_directory s ≡ true → name_reply (directory d) n ≡ none
      unfolding name_reply
      found-directory i e s p q = rw (ne_eqb (length n) 0 h, a, e, found-slot d n i e s p, q)

      pub found-file : (i : ℕ) → find (directory d) n ≡ some i → (s : List ℕ) → s ≡ slot_or d i → is_directory s ≡ false → name_reply (directory d) n ≡ some (refuse 13 (i + 1))
      unfolding name_reply
      found-file i e s p q = rw (ne_eqb (length n) 0 h, a, e, found-slot d n i e s p, q) (ap (λ (x : ℕ). some (refuse 13 x)) (sym (add-one i)))
