-- A start address by the tests that lead to it.
use Prim.Native.Nat.{ℕ, suc, ◌+◌, ◌-◌, ◌*◌, ◌≤◌, ◌<◌}
use mathlib.Core.Path.{◌≡◌, sym, ap, ap₂, ◌∙◌}
use mathlib.Core.Bool.{true, false, ◌&&◌}
use mathlib.Core.Logic.{◌⊎◌, ⊎_elim}
use borrow.Author.Tests.{le-leb, lt-leb}
use lib.Dec.{leb}
use mathlib.Core.List.{List}
use native.Mathlib.Numerals.{add-one}
use Rattle.refusals.specs.Order.{Refusal, refuse, Reply, ◌else◌}
use Rattle.refusals.specs.Answers.{Outcome, done, refused, unless}
use Rattle.slots.specs.Slot.{kind_of, carried, spectrum, page_of, offset_of}
use Rattle.slots.proofs.KindLaws.{carried-read, spectrum-read, uncarried_read, carried_not}
use Rattle.headers.specs.Header.{header_start, first_sector}
use Rattle.chains.specs.File.{File, file_of}
use Rattle.directory.specs.Directory.{slot_or}
use Rattle.disk.specs.View.{view}
use Rattle.files.specs.Calls.{SlotLookup, found_slot, refused_lookup, lookup, file_at, file_named, not_readable, start_out_of_range, start_reply, address, file_start, start_at, start_view, start_address}
use Rattle.files.proofs.Named.{lookup_named, named_by, by_lookup, named_slot}

module _ (d n : List ℕ) where
  pub start_refused : (r : Refusal) → refused_lookup r ≡ lookup (view d) n → refused r ≡ start_address d n
  unfolding start_view start_reply
  start_refused r e =
      sym (ap (λ (q : Reply). unless q (done (file_start (file_named (view d) n)) 0))
      (named_by (view d) n (λ slot f. not_readable slot f else start_out_of_range slot f)
      ∙ ap (λ (x : SlotLookup). by_lookup x (λ i. not_readable (suc i) (file_at (view d) i) else start_out_of_range (suc i) (file_at (view d) i))) (sym e)))

  pub start_found : (i : ℕ) → found_slot i ≡ lookup (view d) n → start_at (i + 1) (file_of d (slot_or d i)) ≡ start_address d n
  unfolding start_view start_reply start_at
  start_found i e =
      let w = named_slot d n i (lookup_named d n i e) in
      sym (ap₂ (λ (q : Reply) (f : File). unless q (done (file_start f) 0))
      (named_by (view d) n (λ slot f. not_readable slot f else start_out_of_range slot f)
      ∙ ap (λ (x : SlotLookup). by_lookup x (λ i. not_readable (suc i) (file_at (view d) i) else start_out_of_range (suc i) (file_at (view d) i))) (sym e)
      ∙ ap₂ (λ (k : ℕ) (f : File). not_readable k f else start_out_of_range k f) (sym (add-one i)) w.same)
      w.file)

-- with the slot's bytes as the code has them
pub start_met : (d n : List ℕ) (i : ℕ) (s : List ℕ) → s ≡ slot_or d i → found_slot i ≡ lookup (view d) n → (x : Outcome) → x ≡ start_at (i + 1) (file_of d s) → x ≡ start_address d n
start_met d n i s e w x p = p ∙ ap (λ (s : List ℕ). start_at (i + 1) (file_of d s)) e ∙ start_found d n i w

-- at a slot, by the tests that lead to it
module _ (slot : ℕ) (d s : List ℕ) where
  pub at-header : spectrum (kind_of s) ≡ true → (h : List ℕ) → h ≡ first_sector (file_of d s) → (n : ℕ) → n ≡ header_start h → done n 0 ≡ start_at slot (file_of d s)
  unfolding start_at file_start file_of
  at-header a h e n p = rw (spectrum-read (kind_of s) a, a) (ap (λ (x : ℕ). done x 0) (p ∙ ap header_start e))

  pub at_not_carried : spectrum (kind_of s) ≡ false → carried (kind_of s) ≡ false → refused (refuse 13 slot) ≡ start_at slot (file_of d s)
  unfolding start_at file_of
  at_not_carried z a = rw (uncarried_read (kind_of s) a, z)

  module _ (a : carried (kind_of s) ≡ true) {o : ℕ} (e : o ≡ offset_of s) where
    pub at_out : (o < 32768) ⊎ ((32768 ≤ o) × (49151 < o)) → refused (refuse 14 slot) ≡ start_at slot (file_of d s)
    unfolding start_at file_of
    at_out h =
        let b : (leb 32768 o && leb o 49151) ≡ false = ⊎_elim (λ k. rw (lt-leb 32768 o k)) (λ k. rw (le-leb 32768 o k.0, lt-leb o 49151 k.1)) h in
        rw (carried-read (kind_of s) a, carried_not (kind_of s) a, ← e, b)

    pub at_address : 32768 ≤ o → o ≤ 49151 → {p : ℕ} → p ≡ page_of s → done (p * 16384 + o - 16384) 0 ≡ start_at slot (file_of d s)
    unfolding start_at file_start file_of address
    at_address h k q = rw (carried-read (kind_of s) a, carried_not (kind_of s) a, ← e, ← q, le-leb 32768 o h, le-leb o 49151 k)
