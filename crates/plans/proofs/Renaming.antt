-- Refusal 16 of a rename, and its slot.
use Prim.Native.Nat.{ℕ, suc}
use mathlib.Core.Path.{◌≡◌, refl, sym, ap, ◌∙◌}
use mathlib.Core.Bool.{Bool, true, false, not, ◌&&◌, true≢false, false≢true}
use mathlib.Core.List.{List}
use mathlib.Core.Logic.{◌⊎◌, inl, inr, ⊎_elim, ◌↔◌}
use mathlib.Core.Option.{Option, none, some, some-ne-none}
use native.Mathlib.Omega.{arith}
use borrow.Author.Tests.{eqb-true, eqb-false, eq-eqb, ne_eqb}
use lib.Dec.{eqb}
use Rattle.refusals.specs.Order.{Refusal, refuse}
use Rattle.slots.specs.Slot.{name_of}
use Rattle.names.specs.Name.{same_bytes, askable, padded}
use Rattle.names.proofs.Names.{same_eq, are_bytes, bytes_are}
use Rattle.chains.specs.File.{File}
use Rattle.directory.specs.Find.{find}
use Rattle.disk.specs.View.{view, view_slots}
use Rattle.disk.specs.Check.{check_disk}
use Rattle.files.specs.Calls.{file_at, file_named}
use Rattle.plans.specs.Change.{rename, usable}
use Rattle.plans.specs.Plan.{respells, refused_result, run_change}
use Rattle.files.specs.Refused.{some_named, slot_named, by_check, by_row}
use Rattle.files.proofs.Refused.{none_named}
use Rattle.plans.specs.Refused.{change_rows, rename_row16, RefusesChange}
use Rattle.plans.specs.Allowed.{NamedSlot, NameRefusedAt}
use Rattle.plans.proofs.Named.{found-file}
use Rattle.plans.proofs.Refused.{refused_exactly}
use Rattle.plans.proofs.Exactly.{named_slot, named_some, named_file, peel, other}

respells_not : (i j : ℕ) (f : File) (new : List ℕ) → respells (suc i) (suc j) f new ≡ false → (j ≡ i → ⊥) ⊎ ((j ≡ i) × (name_of f.bytes ≡ padded new))
respells_not i j f new = by (eqb (suc j) (suc i)) (same_bytes (name_of f.bytes) (padded new)) refl refl
  where
    by : (a b : Bool) → eqb (suc j) (suc i) ≡ a → same_bytes (name_of f.bytes) (padded new) ≡ b → (a && not b) ≡ false
        → (j ≡ i → ⊥) ⊎ ((j ≡ i) × (name_of f.bytes ≡ padded new))
    by true true p q w = let z : suc j ≡ suc i = eqb-true (suc j) (suc i) p in inr (omega arith, bytes_are (name_of f.bytes) (padded new) q)
    by true false p q w = absurd (true≢false w)
    by false b p q w = inl (λ z. eqb-false (suc j) (suc i) p (ap suc z))

module _ (d n new : List ℕ) (room : ℕ) (ok : check_disk d ≡ none) (a : askable n ≡ true) (u : usable new ≡ true) (i : ℕ) (f : File) (w : NamedSlot d n i f) where
  -- the slot found by the new name
  bars_first : (j : ℕ) → slot_named (view d) new ≡ suc j → (rename_row16 (view d) n new).holds ≡ true → NameRefusedAt d new i f j
  bars_first j s h = by (find (view_slots (view d)) new) refl
    where
      at : (k : ℕ) → find (view_slots (view d)) new ≡ some k → k ≡ j → respells (suc i) (suc j) f new ≡ false → NameRefusedAt d new i f j
      at k e z r =
          ⊎_elim (λ x. inr (x, file_at (view d) j, found-file d new j (e ∙ ap some z))) (λ x. inl x) (respells_not i j f new r)

      clear : (x y : Bool) → (x && not y) ≡ true → y ≡ false
      clear true true q = absurd (false≢true q)
      clear true false q = refl
      clear false y q = absurd (false≢true q)

      by : (o : Option ℕ) → find (view_slots (view d)) new ≡ o → NameRefusedAt d new i f j
      by none e = absurd (false≢true (sym (ap (λ (t : Bool). t && not (respells (slot_named (view d) n) (slot_named (view d) new) (file_named (view d) n) new)) (none_named (view d) new e)) ∙ h))
      by (some k) e =
          let v = found-file d new k e in
          let q : suc k ≡ suc j = sym (named_slot d new ok k (file_at (view d) k) v) ∙ s in
          at k e (omega arith) (clear (some_named (view d) new) (respells (suc i) (suc j) f new) (rw (named_slot d n ok i f w, s, named_file d n ok i f w) at h))

  bars_holds : (j : ℕ) → NameRefusedAt d new i f j → (slot_named (view d) new ≡ suc j) × ((rename_row16 (view d) n new).holds ≡ true)
  bars_holds j (inl (z, e)) =
      let v : NamedSlot d new i f = record { below = w.below; here = w.here; name = same_eq (name_of f.bytes) (padded new) e } in
      let s : slot_named (view d) new ≡ suc i = named_slot d new ok i f v in
      let b : same_bytes (name_of f.bytes) (padded new) ≡ true = are_bytes (name_of f.bytes) (padded new) e in
      (s ∙ ap suc (sym z), rw (named_some d new ok i f v, named_slot d n ok i f w, s, named_file d n ok i f w, eq-eqb (suc i) (suc i) refl, b))
  bars_holds j (inr (z, g, v)) =
      let s : slot_named (view d) new ≡ suc j = named_slot d new ok j g v in
      (s, rw (named_some d new ok j g v, named_slot d n ok i f w, s, named_file d n ok i f w, ne_eqb (suc j) (suc i) (λ (x : suc j ≡ suc i). z (omega arith))))

  -- "a new name equal to the stored bytes stays refused", and one that another live slot has; each at that slot, which is the only
  -- one and so the lowest
  pub rename_16 : (j : ℕ) → (run_change (rename n new) d room ≡ refused_result (refuse 16 (suc j))) ↔ NameRefusedAt d new i f j
  unfolding change_rows
  rename_16 j = (λ e. there ((refused_exactly (rename n new) d room (refuse 16 (suc j))).0 e), back)
    where
      there : RefusesChange (rename n new) d room (refuse 16 (suc j)) → NameRefusedAt d new i f j
      there (by_check q) = absurd (some-ne-none (refuse 16 (suc j)) (sym q ∙ ok))
      there (by_row q r) =
          ⊎_elim (λ x. bars_first j (ap (λ (y : Refusal). y.slot) x.1) x.0)
          (λ x. absurd (other (omega arith) (other (omega arith) x.1)))
          (peel (ap not (named_some d n ok i f w)) (peel (rw (a, u)) r))

      back : NameRefusedAt d new i f j → run_change (rename n new) d room ≡ refused_result (refuse 16 (suc j))
      back b =
          let h = bars_holds j b in
          (refused_exactly (rename n new) d room (refuse 16 (suc j))).1
          (by_row ok (inr (rw (a, u), inr (ap not (named_some d n ok i f w), inl (h.1, ap (refuse 16) h.0)))))
