-- Laws of a file by its name: what the lookup answers, and what the calls by name make of it.
use Prim.Native.Nat.{ℕ, suc, ◌<◌}
use mathlib.Core.Path.{◌≡◌, refl, sym, ap, ◌∙◌}
use native.Mathlib.Omega.{arith}
use mathlib.Core.Bool.{Bool, true, false, not}
use mathlib.Core.List.{List}
use mathlib.Core.Option.{Option, none, some}
use Rattle.refusals.specs.Order.{Refusal, refuse, Reply, ◌else◌, row}
use Rattle.names.specs.Name.{askable}
use Rattle.chains.specs.File.{File, file_of}
use Rattle.directory.specs.Directory.{fold_option, Directory, directory, slot_or}
use Rattle.directory.specs.Find.{find}
use Rattle.directory.specs.Places.{slots}
use Rattle.directory.proofs.Ends.{slot_read}
use Rattle.directory.proofs.Live.{directory-some}
use Rattle.directory.proofs.Search.{find-some}
use Rattle.disk.specs.View.{View, view, view_slots}
use Rattle.disk.specs.Check.{check_view, check_disk}
use Rattle.disk.proofs.View.{view-slots, view-some}
use Rattle.disk.proofs.Order.{accepted}
use Rattle.files.specs.Calls.{SlotLookup, found_slot, refused_lookup, lookup_by, lookup, no_file, file_at, file_named, named_reply}

-- ---- the lookup, by the tests that lead to it

module _ (d n : List ℕ) where
  lookup-is : lookup (view d) n ≡ lookup_by (check_disk d else row 12 0 (not (askable n))) (find (directory d) n)
  unfolding lookup check_disk
  lookup-is = ap (λ (v : Directory). lookup_by (check_view (view d) else row 12 0 (not (askable n))) (find v n)) (view-slots d)

  pub lookup-refused : (r : Refusal) → check_disk d ≡ some r → refused_lookup r ≡ lookup (view d) n
  lookup-refused r e = sym (lookup-is ∙ rw e)

  module _ (a : check_disk d ≡ none) where
    pub lookup_unusable : askable n ≡ false → refused_lookup (refuse 12 0) ≡ lookup (view d) n
    lookup_unusable e = sym (lookup-is ∙ rw (a, e))

    pub lookup-at : askable n ≡ true → (i : ℕ) → find (directory d) n ≡ some i → found_slot i ≡ lookup (view d) n
    lookup-at e i f = sym (lookup-is ∙ rw (a, e, f))

    pub lookup-none : askable n ≡ true → find (directory d) n ≡ none → refused_lookup (refuse 15 0) ≡ lookup (view d) n
    lookup-none e f = sym (lookup-is ∙ rw (a, e, f))

-- ---- what the calls by name make of it

abbrev pub by_lookup : SlotLookup → (ℕ → Reply) → Reply
by_lookup (refused_lookup r) rest = some r
by_lookup (found_slot i) rest = rest i

pub named_by : (l : View) (n : List ℕ) (rest : ℕ → File → Reply) → named_reply l n rest ≡ by_lookup (lookup l n) (λ i. rest (suc i) (file_at l i))
unfolding lookup
named_by l n rest = by (check_view l) (row 12 0 (not (askable n))) (find (view_slots l) n)
  where
    by : (p q : Reply) (o : Option ℕ)
        → (p else q else fold_option (some (refuse 15 0)) (λ i. rest (suc i) (file_at l i)) o) ≡ by_lookup (lookup_by (p else q) o) (λ i. rest (suc i) (file_at l i))
    by (some r) q o = refl
    by none (some r) o = refl
    by none none (some i) = refl
    by none none none = refl

-- the file at a live slot
pub file-at : (d : List ℕ) (i : ℕ) (s : List ℕ) → directory d i ≡ some s → file_at (view d) i ≡ file_of d s
file-at d i s e = rw (view-some d i s e)

-- a slot that the lookup answers: the disk is accepted, the name can be asked for, and the slot is found
pub record LookedUp (d n : List ℕ) (i : ℕ) : Type 0 where
  pub accepted : check_disk d ≡ none
  pub usable : askable n ≡ true
  pub found : find (directory d) n ≡ some i

pub lookup_named : (d n : List ℕ) (i : ℕ) → found_slot i ≡ lookup (view d) n → LookedUp d n i
lookup_named d n i e = by (check_disk d) refl (askable n) refl (find (directory d) n) refl (e ∙ lookup-is d n)
  where
    by : (p : Reply) → check_disk d ≡ p → (t : Bool) → askable n ≡ t → (o : Option ℕ) → find (directory d) n ≡ o
        → found_slot i ≡ lookup_by (p else row 12 0 (not t)) o → LookedUp d n i
    by (some r) a t b o c w = let z : ◌≡◌ {A = ℕ} 0 1 = cc in absurd (omega arith)
    by none a false b o c w = let z : ◌≡◌ {A = ℕ} 0 1 = cc in absurd (omega arith)
    by none a true b none c w = let z : ◌≡◌ {A = ℕ} 0 1 = cc in absurd (omega arith)
    by none a true b (some j) c w = let z : j ≡ i = cc in record { accepted = a; usable = b; found = c ∙ ap some z }

-- its bytes, as `slot_at` hands them out
pub record LookedUpBytes (d n : List ℕ) (i : ℕ) : Type 0 where
  pub below : i < slots
  pub here : directory d i ≡ some (slot_or d i)
  pub file : file_named (view d) n ≡ file_of d (slot_or d i)
  pub same : file_at (view d) i ≡ file_of d (slot_or d i)

pub named_slot : (d n : List ℕ) (i : ℕ) → LookedUp d n i → LookedUpBytes d n i
unfolding file_named
named_slot d n i w =
    let f = find-some (directory d) n i w.found in
    let k = directory-some d i f.bytes f.here in
    let h : directory d i ≡ some (slot_or d i) = f.here ∙ ap {B = Option (List ℕ)} some (k.1 ∙ sym (slot_read d i k.0)) in
    record {
      below = k.0;
      here = h;
      file = ap (λ (v : Directory). fold_option no_file (file_at (view d)) (find v n)) (view-slots d) ∙ ap (fold_option no_file (file_at (view d))) w.found ∙ file-at d i (slot_or d i) h;
      same = file-at d i (slot_or d i) h;
    }
