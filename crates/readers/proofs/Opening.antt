-- Opening, by the tests that lead to it; and what it refuses beside what a read refuses.
use Prim.Native.Nat.{ℕ, suc, ◌+◌, ◌/◌}
use mathlib.Core.Path.{◌≡◌, refl, sym, ap, ap₂, ◌∙◌}
use mathlib.Core.Bool.{true, false, not}
use mathlib.Core.List.{List}
use mathlib.Core.Option.{Option, none, some}
use native.Mathlib.Numerals.{add-one}
use lib.Dec.{ltb}
use Rattle.geometry.specs.Disk.{place_or_end}
use Rattle.refusals.specs.Order.{Refusal, refuse, Reply, ◌else◌, row}
use Rattle.slots.specs.Slot.{kind_of, readable, first_of, slot_fields}
use Rattle.names.specs.Name.{Same, askable}
use Rattle.chains.specs.File.{File, file_of}
use Rattle.headers.specs.Header.{file_length}
use Rattle.directory.specs.Directory.{fold_option, slot_or}
use Rattle.directory.specs.Find.{find}
use Rattle.disk.specs.View.{View, view, view_slots}
use Rattle.disk.specs.Check.{check_view}
use Rattle.files.specs.Calls.{SlotLookup, found_slot as found, refused_lookup, lookup, no_file, file_at, file_named, not_readable, read_reply}
use Rattle.files.proofs.Named.{lookup_named, named_by, by_lookup, named_slot}
use Rattle.files.proofs.Spelling.{spelt_asked, spelt_found}
use Rattle.readers.specs.Pieces.{read_place}
use Rattle.readers.specs.Opening.{body_place, FileOpening, opened_at, refused_opening, file_opening_by, open_file_reply, open_file_view, open_file, open_file_at}

-- ---- at a slot

pub begin_not : (d s : List ℕ) (slot : ℕ) → readable (kind_of s) ≡ false → refused_opening (refuse 13 slot) ≡ open_file_at slot (file_of d s)
unfolding open_file_at file_of
begin_not d s slot a = rw a

pub begin_there : (d s : List ℕ) (slot b p len : ℕ) → readable (kind_of s) ≡ true → b ≡ first_of s → p ≡ place_or_end b → len ≡ file_length (file_of d s)
    → opened_at (read_place (p / 512) 9 len) ≡ open_file_at slot (file_of d s)
unfolding open_file_at slot_fields file_of
begin_there d s slot b p len a e f g = rw (a, f, e, g)

-- ---- by name

module _ (d n : List ℕ) where
  pub open_reply : (x : SlotLookup) → x ≡ lookup (view d) n → open_file_reply (view d) n ≡ by_lookup x (λ i. not_readable (suc i) (file_at (view d) i))
  unfolding open_file_reply
  open_reply x e = named_by (view d) n not_readable ∙ ap (λ (x : SlotLookup). by_lookup x (λ i. not_readable (suc i) (file_at (view d) i))) (sym e)

  pub begin_refused : (r : Refusal) → refused_lookup r ≡ lookup (view d) n → refused_opening r ≡ open_file d n
  unfolding open_file_view
  begin_refused r e = sym (ap (λ (q : Reply). file_opening_by q (body_place (file_named (view d) n))) (open_reply (refused_lookup r) e))

  begin_found : (i : ℕ) → found i ≡ lookup (view d) n → open_file_at (i + 1) (file_of d (slot_or d i)) ≡ open_file d n
  unfolding open_file_view open_file_at
  begin_found i e =
      let w = named_slot d n i (lookup_named d n i e) in
      sym (ap₂ (λ (q : Reply) (f : File). file_opening_by q (body_place f))
      (open_reply (found i) e ∙ ap₂ not_readable (sym (add-one i)) w.same) w.file)

  -- with the slot's bytes as the code has them
  pub begin_met : (i : ℕ) (s : List ℕ) → s ≡ slot_or d i → found i ≡ lookup (view d) n → (x : FileOpening) → x ≡ open_file_at (i + 1) (file_of d s) → x ≡ open_file d n
  begin_met i s e w x p = p ∙ ap (λ (s : List ℕ). open_file_at (i + 1) (file_of d s)) e ∙ begin_found i w

-- ---- "Refusals: those of reading but 20, at opening."

-- what a read refuses is what opening refuses, and after it 20
pub read_replies : (l : View) (n : List ℕ) (room : ℕ) → read_reply l n room ≡ (open_file_reply l n else row 20 0 (ltb room (file_length (file_named l n))))
unfolding read_reply open_file_reply file_named
read_replies l n room = by (check_view l) (row 12 0 (not (askable n))) (find (view_slots l) n)
  where
    short : File → Reply
    short f = row 20 0 (ltb room (file_length f))

    by : (p q : Reply) (o : Option ℕ)
        → (p else q else fold_option (some (refuse 15 0)) (λ i. not_readable (suc i) (file_at l i) else short (file_at l i)) o)
        ≡ ((p else q else fold_option (some (refuse 15 0)) (λ i. not_readable (suc i) (file_at l i)) o) else short (fold_option no_file (file_at l) o))
    by (some r) q o = refl
    by none (some r) o = refl
    by none none none = refl
    by none none (some i) = refl

-- two disks with one view get one answer
pub same_opening : (d e : List ℕ) → view d ≡ view e → (n : List ℕ) → open_file d n ≡ open_file e n
same_opening d e q n = ap (λ (l : View). open_file_view l n) q

-- each spelling of a name opens what every other does
pub spelt_opening : (d m n : List ℕ) → Same m n → open_file d m ≡ open_file d n
unfolding open_file_view open_file_reply file_named
spelt_opening d m n e = rw (spelt_asked d m n e, spelt_found d m n e)
