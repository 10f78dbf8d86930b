-- What is written of the directory is what the steps of `plans` write.
use Prim.Native.Nat.{ℕ, suc, ◌≤◌, ◌<◌}
use mathlib.Core.Path.{◌≡◌, refl, sym, ap, ◌∙◌}
use mathlib.Core.Bool.{Bool, true, false}
use mathlib.Core.List.{List}
use native.Mathlib.Nat.{add-zero}
use borrow.Author.Tests.{lt-ltb}
use lib.Dec.{ltb}
use lib.ListN.{length}
use Rattle.buffers.specs.Bytes.{put}
use Rattle.directory.specs.Places.{slots, slot_at}
use Rattle.disk.specs.View.{View, view}
use Rattle.steps.specs.Steps.{apply}
use Rattle.plans.specs.Change.{SaveRequest}
use Rattle.plans.specs.Saving.{map_with, new_slot}
use Rattle.plans.specs.Plan.{file_if_live, without_next_name, dir_sectors, slot_steps}
use Rattle.plans.proofs.Ended.{end_apply}
use Rattle.sector_writes.specs.Sector.{header_fields_of, FieldsFit, link_to_next}
use Rattle.slot_writes.specs.Filed.{slot_of, has_next_name, directory_sectors, slot_written}
use Rattle.slot_writes.proofs.Slot.{fresh-is}
use Rattle.slot_writes.proofs.KeptSlot.{kept_new}
use Rattle.slot_writes.proofs.Dirs.{and-false, dirs_some}

-- the slot of a request whose chain is bs
pub slot-new : (d : List ℕ) (i : ℕ) (w : SaveRequest) (bs : List ℕ) → 256 ≤ length d → FieldsFit (header_fields_of w) (length w.body) → length bs < 65536
    → slot_of d i (header_fields_of w) w.name w.exec w.info (length w.body) (length bs) (link_to_next bs) (map_with bs) ≡ new_slot (view d).label i w bs
unfolding slot_of
slot-new d i w bs l p few = kept_new d i w bs _ l (fresh-is w bs p few)

-- where an old name stands behind the slot there is a next one
module _ (old : Bool) (i : ℕ) (h : i < slots) (n : old ≡ true → suc i < slots) where
  behind_is : old ≡ has_next_name old i
  unfolding has_next_name
  behind_is = by old n
    where
      by : (b : Bool) → (b ≡ true → suc i < slots) → b ≡ has_next_name b i
      by true n = sym (rw (lt-ltb (suc i) slots (n refl)))
      by false n = sym (and-false (ltb (suc i) slots))

  pub dirs_are : directory_sectors old i ≡ dir_sectors old i
  dirs_are = dirs_some old i h behind_is

  -- the steps of the directory
  pub filed_apply : (s d : List ℕ) (l : View) (sec : ℕ → List ℕ) → slot_written old i s d ≡ apply d (slot_steps old l i s sec)
  unfolding slot_written
  filed_apply s d l sec =
      rw (lt-ltb i slots h) (ap (λ (b : Bool). put (without_next_name b i d) (slot_at i) s) (sym behind_is) ∙ ap (λ (a : ℕ). put (without_next_name old i d) a s) (sym (add-zero (slot_at i))))
      ∙ sym (end_apply old i d l 0 s (file_if_live s sec))
