-- The same by a map of the slots erased so far, over the disk as it was: what the code keeps, and what it answers before it writes.
use Rattle.std.specs.Prelude.{ℕ, zero, suc, Bool, cond, List, [], ◌∷◌, eqb, replicate}
use Rattle.buffers.specs.Bytes.{put}
use Rattle.maps.specs.Bits.{with_bit}
use Rattle.slots.specs.Slot.{protected}
use Rattle.names.specs.Name.{askable}
use Rattle.directory.specs.Places.{slot_at}
use Rattle.directory.specs.Directory.{fold_option, Directory}
use Rattle.directory.specs.Find.{find}
use Rattle.trees.specs.Tree.{occupied}
use Rattle.nesting.specs.Steps.{not_erased}
use Rattle.erase_many.specs.EraseMany.{name_at}

-- no slot is erased yet: a bit for each of the 778
unfoldable pub none_erased : List ℕ
none_erased = replicate 98 0

-- the answer to an erase of slot i, whose bytes are s: 17, then 29, "a directory whose code, not 0, is another live slot's byte 254"
unfoldable pub erase_answer : Directory → ℕ → List ℕ → ℕ
erase_answer v i s = cond (protected s) 17 (cond (occupied v i s) 29 0)

-- the answer to a name: 12, 15, and those
unfoldable pub name_answer : Directory → List ℕ → ℕ
name_answer v n = cond (askable n) (fold_option 15 (λ i. fold_option 15 (erase_answer v i) (v i)) (find v n)) 12

-- the map after it: where the answer is 0 the slot found is marked
unfoldable pub erased_with : Directory → List ℕ → List ℕ → List ℕ
erased_with v m n = cond (eqb (name_answer (not_erased v m) n) 0) (fold_option m (with_bit m) (find (not_erased v m) n)) m

-- the map after the first k names
unfoldable pub erased_map : Directory → List ℕ → ℕ → List ℕ
erased_map v ns zero = none_erased
erased_map v ns (suc k) = erased_with v (erased_map v ns k) (name_at ns k)

-- the answer to name k
unfoldable pub erased_map_answer : Directory → List ℕ → ℕ → ℕ
erased_map_answer v ns k = name_answer (not_erased v (erased_map v ns k)) (name_at ns k)

-- byte 0 of those of the first m slots that are in the map set to 0
unfoldable pub slots_cleared : List ℕ → (ℕ → Bool) → ℕ → List ℕ
slots_cleared d e zero = d
slots_cleared d e (suc m) = cond (e m) (put (slots_cleared d e m) (slot_at m) (0 ∷ [])) (slots_cleared d e m)
