-- The first sector as the code takes it, and the order of rows 10, 11 and 25.
use Prim.Native.Nat.{ℕ}
use mathlib.Core.Path.{◌≡◌, refl, sym, ap, ◌∙◌}
use mathlib.Core.Bool.{Bool, true, false, cond}
use mathlib.Core.List.{List, []}
use Rattle.buffers.specs.Bytes.{part}
use Rattle.geometry.specs.Disk.{place_or_end}
use Rattle.maps.specs.Bits.{has}
use Rattle.refusals.specs.Order.{rises}
use Rattle.slots.specs.Slot.{directory_kind, SlotFields, slot_fields, first_of, map_of}
use Rattle.chains.specs.File.{file_of}
use Rattle.chains.proofs.ChainLoop.{read}
use Rattle.headers.specs.Header.{chain_rows, chain_pass_rows, first_sector}

-- the part that the code takes is the file's first sector
module _ (d s : List ℕ) where
  pub first_own : (a : ℕ) (h : List ℕ) → has (map_of s) (first_of s) ≡ true → a ≡ place_or_end (first_of s) → h ≡ part a 512 d → h ≡ first_sector (file_of d s)
  unfolding file_of slot_fields
  first_own a h i e f = sym (read d s (first_of s) h i (f ∙ ap (λ (x : ℕ). part x 512 d) e))

-- "likewise": rows 10, 11 and 25 stand in the order of their numbers
pub later-rises : (x : SlotFields) (sec : ℕ → List ℕ) → rises (chain_pass_rows x sec) ≡ true
later-rises x sec = by (directory_kind x.kind)
  where
    by : (t : Bool) → rises (cond t [] (chain_rows x sec)) ≡ true
    by true = refl
    by false = refl
