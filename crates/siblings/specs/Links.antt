-- The slots of each directory, linked: of each code the first live slot in that directory, and of each live slot the next one in
-- the same directory.
use Rattle.std.specs.Prelude.{ℕ, suc, ◌-◌, cond, List, eqb, ltb, get_or}
use Rattle.std.proofs.Math.Option.{Option, none, some}
use Rattle.buffers.specs.Bytes.{tab}
use Rattle.refusals.specs.Order.{scan_from}
use Rattle.slots.specs.Slot.{parent_of}
use Rattle.directory.specs.Places.{slots}
use Rattle.directory.specs.Directory.{fold_option, Directory}

-- slot k, where it is live and in the directory with code c
unfoldable pub in_at : Directory → ℕ → ℕ → Option ℕ
in_at v c k = fold_option none (λ s. cond (eqb (parent_of s) c) (some k) none) (v k)

-- the lowest such slot from slot i on; 778, the number of no slot, where there is none
unfoldable pub next_in : Directory → ℕ → ℕ → ℕ
next_in v c i = fold_option slots (λ k. k) (scan_from (slots - i) i (in_at v c))

-- the slot after slot k in the directory that it is in; none of a slot that is not live
unfoldable pub next_sibling : Directory → ℕ → ℕ
next_sibling v k = fold_option slots (λ s. next_in v (parent_of s) (suc k)) (v k)

-- the table: by code the first slot, and from 256 on by slot the next one
abbrev pub link_at : Directory → ℕ → ℕ
link_at v k = cond (ltb k 256) (next_in v k 0) (next_sibling v (k - 256))

unfoldable pub links_of : Directory → List ℕ
links_of v = tab 1034 (link_at v)

-- an entry of a table, and 0 past its end
unfoldable pub link_entry : List ℕ → ℕ → ℕ
link_entry links k = cond (ltb k 1034) (get_or links k 0) 0
