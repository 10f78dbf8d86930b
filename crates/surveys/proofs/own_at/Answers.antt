-- `surveys::own_at` meets its contract.
use Prim.Native.Nat.{ℕ}
use mathlib.Core.Path.{◌≡◌, ap, ap₂, ◌∙◌}
use mathlib.Core.Bool.{Bool}
use mathlib.Core.List.{List}
use Rattle.refusals.specs.Order.{Reply}
use Rattle.slots.specs.Slot.{map_of}
use Rattle.slots.specs.Tracks.{data_count, in_directory}
use Rattle.slots.specs.Rows.{own_reply_by, own_reply}
use Rattle.slots.proofs.Rows.{own_by_lem}
use borrow.Author.Rules.{rules}
use Rattle.surveys.proofs.own_at.Goals as goal

-- the rows by the numbers that they are handed
own_so : (n i : ℕ) (s : List ℕ) {most : ℕ} {inside : Bool} {m : List ℕ} {q : Reply} → most ≡ data_count n → m ≡ map_of s → inside ≡ in_directory n m
    → q ≡ own_reply_by most inside i s → q ≡ own_reply n i s
own_so n i s e f g h = h ∙ ap₂ (λ (k : ℕ) (t : Bool). own_reply_by k t i s) e (g ∙ ap (in_directory n) f) ∙ own_by_lem n i s

pub returns : goal.returns
returns c =
    own_so _ _ _ c.data_count.ensures.0 c.map_of.ensures c.is_inside-inside.ensures c.own_rows.ensures
