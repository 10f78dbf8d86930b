-- The passes as the code meets them: at the end of the slots that are read, and one after the other.
use Prim.Native.Nat.{ℕ, ◌-◌, ◌≤◌}
use mathlib.Core.Path.{◌≡◌, sym, ◌∙◌}
use mathlib.Core.List.{List}
use mathlib.Core.Option.{none, some}
use native.Mathlib.Omega.{arith}
use Rattle.std.specs.Prelude.{Ok}
use Rattle.refusals.specs.Order.{Refusal, scan, scan_from}
use Rattle.refusals.proofs.First.{none-scan_from}
use Rattle.directory.specs.Places.{slots}
use Rattle.directory.specs.Directory.{Directory, directory, slots_read}
use Rattle.directory.proofs.Live.{directory-unread}
use Rattle.trees.specs.Tree.{code_at, place_at, tree_reply}
use Rattle.trees.proofs.Numbers.{place_dead}
use Rattle.nesting.specs.Steps.{Tables}
use Rattle.nesting.proofs.Table.{TableLoop, tabling_end, tabling_all, tabling_clean}

-- ---- the end of each pass

pub codes_end : (d above : List ℕ) (number i : ℕ) → TableLoop (directory d) above number i → slots_read d ≤ i → i ≤ slots → Tables d (Ok number) above
codes_end d above number i t h l =
    let e = tabling_end (directory d) above number i t l (λ j k. directory-unread d j (omega arith)) in
    record { reply = sym (tabling_clean (directory d) above number e); table = tabling_all (directory d) above number e }

pub places_end : (d : List ℕ) (i : ℕ) → scan slots (place_at (directory d)) ≡ scan_from (slots - i) i (place_at (directory d)) → slots_read d ≤ i
    → scan slots (place_at (directory d)) ≡ none
places_end d i e h =
    e ∙ none-scan_from (slots - i) i (place_at (directory d)) (λ j k l. place_dead (directory d) j (directory-unread d j (omega arith)))

-- ---- one after the other

pub tree-first : (v : Directory) (x : Refusal) → scan slots (code_at v) ≡ some x → tree_reply v ≡ some x
unfolding tree_reply
tree-first v x e = rw e

pub tree-second : (v : Directory) → scan slots (code_at v) ≡ none → tree_reply v ≡ scan slots (place_at v)
unfolding tree_reply
tree-second v e = rw e
