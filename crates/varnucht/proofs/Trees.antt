-- The listing of a directory: the outcome keeps to bounds, and is packed whole.
use Prim.Native.Nat.{ℕ, suc, ◌/◌, ◌<◌}
use mathlib.Core.Path.{◌≡◌, refl, sym, ap, subst}
use mathlib.Core.Bool.{Bool, true, false, not, cond, ◌&&◌, ◌||◌}
use mathlib.Core.List.{List}
use mathlib.Core.Option.{Option, none, some}
use native.Mathlib.Omega.{arith}
use lib.Dec.{eqb, ltb}
use lib.ListN.{length}
use Rattle.refusals.specs.Order.{refuse, ◌else◌, row, rows, scan}
use Rattle.refusals.specs.Answers.{Outcome, done, Out, out}
use Rattle.refusals.proofs.First.{else_none}
use Rattle.slots.specs.Slot.{is_directory, code_of, parent_of}
use Rattle.names.specs.Name.{askable}
use Rattle.directory.specs.Places.{slots}
use Rattle.directory.specs.Directory.{fold_option, Directory}
use Rattle.directory.specs.Find.{find}
use Rattle.directory.proofs.Search.{find-some}
use Rattle.surveys.specs.Survey.{earlier}
use Rattle.disk.specs.View.{view, view_slots}
use Rattle.disk.specs.Check.{check_view}
use Rattle.trees.specs.Tree.{coded, anywhere, in_cycle, code_at, nesting_rows, place_at, tree_reply}
use Rattle.tree_lists.specs.Call.{name_reply, tree_refusal, tree_of}
use Rattle.packing.specs.Packed.{packed, clipped, Within, Unpacked}
use Rattle.packing.proofs.Parts.{within_fits, unpacked}
use Rattle.byte_lists.specs.Trees.{tree_listing_bytes}
use Rattle.byte_lists.proofs.Table.{Small, small_else, small_row, small-scan, check_small}
use Rattle.byte_lists.proofs.Trees.{tree-few}
use Rattle.varnucht.proofs.Bounds.{within_unless, filled-outcome}
use Rattle.varnucht.proofs.Replies.{packed_within}

-- ---- 26 to 28 at slots of the directory, and 12, 13, 15

small-code : (v : Directory) (i : ℕ) → i < slots → Small (code_at v i)
unfolding code_at
small-code v i h = by (v i)
  where
    by : (o : Option (List ℕ)) → Small (fold_option none (λ s. row 26 (suc i) (is_directory s && (eqb (code_of s) 0 || earlier v i (coded (code_of s))))) o)
    by none = tt
    by (some s) = small_row 26 (suc i) (is_directory s && (eqb (code_of s) 0 || earlier v i (coded (code_of s)))) (omega arith) (omega arith)

small-place : (v : Directory) (i : ℕ) → i < slots → Small (place_at v i)
unfolding place_at
small-place v i h = by (v i)
  where
    two : (a b : Bool) → Small (cond a (some (refuse 27 (suc i))) (cond b (some (refuse 28 (suc i))) none))
    two true b = (omega arith, omega arith)
    two false true = (omega arith, omega arith)
    two false false = tt

    by : (o : Option (List ℕ)) → Small (fold_option none (λ s. rows (suc i) (nesting_rows v s)) o)
    by none = tt
    by (some s) = two (not (eqb (parent_of s) 0) && not (anywhere v (coded (parent_of s)))) (is_directory s && in_cycle v (code_of s))

small-tree : (v : Directory) → Small (tree_reply v)
unfolding tree_reply
small-tree v =
    small_else (scan slots (code_at v)) (scan slots (place_at v)) (small-scan slots (code_at v) (small-code v)) (small-scan slots (place_at v) (small-place v))

small-name : (v : Directory) (n : List ℕ) → Small (name_reply v n)
unfolding name_reply
small-name v n = root (eqb (length n) 0)
  where
    found : (o : Option ℕ) → find v n ≡ o → Small (fold_option (some (refuse 15 0)) (λ i. row 13 (suc i) (not (fold_option false is_directory (v i)))) o)
    found none e = (omega arith, omega arith)
    found (some i) e =
        let h : i < slots = (find-some v n i e).below in
        small_row 13 (suc i) (not (fold_option false is_directory (v i))) (omega arith) (omega arith)

    root : (t : Bool) → Small (cond t none (row 12 0 (not (askable n)) else fold_option (some (refuse 15 0)) (λ i. row 13 (suc i) (not (fold_option false is_directory (v i)))) (find v n)))
    root true = tt
    root false =
        small_else (row 12 0 (not (askable n))) (fold_option (some (refuse 15 0)) (λ i. row 13 (suc i) (not (fold_option false is_directory (v i)))) (find v n))
        (small_row 12 0 (not (askable n)) (omega arith) (omega arith)) (found (find v n) refl)

small_bars : (d n : List ℕ) → Small (tree_refusal (view d) n)
small_bars d n =
    small_else (check_view (view d)) (tree_reply (view_slots (view d)) else name_reply (view_slots (view d)) n) (check_small (view d))
    (small_else (tree_reply (view_slots (view d))) (name_reply (view_slots (view d)) n) (small-tree (view_slots (view d))) (small-name (view_slots (view d)) n))

-- ---- at most 778 slots

pub treeing_within : (d n b : List ℕ) → Within (tree_listing_bytes d n b).outcome 778 0
unfolding tree_listing_bytes
treeing_within d n b =
    let many = length (tree_of (view d) n) in
    let short = ltb (length b / 2) many in
    let q = tree_refusal (view d) n else row 20 0 short in
    subst (λ (o : Outcome). Within o 778 0) (sym (filled-outcome q (done many 0) _ b))
    (within_unless q many 0 778 0 (small_else (tree_refusal (view d) n) (row 20 0 short) (small_bars d n) (small_row 20 0 short (omega arith) (omega arith)))
    (λ e. (tree-few d n (else_none (tree_refusal (view d) n) (row 20 0 short) e).0, omega arith)))

pub treeing_reported : (d n b : List ℕ) → Unpacked (tree_listing_bytes d n b).outcome (packed (tree_listing_bytes d n b).outcome)
treeing_reported d n b = unpacked _ (within_fits _ _ _ (omega arith) (omega arith) (treeing_within d n b))

pub packed-tree : (o : Outcome) (b : List ℕ) (k : ℕ) → k ≡ clipped o → (d n buf : List ℕ) → out o b ≡ tree_listing_bytes d n buf
    → (k ≡ packed (tree_listing_bytes d n buf).outcome) × (b ≡ (tree_listing_bytes d n buf).buffer)
packed-tree o b k q d n buf e = (
  packed_within (tree_listing_bytes d n buf).outcome 778 0 (omega arith) (omega arith) (treeing_within d n buf) o (ap (λ (x : Out). x.outcome) e) k q,
  ap (λ (x : Out). x.buffer) e,
)
