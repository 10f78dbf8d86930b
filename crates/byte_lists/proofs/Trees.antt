-- The listing of a directory with a list of bytes is the one with a list of numbers: there are never more than slots, so that many
-- numbers are always room enough.
use Prim.Native.Nat.{ℕ, ◌*◌, ◌/◌, ◌≤◌, min}
use mathlib.Core.Path.{◌≡◌, refl, sym, ap, ap₂, ◌∙◌}
use mathlib.Core.Bool.{Bool}
use mathlib.Core.List.{List, [], ◌∷◌, ◌++◌}
use mathlib.Core.Option.{none, some}
use native.Mathlib.Omega.{arith}
use borrow.Author.Tests.{ltb-false}
use lib.Dec.{ltb}
use lib.ListN.{length, take, drop, length-take}
use Rattle.buffers.specs.Bytes.{put}
use Rattle.refusals.specs.Order.{Refusal, Reply, ◌else◌, ◌when◌, row}
use Rattle.refusals.specs.Answers.{Outcome, done, refused, Out, out, filled}
use Rattle.packing.specs.Packed.{outcome_value}
use Rattle.refusals.proofs.First.{else_none, rows_clear}
use Rattle.directory.specs.Places.{slots}
use Rattle.disk.specs.View.{view, view_slots}
use Rattle.disk.specs.Check.{check_view}
use Rattle.trees.specs.Tree.{tree_reply}
use Rattle.trees.proofs.Numbers.{nested}
use Rattle.trees.proofs.Once.{tree-short}
use Rattle.tree_lists.specs.Call.{name_reply, asked_code, tree_refusal, tree_of, fill_with, tree_view, tree_listing}
use Rattle.byte_lists.specs.Lists.{in_bytes}
use Rattle.byte_lists.specs.Trees.{tree_listing_bytes}
use Rattle.byte_lists.proofs.Lent.{least-room, lent_long, Named, named, named_done, named_put}

-- where nothing but 20 can still be refused there are no more than slots
pub tree-few : (d n : List ℕ) → tree_refusal (view d) n ≡ none → length (tree_of (view d) n) ≤ slots
tree-few d n e =
    let a = else_none (check_view (view d)) (tree_reply (view_slots (view d)) else name_reply (view_slots (view d)) n) e in
    let b = else_none (tree_reply (view_slots (view d))) (name_reply (view_slots (view d)) n) a.1 in
    tree-short (view_slots (view d)) (nested (view_slots (view d)) b.0) (asked_code (view_slots (view d)) n)

module _ (d n b xs : List ℕ) (k : ℕ) (room : k ≡ min (length b / 2) (length xs)) (enough : slots ≤ length xs) where
  abbrev list : List ℕ
  list = tree_of (view d) n

  abbrev reply : ℕ → Reply
  reply r = tree_refusal (view d) n else row 20 0 (ltb r (length list))

  -- more room than there can be need for makes no difference
  reply-same : reply (length (take k xs)) ≡ reply (length b / 2)
  reply-same = by (tree_refusal (view d) n) refl
    where
      by : (q : Reply) → tree_refusal (view d) n ≡ q → q else row 20 0 (ltb (length (take k xs)) (length list)) ≡ q else row 20 0 (ltb (length b / 2) (length list))
      by (some r) e = refl
      by none e =
          ap (λ (t : Bool). row 20 0 t)
          (ap (λ (m : ℕ). ltb m (length list)) (sym (lent_long xs k (length b / 2) room) ∙ room)
          ∙ least-room (length b / 2) (length xs) (length list) (omega (arith, tree-few d n e)))

  treeing_is : tree_listing d n (take k xs) ≡ filled (reply (length b / 2)) (done (length list) 0) list (take k xs)
  unfolding tree_view fill_with
  treeing_is = ap (λ (q : Reply). filled q (done (length list) 0) list (take k xs)) reply-same

  -- the list fits where it is given
  fits : reply (length b / 2) ≡ none → length list ≤ length b / 2
  fits q =
      let a = else_none (tree_refusal (view d) n) (row 20 0 (ltb (length b / 2) (length list))) q in
      ltb-false (length b / 2) (length list) (rows_clear 0 ((20 when ltb (length b / 2) (length list)) ∷ []) a.1).0

  few : reply (length b / 2) ≡ none → length list ≤ length (take k xs)
  few q = omega (arith, fits q, tree-few d n (else_none (tree_refusal (view d) n) (row 20 0 (ltb (length b / 2) (length list))) q).0, room, length-take k xs)

  -- the call below, lent the first k of the numbers xs, left ys there: what it accepted
  accepted : (m : ℕ) (ys : List ℕ) → out (done m 0) ys ≡ tree_listing d n (take k xs) → (reply (length b / 2) ≡ none) × Named m b (ys ++ drop k xs) list
  accepted m ys e = by (reply (length b / 2)) refl (e ∙ treeing_is)
    where
      by : (q : Reply) → reply (length b / 2) ≡ q → out (done m 0) ys ≡ filled q (done (length list) 0) list (take k xs) → (reply (length b / 2) ≡ none) × Named m b (ys ++ drop k xs) list
      by (some r) q w =
          let o : done m 0 ≡ refused r = ap (λ (x : Out). x.outcome) w in
          let z : ◌≡◌ {A = ℕ} 0 1 = cc in
          absurd (omega arith)
      by none q w =
          let l : m ≡ length list = ap outcome_value (ap (λ (x : Out). x.outcome) w) in
          let f : m ≤ length (take k xs) = omega (arith, few q) in
          (q, named xs b k room m ys list l (ap (λ (x : Out). x.buffer) w) f)

  pub tree_room : (m : ℕ) (ys : List ℕ) → out (done m 0) ys ≡ tree_listing d n (take k xs) → (m ≤ length (ys ++ drop k xs)) × (2 * m ≤ length b)
  tree_room m ys e = (accepted m ys e).1.room

  pub tree-bytes : (m : ℕ) (ys : List ℕ) → out (done m 0) ys ≡ tree_listing d n (take k xs) → (b' : List ℕ) → b' ≡ put b 0 (in_bytes (take m (ys ++ drop k xs)))
      → out (done m 0) b' ≡ tree_listing_bytes d n b
  unfolding tree_listing_bytes
  tree-bytes m ys e b' q =
      let w = accepted m ys e in
      ap₂ out (named_done m b (ys ++ drop k xs) list w.1) (named_put m b (ys ++ drop k xs) list b' w.1 q)
      ∙ ap (λ (r : Reply). filled r (done (length list) 0) (in_bytes list) b) (sym w.0)

  -- what it refused
  pub tree_refused : (r : Refusal) (ys : List ℕ) → out (refused r) ys ≡ tree_listing d n (take k xs) → out (refused r) b ≡ tree_listing_bytes d n b
  unfolding tree_listing_bytes
  tree_refused r ys e = by (reply (length b / 2)) (e ∙ treeing_is)
    where
      by : (q : Reply) → out (refused r) ys ≡ filled q (done (length list) 0) list (take k xs) → out (refused r) b ≡ filled q (done (length list) 0) (in_bytes list) b
      by (some z) w = ap (λ (o : Outcome). out o b) (ap (λ (x : Out). x.outcome) w)
      by none w =
          let o : refused r ≡ done (length list) 0 = ap (λ (x : Out). x.outcome) w in
          let z : ◌≡◌ {A = ℕ} 0 1 = cc in
          absurd (omega arith)
