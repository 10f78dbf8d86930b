-- The call as the code meets it: the listing by a code, and the refusals in their order.
use Prim.Native.Nat.{ℕ, ◌+◌, ◌≤◌, ◌<◌}
use mathlib.Core.Path.{◌≡◌, refl, sym, ap, ap₂, ◌∙◌}
use mathlib.Core.Bool.{true, false}
use mathlib.Core.List.{List}
use mathlib.Core.Option.{none, some}
use native.Mathlib.Omega.{arith}
use borrow.Author.Tests.{lt-ltb, le-ltb, le-leb, leb-true, leb-false}
use lib.Dec.{leb, ltb}
use lib.ListN.{length}
use Rattle.buffers.specs.Bytes.{put}
use Rattle.refusals.specs.Order.{Refusal, refuse, Reply, ◌else◌}
use Rattle.refusals.specs.Answers.{Outcome, done, refused, out}
use Rattle.directory.specs.Places.{slots}
use Rattle.directory.specs.Directory.{Directory, directory}
use Rattle.disk.specs.View.{view}
use Rattle.disk.specs.Check.{check_view, check_disk}
use Rattle.disk.proofs.View.{view-slots}
use Rattle.trees.specs.Tree.{tree_reply, beneath, tree}
use Rattle.trees.proofs.Numbers.{nested}
use Rattle.trees.proofs.Once.{tree-short}
use Rattle.tree_lists.specs.Call.{name_reply, asked_code, fill_with, tree_view, tree_listing}
use Rattle.tree_lists.specs.Steps.{FillRoom, LinkedTree, ListPut}

-- ---- the listing by a code

module _ (d links : List ℕ) (m : ℕ) (k : LinkedTree d links m) (c : ℕ) where
  clean_tree : beneath m (directory d) c ≡ tree (directory d) c
  clean_tree = ap (λ (x : ℕ). beneath x (directory d) c) k.number

  short : length (tree (directory d) c) ≤ slots
  short = tree-short (directory d) (nested (directory d) k.none) c

  pub clean_room : c < 256 → FillRoom d m c 0
  clean_room h = record { coded = h; room = omega (arith, short, ap length clean_tree) }

  -- a list as long as there are slots has room
  pub room-enough : (room : ℕ) → slots ≤ room → leb (length (tree (directory d) c)) room ≡ true
  room-enough room h = le-leb (length (tree (directory d) c)) room (omega (arith, short))

  pub room-counted : (room : ℕ) {buf now : List ℕ} {r : ℕ} → ListPut buf 0 (beneath m (directory d) c) now r → leb r room ≡ leb (length (tree (directory d) c)) room
  room-counted room p = ap (λ (n : ℕ). leb n room) (p.place ∙ ap (λ (l : List ℕ). 0 + length l) clean_tree ∙ omega arith)

  pub clean_short : (buf : List ℕ) → leb (length (tree (directory d) c)) (length buf) ≡ false → {o : Outcome} → o ≡ refused (refuse 20 0)
      → out o buf ≡ fill_with (tree (directory d) c) none buf
  unfolding fill_with
  clean_short buf e q =
      let z : ltb (length buf) (length (tree (directory d) c)) ≡ true = lt-ltb _ _ (leb-false (length (tree (directory d) c)) (length buf) e) in
      ap (λ (o : Outcome). out o buf) q ∙ rw z

  pub clean_listed : (buf now : List ℕ) (r : ℕ) → leb (length (tree (directory d) c)) (length buf) ≡ true → ListPut buf 0 (beneath m (directory d) c) now r
      → out (done r 0) now ≡ fill_with (tree (directory d) c) none buf
  unfolding fill_with
  clean_listed buf now r e p =
      let z : ltb (length buf) (length (tree (directory d) c)) ≡ false = le-ltb _ _ (leb-true (length (tree (directory d) c)) (length buf) e) in
      let n : r ≡ length (tree (directory d) c) = p.place ∙ ap (λ (l : List ℕ). 0 + length l) clean_tree ∙ omega arith in
      ap₂ (λ (x : ℕ) (y : List ℕ). out (done x 0) y) n (p.numbers ∙ ap (put buf 0) clean_tree) ∙ rw z

-- ---- the call

module _ (d n buf : List ℕ) where
  treeing_is : tree_listing d n buf ≡ fill_with (tree (directory d) (asked_code (directory d) n)) (check_disk d else tree_reply (directory d) else name_reply (directory d) n) buf
  unfolding tree_view check_disk
  treeing_is = ap (λ (v : Directory). fill_with (tree v (asked_code v n)) (check_view (view d) else tree_reply v else name_reply v n) buf) (view-slots d)

  fill_refused : (l : List ℕ) (r : Refusal) → out (refused r) buf ≡ fill_with l (some r) buf
  unfolding fill_with
  fill_refused l r = refl

  refusing : (r : Refusal) → (check_disk d else tree_reply (directory d) else name_reply (directory d) n) ≡ some r → out (refused r) buf ≡ tree_listing d n buf
  refusing r e = fill_refused _ r ∙ sym (treeing_is ∙ ap (λ (x : Reply). fill_with (tree (directory d) (asked_code (directory d) n)) x buf) e)

  pub reported_err : (r : Refusal) → check_disk d ≡ some r → out (refused r) buf ≡ tree_listing d n buf
  reported_err r e = refusing r (rw e)

  module _ (a : check_disk d ≡ none) where
    pub reported_tangled : (r : Refusal) → tree_reply (directory d) ≡ some r → out (refused r) buf ≡ tree_listing d n buf
    reported_tangled r e = refusing r (rw (a, e))

    module _ (t : tree_reply (directory d) ≡ none) where
      pub reported_unnamed : (r : Refusal) → name_reply (directory d) n ≡ some r → out (refused r) buf ≡ tree_listing d n buf
      reported_unnamed r e = refusing r (rw (a, t, e))

      pub reported_listed : name_reply (directory d) n ≡ none → (c : ℕ) → c ≡ asked_code (directory d) n → fill_with (tree (directory d) c) none buf ≡ tree_listing d n buf
      reported_listed e c q =
          let z : (check_disk d else tree_reply (directory d) else name_reply (directory d) n) ≡ none = rw (a, t, e) in
          sym (treeing_is ∙ ap₂ (λ (x : Reply) (y : ℕ). fill_with (tree (directory d) y) x buf) z (sym q))
