-- The listing of a directory is refused exactly when the check refuses the disk, or 26 to 28 are given, or a row holds that has none
-- before it; a refused call leaves its list as it was, and an accepted one lists what lies beneath. Two disks with one view get one
-- answer.
use Prim.Native.Nat.{ℕ, suc, ◌≤◌}
use mathlib.Core.Path.{◌≡◌, refl, sym, ap, ◌∙◌, subst}
use mathlib.Core.Bool.{Bool, true, false, not, cond, ◌&&◌, true≢false}
use mathlib.Core.List.{List, [], ◌∷◌}
use mathlib.Core.Logic.{⊎_elim, ◌↔◌, ◌≢◌}
use mathlib.Core.Option.{Option, none, some, some-ne-none}
use native.Mathlib.Omega.{arith}
use borrow.Author.Tests.{eqb-true, ltb-false, not-false}
use lib.Dec.{eqb, ltb}
use lib.ListN.{length}
use Rattle.buffers.specs.Bytes.{put}
use Rattle.refusals.specs.Order.{Refusal, refuse, Reply, ◌else◌, ◌when◌, row, rises, without_slots}
use Rattle.refusals.specs.Answers.{done, refused, Out, filled}
use Rattle.refusals.proofs.First.{else_none, else_some, rows_clear, first_row, row_else, row_first, first-row}
use Rattle.refusals.proofs.Lowest.{slot_positive}
use Rattle.slots.specs.Slot.{is_directory, code_of}
use Rattle.names.specs.Name.{askable}
use Rattle.chains.specs.File.{File}
use Rattle.directory.specs.Directory.{fold_option, Directory, directory}
use Rattle.directory.specs.Find.{find}
use Rattle.directory.proofs.Search.{find-some}
use Rattle.disk.specs.View.{View, view, view_slots}
use Rattle.disk.specs.Check.{check_disk}
use Rattle.disk.proofs.View.{view-slots}
use Rattle.disk.proofs.Order.{check_positive}
use Rattle.files.specs.Calls.{no_file, file_at, file_named}
use Rattle.files.specs.Refused.{some_named, slot_named}
use Rattle.files.proofs.Refused.{some_named_lem, none_named}
use Rattle.trees.specs.Tree.{tree_reply, tree}
use Rattle.trees.specs.Beneath.{NestingGives, by_code, by_parent, by_cycle}
use Rattle.trees.proofs.Numbers.{nested}
use Rattle.trees.proofs.Order.{nesting_given, given-only}
use Rattle.trees.proofs.Parts.{tree_lists}
use Rattle.tree_lists.specs.Call.{name_reply, asked_code, fill_with, tree_view, tree_listing}
use Rattle.tree_lists.specs.Refused.{tree_rows, RefusesTree, by_check, by_nesting, by_row, AskedFor, the_root, a_directory, TreeAnswered}

-- ---- the rows

module _ (l : View) (n : List ℕ) (room : ℕ) where
  abbrev many : ℕ
  many = length (tree (view_slots l) (asked_code (view_slots l) n))

  -- the slot found is a live one, so its file is there
  found-kind : (i : ℕ) → find (view_slots l) n ≡ some i → fold_option false is_directory (view_slots l i) ≡ is_directory (file_at l i).bytes
  unfolding view_slots
  found-kind i e = by (l.files i) (find-some (view_slots l) n i e).here
    where
      by : (o : Option File) → fold_option none (λ f. some f.bytes) o ≡ some (find-some (view_slots l) n i e).bytes
          → fold_option false is_directory (fold_option none (λ f. some f.bytes) o) ≡ is_directory (fold_option no_file (λ f. f) o).bytes
      by none q = absurd (some-ne-none _ (sym q))
      by (some f) q = refl

  name-rows : name_reply (view_slots l) n else row 20 0 (ltb room many) ≡ first_row (tree_rows l n room)
  unfolding name_reply tree_rows file_named slot_named
  name-rows = root (eqb (length n) 0) refl
    where
      found : (o : Option ℕ) → find (view_slots l) n ≡ o
          → fold_option (some (refuse 15 0)) (λ i. row 13 (suc i) (not (fold_option false is_directory (view_slots l i)))) o else row 20 0 (ltb room many)
          ≡ cond (some_named l n && not (is_directory (file_named l n).bytes)) (some (refuse 13 (slot_named l n))) (cond (not (some_named l n)) (some (refuse 15 0)) (row 20 0 (ltb room many)))
      found none e = rw (none_named l n e)
      found (some i) e =
          rw (some_named_lem l n i e, e, found-kind i e) (row_else 13 (suc i) (not (is_directory (file_at l i).bytes)) (row 20 0 (ltb room many)))

      usable : (a : Bool) → askable n ≡ a
          → (row 12 0 (not a) else fold_option (some (refuse 15 0)) (λ i. row 13 (suc i) (not (fold_option false is_directory (view_slots l i)))) (find (view_slots l) n)) else row 20 0 (ltb room many)
          ≡ cond (not a) (some (refuse 12 0)) (cond (some_named l n && not (is_directory (file_named l n).bytes)) (some (refuse 13 (slot_named l n))) (cond (not (some_named l n)) (some (refuse 15 0)) (row 20 0 (ltb room many))))
      usable true e = found (find (view_slots l) n) refl
      usable false e = refl

      root : (t : Bool) → eqb (length n) 0 ≡ t → name_reply (view_slots l) n else row 20 0 (ltb room many) ≡ first_row (tree_rows l n room)
      root true e = rw e
      root false e = rw e (usable (askable n) refl)

-- ---- refused exactly by these

else_again : (a b c : Reply) → (a else b) else c ≡ a else (b else c)
else_again none b c = refl
else_again (some r) b c = refl

-- what is refused, in its order
reply : (d n : List ℕ) (room : ℕ) → Reply
reply d n room = check_disk d else tree_reply (view_slots (view d)) else first_row (tree_rows (view d) n room)

filled-refused : (q : Reply) (v f : ℕ) (x buf : List ℕ) (r : Refusal) → ((filled q (done v f) x buf).outcome ≡ refused r) ↔ (q ≡ some r)
filled-refused none v f x buf r = (λ e. cc, λ e. absurd (some-ne-none r (sym e)))
filled-refused (some s) v f x buf r = (λ e. let z : s ≡ r = cc in ap some z, λ e. let z : s ≡ r = cc in ap refused z)

module _ (d n : List ℕ) where
  abbrev v : Directory
  v = view_slots (view d)

  abbrev listed : List ℕ
  listed = tree v (asked_code v n)

  treeing_is : (buf : List ℕ) → tree_listing d n buf ≡ filled (reply d n (length buf)) (done (length listed) 0) listed buf
  unfolding tree_view fill_with check_disk reply
  treeing_is buf =
      ap (λ (q : Reply). filled q (done (length listed) 0) listed buf)
      (else_again (check_disk d) (tree_reply v else name_reply v n) _
      ∙ ap (λ (q : Reply). check_disk d else q) (else_again (tree_reply v) (name_reply v n) _ ∙ ap (λ (q : Reply). tree_reply v else q) (name-rows (view d) n (length buf))))

  refuses : (room : ℕ) (r : Refusal) → reply d n room ≡ some r → RefusesTree d n room r
  unfolding reply
  refuses room r e =
      ⊎_elim by_check
      (λ a. ⊎_elim (λ b. by_nesting a.0 (nesting_given v r b)) (λ b. by_row a.0 b.0 (row_first (tree_rows (view d) n room) r b.1))
      (else_some (tree_reply v) (first_row (tree_rows (view d) n room)) r a.1))
      (else_some (check_disk d) (tree_reply v else first_row (tree_rows (view d) n room)) r e)

  refused_by : (room : ℕ) (r : Refusal) → RefusesTree d n room r → reply d n room ≡ some r
  unfolding reply
  refused_by room r (by_check a) = rw a
  refused_by room r (by_nesting a g) = rw (a, given-only v r g)
  refused_by room r (by_row a b f) = rw (a, b) (first-row (tree_rows (view d) n room) r f)

  -- demand 1, of the listing of a directory
  pub tree-refused : (buf : List ℕ) (r : Refusal) → ((tree_listing d n buf).outcome ≡ refused r) ↔ RefusesTree d n (length buf) r
  tree-refused buf r =
      let w = filled-refused (reply d n (length buf)) (length listed) 0 listed buf r in
      let o : (tree_listing d n buf).outcome ≡ (filled (reply d n (length buf)) (done (length listed) 0) listed buf).outcome = ap (λ (x : Out). x.outcome) (treeing_is buf) in
      (λ e. refuses (length buf) r (w.0 (sym o ∙ e)), λ e. o ∙ w.1 (refused_by (length buf) r e))

  -- "Nothing lent changes."
  pub tree_unchanged : (buf : List ℕ) (r : Refusal) → (tree_listing d n buf).outcome ≡ refused r → (tree_listing d n buf).buffer ≡ buf
  tree_unchanged buf r e = subst (λ (x : Out). x.outcome ≡ refused r → x.buffer ≡ buf) (sym (treeing_is buf)) (by (reply d n (length buf))) e
    where
      by : (q : Reply) → (filled q (done (length listed) 0) listed buf).outcome ≡ refused r → (filled q (done (length listed) 0) listed buf).buffer ≡ buf
      by none p = cc
      by (some s) p = refl

pub tree-rises : (l : View) (n : List ℕ) (room : ℕ) → rises (without_slots (tree_rows l n room)) ≡ true
unfolding tree_rows
tree-rises l n room = refl

-- no number is 0
pub tree_positive : (d n buf : List ℕ) (r : Refusal) → (tree_listing d n buf).outcome ≡ refused r → r.number ≢ 0
tree_positive d n buf r e = by r ((tree-refused d n buf r).0 e)
  where
    nesting : (r : Refusal) → NestingGives (view_slots (view d)) r → r.number ≢ 0
    nesting r (by_code i h w b) q = omega arith
    nesting r (by_parent a i h w b) q = omega arith
    nesting r (by_cycle a i h w k b) q = omega arith

    by : (r : Refusal) → RefusesTree d n (length buf) r → r.number ≢ 0
    by r (by_check a) = check_positive d r a
    by r (by_nesting a g) = nesting r g
    by r (by_row a b f) = slot_positive (tree_rows (view d) n (length buf)) r (tree-rises (view d) n (length buf)) f

-- ---- answered

-- a name that is not refused is that of the root or of a directory
asked_for : (v : Directory) (n : List ℕ) → name_reply v n ≡ none → AskedFor v n (asked_code v n)
unfolding name_reply asked_code
asked_for v n e = root (eqb (length n) 0) refl e
  where
    kind : (i : ℕ) → askable n ≡ true → find v n ≡ some i → (o : Option (List ℕ)) → v i ≡ o → not (fold_option false is_directory o) ≡ false → AskedFor v n (fold_option 0 code_of o)
    kind i a f none q w = absurd (true≢false w)
    kind i a f (some s) q w =
        a_directory a f (record { live = record { below = (find-some v n i f).below; here = q }; is-directory = not-false (is_directory s) w })

    found : askable n ≡ true → (o : Option ℕ) → find v n ≡ o → fold_option (some (refuse 15 0)) (λ i. row 13 (suc i) (not (fold_option false is_directory (v i)))) o ≡ none
        → AskedFor v n (fold_option 0 (λ i. fold_option 0 code_of (v i)) o)
    found a none f w = absurd (some-ne-none (refuse 15 0) w)
    found a (some i) f w = kind i a f (v i) refl (rows_clear (suc i) ((13 when not (fold_option false is_directory (v i))) ∷ []) w).0

    usable : (a : Bool) → askable n ≡ a
        → (row 12 0 (not a) else fold_option (some (refuse 15 0)) (λ i. row 13 (suc i) (not (fold_option false is_directory (v i)))) (find v n)) ≡ none
        → AskedFor v n (fold_option 0 (λ i. fold_option 0 code_of (v i)) (find v n))
    usable true a w = found a (find v n) refl w
    usable false a w = absurd (some-ne-none (refuse 12 0) w)

    root : (t : Bool) → eqb (length n) 0 ≡ t
        → cond t none (row 12 0 (not (askable n)) else fold_option (some (refuse 15 0)) (λ i. row 13 (suc i) (not (fold_option false is_directory (v i)))) (find v n)) ≡ none
        → AskedFor v n (cond t 0 (fold_option 0 (λ i. fold_option 0 code_of (v i)) (find v n)))
    root true q w = the_root (eqb-true (length n) 0 q)
    root false q w = usable (askable n) refl w

-- what an accepted call answers, and its list at return
pub tree-answered : (d n buf : List ℕ) (m f : ℕ) → (tree_listing d n buf).outcome ≡ done m f → TreeAnswered d n buf m (tree_listing d n buf).buffer
unfolding reply
tree-answered d n buf m f e = subst (λ (x : Out). x.outcome ≡ done m f → TreeAnswered d n buf m x.buffer) (sym (treeing_is d n buf)) (by (reply d n (length buf)) refl) e
  where
    by : (q : Reply) → reply d n (length buf) ≡ q → (filled q (done (length (listed d n)) 0) (listed d n) buf).outcome ≡ done m f
        → TreeAnswered d n buf m (filled q (done (length (listed d n)) 0) (listed d n) buf).buffer
    by (some s) p w = let z : ◌≡◌ {A = ℕ} 0 1 = cc in absurd (omega arith)
    by none p w =
        let a = else_none (check_disk d) (tree_reply (v d n) else first_row (tree_rows (view d) n (length buf))) p in
        let b = else_none (tree_reply (v d n)) (first_row (tree_rows (view d) n (length buf))) a.1 in
        let c = else_none (name_reply (v d n) n) (row 20 0 (ltb (length buf) (many (view d) n (length buf)))) (name-rows (view d) n (length buf) ∙ b.1) in
        let u : listed d n ≡ tree (directory d) (asked_code (directory d) n) = ap (λ (v : Directory). tree v (asked_code v n)) (view-slots d) in
        let t : tree_reply (directory d) ≡ none = ap tree_reply (sym (view-slots d)) ∙ b.0 in
        let k : name_reply (directory d) n ≡ none = ap (λ (v : Directory). name_reply v n) (sym (view-slots d)) ∙ c.0 in
        let h : length (listed d n) ≤ length buf = ltb-false (length buf) (length (listed d n)) (rows_clear 0 ((20 when ltb (length buf) (length (listed d n))) ∷ []) c.1).0 in
        record {
          accepted = a.0;
          nested = nested (directory d) t;
          code = asked_code (directory d) n;
          asked = asked_for (directory d) n k;
          list = tree (directory d) (asked_code (directory d) n);
          lists = tree_lists (directory d) (nested (directory d) t) (asked_code (directory d) n);
          how_many_lem = let z : length (listed d n) ≡ m = cc in sym z ∙ ap length u;
          room = subst (λ (l : List ℕ). length l ≤ length buf) u h;
          filled = ap (put buf 0) u;
        }

pub same_view_tree : (d e : List ℕ) → view d ≡ view e → (n buf : List ℕ) → tree_listing d n buf ≡ tree_listing e n buf
same_view_tree d e q n buf = ap (λ (l : View). tree_view l n buf) q
