-- The proof of the recursion fill: each slot is put once, with what lies beneath it, and the next is the next of the directory.
use Prim.Native.Nat.{ℕ, ◌+◌, ◌-◌, ◌<◌}
use mathlib.Core.Path.{◌≡◌, sym, ◌∙◌}
use mathlib.Core.List.{List}
use native.Mathlib.Omega.{arith}
use Rattle.directory.specs.Places.{slots}
use Rattle.directory.specs.Directory.{directory, slot_or}
use Rattle.siblings.specs.Links.{links_of, link_entry}
use Rattle.tree_lists.proofs.Filled.{FillAtSlot, met_here, met_inside, inside-file, inside-last, filled-low, filled_one, directory-room, filled-directory, walked_first, walked_next, walked_less, walked_all}
use Rattle.tree_lists.proofs.Tree.+fill.Goals.{else-is_directory-via-then-is_directory+else-left-gt0, else-is_directory-via-else-is_directory}
use Rattle.tree_lists.proofs.Tree.+fill.Goals as goal

-- the next slot is a later one
next_later : (d links : List ℕ) (n c : ℕ) (buf : List ℕ) (from i at : ℕ) (now : List ℕ) → FillAtSlot (directory d) n c buf from i at now → links ≡ links_of (directory d) → i < slots
    → (s : List ℕ) → s ≡ slot_or d i → (j : ℕ) → j ≡ link_entry links (256 + i) → slots - j < slots - i
next_later d links n c buf from i at now a e h s w j q =
    walked_less _ n c buf from i links e h _ (met_here d c i (a.found h) s w) j q

pub loop-i-init : goal.loop-i-init
loop-i-init t c = walked_first _ _ _ _ _ _ c.args.self.now.linked.linked c.requires.coded _ c.link_at-i.ensures

pub overflow_add-at : goal.overflow_add-at
overflow_add-at t c =
    let a = c.loop-i in
    omega (arith, filled-low _ _ _ _ _ a.i _ _ a.invariant.filled a.invariant.most c.requires.room)

pub fill-at-requires : goal.fill-at-requires
fill-at-requires t c =
    let a = c.loop-i in
    let h = c.loop-i-test.true in
    let o = a.invariant.found h in
    let e = met_here _ _ _ o _ c.slot_at-s.ensures in
    let p = met_inside _ _ _ o _ c.slot_at-s.ensures in (
      omega (arith, c.decreases, c.if-left-gt0.true),
      record {
        coded = c.code_of.ensures.1;
        room = directory-room _ _ _ _ _ a.i _ _ a.invariant.filled _ e p (sym c.is_directory.ensures ∙ c.if-is_directory.true)
            c.if-left-gt0.true h c.requires.room _ c.code_of.ensures.0;
      },
    )

pub loop-i-smaller-then-left-gt0 : goal.loop-i-smaller-then-left-gt0
loop-i-smaller-then-left-gt0 t c =
    next_later _ _ _ _ _ _ _ _ _ c.loop-i.invariant c.args.self.now.linked.linked c.loop-i-test.true _ c.slot_at-s.ensures _ c.link_at-i-in-loop-i.ensures

pub loop-i-preserved-then-left-gt0 : goal.loop-i-preserved-then-left-gt0
loop-i-preserved-then-left-gt0 t c =
    let a = c.loop-i in
    let h = c.loop-i-test.true in
    let o = a.invariant.found h in
    let e = met_here _ _ _ o _ c.slot_at-s.ensures in
    let p = met_inside _ _ _ o _ c.slot_at-s.ensures in
    walked_next _ _ _ _ _ a.i _ _
    (filled-directory _ _ _ _ _ a.i _ _ a.invariant.filled _ e p (sym c.is_directory.ensures ∙ c.if-is_directory.true) c.if-left-gt0.true
    _ c.put_number.ensures _ c.code_of.ensures.0 _ _ c.fill-at.ensures) _ c.args.self.now.linked.linked h _ e p _ c.link_at-i-in-loop-i.ensures

pub loop-i-smaller : goal.loop-i-smaller
loop-i-smaller t c =
    next_later _ _ _ _ _ _ _ _ _ c.loop-i.invariant c.args.self.now.linked.linked c.loop-i-test.true _ c.slot_at-s.ensures _ c.link_at-i-in-loop-i.ensures

pub loop-i-preserved : goal.loop-i-preserved
loop-i-preserved t c =
    let a = c.loop-i in
    let h = c.loop-i-test.true in
    let o = a.invariant.found h in
    let e = met_here _ _ _ o _ c.slot_at-s.ensures in
    let p = met_inside _ _ _ o _ c.slot_at-s.ensures in
    walked_next _ _ _ _ _ a.i _ _
    (filled_one _ _ _ _ _ a.i _ _ a.invariant.filled _ e p
    (elim c.else-is_directory.branch [
      | else-is_directory-via-then-is_directory+else-left-gt0 w ↦ inside-last _ _ _ w.if-left-gt0.false
      | else-is_directory-via-else-is_directory w ↦ inside-file _ _ _ (sym c.is_directory.ensures ∙ w.if-is_directory.false)
    ]) _ c.put_number.ensures) _ c.args.self.now.linked.linked h _ e p _ c.link_at-i-in-loop-i.ensures

pub returns : goal.returns
returns t c = walked_all _ _ _ _ _ _ _ _ c.loop-i.invariant c.loop-i-test.false
