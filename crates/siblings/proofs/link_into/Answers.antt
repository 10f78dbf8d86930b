-- `siblings::link_into` meets its contract: the slots from slot `i` on are linked.
use Prim.Native.Nat.{ℕ, ◌-◌, ◌≤◌, ◌<◌}
use mathlib.Core.Path.{◌≡◌, sym, ◌∙◌}
use mathlib.Core.List.{List}
use native.Mathlib.Omega.{arith}
use lib.ListN.{length, get_or, replicate, length-replicate, get_or-replicate}
use lib.Seq.{ext_get_or}
use Rattle.directory.specs.Places.{slots}
use Rattle.directory.specs.Directory.{slots_read}
use Rattle.directory.proofs.Ends.{read-most}
use Rattle.directory.proofs.Live.{met_live, met_dead, directory-unread}
use Rattle.siblings.proofs.Linking.{linking_none, linking_dead, linking_live, linking_all}
use Rattle.siblings.proofs.link_into.Goals as goal

-- a table of so many numbers 778 and no others
all-none : (l : List ℕ) (k : ℕ) → length l ≡ 1034 → ((j : ℕ) → j < k → get_or l j 0 ≡ slots) → 1034 ≤ k → l ≡ replicate 1034 slots
all-none l k e f h =
    ext_get_or 0 l (replicate 1034 slots) (e ∙ sym (length-replicate {A = ℕ} 1034 slots))
    (λ i m. f i (omega (arith, e)) ∙ sym (get_or-replicate 1034 i slots 0 (omega (arith, e))))

pub loop-i-init : goal.loop-i-init
loop-i-init c = let s = c.slots_read-i.ensures in (omega (arith, s.0), linking_none _ _ _ (all-none _ c.loop-k.k c.loop-k.invariant.0 c.loop-k.invariant.1 (omega arith)) (λ k h. directory-unread _ k (omega (arith, s.0))))

pub loop-i-preserved-then-is_live : goal.loop-i-preserved-then-is_live
loop-i-preserved-then-is_live c =
    let read : c.loop-i.i - 1 < slots_read c.args.dir.now = omega (arith, c.loop-i.invariant.0, c.loop-i-test.true) in
    let low : c.loop-i.i - 1 < slots = omega (arith, read, read-most c.args.dir.now) in
    let a = c.loop-i in
    let e = met_live _ _ c.slot_at-s.ensures c.is_live.ensures read c.if-is_live.true in
    (omega (arith, a.invariant.0), linking_live _ a.i _ a.invariant.1 c.loop-i-test.true low _ e _ c.parent_of-code.ensures.0 c.parent_of-code.ensures.1)

pub loop-i-preserved : goal.loop-i-preserved
loop-i-preserved c =
    let read : c.loop-i.i - 1 < slots_read c.args.dir.now = omega (arith, c.loop-i.invariant.0, c.loop-i-test.true) in
    let low : c.loop-i.i - 1 < slots = omega (arith, read, read-most c.args.dir.now) in
    let a = c.loop-i in
    let e = met_dead _ _ c.slot_at-s.ensures c.is_live.ensures c.if-is_live.false in
    (omega (arith, a.invariant.0), linking_dead _ a.i _ a.invariant.1 c.loop-i-test.true low e)

pub returns : goal.returns
returns c = let a = c.loop-i in linking_all _ a.i _ a.invariant.1 c.loop-i-test.false
