-- `files::list_into` meets its contract: the entries of the first `i` slots are put.
use Prim.Native.Nat.{◌-◌, ◌<◌}
use native.Mathlib.Omega.{arith}
use Rattle.directory.specs.Places.{slots}
use Rattle.directory.specs.Directory.{slots_read}
use Rattle.directory.proofs.Ends.{read-most}
use Rattle.directory.proofs.Live.{met_live, met_dead}
use Rattle.files.proofs.Listing.{listed_none, listed_more, listed_same, listed_long, listed_next, listed_end}
use borrow.Author.Rules.{rules}
use Rattle.files.proofs.list_into.Goals as goal

pub loop-at-init : goal.loop-at-init
loop-at-init c = (omega arith, omega arith, listed_none _ _)

pub put_entry-requires : goal.put_entry-requires
put_entry-requires c =
    let more : c.loop-at.i < slots_read c.args.dir.now = let a = c.loop-at in
    let p = c.requires in
    listed_next _ _ a.i _ _ a.invariant.2 a.invariant.0 p.0 _ p.1 c.loop-at-test.true in
    let next : c.loop-at.i < slots = omega (arith, more, read-most c.args.dir.now) in
    let n = next in (omega arith, omega arith)

pub loop-at-smaller-then-is_live : goal.loop-at-smaller-then-is_live
loop-at-smaller-then-is_live c =
    let more : c.loop-at.i < slots_read c.args.dir.now = let a = c.loop-at in
    let p = c.requires in
    listed_next _ _ a.i _ _ a.invariant.2 a.invariant.0 p.0 _ p.1 c.loop-at-test.true in
    let next : c.loop-at.i < slots = omega (arith, more, read-most c.args.dir.now) in
    omega (arith, next)

pub loop-at-preserved-then-is_live : goal.loop-at-preserved-then-is_live
loop-at-preserved-then-is_live c =
    let more : c.loop-at.i < slots_read c.args.dir.now = let a = c.loop-at in
    let p = c.requires in
    listed_next _ _ a.i _ _ a.invariant.2 a.invariant.0 p.0 _ p.1 c.loop-at-test.true in
    let next : c.loop-at.i < slots = omega (arith, more, read-most c.args.dir.now) in
    let a = c.loop-at in
    let n = next in
    let e = met_live _ _ c.slot_at-s.ensures c.is_live.ensures more c.if-is_live.true in
    (omega arith, omega arith, listed_more _ _ a.i _ _ a.invariant.2 _ e n (omega arith) _ c.put_entry.ensures)

pub loop-at-smaller : goal.loop-at-smaller
loop-at-smaller c =
    let more : c.loop-at.i < slots_read c.args.dir.now = let a = c.loop-at in
    let p = c.requires in
    listed_next _ _ a.i _ _ a.invariant.2 a.invariant.0 p.0 _ p.1 c.loop-at-test.true in
    let next : c.loop-at.i < slots = omega (arith, more, read-most c.args.dir.now) in
    omega (arith, next)

pub loop-at-preserved : goal.loop-at-preserved
loop-at-preserved c =
    let more : c.loop-at.i < slots_read c.args.dir.now = let a = c.loop-at in
    let p = c.requires in
    listed_next _ _ a.i _ _ a.invariant.2 a.invariant.0 p.0 _ p.1 c.loop-at-test.true in
    let next : c.loop-at.i < slots = omega (arith, more, read-most c.args.dir.now) in
    let a = c.loop-at in
    let n = next in
    let e = met_dead _ _ c.slot_at-s.ensures c.is_live.ensures c.if-is_live.false in
    (omega arith, omega arith, listed_same _ _ a.i _ _ a.invariant.2 e)

pub shape_of-buf : goal.shape_of-buf
shape_of-buf c = listed_long _ _ _ _ _ c.loop-at.invariant.2

pub returns : goal.returns
returns c =
    let a = c.loop-at in
    let p = c.requires in
    listed_end _ _ a.i _ _ a.invariant.2 a.invariant.0 p.0 _ p.1 c.loop-at-test.false
