-- `erase_calls::link_names` meets its contract: the slots from `i` on are in the index.
use Prim.Native.Nat.{◌-◌, ◌≤◌, ◌<◌}
use mathlib.Core.Path.{refl}
use native.Mathlib.Omega.{arith}
use Rattle.directory.specs.Directory.{slots_read}
use Rattle.directory.proofs.Ends.{read-most}
use Rattle.directory.proofs.Live.{met_live, met_dead}
use Rattle.erase_calls.proofs.Index.{entered_start, entered_dead, entered-live}
use Rattle.erase_calls.proofs.link_names.Goals as goal

pub loop-i-init : goal.loop-i-init
loop-i-init c = let e = c.slots_read-end.ensures.0 in (omega (arith, e), entered_start _ _ _ e c.requires)

pub loop-i-preserved-then-is_live : goal.loop-i-preserved-then-is_live
loop-i-preserved-then-is_live c =
    let few : slots_read c.args.dir.now ≤ 778 = read-most c.args.dir.now in
    let a = c.loop-i in
    let read : a.i - 1 < slots_read c.args.dir.now = omega (arith, a.invariant.0, c.loop-i-test.true) in
    let e = met_live _ _ c.slot_at-s.ensures c.is_live.ensures read c.if-is_live.true in (
      omega (arith, a.invariant.0),
      entered-live _ a.i _ a.invariant.1 c.loop-i-test.true (omega (arith, a.invariant.0, few)) _ e c.name_of.ensures _ c.bucket_of-b.ensures.0 c.bucket_of-b.ensures.1 _ refl refl refl,
    )

pub loop-i-preserved : goal.loop-i-preserved
loop-i-preserved c =
    let a = c.loop-i in
    (omega (arith, a.invariant.0), entered_dead _ a.i _ a.invariant.1 c.loop-i-test.true (met_dead _ _ c.slot_at-s.ensures c.is_live.ensures c.if-is_live.false))
