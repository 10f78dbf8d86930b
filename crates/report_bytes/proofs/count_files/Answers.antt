-- `report_bytes::count_files` meets its contract: before each turn the files of the first `i` slots are counted.
use Rattle.std.proofs.Common.{◌≡◌, ◌<◌, arith}
use mathlib.Core.Option.{some}
use Rattle.directory.specs.Places.{slots}
use Rattle.directory.specs.Directory.{slots_read, directory}
use Rattle.directory.proofs.Ends.{read-most}
use Rattle.directory.proofs.Live.{met_live, met_dead, among_seen, among_read}
use Rattle.report_bytes.proofs.Counting.{counting_none, counting_dead, counting_live, counting_all}
use Rattle.report_bytes.proofs.count_files.Goals as goal

pub loop-seen-init : goal.loop-seen-init
loop-seen-init c = counting_none _ _ (λ k. omega (arith, c.type_inv.bytes k))

pub overflow_add-seen : goal.overflow_add-seen
overflow_add-seen c = omega (arith, among_seen _ _ _ c.loop-seen.invariant.files.live)

pub loop-seen-smaller-then-is_live : goal.loop-seen-smaller-then-is_live
loop-seen-smaller-then-is_live c =
    let more : c.loop-seen.i < slots_read c.args.image.now = let a = c.loop-seen in
    among_read _ a.i a.invariant.files.few (omega (arith, a.invariant.files.live, c.requires.1, c.loop-seen-test.true)) in
    let next : c.loop-seen.i < slots = omega (arith, more, read-most c.args.image.now) in
    omega (arith, next)

pub loop-seen-preserved-then-is_live : goal.loop-seen-preserved-then-is_live
loop-seen-preserved-then-is_live c =
    let more : c.loop-seen.i < slots_read c.args.image.now = let a = c.loop-seen in
    among_read _ a.i a.invariant.files.few (omega (arith, a.invariant.files.live, c.requires.1, c.loop-seen-test.true)) in
    let next : c.loop-seen.i < slots = omega (arith, more, read-most c.args.image.now) in
    let live : directory c.args.image.now c.loop-seen.i ≡ some c.slot_at-s.result.now = met_live _ _ c.slot_at-s.ensures c.is_live.ensures more c.if-is_live.true in
    counting_live _ _ _ _ _ c.loop-seen.invariant next _ live c.kind_of.ensures.0 c.count_of.ensures.0
    c.class_of.ensures.0 c.class_of.ensures.1 c.raise.ensures c.raise-then-is_live.ensures

pub loop-seen-smaller : goal.loop-seen-smaller
loop-seen-smaller c =
    let more : c.loop-seen.i < slots_read c.args.image.now = let a = c.loop-seen in
    among_read _ a.i a.invariant.files.few (omega (arith, a.invariant.files.live, c.requires.1, c.loop-seen-test.true)) in
    let next : c.loop-seen.i < slots = omega (arith, more, read-most c.args.image.now) in
    omega (arith, next)

pub loop-seen-preserved : goal.loop-seen-preserved
loop-seen-preserved c =
    let more : c.loop-seen.i < slots_read c.args.image.now = let a = c.loop-seen in
    among_read _ a.i a.invariant.files.few (omega (arith, a.invariant.files.live, c.requires.1, c.loop-seen-test.true)) in
    let next : c.loop-seen.i < slots = omega (arith, more, read-most c.args.image.now) in
    counting_dead _ _ _ _ _ c.loop-seen.invariant next (met_dead _ _ c.slot_at-s.ensures c.is_live.ensures c.if-is_live.false)

pub returns : goal.returns
returns c = counting_all _ _ _ _ _ _ c.loop-seen.invariant c.requires.1 c.loop-seen-test.false
