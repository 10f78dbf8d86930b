-- `disk::all_chains` meets its contract: the reply is that of the slots from `i` on.
use Prim.Native.Nat.{ℕ, ◌+◌, ◌-◌, ◌<◌}
use mathlib.Core.Option.{some}
use mathlib.Core.Path.{◌≡◌, sym, ap, ◌∙◌}
use native.Mathlib.Omega.{arith}
use Rattle.refusals.proofs.First.{scan_start, scan_skip, scan_stop}
use Rattle.directory.specs.Places.{slots}
use Rattle.directory.specs.Directory.{slots_read, directory}
use Rattle.directory.proofs.Ends.{read-most}
use Rattle.directory.proofs.Live.{met_live, met_dead, among_none, among_live, among_dead, among_seen, among_read}
use Rattle.disk.proofs.View.{chain_met, chain-none, chain-rest}
use Rattle.std.proofs.lemmas.Result.{err_from_is_err_and}
use borrow.Author.Rules.{rules}
use Rattle.disk.proofs.all_chains.Goals as goal

pub loop-seen-init : goal.loop-seen-init
loop-seen-init c = (omega arith, scan_start slots _, sym (among_none _))

pub overflow_add-seen : goal.overflow_add-seen
overflow_add-seen c = omega (arith, among_seen _ _ _ c.loop-seen.invariant.2)

pub returns-in_err-chain_pass_rows : goal.returns-in_err-chain_pass_rows
returns-in_err-chain_pass_rows c =
    let more : c.loop-seen.i < slots_read c.args.image.now = let a = c.loop-seen in among_read _ a.i a.invariant.0 (omega (arith, a.invariant.2, c.requires, c.loop-seen-test.true)) in
    let next : c.loop-seen.i < slots = omega (arith, more, read-most c.args.image.now) in
    let live : directory c.args.image.now c.loop-seen.i ≡ some c.slot_at-s.result.now = met_live _ _ c.slot_at-s.ensures c.is_live.ensures more c.if-is_live.true in
    let a = c.loop-seen in
    let e = err_from_is_err_and c.from_residual.result c.from_residual.ensures.1 in rw (e.1, e.2) (sym (a.invariant.1 ∙ scan_stop slots a.i _ _ next (sym (c.in_err-chain_pass_rows.ensures ∙ chain_met _ _ _ live))))

pub loop-seen-preserved-in-Continue-1 : goal.loop-seen-preserved-in-Continue-1
loop-seen-preserved-in-Continue-1 c =
    let more : c.loop-seen.i < slots_read c.args.image.now = let a = c.loop-seen in among_read _ a.i a.invariant.0 (omega (arith, a.invariant.2, c.requires, c.loop-seen-test.true)) in
    let next : c.loop-seen.i < slots = omega (arith, more, read-most c.args.image.now) in
    let live : directory c.args.image.now c.loop-seen.i ≡ some c.slot_at-s.result.now = met_live _ _ c.slot_at-s.ensures c.is_live.ensures more c.if-is_live.true in
    let a = c.loop-seen in (
      omega (arith, next),
      a.invariant.1 ∙ scan_skip slots a.i _ next (sym (c.in_ok-chain_pass_rows.ensures ∙ chain_met _ _ _ live)),
      ap (λ (n : ℕ). n + 1) a.invariant.2 ∙ sym (among_live _ a.i _ live),
    )

pub loop-seen-smaller : goal.loop-seen-smaller
loop-seen-smaller c =
    let more : c.loop-seen.i < slots_read c.args.image.now = let a = c.loop-seen in among_read _ a.i a.invariant.0 (omega (arith, a.invariant.2, c.requires, c.loop-seen-test.true)) in
    let next : c.loop-seen.i < slots = omega (arith, more, read-most c.args.image.now) in
    omega (arith, next)

pub loop-seen-preserved : goal.loop-seen-preserved
loop-seen-preserved c =
    let more : c.loop-seen.i < slots_read c.args.image.now = let a = c.loop-seen in among_read _ a.i a.invariant.0 (omega (arith, a.invariant.2, c.requires, c.loop-seen-test.true)) in
    let next : c.loop-seen.i < slots = omega (arith, more, read-most c.args.image.now) in
    let a = c.loop-seen in
    let e = met_dead _ _ c.slot_at-s.ensures c.is_live.ensures c.if-is_live.false in
    (omega (arith, next), a.invariant.1 ∙ scan_skip slots a.i _ next (chain-none _ a.i e), a.invariant.2 ∙ sym (among_dead _ a.i e))

pub returns : goal.returns
returns c =
    let a = c.loop-seen in
    sym (a.invariant.1 ∙ chain-rest _ a.i a.invariant.0 _ _ c.requires a.invariant.2 c.loop-seen-test.false)
