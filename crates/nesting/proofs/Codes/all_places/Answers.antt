-- `nesting::Codes::all_places` meets its contract: the reply is that of the slots from `i` on.
use Prim.Native.Nat.{◌<◌}
use mathlib.Core.Path.{refl, sym, ◌∙◌}
use native.Mathlib.Omega.{arith}
use Rattle.std.proofs.lemmas.Result.{err_from_is_err_and}
use Rattle.refusals.proofs.First.{scan_start, scan_skip, scan_stop}
use Rattle.directory.specs.Places.{slots}
use Rattle.directory.specs.Directory.{slots_read}
use Rattle.directory.proofs.Ends.{read-most}
use Rattle.directory.proofs.Live.{met_live, met_dead}
use Rattle.trees.proofs.Numbers.{place_dead}
use Rattle.nesting.proofs.Table.{place_met}
use Rattle.nesting.proofs.Passed.{passed_more, passed_root, rows_passed}
use Rattle.nesting.proofs.Results.{places_end}
use Rattle.nesting.proofs.Codes.all_places.Goals.{then-is_live+in_ok-place_rows+then-is_directory, then-is_live+in_ok-place_rows+else-is_directory, else-is_live}
use Rattle.nesting.proofs.Codes.all_places.Goals as goal

pub loop-i-init : goal.loop-i-init
loop-i-init c = (passed_root _ c.args.self.now.tabled _ refl, scan_start slots _)

pub returns-in_err-place_rows : goal.returns-in_err-place_rows
returns-in_err-place_rows c =
    let read : c.loop-i.i < slots_read c.args.self.now.dir.now = omega (arith, c.slots_read-i-end.ensures.0) in
    let low : c.loop-i.i < slots = omega (arith, read, read-most c.args.self.now.dir.now) in
    let a = c.loop-i in
    let live = met_live _ _ c.slot_at-s.ensures c.is_live.ensures read c.if-is_live.true in
    let p = place_met _ _ _ c.args.self.now.tabled _ _ a.i live refl in
    let e = err_from_is_err_and c.from_residual.result c.from_residual.ensures.1 in
    rw (e.1, e.2) (sym (a.invariant.1 ∙ scan_stop slots a.i _ _ low (sym (c.in_err-place_rows.ensures ∙ p))))

pub loop-i-preserved : goal.loop-i-preserved
loop-i-preserved c =
    let read : c.loop-i.i < slots_read c.args.self.now.dir.now = omega (arith, c.slots_read-i-end.ensures.0) in
    let low : c.loop-i.i < slots = omega (arith, read, read-most c.args.self.now.dir.now) in
    let a = c.loop-i in
    elim c.if-is_live.branch [
      | then-is_live+in_ok-place_rows+then-is_directory w ↦
          let p = place_met _ _ _ c.args.self.now.tabled _ _ a.i (met_live _ _ c.slot_at-s.ensures c.is_live.ensures read w.if-is_live.true) refl in (
            rw w.passed-is (passed_more _ _ _ a.invariant.0 _ (rows_passed _ _ _ _ (sym w.in_ok-place_rows.ensures) (sym w.is_directory.ensures ∙ w.if-is_directory.true) _ w.code_of.ensures.0)),
            a.invariant.1 ∙ scan_skip slots a.i _ low (sym (w.in_ok-place_rows.ensures ∙ p)),
          )
      | then-is_live+in_ok-place_rows+else-is_directory w ↦
          let p = place_met _ _ _ c.args.self.now.tabled _ _ a.i (met_live _ _ c.slot_at-s.ensures c.is_live.ensures read w.if-is_live.true) refl in
          (rw w.passed-is a.invariant.0, a.invariant.1 ∙ scan_skip slots a.i _ low (sym (w.in_ok-place_rows.ensures ∙ p)))
      | else-is_live w ↦
          (rw w.passed-is a.invariant.0, a.invariant.1 ∙ scan_skip slots a.i _ low (place_dead _ a.i (met_dead _ _ c.slot_at-s.ensures c.is_live.ensures w.if-is_live.false)))
    ]

pub returns : goal.returns
returns c = let a = c.loop-i in sym (places_end _ a.i a.invariant.1 (omega (arith, c.slots_read-i-end.ensures.0)))
