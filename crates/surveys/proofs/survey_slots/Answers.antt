-- `surveys::survey_slots` meets its contract: the reply is that of the slots from `i` on, and the used map that of those before.
use Prim.Native.Nat.{◌<◌}
use mathlib.Core.Path.{◌≡◌, refl, sym, ap, ◌∙◌}
use mathlib.Core.Option.{none, some}
use native.Mathlib.Omega.{arith}
use Rattle.std.proofs.lemmas.Result.{err_from_is_err_and}
use Rattle.maps.specs.Bits.{clear_map}
use Rattle.refusals.proofs.First.{scan_skip}
use Rattle.directory.specs.Places.{slots}
use Rattle.directory.specs.Directory.{tracks_of, slots_read, directory}
use Rattle.surveys.specs.Survey.{survey_at, counted}
use Rattle.directory.proofs.Ends.{read-most}
use Rattle.directory.proofs.Live.{met_live, met_dead}
use Rattle.surveys.proofs.Filter.{kept-none, kept-few, kept_dead, kept-live}
use Rattle.surveys.proofs.Pass.{survey_dead, survey_start, used_start, used_dead, reached, apart, used-more, pass_stops, pass_ends}
use borrow.Author.Rules.{rules}
use Rattle.surveys.proofs.survey_slots.Goals as goal
use Rattle.surveys.proofs.survey_slots.Goals.{then-is_live+in_ok-live_rows, else-is_live}

pub loop-i-init : goal.loop-i-init
loop-i-init c = (used_start _ _ _ (c.unused-used.ensures ∙ ap (λ k. counted k clear_map) c.tracks_of-tracks.ensures.0), survey_start _ _ _, kept-none _ _ refl)

pub live_rows-requires : goal.live_rows-requires
live_rows-requires c =
    let a = c.loop-i in
    let met : a.i < slots_read c.args.dir.now = omega (arith, c.loop-i-test.true, c.slots_read-i-end.ensures.0) in
    reached _ _ a.i _ a.invariant.0 _ (met_live _ _ c.slot_at-s.ensures c.is_live.ensures met c.if-is_live.true) met a.invariant.2.filtered

pub returns-in_err-live_rows : goal.returns-in_err-live_rows
returns-in_err-live_rows c =
    let a = c.loop-i in
    let e = err_from_is_err_and c.from_residual.result c.from_residual.ensures.1 in
    rw (e.1, e.2) (pass_stops _ _ a.i a.invariant.1 _ (omega (arith, c.slots_read-i-end.ensures.0)) (rw (← c.tracks_of-tracks.ensures.0) c.in_err-live_rows.ensures))

pub overflow_add-files : goal.overflow_add-files
overflow_add-files c = omega (arith, kept-few _ _ _ _ c.loop-i.invariant.2)

pub join-requires : goal.join-requires
join-requires c =
    let a = c.loop-i in
    let met : a.i < slots_read c.args.dir.now = omega (arith, c.loop-i-test.true, c.slots_read-i-end.ensures.0) in
    apart _ (tracks_of c.args.dir.now) a.i _ a.invariant.0 _ (met_live _ _ c.slot_at-s.ensures c.is_live.ensures met c.if-is_live.true) c.map_of.ensures c.count_of.ensures.0
    c.args.release (rw (← c.tracks_of-tracks.ensures.0) (sym c.in_ok-live_rows.ensures))

pub loop-i-preserved : goal.loop-i-preserved
loop-i-preserved c =
    let d = c.args.dir.now in
    let a = c.loop-i in
    let met : a.i < slots_read d = omega (arith, c.loop-i-test.true, c.slots_read-i-end.ensures.0) in
    elim c.if-is_live.branch [
      | then-is_live+in_ok-live_rows w ↦
          let live : directory d a.i ≡ some c.slot_at-s.result.now = met_live _ _ c.slot_at-s.ensures c.is_live.ensures met w.if-is_live.true in
          let passed : survey_at c.args.release (tracks_of d) (directory d) a.i ≡ none = rw (← c.tracks_of-tracks.ensures.0) (sym w.in_ok-live_rows.ensures) in
          rw (w.used-is, w.filter-is, w.files-is) (
            used-more _ _ a.i _ a.invariant.0 _ live w.map_of.ensures _ w.join.ensures,
            a.invariant.1 ∙ scan_skip slots a.i _ (omega (arith, met, read-most d)) passed,
            kept-live _ _ _ _ a.invariant.2 _ live w.name_of.ensures w.key_of.ensures w.insert.ensures,
          )
      | else-is_live w ↦
          let dead : directory d a.i ≡ none = met_dead _ _ c.slot_at-s.ensures c.is_live.ensures w.if-is_live.false in
          rw (w.used-is, w.filter-is, w.files-is) (
            used_dead _ _ a.i _ a.invariant.0 dead,
            a.invariant.1 ∙ scan_skip slots a.i _ (omega (arith, met, read-most d)) (survey_dead _ _ _ a.i dead),
            kept_dead _ _ _ _ a.invariant.2 dead,
          )
    ]

pub returns : goal.returns
returns c = let a = c.loop-i in pass_ends _ _ a.i a.invariant.1 (omega arith) (omega arith) _ a.invariant.0 a.invariant.2.live
